use Rattle.std.proofs.Common.{false, true}
use Rattle.line_parts.proofs.ArgumentLemmas.{asked, named_so, tested}
use Rattle.line_parts.proofs.completion.arguments.CommandArgumentsCompleter.complete.Goals as goal

pub returns-then-is_argument-clause-answer : goal.returns-then-is_argument-clause-answer
returns-then-is_argument-clause-answer g c =
    asked _ true _ (g.B.Completer.completion_at c.args.self.now.others _) _ _ _
    (tested _ _ _ _ c.args.pos _ true c.as_str.ensures.value c.range.ensures.value c.is_argument.ensures c.if-is_argument.true)
    (named_so _ _ c.in_ok-start.found.items c.in_ok-as_arguments.field-0.items c.in_ok-as_arguments.ensures.each) c.in_ok-start.ensures.answer

pub returns-clause-answer : goal.returns-clause-answer
returns-clause-answer g c =
    asked _ false (g.A.Completer.completion_at c.args.self.now.arguments _) _ _ _ _
    (tested _ _ _ _ c.args.pos _ false c.as_str.ensures.value c.range.ensures.value c.is_argument.ensures c.if-is_argument.false)
    (named_so _ _ c.in_ok-start-2.found.items c.in_ok-as_others.field-0.items c.in_ok-as_others.ensures.each) c.in_ok-start-2.ensures.answer
