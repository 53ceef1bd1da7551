use Rattle.std.proofs.Common.{sym, ◌∙◌}
use Rattle.line_parts.proofs.HintLemmas.{begins_not, is_none, nothing_behind}
use Rattle.line_parts.proofs.hint.rest_behind.Goals as goal
use Rattle.line_parts.proofs.hint.rest_behind.Goals.{in_default-via-in-Some+else-not-is_empty, in_default-via-in_default}

pub returns-in_default-clause-answer : goal.returns-in_default-clause-answer
returns-in_default-clause-answer c = elim c.in_default.branch [
  | in_default-via-in-Some+else-not-is_empty w ↦
      nothing_behind c.args.text.now c.args.line.now w.in-Some.rest.now w.in-Some.ensures.cases (is_none _ (sym w.is_empty.ensures ∙ w.if-not-is_empty.false))
  | in_default-via-in_default w ↦ absurd (begins_not c.args.text.now c.args.line.now w.in_default.ensures.cases c.requires)
]
