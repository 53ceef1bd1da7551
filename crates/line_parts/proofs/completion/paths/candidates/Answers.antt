use Rattle.line_parts.proofs.PathLemmas.{none_more, one_more}
use Rattle.line_parts.proofs.completion.paths.candidates.Goals as goal

pub loop-entry-preserved-in_ok-push : goal.loop-entry-preserved-in_ok-push
loop-entry-preserved-in_ok-push c =
    one_more c.args.quote c.args.folder.now c.args.name.now c.loop-entry.yielded c.in-Some.entry _ _ c.in_ok-candidate.field-0 _ c.starts_with.result
    c.loop-entry.invariant c.deref.ensures c.starts_with.ensures.cases c.if-starts_with.true c.in_ok-candidate.ensures.offer c.in_ok-push.ensures.items

pub loop-entry-preserved : goal.loop-entry-preserved
loop-entry-preserved c =
    none_more c.args.quote c.args.folder.now c.args.name.now c.loop-entry.yielded c.in-Some.entry _ _ c.starts_with.result
    c.loop-entry.invariant c.deref.ensures c.starts_with.ensures.cases c.if-starts_with.false
