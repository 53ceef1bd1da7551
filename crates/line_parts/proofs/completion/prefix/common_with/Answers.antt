use Rattle.line_parts.proofs.PrefixLemmas.{longest_step}
use Rattle.line_parts.proofs.completion.prefix.common_with.Goals as goal

pub loop-other-preserved : goal.loop-other-preserved
loop-other-preserved g c =
    longest_step _ _ c.args.others.now c.loop-other.other-index c.other-item.result _ _ _ c.loop-other-test.true c.other-item.is c.replacement.ensures
    c.loop-other.invariant c.common_start-common.ensures
