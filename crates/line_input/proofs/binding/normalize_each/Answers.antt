use Rattle.line_input.proofs.ChordLemmas.{normal_more}
use Rattle.line_input.proofs.binding.normalize_each.Goals as goal

pub loop-key-preserved : goal.loop-key-preserved
loop-key-preserved c = normal_more _ _ _ _ _ c.loop-key-test.true c.loop-key.auto.keys c.loop-key.invariant c.normalize.ensures
