use Rattle.std.proofs.Common.{◌≡◌, ◌+◌, ◌-◌, ◌∙◌, length, sym, arith}
use Rattle.line_buffer.specs.Cluster.{clusters}
use Rattle.line_buffer.proofs.ListLemmas.{take_one_less}
use Rattle.line_buffer.proofs.clusters.before_clusters.Goals as goal

pub loop-preserved : goal.loop-preserved
loop-preserved c =
    let cs = clusters c.args.text.now in
    let n = length cs - c.loop.counter in
    let less : length cs - (c.loop.counter + 1) ≡ n - 1 = omega arith in
    rw less (sym (take_one_less n cs _ _ (sym c.loop.invariant ∙ c.in-Some.ensures.steps) (omega arith)))
