use Rattle.std.proofs.Common.{◌≡◌, [], ◌∙◌, sym, ap, arith, drop}
use Rattle.std.specs.List.{concat}
use Rattle.line_buffer.specs.Cluster.{clusters}
use Rattle.line_buffer.proofs.ListLemmas.{drop_one_more, drop_nothing_more}
use Rattle.line_buffer.proofs.clusters.behind_clusters.Goals as goal

pub returns-in_default : goal.returns-in_default
returns-in_default c =
    let none : drop c.args.n (clusters c.args.text.now) ≡ [] =
    drop_nothing_more c.loop.counter _ _ (sym c.loop.invariant ∙ c.in_default.ensures.steps.0) (omega arith) in
    sym (ap concat none)

pub loop-preserved : goal.loop-preserved
loop-preserved c = sym (drop_one_more c.loop.counter (clusters c.args.text.now) _ _ (sym c.loop.invariant ∙ c.in-Some.ensures.steps))
