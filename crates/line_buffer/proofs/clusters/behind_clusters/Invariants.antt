use Rattle.std.proofs.Common.{◌≡◌, drop}
use Rattle.unicode_segmentation.specs.Iter.{graphemes_left}
use Rattle.line_buffer.specs.Cluster.{clusters}
use Rattle.line_buffer.proofs.clusters.behind_clusters.Given as goal

abbrev pub invariant-loop : goal.invariant-loop
invariant-loop l = graphemes_left l.rest ≡ drop l.counter (clusters l.text)
