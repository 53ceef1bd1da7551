use Rattle.std.proofs.Common.{length}
use Rattle.unicode_segmentation.specs.Iter.{graphemes_left}
use Rattle.line_buffer.specs.Cluster.{clusters}
use Rattle.line_buffer.proofs.ClusterStartLemmas.{Passed}
use Rattle.line_buffer.proofs.clusters.cluster_start.Given as goal

abbrev pub invariant-loop-rest : goal.invariant-loop-rest
invariant-loop-rest l = Passed (clusters l.text) (graphemes_left l.rest) l.place l.start

abbrev pub decreases-loop-rest : goal.decreases-loop-rest
decreases-loop-rest l = length (graphemes_left l.rest)
