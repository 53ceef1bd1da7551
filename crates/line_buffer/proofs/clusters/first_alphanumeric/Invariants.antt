use Rattle.std.proofs.Common.{length}
use Rattle.unicode_segmentation.specs.Iter.{graphemes_left}
use Rattle.line_buffer.specs.Character.{is_alphanumeric_cluster}
use Rattle.line_buffer.specs.Cluster.{clusters}
use Rattle.line_buffer.proofs.SkipLemmas.{Skipped}
use Rattle.line_buffer.proofs.clusters.first_alphanumeric.Given as goal

abbrev pub invariant-loop-cluster : goal.invariant-loop-cluster
invariant-loop-cluster l = Skipped is_alphanumeric_cluster (clusters l.text) (graphemes_left l.rest) l.at

abbrev pub decreases-loop-cluster : goal.decreases-loop-cluster
decreases-loop-cluster l = length (graphemes_left l.rest)
