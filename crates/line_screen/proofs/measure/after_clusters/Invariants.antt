use Rattle.std.proofs.Common.{◌≡◌, true}
use Rattle.std.specs.List.{fold}
use Rattle.unicode_segmentation.specs.Grapheme.{graphemes}
use Rattle.unicode_segmentation.specs.Iter.{graphemes_left}
use Rattle.line_screen.specs.Measure.{after_cluster}
use Rattle.line_screen.proofs.measure.after_clusters.Given as goal

-- the clusters that are left take this place to where the text ends
abbrev pub invariant-loop-cluster : goal.invariant-loop-cluster
invariant-loop-cluster l =
    fold (after_cluster l.columns) l.place (graphemes_left l.cluster-iterator)
    ≡ fold (after_cluster l.columns) l.fn.place (graphemes true l.text)
