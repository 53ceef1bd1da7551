use Rattle.std.proofs.Common.{◌≡◌, true, length}
use Rattle.std.specs.List.{fold}
use Rattle.unicode_segmentation.specs.Grapheme.{graphemes}
use Rattle.line_screen.specs.Measure.{after_cluster}
use denote.Text.{Utf8}
use denote.Shadow.{shadow}
use Rattle.line_screen.proofs.measure.after_parts.Given as goal

-- the clusters that are left take this place to where those of the text take the first
abbrev pub invariant-loop-rest : goal.invariant-loop-rest
invariant-loop-rest l =
    shadow (Utf8 l.rest) ×
    (fold (after_cluster l.columns) l.place (graphemes true l.rest) ≡ fold (after_cluster l.columns) l.fn.place (graphemes true l.text))

abbrev pub decreases-loop-rest : goal.decreases-loop-rest
decreases-loop-rest l = length l.rest
