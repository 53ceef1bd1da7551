use Rattle.std.proofs.Common.{◌≡◌, length}
use Rattle.std.specs.List.{concat}
use Rattle.line_buffer.specs.Width.{text_width}
use Rattle.unicode_segmentation.specs.Iter.{graphemes_left}
use Rattle.line_buffer.proofs.FittingLemmas.{Fitted}
use Rattle.line_buffer.proofs.line_buffer.lines.fitting.Given as goal

abbrev pub invariant-loop-mode : goal.invariant-loop-mode
invariant-loop-mode l =
    Fitted l.layout l.start l.line l.column (graphemes_left l.rest)
    × (l.columns ≡ text_width l.layout.grapheme_cluster_mode (concat (graphemes_left l.rest)))

abbrev pub decreases-loop-mode : goal.decreases-loop-mode
decreases-loop-mode l = length (graphemes_left l.rest)
