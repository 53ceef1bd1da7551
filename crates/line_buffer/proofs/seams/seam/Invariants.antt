use Rattle.std.proofs.Common.{length}
use denote.Text.{Utf8}
use denote.Shadow.{shadow}
use Rattle.line_buffer.proofs.PartLemmas.{Searched}
use Rattle.line_buffer.proofs.seams.seam.Given as goal

abbrev pub invariant-loop-before : goal.invariant-loop-before
invariant-loop-before l = shadow (Utf8 l.rest) × Searched l.front l.behind l.rest l.first

abbrev pub decreases-loop-before : goal.decreases-loop-before
decreases-loop-before l = length l.rest
