use Rattle.std.proofs.Common.{◌≡◌, true, length}
use Rattle.std.specs.List.{fold, list_all}
use Rattle.line_buffer.specs.Printable.{is_plain}
use Rattle.line_screen.specs.MeasureLaws.{after_char}
use Rattle.line_screen.proofs.measure.after_plain.Given as goal

-- the rest takes this place to where the text takes the first
abbrev pub invariant-loop-newline : goal.invariant-loop-newline
invariant-loop-newline l =
    (list_all is_plain l.rest ≡ true) × (fold (after_char l.columns) l.place l.rest ≡ fold (after_char l.columns) l.fn.place l.text)

abbrev pub decreases-loop-newline : goal.decreases-loop-newline
decreases-loop-newline l = length l.rest
