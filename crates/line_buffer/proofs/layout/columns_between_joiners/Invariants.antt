use Rattle.std.proofs.Common.{◌≡◌, ◌+◌, ◌*◌, ◌≤◌, length}
use Rattle.std.specs.List.{slice_split, sum_by}
use Rattle.std.specs.Str.{chars}
use Rattle.line_buffer.specs.Width.{columns_as_one, is_joiner}
use denote.Text.{Utf8}
use denote.Shadow.{shadow}
use Rattle.line_buffer.proofs.layout.columns_between_joiners.Given as goal

abbrev pub invariant-loop-piece : goal.invariant-loop-piece
invariant-loop-piece l =
    shadow (Utf8 l.rest) ×
    (l.columns + sum_by columns_as_one (slice_split is_joiner (chars l.rest)) ≡ sum_by columns_as_one (slice_split is_joiner (chars l.fn.text)))
    × (l.columns + 2 * length l.rest ≤ 2 * length l.fn.text)

abbrev pub decreases-loop-piece : goal.decreases-loop-piece
decreases-loop-piece l = length l.rest
