-- Where a text ends on a screen, measured cluster by cluster.
use Rattle.std.specs.Prelude.{◌≡◌, ◌<◌, ℕ, zero, suc, ◌+◌, min, eqb, ◌==◌, nat_le, Bool, true, false, List, [], ◌∷◌, chars, if◌then◌else◌}
use Rattle.std.specs.List.{fold, ends_with, list_all}
use Rattle.line_keys.specs.Model.Display.{next_row}
use Rattle.unicode_segmentation.specs.Grapheme.{graphemes}
use Rattle.unicode_width.specs.Width.{str_width}
use Rattle.line_buffer.specs.Printable.{is_plain}
use Rattle.line_buffer.specs.declared.layout.Position.{Position}

-- the cluster ends in a newline
abbrev pub ends_row : List ℕ → Bool
ends_row cluster = ends_with eqb cluster (10 ∷ [])

-- the columns that a cluster takes, at most all of a row
abbrev pub columns_of : ℕ → List ℕ → ℕ
columns_of columns cluster = min (str_width false (chars cluster)) columns

-- the start of the row below
abbrev pub start_below : Position → Position
start_below p = record { row = next_row p.row; col = 0 }

-- a cluster of this width goes on the row, or on a new row where it doesn't fit
abbrev pub advanced : ℕ → ℕ → Position → Position
advanced columns width p =
    if nat_le (p.col + width) columns then record p { col = p.col + width } else record (start_below p) { col = width }

-- the place after a cluster
abbrev pub after_cluster : ℕ → Position → List ℕ → Position
after_cluster columns p cluster = if ends_row cluster then start_below p else advanced columns (columns_of columns cluster) p

-- the place after so many characters of one column each
abbrev pub columns_after : ℕ → ℕ → Position → Position
columns_after columns zero p = p
columns_after columns (suc n) p = columns_after columns n (advanced columns (min 1 columns) p)

-- where the row is exactly full, the start of the row below
abbrev pub wrapped : ℕ → Position → Position
wrapped columns p = if p.col == columns then start_below p else p

-- where a text ends that begins at the origin: its clusters are put down one after another
unfoldable pub measured : ℕ → List ℕ → Position → Position
measured columns text origin = wrapped columns (fold (after_cluster columns) origin (graphemes true text))

-- the text is printable ASCII and newlines, begins at a column of a row, and ends there
abbrev pub PlainTextEndsAt : ℕ → List ℕ → Position → Position → Type 0
PlainTextEndsAt columns text origin end =
    (list_all is_plain text ≡ true) × (origin.col < columns) × (end ≡ measured columns text origin)
