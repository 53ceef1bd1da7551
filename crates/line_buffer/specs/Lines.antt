-- The lines of a text, and moves from one to another.
use Rattle.std.specs.Prelude.{ℕ, zero, suc, ◌+◌, ◌-◌, max, nat_le, Bool, ◌==◌, List, length, take, drop, slice_index, slice_range, Option, Some, None, unwrap_or, option_map, if◌then◌else◌}
use Rattle.std.specs.List.{concat, prefix_len, suffix_len}
use Rattle.line_buffer.specs.Cluster.{clusters}
use Rattle.line_buffer.specs.Line.{Line, start_of_line, end_of_line, is_no_newline}
use Rattle.line_buffer.specs.Width.{unit_width}
use Rattle.line_buffer.specs.Word.{bytes_to}
use Rattle.line_buffer.specs.declared.layout.Layout.{Layout}

-- where the last line of a text begins
abbrev pub last_line : List ℕ → ℕ
last_line text = length text - suffix_len is_no_newline text

-- of a text that ends where a line begins: where the line above begins, if the text ends in a newline
abbrev pub line_above : List ℕ → Option ℕ
line_above text =
    if (length text == 0) then None
    else if slice_index text (length text - 1) == 10 then Some (last_line (take (length text - 1) text)) else None

-- where the text goes on after its first newline, if it has one
abbrev pub next_line : List ℕ → Option ℕ
next_line text = if prefix_len is_no_newline text == length text then None else Some (prefix_len is_no_newline text + 1)

-- the start of the line n above the one that begins at a place, or of the first
abbrev pub lines_above : ℕ → List ℕ → ℕ → ℕ
lines_above zero text start = start
lines_above (suc n) text start = elim (line_above (take start text)) [ Some above ↦ lines_above n text above | None ↦ start ]

-- the start of the line n below the one that begins at a place, or of the last
abbrev pub lines_below : ℕ → List ℕ → ℕ → ℕ
lines_below zero text start = start
lines_below (suc n) text start = elim (next_line (drop start text)) [ Some bytes ↦ lines_below n text (start + bytes) | None ↦ start ]

-- after the newline of the line that begins at a place, or the text's end
abbrev pub line_stop : List ℕ → ℕ → ℕ
line_stop text start = unwrap_or (option_map (λ bytes. start + bytes) (next_line (drop start text))) (length text)

-- the line of the cursor and those n above; none on the first line
abbrev pub lines_up : Line → ℕ → Option (ℕ × ℕ)
lines_up l n =
    if start_of_line l == 0 then None else Some (lines_above n l.text (start_of_line l), line_stop l.text (start_of_line l))

-- the line of the cursor and those n below; none on the last line
abbrev pub lines_down : Line → ℕ → Option (ℕ × ℕ)
lines_down l n =
    if end_of_line l == length l.text then None else Some (start_of_line l, line_stop l.text (lines_below n l.text (start_of_line l)))

-- the columns before the start of a line: those of the prompt on the first
abbrev pub columns_before : Layout → ℕ → ℕ
columns_before layout start = if start == 0 then layout.prompt_size.col else 0

-- the column of a text in a line that begins at a place
abbrev pub column_in : Layout → ℕ → List ℕ → ℕ
column_in layout start text = columns_before layout start + unit_width layout.grapheme_cluster_mode text

-- the greatest number up to m that passes, or 0
abbrev pub last_fitting : (ℕ → Bool) → ℕ → ℕ
last_fitting passes zero = zero
last_fitting passes (suc m) = if passes (suc m) then suc m else last_fitting passes m

-- in a line that begins at a place, the greatest cluster boundary whose column isn't past another, or else the line's start
abbrev pub fitting : Layout → ℕ → List ℕ → ℕ → ℕ
fitting layout start line column =
    bytes_to (clusters line) (last_fitting (λ i. nat_le (column_in layout start (concat (take i (clusters line)))) column) (length (clusters line)))

-- the bytes of the line that begins at a place, without its newline
abbrev pub line_from : List ℕ → ℕ → List ℕ
line_from text start = take (prefix_len is_no_newline (drop start text)) (drop start text)

-- the place in the line that begins at `start` below or above the cursor
abbrev pub place_in_line : Layout → Line → ℕ → ℕ
place_in_line layout l start =
    start + fitting layout start (line_from l.text start) (column_in layout (start_of_line l) (slice_range l.text (start_of_line l) l.cursor))

-- the place of a move to the line n above, one for n = 0; none on the first line
abbrev pub up_by : Layout → Line → ℕ → Option ℕ
up_by layout l n =
    if start_of_line l == 0 then None else Some (place_in_line layout l (lines_above (max n 1) l.text (start_of_line l)))

-- the place of a move to the line n below, one for n = 0; none on the last line
abbrev pub down_by : Layout → Line → ℕ → Option ℕ
down_by layout l n =
    if end_of_line l == length l.text then None else Some (place_in_line layout l (lines_below (max n 1) l.text (start_of_line l)))
