-- Lines that get spaces at their front, or lose white space there.
use Rattle.std.specs.Prelude.{◌≡◌, ◌≤◌, Result, IfOk, OnOk, IsCharBoundary, ℕ, ◌+◌, ◌-◌, nat_le, nat_lt, Bool, true, false, List, [], ◌∷◌, ◌++◌, length, take, drop, map, replicate, slice_range, chars, encode_utf8_all, Option, Some, None, if◌then◌else◌}
use Rattle.std.specs.Char.{is_newline, is_whitespace}
use Rattle.std.specs.List.{join_with_byte, prefix_len, slice_split, take_while}
use Rattle.line_buffer.specs.Changes.{Changes, Entry, with_delete, with_insert}
use Rattle.line_buffer.specs.Edit.{on_entries}
use Rattle.line_buffer.specs.Lines.{line_from}
use Rattle.line_buffer.specs.Undo.{StillTells}
use Rattle.line_buffer.specs.Line.{Line, is_no_newline, end_of_line, start_of_line, with_cursor}
use Rattle.line_buffer.specs.Range.{range_of, unless_empty}
use Rattle.line_buffer.specs.declared.movement.Movement.{Movement}
use Rattle.line_buffer.specs.declared.movement.Movement.TheVariants.{BackwardWord, ForwardWord, LineUp, LineDown, WholeBuffer, BeginningOfBuffer, EndOfBuffer}

-- the lines of a text, without their newlines
abbrev pub lines : List ℕ → List (List ℕ)
lines text = slice_split is_newline text

-- the white-space characters that a line begins with, at most so many
abbrev pub blank_front : ℕ → List ℕ → List ℕ
blank_front amount line = encode_utf8_all (take amount (take_while is_whitespace (chars line)))

-- a line without that many of its first blanks, or with that many spaces before it
abbrev pub shifted : Bool → ℕ → List ℕ → List ℕ
shifted true amount line = drop (length (blank_front amount line)) line
shifted false amount line = replicate amount 32 ++ line

-- where an offset in a line moves: with its character, or to the line's start
abbrev pub moved_in : Bool → ℕ → List ℕ → ℕ → ℕ
moved_in true amount line offset = offset - length (blank_front amount line)
moved_in false amount line offset = offset + amount

-- where an offset among lines with a newline between each two moves
abbrev pub moved_among : Bool → ℕ → List (List ℕ) → ℕ → ℕ
moved_among dedent amount [] offset = offset
moved_among dedent amount (line ∷ more) offset =
    if nat_le offset (length line) then moved_in dedent amount line offset
    else length (shifted dedent amount line) + 1 + moved_among dedent amount more (offset - (length line + 1))

-- the range of a movement by words, by lines or over the buffer
abbrev pub range_by_lines : Line → Movement → Option (ℕ × ℕ)
range_by_lines l (BackwardWord n word) = range_of l (BackwardWord n word)
range_by_lines l (ForwardWord n at word) = range_of l (ForwardWord n at word)
range_by_lines l (LineUp n) = range_of l (LineUp n)
range_by_lines l (LineDown n) = range_of l (LineDown n)
range_by_lines l WholeBuffer = range_of l WholeBuffer
range_by_lines l BeginningOfBuffer = range_of l BeginningOfBuffer
range_by_lines l EndOfBuffer = range_of l EndOfBuffer
range_by_lines l _ = None

-- from the start of the line where a range begins to the end of the line with its last character; the cursor's line for none
abbrev pub whole_lines : Line → Option (ℕ × ℕ) → ℕ × ℕ
whole_lines l None = (start_of_line l, end_of_line l)
whole_lines l (Some r) = (start_of_line (with_cursor l r.0), end_of_line (with_cursor l (r.1 - 1)))

-- where the lines begin and end that a movement indents
abbrev pub indented_range : Line → Movement → ℕ × ℕ
indented_range l m = whole_lines l (unless_empty (range_by_lines l m))

-- the lines between two places are shifted, and the cursor moves with its character
abbrev pub indented : Bool → ℕ → Line → ℕ × ℕ → Line
indented dedent amount l r =
    let held = lines (slice_range l.text r.0 r.1) in
    record {
      text = take r.0 l.text ++ (join_with_byte 10 (map (shifted dedent amount) held) ++ drop r.1 l.text);
      cursor = r.0 + moved_among dedent amount held (l.cursor - r.0);
    }

-- a line that begins at a place was shifted
abbrev pub with_shift : Bool → ℕ → ℕ → List ℕ → List Entry → List Entry
with_shift true amount place line entries = with_delete place (blank_front amount line) entries
with_shift false amount place line entries = with_insert place (replicate amount 32) entries

-- lines were shifted, the first of which begins at a place: one entry for each, from the first on
abbrev pub with_shifts : Bool → ℕ → ℕ → List (List ℕ) → List Entry → List Entry
with_shifts dedent amount place [] entries = entries
with_shifts dedent amount place (line ∷ more) entries =
    with_shifts dedent amount (place + length (shifted dedent amount line) + 1) more (with_shift dedent amount place line entries)

-- the lines between two places were shifted
abbrev pub with_indents : Bool → ℕ → List ℕ → ℕ × ℕ → List Entry → List Entry
with_indents dedent amount text r entries = with_shifts dedent amount r.0 (lines (slice_range text r.0 r.1)) entries

-- the line that begins at a place is shifted
abbrev pub with_line_shifted : Bool → ℕ → Line → ℕ → List ℕ → Line
with_line_shifted dedent amount l place line =
    record {
      text = take place l.text ++ (shifted dedent amount line ++ drop (place + length line) l.text);
      cursor = if nat_lt l.cursor place then l.cursor else place + moved_among dedent amount (line ∷ []) (l.cursor - place);
    }

-- a range begins on a boundary, and ends where a line does
pub record EndsLine (text : List ℕ) (from to : ℕ) : Type 0 where
  pub ordered : from ≤ to
  pub within : to ≤ length text
  pub boundary : IsCharBoundary text from
  pub end : prefix_len is_no_newline (drop to text) ≡ 0

-- a success shifts the line that begins at a place, records it, and returns where it ends then
pub record ShiftsLine {E : Type 0} (result : Result ℕ E) (old new : Line) (c c' : Changes) (dedent : Bool) (amount place : ℕ) : Type 0 where
  pub line : OnOk result (new ≡ with_line_shifted dedent amount old place (line_from old.text place))
  pub changes : OnOk result (c' ≡ on_entries (with_shift dedent amount place (line_from old.text place)) c)
  pub tells : OnOk result (StillTells c.entries old.text c'.entries new.text)
  pub cursor : IsCharBoundary new.text new.cursor
  pub stop : IfOk result (λ p. p ≡ place + length (shifted dedent amount (line_from old.text place)))
  pub boundary : IfOk result (λ p. IsCharBoundary new.text p)
