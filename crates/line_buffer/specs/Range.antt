-- The range of the text that a movement spans.
use Rattle.std.specs.Prelude.{ℕ, ◌==◌, List, length, slice_range, Option, Some, None, option_map, if◌then◌else◌}
use Rattle.line_buffer.specs.Cluster.{place_on, place_back}
use Rattle.line_buffer.specs.Line.{Line, start_of_line, end_of_line}
use Rattle.line_buffer.specs.Lines.{lines_up, lines_down}
use Rattle.line_buffer.specs.Search.{behind_char, found_on, search_place}
use Rattle.line_buffer.specs.Word.{word_back, word_on}
use Rattle.line_buffer.specs.declared.movement.CharSearch.{CharSearch}
use Rattle.line_buffer.specs.declared.movement.CharSearch.TheVariants.{Forward, ForwardBefore, Backward, BackwardAfter}
use Rattle.line_buffer.specs.declared.movement.Movement.{Movement}
use Rattle.line_buffer.specs.declared.movement.Movement.TheVariants.{WholeLine, BeginningOfLine, EndOfLine, BackwardWord, ForwardWord, ViCharSearch, ViFirstPrint, BackwardChar, ForwardChar, LineUp, LineDown, WholeBuffer, BeginningOfBuffer, EndOfBuffer}

-- from a place before the cursor to the cursor
abbrev pub up_to_cursor : Line → Option ℕ → Option (ℕ × ℕ)
up_to_cursor l place = option_map (λ from. (from, l.cursor)) place

-- from the cursor to a place after it
abbrev pub from_cursor : Line → Option ℕ → Option (ℕ × ℕ)
from_cursor l place = option_map (λ to. (l.cursor, to)) place

-- the range of a search: on after the character that is found or up to it, back to where the search leads
abbrev pub searched : Line → CharSearch → ℕ → Option (ℕ × ℕ)
searched l (Forward c) n = from_cursor l (option_map (behind_char c) (found_on c l n))
searched l (ForwardBefore c) n = from_cursor l (found_on c l n)
searched l (Backward c) n = up_to_cursor l (search_place (Backward c) l n)
searched l (BackwardAfter c) n = up_to_cursor l (search_place (BackwardAfter c) l n)

-- where the range of a movement begins and ends
abbrev pub range_of : Line → Movement → Option (ℕ × ℕ)
range_of l WholeLine = Some (start_of_line l, end_of_line l)
range_of l BeginningOfLine = Some (start_of_line l, l.cursor)
range_of l EndOfLine = Some (l.cursor, end_of_line l)
range_of l (BackwardWord n word) = up_to_cursor l (word_back word l n)
range_of l (ForwardWord n at word) = from_cursor l (word_on at word l n)
range_of l (ViCharSearch n search) = searched l search n
range_of l ViFirstPrint = None
range_of l (BackwardChar n) = up_to_cursor l (place_back l n)
range_of l (ForwardChar n) = from_cursor l (place_on l n)
range_of l (LineUp n) = lines_up l n
range_of l (LineDown n) = lines_down l n
range_of l WholeBuffer = Some (0, length l.text)
range_of l BeginningOfBuffer = Some (0, l.cursor)
range_of l EndOfBuffer = Some (l.cursor, length l.text)

-- a range that is not empty
abbrev pub unless_empty : Option (ℕ × ℕ) → Option (ℕ × ℕ)
unless_empty None = None
unless_empty (Some r) = if r.0 == r.1 then None else Some r

-- the bytes of a range
abbrev pub text_in : List ℕ → Option (ℕ × ℕ) → Option (List ℕ)
text_in text range = option_map (λ r. slice_range text r.0 r.1) range
