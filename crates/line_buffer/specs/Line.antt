-- A line: a text and a cursor in it.
use Rattle.std.specs.Prelude.{◌≡◌, is_some, IsCharBoundary, ℕ, ◌+◌, ◌-◌, ◌==◌, Bool, not, List, length, take, drop, chars, Option, Some, None}
use Rattle.std.specs.Char.{is_whitespace}
use Rattle.std.specs.List.{list_all, prefix_len, suffix_len, remove_range, insert_slice, replace_range}

-- the bytes of the text, and the cursor's place among them
pub record Line : Type 0 where
  pub text : List ℕ
  pub cursor : ℕ

-- the text before the cursor
abbrev pub before : Line → List ℕ
before l = take l.cursor l.text

-- the text from the cursor on
abbrev pub after : Line → List ℕ
after l = drop l.cursor l.text

-- the same text with the cursor at a place
abbrev pub with_cursor : Line → ℕ → Line
with_cursor l place = record { text = l.text; cursor = place }

-- the cursor moves to the place, if there is one
abbrev pub moved_to : Line → Option ℕ → Line
moved_to l None = l
moved_to l (Some place) = with_cursor l place

-- a text is inserted at the cursor, which then stands after it
abbrev pub inserted_at_cursor : Line → List ℕ → Line
inserted_at_cursor l t = record { text = insert_slice l.text l.cursor t; cursor = l.cursor + length t }

-- a text is inserted at a place, and the cursor stays
abbrev pub inserted_at : Line → ℕ → List ℕ → Line
inserted_at l place t = record { text = insert_slice l.text place t; cursor = l.cursor }

-- a text replaces a range, and the cursor then stands after it
abbrev pub replaced_in : Line → ℕ → ℕ → List ℕ → Line
replaced_in l from to t = record { text = replace_range l.text from to t; cursor = from + length t }

-- the bytes of a range are removed, and the cursor moves to where they were
abbrev pub without : Line → Option (ℕ × ℕ) → Line
without l None = l
without l (Some r) = record { text = remove_range l.text r.0 r.1; cursor = r.0 }

-- whether a byte is no newline
abbrev pub is_no_newline : ℕ → Bool
is_no_newline b = not (b == 10)

-- the end of the cursor's line: the first newline from the cursor on, else the text's end
abbrev pub end_of_line : Line → ℕ
end_of_line l = l.cursor + prefix_len is_no_newline (after l)

-- the start of the cursor's line: after the last newline before the cursor, else the text's start
abbrev pub start_of_line : Line → ℕ
start_of_line l = l.cursor - suffix_len is_no_newline (before l)

-- a move of the cursor to a place, if there is one, says whether there is
pub record MovesCursor (result : Bool) (old new : Line) (place : Option ℕ) : Type 0 where
  pub cursor : IsCharBoundary new.text new.cursor
  pub answer : result ≡ is_some place
  pub line : new ≡ moved_to old place

-- a cursor that is put at a place says whether it stood elsewhere
pub record PutsCursor (result : Bool) (old new : Line) (place : ℕ) : Type 0 where
  pub cursor : IsCharBoundary new.text new.cursor
  pub answer : result ≡ not (place == old.cursor)
  pub line : new ≡ with_cursor old place

-- the cursor is at the text's end
abbrev pub is_at_end : Line → Bool
is_at_end l = l.cursor == length l.text

-- only white space stands from the cursor on
abbrev pub ends_in_white_space : Line → Bool
ends_in_white_space l = list_all is_whitespace (chars (after l))
