-- What a yank answers, and what a yank-pop does.
use Rattle.std.specs.Prelude.{ℕ, ◌-◌, ◌==◌, ◌&&◌, nat_le, nat_lt, ◌||◌, Bool, List, [], ◌∷◌, length, Option, Some, None, slice_index, slice_range, if◌then◌else◌}
use Rattle.std.specs.List.{repeat}
use Rattle.line_buffer.specs.Changes.{Entry, with_delete, with_insert}
use Rattle.line_buffer.specs.Line.{Line, inserted_at_cursor, without}

-- whether the cursor is at the text's end; none for an empty text
abbrev pub yanks : Line → List ℕ → Option Bool
yanks l [] = None
yanks l (b ∷ bs) = Some (l.cursor == length l.text)

-- n copies of a text are inserted at the cursor; none of an empty text
abbrev pub line_yanked : Line → List ℕ → ℕ → Line
line_yanked l [] n = l
line_yanked l (b ∷ bs) n = inserted_at_cursor l (repeat n (b ∷ bs))

-- the entries once n copies of a text were inserted at a place
abbrev pub with_yank : ℕ → List ℕ → ℕ → List Entry → List Entry
with_yank place [] n entries = entries
with_yank place (b ∷ bs) n entries = with_insert place (repeat n (b ∷ bs)) entries

-- no character of the text stands across the place
abbrev pub is_boundary : List ℕ → ℕ → Bool
is_boundary text place = nat_lt (slice_index text place) 128 || nat_le 192 (slice_index text place)

-- so many bytes stand before the cursor, and cut no character
abbrev pub can_pop : Line → ℕ → Bool
can_pop l size = nat_le size l.cursor && is_boundary l.text (l.cursor - size)

-- the line without so many bytes before its cursor
abbrev pub popped : Line → ℕ → Line
popped l size = without l (Some (l.cursor - size, l.cursor))

-- the bytes are removed, and the text takes their place
abbrev pub line_yank_popped : Line → ℕ → List ℕ → Line
line_yank_popped l size t = if can_pop l size then line_yanked (popped l size) t 1 else l

-- whether the text that is inserted changes the line; none where the bytes cannot be removed
abbrev pub yank_pops : Line → ℕ → List ℕ → Option Bool
yank_pops l size t = if can_pop l size then yanks (popped l size) t else None

-- the changes once both were recorded: the bytes that were removed, and the text that was inserted
abbrev pub with_yank_pop : Line → ℕ → List ℕ → List Entry → List Entry
with_yank_pop l size t entries =
    if can_pop l size then with_yank (l.cursor - size) t 1 (with_delete (l.cursor - size) (slice_range l.text (l.cursor - size) l.cursor) entries)
    else entries
