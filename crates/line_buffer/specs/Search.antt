-- Searches for a character.
use Rattle.std.specs.Prelude.{ℕ, ◌+◌, ◌-◌, ◌==◌, List, length, map, filter, take, drop, reverse, chars, slice_index, Option, None, option_map}
use Rattle.std.specs.Char.{len_utf8}
use Rattle.std.specs.List.{last_or, range_with_len}
use Rattle.std.specs.Str.{encode_utf8_all}
use Rattle.line_buffer.specs.Cluster.{clusters}
use Rattle.line_buffer.specs.Line.{Line, before, after}
use Rattle.line_buffer.specs.Lines.{last_fitting}
use Rattle.line_buffer.specs.Word.{bytes_to}
use Rattle.line_buffer.specs.Yank.{is_boundary}
use Rattle.line_buffer.specs.declared.movement.CharSearch.{CharSearch}
use Rattle.line_buffer.specs.declared.movement.CharSearch.TheVariants.{Forward, ForwardBefore, Backward, BackwardAfter}

-- the same search in the other direction
abbrev pub opposite : CharSearch → CharSearch
opposite (Forward c) = Backward c
opposite (ForwardBefore c) = BackwardAfter c
opposite (Backward c) = Forward c
opposite (BackwardAfter c) = ForwardBefore c

-- the bytes of the first i characters of a list
abbrev pub chars_to : List ℕ → ℕ → ℕ
chars_to cs i = length (encode_utf8_all (take i cs))

-- where a character stands among those of a list, each time counted in the characters before it
abbrev pub indices_of : ℕ → List ℕ → List ℕ
indices_of c cs = filter (λ i. slice_index cs i == c) (range_with_len 0 (length cs))

-- the places of a character in a text
abbrev pub places_of : ℕ → List ℕ → List ℕ
places_of c text = map (chars_to (chars text)) (indices_of c (chars text))

-- the n-th of a list, counted from 1, or the last where there are fewer; none for n = 0
abbrev pub nth_or_last : List ℕ → ℕ → Option ℕ
nth_or_last places n = last_or None (take n places)

-- where the cluster after the cursor ends
abbrev pub behind_cluster : Line → ℕ
behind_cluster l = l.cursor + bytes_to (clusters (after l)) 1

-- the place of the n-th character c after the cluster at the cursor
abbrev pub found_on : ℕ → Line → ℕ → Option ℕ
found_on c l n = option_map (λ bytes. behind_cluster l + bytes) (nth_or_last (places_of c (drop (behind_cluster l) l.text)) n)

-- the place of the n-th character c before the cursor, counted back
abbrev pub found_back : ℕ → Line → ℕ → Option ℕ
found_back c l n = nth_or_last (reverse (places_of c (before l))) n

-- where the character before a place begins: the greatest boundary below
abbrev pub char_before : List ℕ → ℕ → ℕ
char_before text place = last_fitting (is_boundary text) (place - 1)

-- the place after a character at a place
abbrev pub behind_char : ℕ → ℕ → ℕ
behind_char c place = place + len_utf8 c

-- where a search leads
abbrev pub search_place : CharSearch → Line → ℕ → Option ℕ
search_place (Forward c) l n = found_on c l n
search_place (ForwardBefore c) l n = option_map (char_before l.text) (found_on c l n)
search_place (Backward c) l n = found_back c l n
search_place (BackwardAfter c) l n = option_map (behind_char c) (found_back c l n)
