-- Texts that change places, and words whose letters change case.
use Rattle.std.specs.Prelude.{ℕ, ◌+◌, ◌==◌, ◌&&◌, ◌||◌, not, nat_le, nat_lt, Bool, List, ◌++◌, length, take, drop, map, slice_range, unwrap_or, option_map, Option, Some, None, if◌then◌else◌}
use Rattle.std.specs.Char.{to_ascii_lowercase, to_ascii_uppercase}
use Rattle.std.specs.List.{position}
use Rattle.line_buffer.specs.Changes.{Entry, with_replace}
use Rattle.line_buffer.specs.Character.{is_alphanumeric_cluster}
use Rattle.line_buffer.specs.Cluster.{clusters, place_back, place_on}
use Rattle.line_buffer.specs.Line.{Line, after, replaced_in, with_cursor}
use Rattle.line_buffer.specs.Word.{bytes_to, word_back, word_on}
use Rattle.line_buffer.specs.declared.movement.At.TheVariants.{AfterEnd}
use Rattle.line_buffer.specs.declared.movement.Word.TheVariants.{Emacs}
use Rattle.line_buffer.specs.declared.line_buffer.WordAction.TheVariants.{Capitalize, Lowercase, Uppercase}
use Rattle.line_buffer.specs.declared.line_buffer.WordAction.{WordAction}

-- two parts of a text that do not overlap: where each begins and ends
pub record Parts : Type 0 where
  pub from1 : ℕ
  pub to1 : ℕ
  pub from2 : ℕ
  pub to2 : ℕ

-- the text from the first part's start to the second's end, once the parts changed places
abbrev pub exchanged : List ℕ → Parts → List ℕ
exchanged text p = slice_range text p.from2 p.to2 ++ (slice_range text p.to1 p.from2 ++ slice_range text p.from1 p.to1)

-- two parts of a text, by the start and the end of each
abbrev pub parts : ℕ → ℕ → ℕ → ℕ → Parts
parts from1 to1 from2 to2 = record { from1 = from1; to1 = to1; from2 = from2; to2 = to2 }

-- the line with two parts in each other's place, the cursor after both
abbrev pub with_exchanged : Line → Parts → Line
with_exchanged l p = replaced_in l p.from1 p.to2 (exchanged l.text p)

-- the changes once this exchange of two parts was recorded
abbrev pub with_exchange : List ℕ → Parts → List Entry → List Entry
with_exchange text p entries = with_replace p.from1 (slice_range text p.from1 p.to2) (exchanged text p) entries

-- the cursor is not at the text's start, and the text has two clusters or more
abbrev pub has_two_chars : Line → Bool
has_two_chars l = not (l.cursor == 0) && nat_le 2 (length (clusters l.text))

-- the place between the clusters that change places: the cursor, or at the text's end one cluster back
abbrev pub between_chars : Line → ℕ
between_chars l = if l.cursor == length l.text then unwrap_or (place_back l 1) l.cursor else l.cursor

-- the clusters before and at that place
abbrev pub chars_beside : Line → ℕ → Parts
chars_beside l place =
    record { from1 = unwrap_or (place_back (with_cursor l place) 1) place; to1 = place; from2 = place; to2 = unwrap_or (place_on (with_cursor l place) 1) place }

-- these clusters change places, where there are two
abbrev pub chars_exchanged : Line → Line
chars_exchanged l = if has_two_chars l then with_exchanged l (chars_beside l (between_chars l)) else l

-- the changes once this exchange was recorded, where there is one
abbrev pub with_chars_exchanged : Line → List Entry → List Entry
with_chars_exchanged l entries = if has_two_chars l then with_exchange l.text (chars_beside l (between_chars l)) entries else entries

-- the end of the n-th word on from a place, or that place
abbrev pub word_end_from : Line → ℕ → ℕ → ℕ
word_end_from l place n = unwrap_or (word_on AfterEnd Emacs (with_cursor l place) n) place

-- the start of the n-th word back from a place, or that place
abbrev pub word_start_from : Line → ℕ → ℕ → ℕ
word_start_from l place n = unwrap_or (word_back Emacs (with_cursor l place) n) place

-- the word before the place that n words end at, and the n-th word before that one
abbrev pub words_beside : Line → ℕ → Parts
words_beside l n =
    let to2 = word_end_from l l.cursor n in
    let from2 = word_start_from l to2 1 in
    let from1 = word_start_from l from2 n in
    record { from1 = from1; to1 = word_end_from l from1 1; from2 = from2; to2 = to2 }

-- the words are two
abbrev pub are_apart : Parts → Bool
are_apart p = not ((p.from1 == p.from2) || nat_lt p.from2 p.to1)

-- two words change places, or the cursor moves to after the first
abbrev pub words_exchanged : Line → ℕ → Line
words_exchanged l n = if are_apart (words_beside l n) then with_exchanged l (words_beside l n) else with_cursor l (words_beside l n).to1

-- the changes once the exchange of the words was recorded, where there are two
abbrev pub with_words_exchanged : Line → ℕ → List Entry → List Entry
with_words_exchanged l n entries = if are_apart (words_beside l n) then with_exchange l.text (words_beside l n) entries else entries

-- the text with its letters changed: all lower, all upper, or the first cluster upper and the rest lower
abbrev pub cased : WordAction → List ℕ → List ℕ
cased Lowercase text = map to_ascii_lowercase text
cased Uppercase text = map to_ascii_uppercase text
cased Capitalize text =
    let first = bytes_to (clusters text) 1 in
    map to_ascii_uppercase (take first text) ++ map to_ascii_lowercase (drop first text)

-- the bytes before the first alphanumeric cluster of a text
abbrev pub first_alphanumeric : List ℕ → Option ℕ
first_alphanumeric text = option_map (bytes_to (clusters text)) (position is_alphanumeric_cluster (clusters text))

-- where the first alphanumeric cluster at or after the cursor begins
abbrev pub next_alphanumeric : Line → Option ℕ
next_alphanumeric l = option_map (λ bytes. l.cursor + bytes) (first_alphanumeric (after l))

-- the line with the next word's letters changed, the cursor after the word
abbrev pub with_cased : WordAction → Line → Option ℕ → Line
with_cased action l None = l
with_cased action l (Some from) = replaced_in l from (word_end_from l from 1) (cased action (slice_range l.text from (word_end_from l from 1)))

-- the changes once the change of these letters was recorded
abbrev pub with_case : WordAction → Line → Option ℕ → List Entry → List Entry
with_case action l None entries = entries
with_case action l (Some from) entries =
    let word = slice_range l.text from (word_end_from l from 1) in
    with_replace from word (cased action word) entries

-- the line with the letters of the next word changed, if there is one
abbrev pub word_cased : WordAction → Line → Line
word_cased action l = with_cased action l (next_alphanumeric l)

-- the changes once the change of the next word was recorded
abbrev pub with_word_cased : WordAction → Line → List Entry → List Entry
with_word_cased action l entries = with_case action l (next_alphanumeric l) entries
