-- Words of a list, which complete the word before the cursor.
use Rattle.std.specs.Prelude.{ℕ, ◌==◌, ◌||◌, nat_lt, Bool, false, not, if◌then◌else◌, List, drop, filter, map, take, None, chars}
use Rattle.std.specs.Char.{is_ascii_alphanumeric}
use Rattle.std.specs.List.{starts_with}
use Rattle.line_parts.specs.Candidate.{Completion, Offer}
use Rattle.line_parts.specs.Escape.{word_offset}

-- whether a character is no part of a word: one of ASCII that is no letter, no digit and no `_`
abbrev pub breaks_words : ℕ → Bool
breaks_words c = if nat_lt c 128 then not (is_ascii_alphanumeric c || (c == 95)) else false

-- a word as a candidate: it shows what it puts in
abbrev pub word_offer : List ℕ → Offer
word_offer word = record { display = word; replacement = word }

-- the words that begin so
abbrev pub beginning_with : List ℕ → List (List ℕ) → List (List ℕ)
beginning_with start words = filter (λ word. starts_with (λ a b. a == b) word start) words

-- the words that begin with what stands of a word before the cursor
abbrev pub completed_among : List (List ℕ) → List ℕ → ℕ → Completion
completed_among words text cursor = let before = take cursor text in let start = word_offset None breaks_words (chars before) in
    record { start = start; offers = map word_offer (beginning_with (drop start before) words) }
