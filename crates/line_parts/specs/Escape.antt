-- Words of a line, and escapes in them, as lists of characters.
use Rattle.std.specs.Prelude.{◌≡◌, ℕ, ◌==◌, ◌&&◌, Bool, true, false, not, if◌then◌else◌}
use Rattle.std.specs.Prelude.{List, [], ◌∷◌, ◌++◌, length, take, drop, Option, None, Some}
use Rattle.std.specs.Prelude.{chars, encode_utf8_all}
use Rattle.std.specs.Char.{IsScalar, encode_utf8}
use Rattle.std.specs.Fn.{Shared}
use Rattle.std.specs.Str.{IsUtf8}
use Rattle.std.specs.List.{flat_map, position_or_len, range_with_len}
use Rattle.line_parts.specs.Pieces.{is_made_of_pieces}
use Rattle.line_parts.specs.declared.completion.escapes.Quote.{Quote}
use Rattle.line_parts.specs.declared.completion.escapes.Quote.TheVariants as quote

-- each call of a closure answers by this test
abbrev pub AnswersBy : {F : Type 0} → Shared F (ℕ × Unit {0}) Bool → F → (ℕ → Bool) → Type 0
AnswersBy calls closure test =
    (c : ℕ) (answer : Bool) → IsScalar c → calls.post closure (c, tt) answer → answer ≡ test c

-- this holds of each test by which a closure answers
abbrev pub ForTest : {F : Type 0} → Shared F (ℕ × Unit {0}) Bool → F → ((ℕ → Bool) → Type 0) → Type 0
ForTest calls closure P = (test : ℕ → Bool) → AnswersBy calls closure test → P test

-- what a change of characters makes of a text in UTF-8
abbrev pub on_chars : (List ℕ → List ℕ) → List ℕ → List ℕ
on_chars change text = encode_utf8_all (change (chars text))

-- the byte offset of the character at a place
abbrev pub offset_at : List ℕ → ℕ → ℕ
offset_at cs place = length (encode_utf8_all (take place cs))

-- whether a character is the escape character
abbrev pub is_escape : Option ℕ → ℕ → Bool
is_escape None c = false
is_escape (Some escape) c = c == escape

-- a character with the escape character before it, where it is a break character
abbrev pub escaped_char : ℕ → (ℕ → Bool) → ℕ → List ℕ
escaped_char escape is_break c = if is_break c then escape ∷ c ∷ [] else c ∷ []

-- the escape character before each break character, outside single quotes
abbrev pub escaped : Option ℕ → (ℕ → Bool) → Quote → List ℕ → List ℕ
escaped None is_break q cs = cs
escaped (Some escape) is_break quote.Single cs = cs
escaped (Some escape) is_break quote.Double cs = flat_map (escaped_char escape is_break) cs
escaped (Some escape) is_break quote.None cs = flat_map (escaped_char escape is_break) cs

-- each escape character left out, and the character after it kept
abbrev pub unescaped : Option ℕ → List ℕ → List ℕ
unescaped escape [] = []
unescaped escape (c ∷ []) = if is_escape escape c then [] else c ∷ []
unescaped escape (c ∷ d ∷ cs) =
    if is_escape escape c then d ∷ unescaped escape cs else c ∷ unescaped escape (d ∷ cs)

-- what unescaping keeps of a text in UTF-8
abbrev pub kept_of : ℕ → List ℕ → List ℕ
kept_of escape text = unescaped (Some escape) (chars text)

-- a text ends in the escape character, with this before it
abbrev pub EndsInEscape : Option ℕ → List ℕ → List ℕ → Type 0
EndsInEscape escape text front =
    (c : ℕ) × (text ≡ front ++ encode_utf8 c) × (is_escape escape c ≡ true)

-- a text ends in no escape character
abbrev pub EndsInNoEscape : Option ℕ → List ℕ → Type 0
EndsInNoEscape escape text = (c : ℕ) (front : List ℕ) → IsUtf8 front → text ≡ front ++ encode_utf8 c
    → is_escape escape c ≡ false

-- whether characters are a piece of a word: one that is no break character, or the escape character
-- and a break character
abbrev pub is_word_piece : Option ℕ → (ℕ → Bool) → List ℕ → Bool
is_word_piece escape is_break [] = false
is_word_piece escape is_break (c ∷ []) = not (is_break c)
is_word_piece escape is_break (c ∷ d ∷ []) = is_escape escape c && is_break d
is_word_piece escape is_break (c ∷ d ∷ e ∷ cs) = false

-- where the last word begins: the least place from which the text is made of pieces of a word
abbrev pub word_start : Option ℕ → (ℕ → Bool) → List ℕ → ℕ
word_start escape is_break cs =
    position_or_len (λ place. is_made_of_pieces (is_word_piece escape is_break) (drop place cs))
    (range_with_len 0 (length cs))

-- the byte offset where the last word begins
abbrev pub word_offset : Option ℕ → (ℕ → Bool) → List ℕ → ℕ
word_offset escape is_break cs = offset_at cs (word_start escape is_break cs)
