-- Quotes in a text, as a list of characters, and which of them stands open.
use Rattle.std.specs.Prelude.{◌≡◌, ◌≢◌, ◌⊎◌, ℕ, ◌+◌, ◌-◌, ◌==◌, ◌&&◌, ◌||◌, Bool, true, false, not}
use Rattle.std.specs.Prelude.{List, [], ◌∷◌, ◌++◌, length, take, drop, Option, None, Some, bytes_eq}
use Rattle.std.specs.List.{list_all}
use Rattle.line_parts.specs.History.{last_of, least_below}
use Rattle.line_parts.specs.Pieces.{is_made_of_pieces}
use Rattle.line_parts.specs.declared.completion.escapes.Quote.{Quote}
use Rattle.line_parts.specs.declared.completion.escapes.Quote.TheVariants as quote

-- the double quote
abbrev pub double : ℕ
double = 34

-- the single quote
abbrev pub single : ℕ
single = 39

-- the backslash
abbrev pub backslash : ℕ
backslash = 92

-- a text without its last character
abbrev pub without_last : List ℕ → List ℕ
without_last cs = take (length cs - 1) cs

-- whether a text ends in a character
abbrev pub ends_in : ℕ → List ℕ → Bool
ends_in c cs = bytes_eq (last_of 1 cs) (c ∷ [])

-- whether characters are a piece of what stands in double quotes: one that is neither a double
-- quote nor a backslash, or a backslash and a character
abbrev pub is_double_piece : List ℕ → Bool
is_double_piece [] = false
is_double_piece (c ∷ []) = not (c == double) && not (c == backslash)
is_double_piece (c ∷ d ∷ []) = c == backslash
is_double_piece (c ∷ d ∷ e ∷ cs) = false

-- whether a text can stand in quotes of a kind
abbrev pub is_inside : Quote → List ℕ → Bool
is_inside quote.Double cs = is_made_of_pieces is_double_piece cs
is_inside quote.Single cs = list_all (λ c. not (c == single)) cs
is_inside quote.None cs = false

-- whether characters are a quote, a text that can stand in quotes of that kind, and the quote again
abbrev pub is_quoted : Quote → ℕ → List ℕ → Bool
is_quoted kind mark [] = false
is_quoted kind mark (c ∷ cs) = c == mark && ends_in mark cs && is_inside kind (without_last cs)

-- whether characters are one that is no quote and no backslash, or a backslash and a character
abbrev pub is_bare : List ℕ → Bool
is_bare [] = false
is_bare (c ∷ []) = not (c == double) && not (c == single) && not (c == backslash)
is_bare (c ∷ d ∷ []) = c == backslash
is_bare (c ∷ d ∷ e ∷ cs) = false

-- whether characters are a piece of closed text: a bare one or a quoted one
abbrev pub is_closed_piece : List ℕ → Bool
is_closed_piece cs = is_bare cs || is_quoted quote.Double double cs || is_quoted quote.Single single cs

-- whether each quote of a text is closed: it is made of such pieces
abbrev pub is_closed : List ℕ → Bool
is_closed = is_made_of_pieces is_closed_piece

-- whether a text is a quote of a kind that never closes: in double quotes a last backslash may
-- stand alone
abbrev pub is_unclosed : Quote → List ℕ → Bool
is_unclosed kind [] = false
is_unclosed quote.Double (c ∷ cs) = c == double
    && (is_inside quote.Double cs || (ends_in backslash cs && is_inside quote.Double (without_last cs)))
is_unclosed quote.Single (c ∷ cs) = c == single && is_inside quote.Single cs
is_unclosed quote.None (c ∷ cs) = false

-- the place of the quote of a kind that stands open: what stands before it is closed, and it never
-- closes
abbrev pub open_quote : Quote → List ℕ → Option ℕ
open_quote kind cs =
    least_below (length cs) (λ place. is_closed (take place cs) && is_unclosed kind (drop place cs))

-- no quote of a kind closes what stands after it
abbrev pub NeverCloses : Quote → ℕ → List ℕ → Type 0
NeverCloses kind mark text = is_unclosed kind (mark ∷ text) ≡ true

-- a text stands in quotes of a kind up to the first such quote, with this after that
abbrev pub ClosesBefore : Quote → ℕ → List ℕ → List ℕ → Type 0
ClosesBefore kind mark text rest =
    (body : List ℕ) × (is_inside kind body ≡ true) × (text ≡ body ++ mark ∷ rest)

-- characters that begin with no piece of closed text: with a quote that never closes, or a backslash that stands alone
abbrev pub IsUnpaired : List ℕ → Type 0
IsUnpaired cs = (is_unclosed quote.Double cs ≡ true) ⊎ (is_unclosed quote.Single cs ≡ true) ⊎ (cs ≡ backslash ∷ [])

-- characters that begin with a piece of closed text, and what stands after it
pub record BeginsClosed (cs behind : List ℕ) : Type 0 where
  pub piece : List ℕ
  pub closed : is_closed_piece piece ≡ true
  pub whole : cs ≡ piece ++ behind

-- the quote of a kind stands open in a text, with this after it, and no quote of the other kind does
pub record OpensAt (cs : List ℕ) (kind : Quote) (behind : List ℕ) : Type 0 where
  pub place : ℕ
  pub opens : open_quote kind cs ≡ Some place
  pub quoted : kind ≢ quote.None
  pub alone : (other : Quote) → other ≢ kind → open_quote other cs ≡ None
  pub rest : behind ≡ drop (place + 1) cs
