-- The symbols that tokens stand for.
use Rattle.std.specs.Prelude.{◌≡◌, ◌≢◌, ◌⊎◌, ℕ, ◌<◌, ◌≤◌, None, false, slice_index, All, length}
use Rattle.std.specs.Prelude.{List, [], ◌∷◌, ◌++◌, drop, map, IsCharBoundary}
use Rattle.console.specs.declared.arithmetic.complaint.Complaint.{Complaint}
use Rattle.console.specs.declared.arithmetic.complaint.Complaint.TheVariants.{Memory, TooLarge}
use Rattle.console.specs.declared.arithmetic.token.Token.{Token}
use Rattle.console.specs.declared.arithmetic.token.Token.TheVariants.{Number, Name, Operator}
use Rattle.console.specs.declared.arithmetic.token.Token.TheVariants.{Opening, Closing, Equals}
use Rattle.console.specs.declared.arithmetic.token.Placed.{Placed}
use Rattle.console.specs.declared.arithmetic.token.Read.{Read}
use Rattle.console.specs.declared.arithmetic.token.Scanned.{Scanned}
use Rattle.console.specs.Expression.{in_range}
use Rattle.console.specs.Grammar.{Symbol, figure, word, sign, opening, closing, equals}
use Rattle.console.specs.Spelling.{Spells, is_blank_byte}

-- the symbol that a token stands for
abbrev pub symbol_of : Token → Symbol
symbol_of (Number x) = figure x
symbol_of (Name text) = word text.now
symbol_of (Operator o) = sign o
symbol_of Opening = opening
symbol_of Closing = closing
symbol_of Equals = equals

-- the symbols that tokens stand for
abbrev pub symbols_of : List Placed → List Symbol
symbols_of tokens = map (λ t. symbol_of t.token) tokens

-- what is spelled from one place of a text is, after these symbols, spelled from an earlier place
abbrev pub SpellsUpTo : List ℕ → ℕ → List Symbol → ℕ → Type 0
SpellsUpTo text start symbols end =
    (more : List Symbol) → Spells (drop end text) more → Spells (drop start text) (symbols ++ more)

-- whatever is spelled from one place of a text are these symbols and what is spelled from another
abbrev pub SpellsOnlyUpTo : List ℕ → ℕ → List Symbol → ℕ → Type 0
SpellsOnlyUpTo text start symbols end =
    (all : List Symbol) → Spells (drop start text) all
    → (more : List Symbol) × (all ≡ symbols ++ more) × Spells (drop end text) more

-- a number of a line fits 64 bits
abbrev pub IsInRange : Symbol → Type 0
IsInRange (figure x) = in_range x ≢ None
IsInRange (word bytes) = Unit {0}
IsInRange (sign o) = Unit {0}
IsInRange opening = Unit {0}
IsInRange closing = Unit {0}
IsInRange equals = Unit {0}

-- whatever is spelled from a place of a text has a number that does not fit
abbrev pub IsTooLargeAt : List ℕ → ℕ → Type 0
IsTooLargeAt text start = (all : List Symbol) → Spells (drop start text) all → All IsInRange all → ⊥

-- nothing is spelled from a place of a text, but at its end
abbrev pub EndsAt : List ℕ → ℕ → Type 0
EndsAt text start =
    (all : List Symbol) → Spells (drop start text) all → (start ≡ length text) × (all ≡ [])

-- no blank is at a place of a text
abbrev pub IsUnblankAt : List ℕ → ℕ → Type 0
IsUnblankAt text place = place < length text → is_blank_byte (slice_index text place) ≡ false

-- a token is spelled from a place on, up to its end
pub record IsReadAt (text : List ℕ) (start : ℕ) (read : Read) : Type 0 where
  pub leads : SpellsUpTo text start (symbol_of read.token ∷ []) read.end
  pub only : SpellsOnlyUpTo text start (symbol_of read.token ∷ []) read.end
  pub boundary : IsCharBoundary text read.end
  pub forward : start < read.end

-- the tokens of a text up to an end: they are all of it where that is the text's end
pub record IsScanOf (text : List ℕ) (line : Scanned) : Type 0 where
  pub spelled : line.end ≡ length text → Spells text (symbols_of line.tokens.items)
  pub only : (all : List Symbol) → Spells text all
      → (line.end ≡ length text) × (all ≡ symbols_of line.tokens.items)
  pub places : All (λ t. IsCharBoundary text t.place) line.tokens.items
  pub end : IsCharBoundary text line.end
  pub short : length line.tokens.items ≤ length text

-- a scan was refused for want of memory, or since a number is too large
abbrev pub IsScanRefusal : List ℕ → Complaint → Type 0
IsScanRefusal text complaint =
    (complaint ≡ Memory) ⊎ (complaint ≡ TooLarge) × IsTooLargeAt text 0
