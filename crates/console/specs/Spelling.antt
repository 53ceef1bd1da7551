-- How a text spells symbols: by bytes, with blanks between them.
use Rattle.std.specs.Prelude.{◌≡◌, ◌≢◌, ℕ, pos, Bool, true, ◌||◌, ◌==◌, Option, Some, None}
use Rattle.std.specs.Prelude.{List, [], ◌∷◌, ◌++◌, All, IsTrue, take_while}
use Rattle.std.specs.Char.{is_ascii_alphabetic, is_ascii_digit}
use Rattle.std.specs.Str.Parse.{digits_value}
use Rattle.console.specs.declared.arithmetic.operator.Operator.{Operator}
use Rattle.console.specs.declared.arithmetic.operator.Operator.TheVariants.{Plus, Minus, Times}
use Rattle.console.specs.declared.arithmetic.operator.Operator.TheVariants.{Divide, Remainder}
use Rattle.console.specs.declared.arithmetic.token.Kind.{Kind}
use Rattle.console.specs.declared.arithmetic.token.Kind.TheVariants.{Blank, Digit, Word}
use Rattle.console.specs.Grammar.{Symbol, figure, word, sign, opening, closing, equals}

-- a space, a tab or a newline
abbrev pub is_blank_byte : ℕ → Bool
is_blank_byte b = b == 32 || b == 9 || b == 10

-- a text of blanks
abbrev pub IsBlank : List ℕ → Type 0
IsBlank text = All (λ b. IsTrue (is_blank_byte b)) text

-- a byte that a name begins with: a letter or `_`
abbrev pub begins_name : ℕ → Bool
begins_name b = is_ascii_alphabetic b || b == 95

-- a byte that a name goes on with: a letter, `_` or a digit
abbrev pub goes_on_name : ℕ → Bool
goes_on_name b = begins_name b || is_ascii_digit b

-- whether a byte is of a kind
abbrev pub passes : Kind → ℕ → Bool
passes Blank b = is_blank_byte b
passes Digit b = is_ascii_digit b
passes Word b = goes_on_name b

-- the byte of an operator
abbrev pub byte_of : Operator → ℕ
byte_of Plus = 43
byte_of Minus = 45
byte_of Times = 42
byte_of Divide = 47
byte_of Remainder = 37

-- the byte of a symbol that is always the same one: an operator, a bracket, `=`
abbrev pub mark_of : Symbol → Option ℕ
mark_of (figure x) = None
mark_of (word bytes) = None
mark_of (sign o) = Some (byte_of o)
mark_of opening = Some 40
mark_of closing = Some 41
mark_of equals = Some 61

-- a text spells symbols; a number and a name are as long as they can be
pub data Spells : List ℕ → List Symbol → Type 0 where
  nothing : {text : List ℕ} → text ≡ [] → Spells text []
  blank : {text rest : List ℕ} {symbols : List Symbol} {b : ℕ}
      → is_blank_byte b ≡ true → Spells rest symbols → text ≡ b ∷ rest → Spells text symbols
  mark : {text rest : List ℕ} {symbols : List Symbol} {s : Symbol} {b : ℕ}
      → mark_of s ≡ Some b → Spells rest symbols → text ≡ b ∷ rest → Spells text (s ∷ symbols)
  digits : {text rest : List ℕ} {symbols : List Symbol} {run : List ℕ}
      → run ≡ take_while is_ascii_digit text → run ≢ [] → Spells rest symbols
      → text ≡ run ++ rest → Spells text (figure (pos (digits_value 10 run)) ∷ symbols)
  letters : {text rest : List ℕ} {symbols : List Symbol} {run behind : List ℕ} {b : ℕ}
      → run ≡ take_while goes_on_name text → run ≡ b ∷ behind → begins_name b ≡ true
      → Spells rest symbols → text ≡ run ++ rest → Spells text (word run ∷ symbols)
