-- What a line does with names.
use Rattle.std.specs.Prelude.{◌≡◌, ℕ, ℤ, List, ◌∷◌, Some}
use Rattle.console.specs.declared.arithmetic.complaint.Complaint.{Complaint}
use Rattle.console.specs.declared.arithmetic.names.Names.{Names}
use Rattle.console.specs.declared.arithmetic.operator.Rank.TheVariants.{Sum}
use Rattle.console.specs.Expression.{Expression, worth_of}
use Rattle.console.specs.Grammar.{Symbol, Derives, word, equals}
use Rattle.console.specs.Names.{AreKept, AreSet, value_in}
use Rattle.console.specs.Refusals.{Explains}
use Rattle.console.specs.Spelling.{Spells}

-- symbols have a value under the old names: `expression`, which keeps the names, or
-- `name = expression`, which gives the name the value
pub data Computes (old new : Names) (symbols : List Symbol) (x : ℤ) : Type 0 where
  asked : (e : Expression) → Derives Sum symbols e → worth_of (value_in old) e ≡ Some x
      → AreKept old new → Computes old new symbols x
  assigned : (name : List ℕ) (behind : List Symbol) (e : Expression)
      → symbols ≡ word name ∷ equals ∷ behind → Derives Sum behind e
      → worth_of (value_in old) e ≡ Some x → AreSet old new name x → Computes old new symbols x

-- a text has a value under the old names, and leads to the new ones
pub record HasValue (old new : Names) (text : List ℕ) (x : ℤ) : Type 0 where
  pub symbols : List Symbol
  pub spelled : Spells text symbols
  pub computed : Computes old new symbols x

-- symbols are a line with an expression: alone, or after a name and `=`
pub data IsLineOf (e : Expression) (symbols : List Symbol) : Type 0 where
  alone : Derives Sum symbols e → IsLineOf e symbols
  behind_name : (name : List ℕ) (behind : List Symbol) → symbols ≡ word name ∷ equals ∷ behind
      → Derives Sum behind e → IsLineOf e symbols

-- each expression of a text has this value
abbrev pub IsOnlyValue : Names → List ℕ → ℤ → Type 0
IsOnlyValue names text x =
    (symbols : List Symbol) (e : Expression) → Spells text symbols → IsLineOf e symbols
    → worth_of (value_in names) e ≡ Some x

-- a complaint explains why no expression of a text has a value
abbrev pub IsExplained : Names → List ℕ → Complaint → Type 0
IsExplained names text complaint =
    (symbols : List Symbol) (e : Expression) → Spells text symbols → IsLineOf e symbols
    → Explains (value_in names) complaint e
