-- The parts of a line of tokens.
use Rattle.std.specs.Prelude.{◌≡◌, ◌≢◌, ℕ, ℤ, ◌+◌, ◌<◌, ◌≤◌, List, ◌∷◌, ◌++◌, drop, length}
use Rattle.std.specs.Prelude.{Option, Some, Result, MatchResult}
use Rattle.console.specs.declared.arithmetic.complaint.Refusal.{Refusal}
use Rattle.console.specs.declared.arithmetic.operator.Operator.{Operator}
use Rattle.console.specs.declared.arithmetic.operator.Rank.{Rank}
use Rattle.console.specs.declared.arithmetic.operator.Rank.TheVariants.{Sum}
use Rattle.console.specs.declared.arithmetic.parts.Fault.{Fault}
use Rattle.console.specs.declared.arithmetic.parts.Part.{Part}
use Rattle.console.specs.declared.arithmetic.token.Placed.{Placed}
use Rattle.console.specs.Expression.{Expression, worth_of}
use Rattle.console.specs.Grammar.{Symbol, equals, sign, word, Derives, IsClosed, rank_of}
use Rattle.console.specs.Refusals.{Explains}
use Rattle.console.specs.Tokens.{symbols_of}

-- a symbol is at a place of tokens
pub record IsSymbolAt (tokens : List Placed) (place : ℕ) (symbol : Symbol) : Type 0 where
  pub within : place < length tokens
  pub split : drop place (symbols_of tokens) ≡ symbol ∷ drop (place + 1) (symbols_of tokens)

-- no operator of a rank is at a place of tokens
abbrev pub HasNoOperatorAt : List Placed → ℕ → Rank → Type 0
HasNoOperatorAt tokens place rank =
    (o : Operator) (behind : List Symbol) → drop place (symbols_of tokens) ≡ sign o ∷ behind
    → rank_of o ≢ rank

-- the tokens from a place to another one write an expression of a rank, which has a value
pub record IsPart
    (tokens : List Placed) (named : List ℕ → Option ℤ) (rank : Rank) (start : ℕ) (part : Part)
    : Type 0 where
  pub used : List Symbol
  pub expression : Expression
  pub split : drop start (symbols_of tokens) ≡ used ++ drop part.next (symbols_of tokens)
  pub written : Derives rank used expression
  pub worth : worth_of named expression ≡ Some part.value
  pub forward : start < part.next
  pub within : part.next ≤ length tokens

-- the tokens from a place on write an expression that has a value
pub record IsWorth
    (tokens : List Placed) (named : List ℕ → Option ℤ) (start : ℕ) (x : ℤ) : Type 0 where
  pub expression : Expression
  pub written : Derives Sum (drop start (symbols_of tokens)) expression
  pub worth : worth_of named expression ≡ Some x

-- the result for each expression of a rank that the tokens from a place on begin with and do not
-- go on with: its value and the place after it, or a complaint about it
abbrev pub Settles : List Placed → (List ℕ → Option ℤ) → Rank → ℕ → Result Part Fault → Type 0
Settles tokens named rank start result =
    (used rest : List Symbol) (e : Expression) → drop start (symbols_of tokens) ≡ used ++ rest
    → Derives rank used e → IsClosed rank rest
    → MatchResult result
    (λ p. (worth_of named e ≡ Some p.value) × (drop p.next (symbols_of tokens) ≡ rest))
    (λ f. Explains named f.complaint e)

-- the result for each expression that the tokens from a place on write: its value, or a complaint
abbrev pub SettlesAll : List Placed → (List ℕ → Option ℤ) → ℕ → Result ℤ Fault → Type 0
SettlesAll tokens named start result =
    (e : Expression) → Derives Sum (drop start (symbols_of tokens)) e
    → MatchResult result (λ x. worth_of named e ≡ Some x) (λ f. Explains named f.complaint e)

-- no name and `=` are in front of tokens
abbrev pub AssignsNoName : List Placed → Type 0
AssignsNoName tokens =
    (name : List ℕ) (behind : List Symbol) → symbols_of tokens ≢ word name ∷ equals ∷ behind

-- the same as `SettlesAll`, with a place in the text
abbrev pub SettlesLine : List Placed → (List ℕ → Option ℤ) → ℕ → Result ℤ Refusal → Type 0
SettlesLine tokens named start result =
    (e : Expression) → Derives Sum (drop start (symbols_of tokens)) e
    → MatchResult result (λ x. worth_of named e ≡ Some x) (λ r. Explains named r.complaint e)
