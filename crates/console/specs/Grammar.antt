-- How symbols write an expression.
use Rattle.std.specs.Prelude.{◌≡◌, ℕ, ◌<◌, ℤ, List, [], ◌∷◌, ◌++◌}
use Rattle.console.specs.declared.arithmetic.operator.Operator.{Operator}
use Rattle.console.specs.declared.arithmetic.operator.Operator.TheVariants.{Plus, Minus, Times}
use Rattle.console.specs.declared.arithmetic.operator.Operator.TheVariants.{Divide, Remainder}
use Rattle.console.specs.declared.arithmetic.operator.Rank.{Rank}
use Rattle.console.specs.declared.arithmetic.operator.Rank.TheVariants.{Sum, Product, Factor}
use Rattle.console.specs.Expression.{Expression, number, name, negation, operation}

-- a symbol of a line
pub data Symbol : Type 0 where
  figure : ℤ → Symbol
  word : List ℕ → Symbol
  sign : Operator → Symbol
  opening : Symbol
  closing : Symbol
  equals : Symbol

-- the rank of the expressions that an operator makes
abbrev pub rank_of : Operator → Rank
rank_of Plus = Sum
rank_of Minus = Sum
rank_of Times = Product
rank_of Divide = Product
rank_of Remainder = Product

-- the rank of the right side of an operator
abbrev pub tighter : Rank → Rank
tighter Sum = Product
tighter Product = Factor
tighter Factor = Factor

-- how many ranks are tighter
abbrev pub looseness : Rank → ℕ
looseness Sum = 2
looseness Product = 1
looseness Factor = 0

-- symbols that do not go on with an expression of a rank: each operator in front is a looser one
abbrev pub IsClosed : Rank → List Symbol → Type 0
IsClosed rank symbols = (o : Operator) (behind : List Symbol) → symbols ≡ sign o ∷ behind
    → looseness rank < looseness (rank_of o)

-- symbols write an expression of a rank
pub data Derives : Rank → List Symbol → Expression → Type 0 where
  -- `12`
  by_figure : {symbols : List Symbol} {x : ℤ}
      → symbols ≡ figure x ∷ [] → Derives Factor symbols (number x)
  -- `tax`
  by_word : {symbols : List Symbol} {bytes : List ℕ}
      → symbols ≡ word bytes ∷ [] → Derives Factor symbols (name bytes)
  -- `- factor`
  by_negation : {symbols inner : List Symbol} {e : Expression}
      → Derives Factor inner e → symbols ≡ sign Minus ∷ inner → Derives Factor symbols (negation e)
  -- `( sum )`
  by_brackets : {symbols inner : List Symbol} {e : Expression}
      → Derives Sum inner e → symbols ≡ opening ∷ inner ++ closing ∷ [] → Derives Factor symbols e
  -- a factor alone is a product
  by_factor : {symbols : List Symbol} {e : Expression}
      → Derives Factor symbols e → Derives Product symbols e
  -- `product * factor`
  by_product : {symbols left right : List Symbol} {o : Operator} {a b : Expression}
      → Derives Product left a → Derives Factor right b → rank_of o ≡ Product
      → symbols ≡ left ++ sign o ∷ right → Derives Product symbols (operation o a b)
  -- a product alone is a sum
  by_alone : {symbols : List Symbol} {e : Expression}
      → Derives Product symbols e → Derives Sum symbols e
  -- `sum + product`
  by_sum : {symbols left right : List Symbol} {o : Operator} {a b : Expression}
      → Derives Sum left a → Derives Product right b → rank_of o ≡ Sum
      → symbols ≡ left ++ sign o ∷ right → Derives Sum symbols (operation o a b)
