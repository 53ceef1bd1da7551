-- Expressions of whole numbers and names, and what they are worth.
use Rattle.std.specs.Prelude.{ℕ, zero, suc, ◌^◌, ℤ, pos, negsuc, ◌+ℤ◌, ◌-ℤ◌, ◌*ℤ◌, neg_ℤ}
use Rattle.std.specs.Prelude.{int_div, int_rem}
use Rattle.std.specs.Prelude.{List, Option, Some, None, option_and_then, nat_lt, if◌then◌else◌}
use Rattle.console.specs.declared.arithmetic.operator.Operator.{Operator}
use Rattle.console.specs.declared.arithmetic.operator.Operator.TheVariants.{Plus, Minus, Times}
use Rattle.console.specs.declared.arithmetic.operator.Operator.TheVariants.{Divide, Remainder}

-- a number, a name, a negation, or two expressions with an operator between them
pub data Expression : Type 0 where
  number : ℤ → Expression
  name : List ℕ → Expression
  negation : Expression → Expression
  operation : Operator → Expression → Expression → Expression

-- a number where it fits 64 bits
abbrev pub in_range : ℤ → Option ℤ
in_range (pos n) = if nat_lt n (2 ^ 63) then Some (pos n) else None
in_range (negsuc n) = if nat_lt n (2 ^ 63) then Some (negsuc n) else None

-- a number where another one is not zero
abbrev pub unless_zero : ℤ → Option ℤ → Option ℤ
unless_zero (pos zero) quotient = None
unless_zero (pos (suc n)) quotient = quotient
unless_zero (negsuc n) quotient = quotient

-- what an operator makes of two numbers: a quotient is truncated, and zero divides nothing
unfoldable pub result_of : Operator → ℤ → ℤ → Option ℤ
result_of Plus x y = in_range (x +ℤ y)
result_of Minus x y = in_range (x -ℤ y)
result_of Times x y = in_range (x *ℤ y)
result_of Divide x y = unless_zero y (in_range (int_div x y))
result_of Remainder x y = unless_zero y (in_range (int_rem x y))

-- what an expression is worth under the values of names; nothing where a part of it has no value
unfoldable pub worth_of : (List ℕ → Option ℤ) → Expression → Option ℤ
worth_of named (number x) = in_range x
worth_of named (name word) = named word
worth_of named (negation e) = option_and_then (λ x. in_range (neg_ℤ x)) (worth_of named e)
worth_of named (operation o left right) =
    option_and_then (λ x. option_and_then (λ y. result_of o x y) (worth_of named right))
    (worth_of named left)
