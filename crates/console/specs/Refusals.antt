-- What refusals mean.
use Rattle.std.specs.Prelude.{◌≡◌, ℕ, zero, suc, ℤ, pos, negsuc, List, Option, None}
use Rattle.console.specs.declared.arithmetic.complaint.Complaint.{Complaint}
use Rattle.console.specs.declared.arithmetic.complaint.Complaint.TheVariants.{ExpectedOperand}
use Rattle.console.specs.declared.arithmetic.complaint.Complaint.TheVariants.{ExpectedOperator}
use Rattle.console.specs.declared.arithmetic.complaint.Complaint.TheVariants.{ExpectedClosing}
use Rattle.console.specs.declared.arithmetic.complaint.Complaint.TheVariants.{TooLarge, NoValue}
use Rattle.console.specs.declared.arithmetic.complaint.Complaint.TheVariants.{DivisionByZero}
use Rattle.console.specs.declared.arithmetic.complaint.Complaint.TheVariants.{Overflow, TooDeep}
use Rattle.console.specs.declared.arithmetic.complaint.Complaint.TheVariants.{Memory}
use Rattle.console.specs.declared.arithmetic.operator.Operator.{Operator}
use Rattle.console.specs.declared.arithmetic.operator.Operator.TheVariants.{Plus, Minus, Times}
use Rattle.console.specs.declared.arithmetic.operator.Operator.TheVariants.{Divide, Remainder}
use Rattle.console.specs.Expression.{Expression, worth_of}

-- the complaint on a number that zero divides, and else on one that is out of range
abbrev pub over_zero : ℤ → Complaint
over_zero (pos zero) = DivisionByZero
over_zero (pos (suc n)) = Overflow
over_zero (negsuc n) = Overflow

-- the complaint on an operator that makes nothing with a number on its right
abbrev pub complaint_of : Operator → ℤ → Complaint
complaint_of Plus right = Overflow
complaint_of Minus right = Overflow
complaint_of Times right = Overflow
complaint_of Divide right = over_zero right
complaint_of Remainder right = over_zero right

-- what a complaint says of an expression that was looked for: none is there after a complaint about
-- the form, and after one about a value it has none; a limit says nothing
abbrev pub Explains : (List ℕ → Option ℤ) → Complaint → Expression → Type 0
Explains named ExpectedOperand e = ⊥
Explains named ExpectedOperator e = ⊥
Explains named ExpectedClosing e = ⊥
Explains named TooLarge e = worth_of named e ≡ None
Explains named NoValue e = worth_of named e ≡ None
Explains named DivisionByZero e = worth_of named e ≡ None
Explains named Overflow e = worth_of named e ≡ None
Explains named TooDeep e = Unit {0}
Explains named Memory e = Unit {0}
