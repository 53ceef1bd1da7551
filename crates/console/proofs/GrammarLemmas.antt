-- Expressions of a rank, read from the left.
use Rattle.std.proofs.Common.{◌≡◌, ◌≢◌, ℕ, ℤ, ◌<◌, List, [], ◌∷◌, ◌++◌, Option, Some, None, sym, refl, ap, ◌∙◌, arith, append_assoc, append-nil}
use Rattle.console.specs.declared.arithmetic.complaint.Complaint.{Complaint}
use Rattle.console.specs.declared.arithmetic.complaint.Complaint.TheVariants.{ExpectedOperand, ExpectedOperator, ExpectedClosing, TooLarge, NoValue, DivisionByZero, Overflow, TooDeep, Memory}
use Rattle.console.specs.declared.arithmetic.operator.Operator.{Operator}
use Rattle.console.specs.declared.arithmetic.operator.Rank.{Rank}
use Rattle.console.specs.declared.arithmetic.operator.Rank.TheVariants.{Sum, Product, Factor}
use Rattle.console.specs.Expression.{Expression, operation, worth_of, result_of}
use Rattle.console.specs.Grammar.{Symbol, sign, Derives, by_factor, by_product, by_alone, by_sum, IsClosed, looseness, rank_of, tighter}
use Rattle.console.specs.Refusals.{Explains}

-- symbols go on with an expression by operators of a rank
pub data GoesOn (rank : Rank) : Expression → List Symbol → Expression → Type 0 where
  ends : {a e : Expression} {symbols : List Symbol} → symbols ≡ [] → a ≡ e → GoesOn rank a symbols e
  goes : {a b e : Expression} {symbols right behind : List Symbol} {o : Operator}
      → rank_of o ≡ rank → Derives (tighter rank) right b → GoesOn rank (operation o a b) behind e
      → symbols ≡ sign o ∷ right ++ behind → GoesOn rank a symbols e

-- one more operator and its right side
GoesOn-append : {rank : Rank} {a m b : Expression} {symbols right : List Symbol} {o : Operator} → GoesOn rank a symbols m
    → rank_of o ≡ rank → Derives (tighter rank) right b → GoesOn rank a (symbols ++ sign o ∷ right) (operation o m b)
GoesOn-append {b = b} {right = right} {o = o} (ends none same) is written =
    goes is written (ends refl (ap (λ x. operation o x b) same)) (ap (λ xs. xs ++ sign o ∷ right) none ∙ ap (λ xs. sign o ∷ xs) (sym (append-nil right)))
GoesOn-append {right = last} {o = o} (goes {right = right} {behind = behind} {o = p} first operand on split) is written =
    goes first operand (GoesOn-append on is written) (ap (λ xs. xs ++ sign o ∷ last) split ∙ ap (λ xs. sign p ∷ xs) (append_assoc right behind (sign o ∷ last)))

-- an expression of a rank is an operand of the next tighter one, and goes on from there
pub record Splits (rank : Rank) (symbols : List Symbol) (e : Expression) : Type 0 where
  pub first : List Symbol
  pub rest : List Symbol
  pub operand : Expression
  pub split : symbols ≡ first ++ rest
  pub written : Derives (tighter rank) first operand
  pub on : GoesOn rank operand rest e

splits_sum : {symbols : List Symbol} {e : Expression} → Derives Sum symbols e → Splits Sum symbols e
splits_sum {symbols} {e} (by_alone written) =
    record { first = symbols; rest = []; operand = e; split = sym (append-nil symbols); written = written; on = ends refl refl }
splits_sum (by_sum {right = right} {o = o} left other is split) =
    let s = splits_sum left in
    record { first = s.first; rest = s.rest ++ sign o ∷ right; operand = s.operand; split = split ∙ ap (λ xs. xs ++ sign o ∷ right) s.split ∙ append_assoc s.first s.rest (sign o ∷ right); written = s.written; on = GoesOn-append s.on is other }

splits_product : {symbols : List Symbol} {e : Expression} → Derives Product symbols e → Splits Product symbols e
splits_product {symbols} {e} (by_factor written) =
    record { first = symbols; rest = []; operand = e; split = sym (append-nil symbols); written = written; on = ends refl refl }
splits_product (by_product {right = right} {o = o} left other is split) =
    let s = splits_product left in
    record { first = s.first; rest = s.rest ++ sign o ∷ right; operand = s.operand; split = split ∙ ap (λ xs. xs ++ sign o ∷ right) s.split ∙ append_assoc s.first s.rest (sign o ∷ right); written = s.written; on = GoesOn-append s.on is other }

pub splits : (rank : Rank) → rank ≢ Factor → {symbols : List Symbol} {e : Expression} → Derives rank symbols e → Splits rank symbols e
splits Sum other written = splits_sum written
splits Product other written = splits_product written
splits Factor other written = absurd (other refl)

-- the next tighter rank is less loose
pub looseness-tighter : (rank : Rank) → rank ≢ Factor → looseness (tighter rank) < looseness rank
looseness-tighter Sum other = omega arith
looseness-tighter Product other = omega arith
looseness-tighter Factor other = absurd (other refl)

-- what goes on by operators of a rank does not go on with an operand of the next tighter one
pub closed_on : {rank : Rank} {a e : Expression} {on : List Symbol} → rank ≢ Factor → (rest : List Symbol) → IsClosed rank rest → GoesOn rank a on e
    → IsClosed (tighter rank) (on ++ rest)
closed_on {rank} other rest closed (ends none same) = λ o behind begins.
    let here = closed o behind (ap (λ xs. xs ++ rest) (sym none) ∙ begins) in
    let less = looseness-tighter rank other in
    omega arith
closed_on {rank} other rest closed (goes {o = p} is operand on split) = λ o behind begins.
    let same : sign p ≡ sign o = (cc (ap (λ xs. xs ++ rest) (sym split) ∙ begins)) in
    let rank_is : looseness (rank_of o) ≡ looseness rank = (cc (is, same)) in
    let less = looseness-tighter rank other in
    omega arith

module _ (named : List ℕ → Option ℤ) where
  -- an operation with an operand that has no value has none
  pub left_none : (o : Operator) (a b : Expression) → worth_of named a ≡ None → worth_of named (operation o a b) ≡ None
  unfolding worth_of
  left_none o a b none = rw none refl

  pub right_none : (o : Operator) (a b : Expression) (x : ℤ) → worth_of named a ≡ Some x → worth_of named b ≡ None → worth_of named (operation o a b) ≡ None
  unfolding worth_of
  right_none o a b x is none = rw (is, none) refl

  -- the value of an operation on two values
  pub value_of-operation : (o : Operator) (a b : Expression) (x y : ℤ) → worth_of named a ≡ Some x → worth_of named b ≡ Some y → worth_of named (operation o a b) ≡ result_of o x y
  unfolding worth_of
  value_of-operation o a b x y left right = rw (left, right) refl

  -- what goes on from an expression with no value has none
  pub none_goes_on : {rank : Rank} {a e : Expression} {on : List Symbol} → GoesOn rank a on e → worth_of named a ≡ None → worth_of named e ≡ None
  none_goes_on (ends none same) is = ap (worth_of named) (sym same) ∙ is
  none_goes_on (goes {a = a} {b = b} {o = o} rank operand on split) is = none_goes_on on (left_none o a b is)

  -- a complaint about a part is one about the whole
  pub Explains-whole : (complaint : Complaint) (part whole : Expression) → (worth_of named part ≡ None → worth_of named whole ≡ None)
      → Explains named complaint part → Explains named complaint whole
  Explains-whole ExpectedOperand part whole none says = says
  Explains-whole ExpectedOperator part whole none says = says
  Explains-whole ExpectedClosing part whole none says = says
  Explains-whole TooLarge part whole none says = none says
  Explains-whole NoValue part whole none says = none says
  Explains-whole DivisionByZero part whole none says = none says
  Explains-whole Overflow part whole none says = none says
  Explains-whole TooDeep part whole none says = says
  Explains-whole Memory part whole none says = says
