use Rattle.std.proofs.Common.{◌+◌, Ok, Err, subst, sym, ap, ◌∙◌, rules}
use Rattle.std.proofs.lemmas.Result.{err_from_is_err_and}
use Rattle.console.specs.declared.arithmetic.operator.Rank.TheVariants.{Factor}
use Rattle.console.specs.declared.arithmetic.parts.Fault.{Fault}
use Rattle.console.specs.Grammar.{sign}
use Rattle.console.specs.Tokens.{symbol_of}
use Rattle.console.proofs.arithmetic.parts.+parts.Goals.{read_factor-in_default-via-in-Some+in-Operator+in_default, read_factor-in_default-via-in-Some+in_default, read_factor-in_default-via-in_default}
use Rattle.console.specs.Names.{value_in}
use Rattle.console.specs.Parts.{IsSymbolAt, IsPart, Settles}
use Rattle.console.proofs.PartLemmas.{looser_part}
use Rattle.console.proofs.SettleLemmas.{first_goes, first_refused, going_on, right_refused, operation_refused, all_settles, minus_refused, bracket_refused, other_settles, end_settles}
use Rattle.console.proofs.arithmetic.parts.+parts.Goals as goal

-- the first operand is a part of the rank already
pub read_part-loop-operator-init : goal.read_part-loop-operator-init
read_part-loop-operator-init t c =
    let tokens = c.args.tokens.now in
    let named = value_in c.args.names.now in
    let inner = c.in-Some.ensures.some in
    record {
      part = looser_part tokens named c.args.rank c.args.at c.in_ok-part.part
          (subst (λ r. IsPart tokens named r c.args.at c.in_ok-part.part) inner.0 c.in_ok-part.ensures.ok);
      going = first_goes tokens named c.args.at c.args.rank c.in_ok-part.part inner.1
          (subst (λ r. Settles tokens named r c.args.at (Ok c.in_ok-part.part)) inner.0 c.in_ok-part.ensures.settled);
    }

pub read_part-loop-operator-preserved : goal.read_part-loop-operator-preserved
read_part-loop-operator-preserved t c =
    let tokens = c.args.tokens.now in
    let named = value_in c.args.names.now in
    let inner = c.in-Some.ensures.some in
    let at = c.in-Some-operator_at.ensures.some in
    let done = c.in_ok-part-2.ensures in
    record {
      part = subst (λ r. IsPart tokens named r c.args.at c.in_ok-part-2.part) at.1 done.ok;
      going = going_on tokens named c.args.at c.args.rank c.in-Some-operator_at.operator c.loop-operator.part c.in_ok-right.right c.in_ok-part-2.part
          inner.1 c.loop-operator.invariant.going at.0 at.1
          (subst (λ r. Settles tokens named r (c.loop-operator.part.next + 1) (Ok c.in_ok-right.right)) inner.0 c.in_ok-right.ensures.settled)
          done.worth done.next;
    }

pub read_part-returns-clause-settled : goal.read_part-returns-clause-settled
read_part-returns-clause-settled t c =
    all_settles c.args.tokens.now (value_in c.args.names.now) c.args.at c.args.rank c.loop-operator.part c.loop-operator.invariant.going
    (rw c.in_default-operator_at.is at c.operator_at.ensures.none)

-- the fault of the first operand
pub read_part-returns-in_err-part-clause-settled : goal.read_part-returns-in_err-part-clause-settled
read_part-returns-in_err-part-clause-settled t c =
    let tokens = c.args.tokens.now in
    let named = value_in c.args.names.now in
    let inner = c.in-Some.ensures.some in
    let fault = c.in_err-part.field-0.0 in
    let p = err_from_is_err_and c.from_residual.result c.from_residual.ensures.1 in
    subst (Settles tokens named c.args.rank c.args.at) (sym (p.1 ∙ ap Err p.2))
    (first_refused tokens named c.args.at c.args.rank fault inner.1
    (subst (λ r. Settles tokens named r c.args.at (Err fault)) inner.0 c.in_err-part.ensures.settled))

-- the fault of a later operand
pub read_part-returns-in_err-right-clause-settled : goal.read_part-returns-in_err-right-clause-settled
read_part-returns-in_err-right-clause-settled t c =
    let tokens = c.args.tokens.now in
    let named = value_in c.args.names.now in
    let inner = c.in-Some.ensures.some in
    let at = c.in-Some-operator_at.ensures.some in
    let fault = c.in_err-right.field-0.0 in
    let p = err_from_is_err_and c.from_residual-in_err-right.result c.from_residual-in_err-right.ensures.1 in
    subst (Settles tokens named c.args.rank c.args.at) (sym (p.1 ∙ ap Err p.2))
    (right_refused tokens named c.args.at c.args.rank c.in-Some-operator_at.operator c.loop-operator.part fault
    inner.1 c.loop-operator.invariant.going at.0 at.1
    (subst (λ r. Settles tokens named r (c.loop-operator.part.next + 1) (Err fault)) inner.0 c.in_err-right.ensures.settled))

-- the fault of an operation
pub read_part-returns-in_err-part-2-clause-settled : goal.read_part-returns-in_err-part-2-clause-settled
read_part-returns-in_err-part-2-clause-settled t c =
    let tokens = c.args.tokens.now in
    let named = value_in c.args.names.now in
    let inner = c.in-Some.ensures.some in
    let at = c.in-Some-operator_at.ensures.some in
    let fault = c.in_err-part-2.field-0.0 in
    let p = err_from_is_err_and c.from_residual-in_err-part-2.result c.from_residual-in_err-part-2.ensures.1 in
    subst (Settles tokens named c.args.rank c.args.at) (sym (p.1 ∙ ap Err p.2))
    (operation_refused tokens named c.args.at c.args.rank c.in-Some-operator_at.operator c.loop-operator.part c.in_ok-right.right fault
    inner.1 c.loop-operator.invariant.going at.0 at.1
    (subst (λ r. Settles tokens named r (c.loop-operator.part.next + 1) (Ok c.in_ok-right.right)) inner.0 c.in_ok-right.ensures.settled)
    c.in_err-part-2.ensures.none (ap (λ (f : Fault). f.complaint) c.in_err-part-2.ensures.err))

pub read_factor-returns-in_default-clause-settled : goal.read_factor-returns-in_default-clause-settled
read_factor-returns-in_default-clause-settled t c =
    subst (Settles c.args.tokens.now (value_in c.args.names.now) Factor c.args.at) (sym c.fail.ensures)
    (elim c.in_default.branch [
      | read_factor-in_default-via-in-Some+in-Operator+in_default w ↦
          other_settles c.args.tokens.now (value_in c.args.names.now) c.args.at (symbol_of w.in_default.field-0) c.args.at (rw w.in_default.is at c.token_at.ensures) (search rules)
      | read_factor-in_default-via-in-Some+in_default w ↦
          other_settles c.args.tokens.now (value_in c.args.names.now) c.args.at (symbol_of w.in_default.field-0) c.args.at (rw w.in_default.is at c.token_at.ensures) (search rules)
      | read_factor-in_default-via-in_default w ↦
          end_settles c.args.tokens.now (value_in c.args.names.now) c.args.at c.args.at (rw w.in_default.is at c.token_at.ensures)
    ])

-- the fault of what a minus stands before
pub read_factor-returns-in_err-inner-in-Some-Operator-Minus-clause-settled :
    goal.read_factor-returns-in_err-inner-in-Some-Operator-Minus-clause-settled
read_factor-returns-in_err-inner-in-Some-Operator-Minus-clause-settled t c =
    let tokens = c.args.tokens.now in
    let named = value_in c.args.names.now in
    let fault = c.in_err-inner-in-Some-Operator-Minus.field-0.0 in
    let p = err_from_is_err_and c.from_residual-in_err-inner-in-Some-Operator-Minus.result c.from_residual-in_err-inner-in-Some-Operator-Minus.ensures.1 in
    subst (Settles tokens named Factor c.args.at) (sym (p.1 ∙ ap Err p.2))
    (minus_refused tokens named c.args.at fault
    (subst (λ o. IsSymbolAt tokens c.args.at (sign o)) c.in-Some-Operator-Minus.field-0-0-is
    (subst (λ t'. IsSymbolAt tokens c.args.at (symbol_of t')) c.in-Some-Operator-Minus.field-0-is c.in-Some-Operator-Minus.ensures))
    c.in_err-inner-in-Some-Operator-Minus.ensures.settled)

-- the fault of what stands in brackets
pub read_factor-returns-in_err-inner-in-Some-Opening-clause-settled : goal.read_factor-returns-in_err-inner-in-Some-Opening-clause-settled
read_factor-returns-in_err-inner-in-Some-Opening-clause-settled t c =
    let tokens = c.args.tokens.now in
    let named = value_in c.args.names.now in
    let fault = c.in_err-inner-in-Some-Opening.field-0.0 in
    let p = err_from_is_err_and c.from_residual-in_err-inner-in-Some-Opening.result c.from_residual-in_err-inner-in-Some-Opening.ensures.1 in
    subst (Settles tokens named Factor c.args.at) (sym (p.1 ∙ ap Err p.2))
    (bracket_refused tokens named c.args.at fault
    (subst (λ t'. IsSymbolAt tokens c.args.at (symbol_of t')) c.in-Some-Opening.field-0-is c.in-Some-Opening.ensures)
    c.in_err-inner-in-Some-Opening.ensures.settled)
