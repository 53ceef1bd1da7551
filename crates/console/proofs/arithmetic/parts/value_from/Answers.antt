use Rattle.std.proofs.Common.{Err, subst, sym, ap, ◌∙◌}
use Rattle.std.proofs.lemmas.Result.{err_from_is_err_and}
use Rattle.console.specs.Names.{value_in}
use Rattle.console.specs.Parts.{SettlesAll}
use Rattle.console.proofs.SettleLemmas.{whole_refused, part_refused}
use Rattle.console.proofs.arithmetic.parts.value_from.Goals as goal

-- the fault of the sum
pub returns-in_err-whole-clause-settled : goal.returns-in_err-whole-clause-settled
returns-in_err-whole-clause-settled c =
    let p = err_from_is_err_and c.from_residual.result c.from_residual.ensures.1 in
    subst (SettlesAll c.args.tokens.now (value_in c.args.names.now) c.args.start) (sym (p.1 ∙ ap Err p.2))
    (whole_refused c.args.tokens.now (value_in c.args.names.now) c.args.start c.in_err-whole.field-0.0 c.in_err-whole.ensures.settled)

-- the sum ends too early
pub returns-then-whole-tokens-clause-settled : goal.returns-then-whole-tokens-clause-settled
returns-then-whole-tokens-clause-settled c =
    subst (SettlesAll c.args.tokens.now (value_in c.args.names.now) c.args.start) (sym c.fail.ensures)
    (part_refused c.args.tokens.now (value_in c.args.names.now) c.args.start c.in_ok-whole.whole c.in_ok-whole.whole.next
    c.in_ok-whole.ensures.settled c.if-whole-tokens.true)
