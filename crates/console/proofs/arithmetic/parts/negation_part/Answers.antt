use Rattle.std.proofs.Common.{FitsSigned, w64, refl, rules, subst, sym}
use Rattle.std.proofs.lemmas.Int.{to_z-of_z}
use Rattle.console.specs.Names.{value_in}
use Rattle.console.specs.declared.arithmetic.operator.Rank.TheVariants.{Factor}
use Rattle.console.specs.Parts.{Settles}
use Rattle.console.proofs.SettleLemmas.{minus_settles, minus_overflows}
use Rattle.console.proofs.PartLemmas.{negated_part}
use Rattle.console.proofs.arithmetic.parts.negation_part.Goals as goal

pub returns-in-Ok-clause-ok : goal.returns-in-Ok-clause-ok
returns-in-Ok-clause-ok c =
    let fits : FitsSigned w64 c.in-Ok.value = search rules in
    let inner_fits : FitsSigned w64 c.args.inner.value = search rules in
    rw (to_z-of_z w64 c.in-Ok.value fits)
    (negated_part _ _ c.args.at c.args.inner _ c.requires.minus c.requires.inner (rw (to_z-of_z w64 c.args.inner.value inner_fits) at c.in-Ok.ensures.ok) refl)

pub returns-in-Ok-clause-settled : goal.returns-in-Ok-clause-settled
returns-in-Ok-clause-settled c =
    let fits : FitsSigned w64 c.in-Ok.value = search rules in
    let inner_fits : FitsSigned w64 c.args.inner.value = search rules in
    rw (to_z-of_z w64 c.in-Ok.value fits)
    (minus_settles c.args.tokens.now (value_in c.args.names.now) c.args.at c.args.inner _ c.requires.minus c.requires.settled
    (rw (to_z-of_z w64 c.args.inner.value inner_fits) at c.in-Ok.ensures.ok) refl)

pub returns-in-Err-clause-settled : goal.returns-in-Err-clause-settled
returns-in-Err-clause-settled c =
    let inner_fits : FitsSigned w64 c.args.inner.value = search rules in
    let complaint = c.in-Err.ensures.complaint in
    subst (Settles c.args.tokens.now (value_in c.args.names.now) Factor c.args.at) (sym (rw complaint at c.fail.ensures))
    (minus_overflows c.args.tokens.now (value_in c.args.names.now) c.args.at c.args.inner c.args.at c.requires.minus c.requires.settled
    (rw (to_z-of_z w64 c.args.inner.value inner_fits) at c.in-Err.ensures.err))
