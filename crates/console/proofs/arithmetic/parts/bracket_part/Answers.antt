use Rattle.std.proofs.Common.{arith, FitsSigned, w64, refl, rules, subst, sym}
use Rattle.std.proofs.lemmas.Grind.{common_steps}
use Rattle.std.proofs.lemmas.Int.{to_z-of_z}
use Rattle.console.specs.Parts.{IsSymbolAt}
use Rattle.console.specs.Tokens.{symbol_of}
use Rattle.console.specs.Names.{value_in}
use Rattle.console.specs.declared.arithmetic.operator.Rank.TheVariants.{Factor}
use Rattle.console.specs.Parts.{Settles}
use Rattle.console.proofs.SettleLemmas.{bracket_settles, bracket_unclosed}
use Rattle.console.proofs.arithmetic.parts.bracket_part.Goals.{in_default-via-in-Some+in_default, in_default-via-in_default}
use Rattle.console.proofs.PartLemmas.{bracketed_part}
use Rattle.console.proofs.arithmetic.parts.bracket_part.Goals as goal

pub returns-in-Some-Closing-clause-ok : goal.returns-in-Some-Closing-clause-ok
returns-in-Some-Closing-clause-ok c =
    let fits : FitsSigned w64 c.args.inner.value = search rules in
    let closes = subst (λ t. IsSymbolAt c.args.tokens.now c.args.inner.next (symbol_of t)) c.in-Some-Closing.field-0-is c.in-Some-Closing.ensures in
    rw (to_z-of_z w64 c.args.inner.value fits)
    (bracketed_part _ _ c.args.at c.args.inner _ c.requires.opening c.requires.inner closes refl refl)

pub returns-in-Some-Closing-clause-settled : goal.returns-in-Some-Closing-clause-settled
returns-in-Some-Closing-clause-settled c =
    let fits : FitsSigned w64 c.args.inner.value = search rules in
    let closes = subst (λ t. IsSymbolAt c.args.tokens.now c.args.inner.next (symbol_of t)) c.in-Some-Closing.field-0-is c.in-Some-Closing.ensures in
    rw (to_z-of_z w64 c.args.inner.value fits)
    (bracket_settles c.args.tokens.now (value_in c.args.names.now) c.args.at c.args.inner _ c.requires.opening c.requires.settled closes refl refl)

pub returns-in_default-clause-settled : goal.returns-in_default-clause-settled
returns-in_default-clause-settled c =
    subst (Settles c.args.tokens.now (value_in c.args.names.now) Factor c.args.at) (sym c.fail.ensures)
    (bracket_unclosed c.args.tokens.now (value_in c.args.names.now) c.args.at c.args.inner c.args.inner.next c.requires.opening c.requires.settled
    (λ behind closes. elim c.in_default.branch [ in_default-via-in-Some+in_default w ↦ search rules | in_default-via-in_default w ↦ grind (arith, common_steps) ]))
