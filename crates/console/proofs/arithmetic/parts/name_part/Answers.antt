use Rattle.std.proofs.Common.{FitsSigned, w64, sym, refl, ◌∙◌, rules, subst}
use Rattle.std.proofs.lemmas.Int.{to_z-of_z}
use Rattle.console.specs.Names.{value_in}
use Rattle.console.specs.declared.arithmetic.operator.Rank.TheVariants.{Factor}
use Rattle.console.specs.Parts.{Settles}
use Rattle.console.proofs.SettleLemmas.{word_settles, word_unknown}
use Rattle.console.proofs.PartLemmas.{word_part}
use Rattle.console.proofs.arithmetic.parts.name_part.Goals as goal

pub returns-in-Some-clause-ok : goal.returns-in-Some-clause-ok
returns-in-Some-clause-ok c =
    let fits : FitsSigned w64 c.in-Some.value = search rules in
    rw (to_z-of_z w64 c.in-Some.value fits)
    (word_part _ _ c.args.at c.args.name.now _ c.requires (sym c.value.ensures ∙ c.in-Some.is) refl)

pub returns-in-Some-clause-settled : goal.returns-in-Some-clause-settled
returns-in-Some-clause-settled c =
    let fits : FitsSigned w64 c.in-Some.value = search rules in
    rw (to_z-of_z w64 c.in-Some.value fits)
    (word_settles c.args.tokens.now (value_in c.args.names.now) c.args.at c.args.name.now _ c.requires (sym c.value.ensures ∙ c.in-Some.is) refl)

pub returns-in-None-clause-settled : goal.returns-in-None-clause-settled
returns-in-None-clause-settled c =
    subst (Settles c.args.tokens.now (value_in c.args.names.now) Factor c.args.at) (sym c.fail.ensures)
    (word_unknown c.args.tokens.now (value_in c.args.names.now) c.args.at c.args.name.now c.args.at c.requires (sym c.value.ensures ∙ c.in-None.is))
