use Rattle.std.proofs.Common.{w64, refl}
use Rattle.std.proofs.lemmas.Int.{to_z-of_z}
use Rattle.console.specs.Names.{value_in}
use Rattle.console.proofs.PartLemmas.{figure_part}
use Rattle.console.proofs.SettleLemmas.{figure_settles}
use Rattle.console.proofs.arithmetic.parts.number_part.Goals as goal

pub returns-clause-part : goal.returns-clause-part
returns-clause-part c =
    rw (to_z-of_z w64 c.args.value c.ranges.value)
    (figure_part c.args.tokens.now (value_in c.args.names.now) c.args.at c.args.value _ c.requires c.ranges.value refl)

pub returns-clause-settled : goal.returns-clause-settled
returns-clause-settled c =
    rw (to_z-of_z w64 c.args.value c.ranges.value)
    (figure_settles c.args.tokens.now (value_in c.args.names.now) c.args.at c.args.value _ c.requires c.ranges.value refl)
