use Rattle.std.proofs.Common.{FitsSigned, w64, refl, rules}
use Rattle.std.proofs.lemmas.Int.{to_z-of_z}
use Rattle.console.proofs.PartLemmas.{joined_part}
use Rattle.console.proofs.arithmetic.parts.operation_part.Goals as goal

pub returns-in-Ok-clause-ok : goal.returns-in-Ok-clause-ok
returns-in-Ok-clause-ok c =
    let fits : FitsSigned w64 c.in-Ok.value = search rules in
    let left_fits : FitsSigned w64 c.args.left.value = search rules in
    let right_fits : FitsSigned w64 c.args.right.value = search rules in
    rw (to_z-of_z w64 c.in-Ok.value fits)
    (joined_part _ _ c.args.at c.args.operator c.args.left c.args.right _ c.requires.left c.requires.operator c.requires.right
    (rw (to_z-of_z w64 c.args.left.value left_fits, to_z-of_z w64 c.args.right.value right_fits) at c.in-Ok.ensures.ok) refl)
