use Rattle.std.proofs.Common.{arith}
use Rattle.std.proofs.lemmas.Bool.Decides.{nat_tests}
use Rattle.line_buffer.proofs.PartLemmas.{IsSeam-between}
use Rattle.line_buffer.proofs.seams.is_seam.Goals as goal

pub returns-then-before-ne-JOINER : goal.returns-then-before-ne-JOINER
returns-then-before-ne-JOINER c = λ h. IsSeam-between c.args.before c.args.behind (grind (arith, nat_tests)) (c.begins_anew.ensures h)
