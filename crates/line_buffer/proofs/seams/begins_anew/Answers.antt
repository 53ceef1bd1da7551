use Rattle.std.proofs.Common.{arith}
use Rattle.std.proofs.lemmas.Bool.Decides.{nat_tests}
use Rattle.line_buffer.proofs.SeamLemmas.{letter_begins_anew, low_begins_anew}
use Rattle.line_buffer.proofs.seams.begins_anew.Goals as goal

pub returns-then-c-le160 : goal.returns-then-c-le160
returns-then-c-le160 c = λ h. low_begins_anew c.args.c (omega arith) (grind (arith, nat_tests))

pub returns-else-c-le160 : goal.returns-else-c-le160
returns-else-c-le160 c = λ h. letter_begins_anew c.args.c (rw (← c.is_letter.ensures) h)
