use Rattle.std.proofs.Common.{arith}
use Rattle.std.proofs.lemmas.Grind.{common_steps}
use Rattle.line_parts.proofs.escaped_line.read_escape.Goals as goal

pub returns-in-92 : goal.returns-in-92
returns-in-92 c = grind (arith, common_steps)

pub returns-in_default : goal.returns-in_default
returns-in_default c = grind (arith, common_steps)
