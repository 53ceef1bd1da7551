use Rattle.std.proofs.Common.{arith}
use Rattle.std.proofs.lemmas.Grind.{common_steps}
use Rattle.line_editor.proofs.edit.State.show_verdict.Goals as goal

pub returns-else-is_some : goal.returns-else-is_some
returns-else-is_some g c = grind (arith, common_steps)
