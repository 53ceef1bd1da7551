use Rattle.std.proofs.Common.{arith}
use Rattle.std.proofs.lemmas.Grind.{common_steps}
use Rattle.line_editor.proofs.edit.State.drop_hint.Goals as goal

pub returns-else-not-is_default_prompt : goal.returns-else-not-is_default_prompt
returns-else-not-is_default_prompt g c = grind (arith, common_steps)
