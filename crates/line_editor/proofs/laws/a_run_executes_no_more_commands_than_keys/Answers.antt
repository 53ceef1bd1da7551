use Rattle.line_editor.proofs.KeysLaws.{few-commands}
use Rattle.line_editor.proofs.laws.a_run_executes_no_more_commands_than_keys.Goals as goal

pub returns : goal.returns
returns c = few-commands
