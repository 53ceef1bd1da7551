use Rattle.line_editor.proofs.KeysLaws.{keys-taken}
use Rattle.line_editor.proofs.laws.turns_read_keys.Goals as goal

pub returns : goal.returns
returns g c = keys-taken _ _
