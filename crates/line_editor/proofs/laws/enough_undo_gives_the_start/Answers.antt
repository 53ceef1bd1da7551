use Rattle.line_editor.proofs.UndoLaws.{enough-undo}
use Rattle.line_editor.proofs.laws.enough_undo_gives_the_start.Goals as goal

pub returns : goal.returns
returns c = enough-undo
