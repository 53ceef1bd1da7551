use Rattle.line_editor.proofs.HistoryWayLaws.{coming-back}
use Rattle.line_editor.proofs.laws.coming_back_restores_the_line.Goals as goal

pub returns : goal.returns
returns c = coming-back
