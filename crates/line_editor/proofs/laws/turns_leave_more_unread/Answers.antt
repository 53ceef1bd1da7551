use Rattle.line_editor.proofs.TurnLaws.{turns-before-more}
use Rattle.line_editor.proofs.laws.turns_leave_more_unread.Goals as goal

pub returns : goal.returns
returns c = turns-before-more
