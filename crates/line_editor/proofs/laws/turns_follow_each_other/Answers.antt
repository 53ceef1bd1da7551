use Rattle.line_editor.proofs.TurnLaws.{turns-follow}
use Rattle.line_editor.proofs.laws.turns_follow_each_other.Goals as goal

pub returns : goal.returns
returns c = turns-follow
