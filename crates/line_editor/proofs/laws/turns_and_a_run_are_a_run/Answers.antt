use Rattle.line_editor.proofs.TurnLaws.{turns-and-run}
use Rattle.line_editor.proofs.laws.turns_and_a_run_are_a_run.Goals as goal

pub returns : goal.returns
returns c = turns-and-run
