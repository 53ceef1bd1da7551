use Rattle.line_editor.proofs.RunLaws.{runs-fit}
use Rattle.line_editor.proofs.laws.runs_have_one_end.Goals as goal

pub returns : goal.returns
returns c = runs-fit
