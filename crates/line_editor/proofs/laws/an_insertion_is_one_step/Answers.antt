use Rattle.line_editor.proofs.InsertionLaws.{insertion-is-one-step}
use Rattle.line_editor.proofs.laws.an_insertion_is_one_step.Goals as goal

pub returns : goal.returns
returns c = insertion-is-one-step
