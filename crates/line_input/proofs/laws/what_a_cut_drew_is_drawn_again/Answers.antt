use Rattle.line_input.proofs.DrawnAgainLaws.{drawn-again}
use Rattle.line_input.proofs.laws.what_a_cut_drew_is_drawn_again.Goals as goal

pub returns : goal.returns
returns c = drawn-again
