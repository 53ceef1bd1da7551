use Rattle.line_input.proofs.PhraseLemmas.{phrases-fit}
use Rattle.line_input.proofs.laws.phrases_are_prefix_free.Goals as goal

pub returns : goal.returns
returns c = phrases-fit
