use Rattle.line_term.proofs.HeldLemmas.{held_is_typed}
use Rattle.line_term.proofs.laws.held_is_typed.Goals as goal

pub returns : goal.returns
returns c = held_is_typed
