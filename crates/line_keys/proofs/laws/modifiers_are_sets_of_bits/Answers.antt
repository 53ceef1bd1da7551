use Rattle.line_keys.proofs.SetLemmas.{are-sets}
use Rattle.line_keys.proofs.laws.modifiers_are_sets_of_bits.Goals as goal

pub returns : goal.returns
returns c = are-sets
