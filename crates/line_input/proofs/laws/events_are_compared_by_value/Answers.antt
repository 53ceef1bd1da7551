use Rattle.line_input.proofs.ChordLemmas.{same_chord-says}
use Rattle.line_input.proofs.laws.events_are_compared_by_value.Goals as goal

pub returns : goal.returns
returns c = same_chord-says
