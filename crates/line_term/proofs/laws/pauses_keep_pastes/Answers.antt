use Rattle.line_term.proofs.PauseLemmas.{pauses_keep_pastes}
use Rattle.line_term.proofs.laws.pauses_keep_pastes.Goals as goal

pub returns : goal.returns
returns c = pauses_keep_pastes
