use Rattle.line_term.proofs.SilenceLemmas.{silence_settles}
use Rattle.line_term.proofs.laws.silence_settles.Goals as goal

pub returns : goal.returns
returns c = silence_settles
