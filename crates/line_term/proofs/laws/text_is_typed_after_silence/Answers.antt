use Rattle.line_term.proofs.SilenceLemmas.{text_is_typed_after_silence}
use Rattle.line_term.proofs.laws.text_is_typed_after_silence.Goals as goal

pub returns : goal.returns
returns c = text_is_typed_after_silence
