use Rattle.line_keys.proofs.KeyLemmas.{settles-code}
use Rattle.line_keys.proofs.laws.normal_form_settles_after_two.Goals as goal

pub returns : goal.returns
returns c e = settles-code e.0 e.1
