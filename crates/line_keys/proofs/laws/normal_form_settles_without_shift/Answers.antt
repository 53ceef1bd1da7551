use Rattle.line_keys.proofs.KeyLemmas.{settles-code-at-once}
use Rattle.line_keys.proofs.laws.normal_form_settles_without_shift.Goals as goal

pub returns : goal.returns
returns c e small none = settles-code-at-once e.0 e.1 small none
