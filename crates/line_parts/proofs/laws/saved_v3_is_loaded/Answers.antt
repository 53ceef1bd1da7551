use Rattle.line_parts.proofs.TextLawLemmas.{saved_v3_is_loaded}
use Rattle.line_parts.proofs.laws.saved_v3_is_loaded.Goals as goal

pub returns : goal.returns
returns c = saved_v3_is_loaded
