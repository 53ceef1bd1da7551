use Rattle.line_parts.proofs.TextLawLemmas.{saved_is_loaded}
use Rattle.line_parts.proofs.laws.saved_is_loaded.Goals as goal

pub returns : goal.returns
returns c = saved_is_loaded
