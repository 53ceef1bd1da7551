use Rattle.line_parts.proofs.TextLawLemmas.{saved_v3_is_read}
use Rattle.line_parts.proofs.laws.saved_v3_is_read.Goals as goal

pub returns : goal.returns
returns c = saved_v3_is_read
