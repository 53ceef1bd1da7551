use Rattle.line_buffer.proofs.GroupLemmas.{none_open}
use Rattle.line_buffer.proofs.laws.none_counted_none_open.Goals as goal

pub returns : goal.returns
returns c = none_open
