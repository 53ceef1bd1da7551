use Rattle.line_buffer.proofs.GroupLemmas.{closed_group}
use Rattle.line_buffer.proofs.laws.closed_group_is_one_step.Goals as goal

pub returns : goal.returns
returns c = closed_group
