use Rattle.line_buffer.proofs.RowLemmas.{come_round}
use Rattle.line_buffer.proofs.laws.yank_pops_come_round.Goals as goal

pub returns : goal.returns
returns c = come_round
