use Rattle.line_buffer.proofs.RowLemmas.{row_of_kills}
use Rattle.line_buffer.proofs.laws.kills_in_a_row_share_a_slot.Goals as goal

pub returns : goal.returns
returns c = row_of_kills
