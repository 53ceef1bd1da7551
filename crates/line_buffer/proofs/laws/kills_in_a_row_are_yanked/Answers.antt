use Rattle.line_buffer.proofs.RowLemmas.{row_is_yanked}
use Rattle.line_buffer.proofs.laws.kills_in_a_row_are_yanked.Goals as goal

pub returns : goal.returns
returns c = row_is_yanked
