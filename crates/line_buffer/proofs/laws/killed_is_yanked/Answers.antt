use Rattle.std.proofs.Common.{[]}
use Rattle.line_buffer.proofs.RowLemmas.{row_is_yanked}
use Rattle.line_buffer.proofs.laws.killed_is_yanked.Goals as goal

pub returns : goal.returns
returns c r text mode h some = row_is_yanked r text mode [] h some
