use Rattle.std.proofs.Common.{length}
use Rattle.line_input.proofs.CountedLemmas.{Counting}
use Rattle.line_input.proofs.input_state.InputState.read_count.Given as goal

abbrev pub invariant-keys : goal.invariant-keys
invariant-keys g l = Counting g.W.EditorState g.R.RawReader l.fn.wrt l.fn.rdr l.fn.mode l.fn.first l.typed l.wrt l.rdr

abbrev pub decreases-keys : goal.decreases-keys
decreases-keys g l = length (g.R.RawReader.rest l.rdr)
