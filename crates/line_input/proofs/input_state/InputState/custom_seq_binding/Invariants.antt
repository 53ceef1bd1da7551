use Rattle.std.proofs.Common.{length}
use Rattle.line_input.specs.Binding.{bound_of}
use Rattle.line_input.specs.Input.{in_mode}
use Rattle.line_input.specs.InputState.{input_of}
use Rattle.line_input.specs.Sequence.{sequences_of}
use Rattle.line_input.proofs.SequenceReadLemmas.{InSequence}
use Rattle.line_input.proofs.input_state.InputState.custom_seq_binding.Given as goal

abbrev pub invariant-keys : goal.invariant-keys
invariant-keys g l =
    InSequence g.R.RawReader
    (sequences_of (bound_of g.C.ConditionalEventHandler l.fn.self.bindings.now) (g.W.EditorState.draft l.fn.wrt) (in_mode l.fn.mode (input_of l.fn.self)) l.fn.count)
    l.fn.first l.fn.rdr l.keys.items l.rdr

abbrev pub decreases-keys : goal.decreases-keys
decreases-keys g l = length (g.R.RawReader.rest l.rdr)
