use Rattle.std.proofs.Common.{sym}
use Rattle.line_input.specs.Binding.{bound_of}
use Rattle.line_input.proofs.BoundLemmas.{key_unsure}
use Rattle.line_input.proofs.ReadingLemmas.{io_only}
use Rattle.line_input.proofs.input_state.InputState.custom_binding.Goals as goal

pub returns-in-Some-clause-io : goal.returns-in-Some-clause-io
returns-in-Some-clause-io g c =
    io_only c.bound.result (key_unsure (bound_of g.C.ConditionalEventHandler c.args.self.now.bindings.now) c.args.key _ (sym c.in-Some.ensures)) c.bound.ensures.io
