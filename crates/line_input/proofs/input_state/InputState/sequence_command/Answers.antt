use Rattle.std.proofs.Common.{sym}
use Rattle.line_input.specs.Binding.{bound_of}
use Rattle.line_input.specs.Event.{keys}
use Rattle.line_input.proofs.BoundLemmas.{among_unsure}
use Rattle.line_input.proofs.ReadingLemmas.{io_only}
use Rattle.line_input.proofs.input_state.InputState.sequence_command.Goals as goal

pub returns-in-Some-clause-io : goal.returns-in-Some-clause-io
returns-in-Some-clause-io g c =
    let bound = bound_of g.C.ConditionalEventHandler c.args.self.now.bindings.now in
    io_only _ (λ unsure. among_unsure bound (keys c.args.sequence.now) _ (sym c.in-Some.ensures) unsure) c.answer.ensures.io
