use Rattle.line_input.proofs.input_state.InputState.answer.Goals as goal

pub returns-in_ok-event-in-Conditional-clause-command : goal.returns-in_ok-event-in-Conditional-clause-command
returns-in_ok-event-in-Conditional-clause-command g c =
    rw (← c.in_ok-event-in-Conditional.ensures.event, ← c.new-context.ensures, c.in-Conditional.is) c.handle.ensures.answer
