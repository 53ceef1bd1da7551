use Rattle.std.proofs.Common.{refl}
use Rattle.line_editor.proofs.run.do_turn.Goals as goal

pub returns-in-Err-Eof-clause-does : goal.returns-in-Err-Eof-clause-does
returns-in-Err-Eof-clause-does g c =
    let done = rw c.in-Err-Eof.field-0-is at c.in-Err-Eof.ensures.executes in
    record { comes = done.comes refl; tells = refl; wrong = tt; frame = done.frame; io = tt; quiet = done.quiet refl; faults = tt }

pub returns-in-Err-Interrupted-clause-does : goal.returns-in-Err-Interrupted-clause-does
returns-in-Err-Interrupted-clause-does g c =
    let done = rw c.in-Err-Interrupted.field-0-is at c.in-Err-Interrupted.ensures.executes in
    record { comes = done.comes refl; tells = refl; wrong = tt; frame = done.frame; io = tt; quiet = done.quiet refl; faults = tt }
