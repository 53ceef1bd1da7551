use Rattle.std.proofs.Common.{refl}
use Rattle.line_editor.proofs.TurnLemmas.{done_so, needs_more, tells_so}
use Rattle.line_editor.proofs.run.take_turn_from.Goals as goal

pub returns-in-Ok-Some-clause-advances : goal.returns-in-Ok-Some-clause-advances
returns-in-Ok-Some-clause-advances g c = λ reader took.
    let told = rw c.in-Ok-Some.field-0-is at c.in-Ok-Some.ensures.read in
    let read = rw (← told) at (c.cmd_from-read.ensures reader took) in
    done_so _ _ _ _ _ _ _ c.args.config.now.indent_size _ _ _ _ _ _ read (rw c.in-Ok-Some.field-0-is at c.in-Ok-Some.ensures.reset) _ c.do_turn.ensures.does

pub returns-in-Ok-Some-clause-left : goal.returns-in-Ok-Some-clause-left
returns-in-Ok-Some-clause-left g c = λ reader took.
    let told = rw c.in-Ok-Some.field-0-is at c.in-Ok-Some.ensures.read in
    let read = rw (← told) at (c.cmd_from-read.ensures reader took) in
    tells_so _ _ _ _ _ _ _ c.args.config.now.indent_size _ _ _ _ _ _ read (rw c.in-Ok-Some.field-0-is at c.in-Ok-Some.ensures.reset) _ c.do_turn.ensures.does

pub returns-in-Ok-None-clause-advances : goal.returns-in-Ok-None-clause-advances
returns-in-Ok-None-clause-advances g c = λ reader took.
    let told = rw c.in-Ok-None.field-0-is at c.in-Ok-None.ensures.read in
    let read = rw (← told) at (c.cmd_from-read.ensures reader took) in
    rw (rw c.in-Ok-None.field-0-is at c.in-Ok-None.ensures.reset) (needs_more _ _ _ _ _ _ _ _ _ _ _ read refl)
