use Rattle.std.proofs.Common.{refl, rules}
use Rattle.std.proofs.lemmas.Result.{err_from_is_err_and}
use Rattle.line_keys.specs.Command.{self_insert}
use Rattle.line_keys.specs.declared.cmd.Cmd.TheVariants.{SelfInsert}
use Rattle.line_input.specs.Ruler.{grouped}
use Rattle.line_editor.specs.Editor.{proceeds}
use Rattle.line_input.specs.InputState.{keys_of}
use Rattle.line_editor.specs.declared.run.Turned.TheVariants as turned
use Rattle.line_editor.proofs.CommandLemmas.{edits_ok, edits_wrong}
use Rattle.line_editor.proofs.TurnLemmas.{advanced, goes_wrong, needs_more, stops_reading, tells}
use Rattle.line_input.proofs.TypedLemmas.{none_read, reading_faults, typed_read}
use Rattle.line_editor.proofs.run.take_turn.Goals as goal

pub returns-in-Err-Eof-clause-advances : goal.returns-in-Err-Eof-clause-advances
returns-in-Err-Eof-clause-advances g c =
    let k = keys_of g.C.ConditionalEventHandler c.args.input_state.now in
    let first = c.in-Err-Eof.ensures in
    needs_more _ _ c.args.state.now _ k _ _ c.args.rdr.now _ _ _ (none_read _ _ c.args.state.now k c.args.rdr.now grouped _ _ first.fault first.kept first.stays first.counts) c.in-Err-Eof.field-0-is

pub returns-in-Err-clause-advances : goal.returns-in-Err-clause-advances
returns-in-Err-clause-advances g c =
    let k = keys_of g.C.ConditionalEventHandler c.args.input_state.now in
    let first = c.in-Err.ensures in
    stops_reading _ _ c.args.state.now _ k _ _ c.args.rdr.now _ _ c.in-Err.error (none_read _ _ c.args.state.now k c.args.rdr.now grouped _ _ first.fault first.kept first.stays first.counts)
    (reading_faults c.in-Err.error _ first.fault (search rules))

pub returns-in_default-clause-advances : goal.returns-in_default-clause-advances
returns-in_default-clause-advances g c =
    let first = c.in-Ok.ensures in
    c.take_turn_from.ensures.advances c.args.rdr.now (record { took = first.took; own = first.stays; stays = first.counts.stays })

pub returns-clause-advances : goal.returns-clause-advances
returns-clause-advances g c =
    let k = keys_of g.C.ConditionalEventHandler c.args.input_state.now in
    let first = c.in-Ok.ensures in
    let done = edits_ok _ c.args.state.now c.edit_insert.new.self k.input c.args.config.now.indent_size c.reset.new.self c.reset.new.self (self_insert 1 c.in-Some.c) c.in_ok-edit_insert.field-0 _ refl refl _ c.in_ok-edit_insert.ensures in
    advanced _ _ c.args.state.now c.args.state.now c.edit_insert.new.self k k c.args.config.now.indent_size c.args.rdr.now _ c.args.kill_ring.now c.reset.new.self c.reset.new.self (SelfInsert 1 c.in-Some.c)
    (typed_read _ _ c.args.state.now k c.args.rdr.now _ c.in-Ok.first c.in-Some.c (record { took = first.took; own = first.stays; stays = first.counts.stays }) c.in-Some.ensures) c.reset.ensures proceeds turned.Proceeds done done.comes done.quiet (λ t. t)

pub returns-clause-left : goal.returns-clause-left
returns-clause-left g c =
    let k = keys_of g.C.ConditionalEventHandler c.args.input_state.now in
    let first = c.in-Ok.ensures in
    tells _ _ c.args.state.now c.args.state.now c.edit_insert.new.self k k c.args.config.now.indent_size c.args.rdr.now _ c.args.kill_ring.now c.reset.new.self c.reset.new.self (SelfInsert 1 c.in-Some.c)
    (typed_read _ _ c.args.state.now k c.args.rdr.now _ c.in-Ok.first c.in-Some.c (record { took = first.took; own = first.stays; stays = first.counts.stays }) c.in-Some.ensures) c.reset.ensures _ refl

pub returns-in_err-edit_insert-clause-advances : goal.returns-in_err-edit_insert-clause-advances
returns-in_err-edit_insert-clause-advances g c =
    let k = keys_of g.C.ConditionalEventHandler c.args.input_state.now in
    let first = c.in-Ok.ensures in
    let p = err_from_is_err_and c.from_residual.result c.from_residual.ensures.1 in
    let went = c.in_err-edit_insert.ensures in
    rw (p.1, p.2) (goes_wrong _ _ c.args.state.now c.args.state.now c.edit_insert.new.self k k c.args.config.now.indent_size c.args.rdr.now _ c.args.kill_ring.now c.reset.new.self c.reset.new.self (SelfInsert 1 c.in-Some.c)
    (typed_read _ _ c.args.state.now k c.args.rdr.now _ c.in-Ok.first c.in-Some.c (record { took = first.took; own = first.stays; stays = first.counts.stays }) c.in-Some.ensures) c.reset.ensures _ went.fails.faults
    (edits_wrong _ c.args.state.now c.edit_insert.new.self k.input c.args.config.now.indent_size c.reset.new.self c.reset.new.self (self_insert 1 c.in-Some.c) _ _ _ refl refl went))
