use Rattle.std.proofs.lemmas.Result.{err_from_is_err_and}
use Rattle.line_input.specs.Ruler.{grouped}
use Rattle.line_input.specs.InputState.{keys_of}
use Rattle.line_input.proofs.TypedLemmas.{none_read}
use Rattle.line_editor.proofs.edit.State.next_cmd.Goals as goal

pub returns : goal.returns
returns g c =
    let first = c.in_ok-first.ensures in
    c.cmd_from.ensures c.args.rdr.now (record { took = first.took; own = first.stays; stays = first.counts.stays })

pub returns-in_err-first : goal.returns-in_err-first
returns-in_err-first g c =
    let k = keys_of g.C.ConditionalEventHandler c.args.input_state.now in
    let first = c.in_err-first.ensures in
    let p = err_from_is_err_and c.from_residual.result c.from_residual.ensures.1 in
    rw (p.1, p.2) (none_read _ _ c.args.self.now k c.args.rdr.now grouped _ _ first.fault first.kept first.stays first.counts)
