use Rattle.std.proofs.lemmas.Result.{err_from_is_err_and}
use Rattle.line_input.specs.Ruler.{grouped}
use Rattle.line_input.specs.InputState.{keys_of, read_command, read_input}
use Rattle.line_input.proofs.PhraseReadLemmas.{command_failed, command_part, group_fails, remembered}
use Rattle.line_input.proofs.TypedLemmas.{was_read}
use Rattle.line_editor.proofs.EditLemmas.{grouped_so}
use Rattle.line_editor.proofs.edit.State.cmd_from.Goals as goal

pub returns : goal.returns
returns g c = λ reader took.
    let k = keys_of g.C.ConditionalEventHandler c.args.input_state.now in
    let group = c.in_ok-begin_group.ensures in
    let told = c.remember.ensures in
    remembered _ g.W.Reader.RawReader read_command (λ x. read_input x k.input) _ _ c.args.self.now _ _ k _ reader _ told.memory told.command told.keys told.err group.undrawn group.line.0 group.line.1 (grouped_so _ _ _ _ c.command.ensures group.draft.0) group.draft.1
    (command_part _ g.W.Reader.RawReader read_command (λ x. read_input x k.input) c.args.self.now k reader c.args.rdr.now _ _ _ _ took.took took.own took.stays c.in_ok-read.ensures)

pub returns-in_err-read : goal.returns-in_err-read
returns-in_err-read g c = λ reader took.
    let k = keys_of g.C.ConditionalEventHandler c.args.input_state.now in
    let p = err_from_is_err_and c.from_residual.result c.from_residual.ensures.1 in
    rw (p.1, p.2) (command_failed _ g.W.Reader.RawReader grouped read_command (λ x. read_input x k.input) _ c.args.self.now k reader _ _ (was_read g.W.Reader.RawReader c.args.first reader c.args.rdr.now took.took)
    (command_part _ g.W.Reader.RawReader read_command (λ x. read_input x k.input) c.args.self.now k reader c.args.rdr.now _ _ _ _ took.took took.own took.stays c.in_err-read.ensures))

pub returns-in_err-begin_group : goal.returns-in_err-begin_group
returns-in_err-begin_group g c = λ reader took.
    let k = keys_of g.C.ConditionalEventHandler c.args.input_state.now in
    let group = c.in_err-begin_group.ensures in
    let p = err_from_is_err_and c.from_residual-in_err-begin_group.result c.from_residual-in_err-begin_group.ensures.1 in
    rw (p.1, p.2) (group_fails _ g.W.Reader.RawReader grouped read_command (λ x. read_input x k.input) _ _ c.args.self.now _ _ k reader _ group.memory group.undrawn group.line.0
    (command_part _ g.W.Reader.RawReader read_command (λ x. read_input x k.input) c.args.self.now k reader c.args.rdr.now _ _ _ _ took.took took.own took.stays c.in_ok-read.ensures))
