use Rattle.std.proofs.lemmas.Result.{err_from_is_err_and}
use Rattle.line_keys.specs.Command.{command_of}
use Rattle.line_input.specs.InputState.{keys_of, read_input}
use Rattle.line_input.specs.declared.input_state.phrases.Read.{Read}
use Rattle.line_input.proofs.PhraseReadLemmas.{command_failed, command_part, remembered_plainly}
use Rattle.line_input.proofs.TypedLemmas.{none_read, was_read}
use Rattle.line_input.proofs.input_state.InputState.next_cmd.Goals as goal

pub returns : goal.returns
returns g c =
    let k = keys_of g.C.ConditionalEventHandler c.args.self.now in
    let first = c.in_ok-first.ensures in
    let told = c.remember.ensures in
    remembered_plainly g.W.EditorState g.R.RawReader (λ (x : Read). command_of x.command) (λ x. read_input x k.input) _ _ c.args.wrt.now _ k _ c.args.rdr.now _ told.memory told.command told.keys told.err
    (command_part g.W.EditorState g.R.RawReader (λ (x : Read). command_of x.command) (λ x. read_input x k.input) c.args.wrt.now k c.args.rdr.now _ _ _ _ _ first.took first.stays first.counts.stays c.in_ok-read.ensures)

pub returns-in_err-first : goal.returns-in_err-first
returns-in_err-first g c =
    let k = keys_of g.C.ConditionalEventHandler c.args.self.now in
    let first = c.in_err-first.ensures in
    let p = err_from_is_err_and c.from_residual.result c.from_residual.ensures.1 in
    rw (p.1, p.2) (none_read g.W.EditorState g.R.RawReader c.args.wrt.now k c.args.rdr.now (λ c d. d) _ _ first.fault first.kept first.stays first.counts)

pub returns-in_err-read : goal.returns-in_err-read
returns-in_err-read g c =
    let k = keys_of g.C.ConditionalEventHandler c.args.self.now in
    let first = c.in_ok-first.ensures in
    let p = err_from_is_err_and c.from_residual-in_err-read.result c.from_residual-in_err-read.ensures.1 in
    rw (p.1, p.2) (command_failed g.W.EditorState g.R.RawReader (λ c d. d) (λ (x : Read). command_of x.command) (λ x. read_input x k.input) _ c.args.wrt.now k c.args.rdr.now _ _ (was_read g.R.RawReader _ c.args.rdr.now _ first.took)
    (command_part g.W.EditorState g.R.RawReader (λ (x : Read). command_of x.command) (λ x. read_input x k.input) c.args.wrt.now k c.args.rdr.now _ _ _ _ _ first.took first.stays first.counts.stays c.in_err-read.ensures))
