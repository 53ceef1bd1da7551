use Rattle.std.proofs.lemmas.Result.{err_from_is_err_and}
use Rattle.line_keys.specs.Command.{command_of}
use Rattle.line_input.specs.Input.{in_mode}
use Rattle.line_input.specs.InputState.{input_of, keys_of, read_input}
use Rattle.line_input.specs.declared.input_state.phrases.Read.{Read}
use Rattle.line_input.proofs.PhraseReadLemmas.{count_part, counted_part}
use Rattle.line_input.proofs.input_state.InputState.read_counted.Goals as goal

pub returns : goal.returns
returns g c =
    let k = keys_of g.C.ConditionalEventHandler c.args.self.now in
    counted_part g.W.EditorState g.R.RawReader (λ (x : Read). command_of x.command) (λ x. read_input x k.input) c.args.wrt.now k c.args.rdr.now (in_mode c.args.mode (input_of c.args.self.now)) c.args.first _ _ _ _ c.in_ok-count.ensures
    c.requires _ _ _ c.read_behind.ensures

pub returns-in_err-count : goal.returns-in_err-count
returns-in_err-count g c =
    let k = keys_of g.C.ConditionalEventHandler c.args.self.now in
    let p = err_from_is_err_and c.from_residual.result c.from_residual.ensures.1 in
    rw (p.1, p.2) (count_part g.W.EditorState g.R.RawReader (λ (x : Read). command_of x.command) (λ x. read_input x k.input) c.args.wrt.now k c.args.rdr.now (in_mode c.args.mode (input_of c.args.self.now)) c.args.first _ _ _
    c.requires c.in_err-count.ensures)
