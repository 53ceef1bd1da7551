use Rattle.std.proofs.Common.{sym}
use Rattle.line_keys.specs.Command.{command_of}
use Rattle.line_input.specs.Input.{in_mode}
use Rattle.line_input.specs.InputState.{input_of, keys_of, read_input}
use Rattle.line_input.specs.declared.input_state.phrases.Read.{Read}
use Rattle.line_input.proofs.PhraseReadLemmas.{plain_part}
use Rattle.line_input.proofs.input_state.InputState.read_spelled.Goals as goal

pub returns : goal.returns
returns g c =
    let k = keys_of g.C.ConditionalEventHandler c.args.self.now in
    plain_part g.W.EditorState g.R.RawReader (λ (x : Read). command_of x.command) (λ x. read_input x k.input) c.args.wrt.now k c.args.rdr.now (in_mode c.args.mode (input_of c.args.self.now)) c.args.first _ _ _
    (sym c.if-begins_count.ensures) c.read_behind.ensures
