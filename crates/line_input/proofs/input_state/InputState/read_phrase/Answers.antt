use Rattle.std.proofs.Common.{None, refl, sym, ◌∙◌}
use Rattle.line_keys.specs.Command.{command_of}
use Rattle.line_input.specs.InputState.{input_of, keys_of, read_input}
use Rattle.line_input.specs.Keymap.{keymap_of}
use Rattle.line_input.specs.declared.input_state.phrases.Read.{Read}
use Rattle.line_input.proofs.PhraseLemmas.{none-entered}
use Rattle.line_input.proofs.PhraseReadLemmas.{mode_part}
use Rattle.line_input.proofs.input_state.InputState.read_phrase.Goals as goal

pub returns-in-None : goal.returns-in-None
returns-in-None g c =
    let k = keys_of g.C.ConditionalEventHandler c.args.self.now in
    let i = input_of c.args.self.now in
    let keymap = keymap_of k (g.R.RawReader.own_binding (g.R.RawReader.kept c.args.rdr.now)) in
    let stays = none-entered keymap (g.W.EditorState.environment c.args.wrt.now) (g.W.EditorState.draft c.args.wrt.now) i None c.args.first (sym c.in-None.is ∙ c.stands_for.ensures) in
    mode_part g.W.EditorState g.R.RawReader (λ (x : Read). command_of x.command) (λ x. read_input x i) c.args.wrt.now k c.args.rdr.now i c.args.first _ _ _ refl stays c.read_spelled.ensures
