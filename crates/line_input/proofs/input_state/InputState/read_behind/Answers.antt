use Rattle.std.proofs.Common.{[], ap, sym, ◌∙◌, option_map}
use Rattle.std.specs.Prelude.{unwrap_or}
use Rattle.std.proofs.lemmas.Result.{err_from_is_err_and}
use Rattle.line_keys.specs.Command.{command_of}
use Rattle.line_keys.specs.Row.{entry_value}
use Rattle.line_input.specs.Input.{in_mode}
use Rattle.line_input.specs.InputState.{input_of, keys_of, read_input}
use Rattle.line_input.specs.Keymap.{keymap_of}
use Rattle.line_input.specs.Phrase.{Keyed}
use Rattle.line_input.specs.declared.input_state.phrases.Read.{Read}
use Rattle.line_input.proofs.BeginLemmas.{keyed-begins}
use Rattle.line_input.proofs.PartLemmas.{at_once_part, refused_part}
use Rattle.line_input.proofs.PhraseLemmas.{bound-read, own-read}
use Rattle.line_input.proofs.PhraseReadLemmas.{row_fails, row_memory, row_read}
use Rattle.line_input.proofs.input_state.InputState.read_behind.Goals as goal

pub returns-in-Some : goal.returns-in-Some
returns-in-Some g c =
    let k = keys_of g.C.ConditionalEventHandler c.args.self.now in
    let i = in_mode c.args.mode (input_of c.args.self.now) in
    let keymap = keymap_of k (g.R.RawReader.own_binding (g.R.RawReader.kept c.args.rdr.now)) in
    let draft = g.W.EditorState.draft c.args.wrt.now in
    let environment = g.W.EditorState.environment c.args.wrt.now in
    let bound = ap (λ o. option_map command_of o) (sym c.in-Some.is) ∙ c.in_ok-command.ensures.command (g.R.RawReader.own_binding (g.R.RawReader.kept c.args.rdr.now)) in
    at_once_part g.W.EditorState g.R.RawReader (λ items read. Keyed keymap environment draft i c.args.typed c.args.key items read) (λ c d. d)
    (λ (x : Read). command_of x.command) (λ x. read_input x k.input) _ i c.args.wrt.now k c.args.rdr.now
    (rw c.at_once.ensures.command (bound-read keymap environment draft i c.args.typed c.args.key _ bound)) c.at_once.ensures.input

pub returns-in-Some-own_command : goal.returns-in-Some-own_command
returns-in-Some-own_command g c =
    let k = keys_of g.C.ConditionalEventHandler c.args.self.now in
    let i = in_mode c.args.mode (input_of c.args.self.now) in
    let own = g.R.RawReader.own_binding (g.R.RawReader.kept c.args.rdr.now) in
    let keymap = keymap_of k own in
    let draft = g.W.EditorState.draft c.args.wrt.now in
    let environment = g.W.EditorState.environment c.args.wrt.now in
    let unbound = ap (λ o. option_map command_of o) (sym c.in_default.is) ∙ c.in_ok-command.ensures.command own in
    at_once_part g.W.EditorState g.R.RawReader (λ items read. Keyed keymap environment draft i c.args.typed c.args.key items read) (λ c d. d)
    (λ (x : Read). command_of x.command) (λ x. read_input x k.input) _ i c.args.wrt.now k c.args.rdr.now
    (rw c.at_once-in-Some-own_command.ensures.command (own-read keymap environment draft i c.args.typed c.args.key _ unbound c.in-Some-own_command.ensures)) c.at_once-in-Some-own_command.ensures.input

pub returns-in_err-read : goal.returns-in_err-read
returns-in_err-read g c =
    let k = keys_of g.C.ConditionalEventHandler c.args.self.now in
    let i = in_mode c.args.mode (input_of c.args.self.now) in
    let own = g.R.RawReader.own_binding (g.R.RawReader.kept c.args.rdr.now) in
    let unbound = ap (λ o. option_map command_of o) (sym c.in_default.is) ∙ c.in_ok-command.ensures.command own in
    let counted = c.unwrap_or-count.ensures ∙ ap (λ n. unwrap_or c.args.typed n) c.one.ensures in
    let p = err_from_is_err_and c.from_residual-in_err-read.result c.from_residual-in_err-read.ensures.1 in
    rw (p.1, p.2) (row_fails g.W.EditorState g.R.RawReader c.args.wrt.now k c.args.rdr.now i c.args.key c.args.typed _ (entry_value c.entry_of_key-meaning.result) unbound c.in_default-own_command.ensures (sym c.requires) c.entry_of_key-meaning.ensures counted
    (λ (x : Read). command_of x.command) (λ x. read_input x k.input) _ _ _ c.in_err-read.ensures)

pub returns : goal.returns
returns g c =
    let k = keys_of g.C.ConditionalEventHandler c.args.self.now in
    let i = in_mode c.args.mode (input_of c.args.self.now) in
    let own = g.R.RawReader.own_binding (g.R.RawReader.kept c.args.rdr.now) in
    let unbound = ap (λ o. option_map command_of o) (sym c.in_default.is) ∙ c.in_ok-command.ensures.command own in
    let counted = c.unwrap_or-count.ensures ∙ ap (λ n. unwrap_or c.args.typed n) c.one.ensures in
    let group = c.in_ok-change_group.ensures in
    row_read g.W.EditorState g.R.RawReader c.args.wrt.now k c.args.rdr.now i c.args.key c.args.typed _ (entry_value c.entry_of_key-meaning.result) unbound c.in_default-own_command.ensures (sym c.requires) c.entry_of_key-meaning.ensures counted
    (λ (x : Read). command_of x.command) (λ x. read_input x k.input) _ _ _ _ _ c.in_ok-read.ensures group.draft group.line.0 group.line.1 group.start group.undrawn c.set_remembered.ensures.command c.set_remembered.ensures.input

pub returns-in_err-command : goal.returns-in_err-command
returns-in_err-command g c =
    let k = keys_of g.C.ConditionalEventHandler c.args.self.now in
    let i = in_mode c.args.mode (input_of c.args.self.now) in
    let keymap = keymap_of k (g.R.RawReader.own_binding (g.R.RawReader.kept c.args.rdr.now)) in
    let draft = g.W.EditorState.draft c.args.wrt.now in
    let environment = g.W.EditorState.environment c.args.wrt.now in
    let p = err_from_is_err_and c.from_residual.result c.from_residual.ensures.1 in
    rw (p.1, p.2) (refused_part g.W.EditorState g.R.RawReader (λ items read. Keyed keymap environment draft i c.args.typed c.args.key items read) [] draft (λ c d. d)
    (λ (x : Read). command_of x.command) (λ x. read_input x k.input) _ c.args.wrt.now k c.args.rdr.now c.in_err-command.ensures.faults c.in_err-command.ensures.io
    (keyed-begins keymap environment draft i c.args.typed c.args.key c.requires))

pub returns-in_err-change_group : goal.returns-in_err-change_group
returns-in_err-change_group g c =
    let k = keys_of g.C.ConditionalEventHandler c.args.self.now in
    let i = in_mode c.args.mode (input_of c.args.self.now) in
    let own = g.R.RawReader.own_binding (g.R.RawReader.kept c.args.rdr.now) in
    let unbound = ap (λ o. option_map command_of o) (sym c.in_default.is) ∙ c.in_ok-command.ensures.command own in
    let counted = c.unwrap_or-count.ensures ∙ ap (λ n. unwrap_or c.args.typed n) c.one.ensures in
    let group = c.in_err-change_group.ensures in
    let p = err_from_is_err_and c.from_residual-in_err-change_group.result c.from_residual-in_err-change_group.ensures.1 in
    rw (p.1, p.2) (row_memory g.W.EditorState g.R.RawReader c.args.wrt.now k c.args.rdr.now i c.args.key c.args.typed _ (entry_value c.entry_of_key-meaning.result) unbound c.in_default-own_command.ensures (sym c.requires) c.entry_of_key-meaning.ensures counted
    (λ (x : Read). command_of x.command) (λ x. read_input x k.input) _ _ _ _ _ group.memory group.undrawn group.line.0 c.in_ok-read.ensures)
