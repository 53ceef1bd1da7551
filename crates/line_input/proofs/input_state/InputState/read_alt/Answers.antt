use Rattle.std.proofs.Common.{None, [], ◌∷◌, ap, sym, ◌∙◌, option_map}
use Rattle.std.proofs.lemmas.Result.{err_from_is_err_and}
use Rattle.line_keys.specs.Command.{command_of}
use Rattle.line_input.specs.InputState.{input_of, keys_of, read_input}
use Rattle.line_input.specs.Keymap.{keymap_of}
use Rattle.line_input.specs.declared.input_state.phrases.Read.{Read}
use Rattle.line_input.specs.Phrase.{entered}
use Rattle.line_input.specs.Reading.{PhraseHere}
use Rattle.line_keys.specs.Model.Draft.{Draft}
use Rattle.line_keys.specs.Item.{key}
use Rattle.line_input.proofs.BeginLemmas.{key-begins}
use Rattle.line_input.proofs.PartLemmas.{memory_part, refused_part}
use Rattle.line_input.proofs.PhraseLemmas.{alt-stands, bound-entered, bound-read, own-entered, own-read}
use Rattle.line_input.proofs.PhraseReadLemmas.{alone_part, alt_fails, alt_read}
use Rattle.line_input.proofs.input_state.InputState.read_alt.Goals as goal

pub returns-in-Some : goal.returns-in-Some
returns-in-Some g c =
    let k = keys_of g.C.ConditionalEventHandler c.args.self.now in
    let i = input_of c.args.self.now in
    let keymap = keymap_of k (g.R.RawReader.own_binding (g.R.RawReader.kept c.args.rdr.now)) in
    let draft = g.W.EditorState.draft c.args.wrt.now in
    let environment = g.W.EditorState.environment c.args.wrt.now in
    let bound = ap (λ o. option_map command_of o) (sym c.in-Some.is) ∙ c.in_ok-command.ensures.command (g.R.RawReader.own_binding (g.R.RawReader.kept c.args.rdr.now)) in
    alone_part g.W.EditorState g.R.RawReader (λ (x : Read). command_of x.command) (λ x. read_input x i) c.args.wrt.now k c.args.rdr.now c.args.first _ _ c.requires
    (rw c.at_once.ensures.command (bound-read keymap environment draft i None c.args.first _ bound)) c.at_once.ensures.input (bound-entered keymap environment draft i None c.args.first _ bound)

pub returns-in-Some-own_command : goal.returns-in-Some-own_command
returns-in-Some-own_command g c =
    let k = keys_of g.C.ConditionalEventHandler c.args.self.now in
    let i = input_of c.args.self.now in
    let own = g.R.RawReader.own_binding (g.R.RawReader.kept c.args.rdr.now) in
    let keymap = keymap_of k own in
    let draft = g.W.EditorState.draft c.args.wrt.now in
    let environment = g.W.EditorState.environment c.args.wrt.now in
    let unbound = ap (λ o. option_map command_of o) (sym c.in_default.is) ∙ c.in_ok-command.ensures.command own in
    alone_part g.W.EditorState g.R.RawReader (λ (x : Read). command_of x.command) (λ x. read_input x i) c.args.wrt.now k c.args.rdr.now c.args.first _ _ c.requires
    (rw c.at_once-in-Some-own_command.ensures.command (own-read keymap environment draft i None c.args.first _ unbound c.in-Some-own_command.ensures)) c.at_once-in-Some-own_command.ensures.input
    (own-entered keymap environment draft i None c.args.first _ unbound c.in-Some-own_command.ensures)

pub returns-in_err-read : goal.returns-in_err-read
returns-in_err-read g c =
    let k = keys_of g.C.ConditionalEventHandler c.args.self.now in
    let i = input_of c.args.self.now in
    let own = g.R.RawReader.own_binding (g.R.RawReader.kept c.args.rdr.now) in
    let unbound = ap (λ o. option_map command_of o) (sym c.in_default.is) ∙ c.in_ok-command.ensures.command own in
    let stands = alt-stands (keymap_of k own) (g.W.EditorState.environment c.args.wrt.now) (g.W.EditorState.draft c.args.wrt.now) i None c.args.first c.args.plain unbound c.in_default-own_command.ensures c.requires in
    let ended = c.in_ok-done_inserting.ensures in
    let p = err_from_is_err_and c.from_residual-in_err-read.result c.from_residual-in_err-read.ensures.1 in
    rw (p.1, p.2) (alt_fails g.W.EditorState g.R.RawReader c.args.wrt.now _ k c.args.rdr.now c.args.first c.args.plain stands ended.draft ended.undrawn
    (λ (x : Read). command_of x.command) (λ x. read_input x i) (λ (x : Read). command_of x.command) (λ x. read_input x i) _ _ _ c.in_err-read.ensures)

pub returns : goal.returns
returns g c =
    let k = keys_of g.C.ConditionalEventHandler c.args.self.now in
    let i = input_of c.args.self.now in
    let own = g.R.RawReader.own_binding (g.R.RawReader.kept c.args.rdr.now) in
    let unbound = ap (λ o. option_map command_of o) (sym c.in_default.is) ∙ c.in_ok-command.ensures.command own in
    let stands = alt-stands (keymap_of k own) (g.W.EditorState.environment c.args.wrt.now) (g.W.EditorState.draft c.args.wrt.now) i None c.args.first c.args.plain unbound c.in_default-own_command.ensures c.requires in
    let ended = c.in_ok-done_inserting.ensures in
    alt_read g.W.EditorState g.R.RawReader c.args.wrt.now _ k c.args.rdr.now c.args.first c.args.plain stands ended.draft ended.undrawn
    (λ (x : Read). command_of x.command) (λ x. read_input x i) (λ (x : Read). command_of x.command) (λ x. read_input x i) _ _ _ _ c.behind_alt.ensures.command c.behind_alt.ensures.input c.in_ok-read.ensures

pub returns-in_err-command : goal.returns-in_err-command
returns-in_err-command g c =
    let k = keys_of g.C.ConditionalEventHandler c.args.self.now in
    let i = input_of c.args.self.now in
    let keymap = keymap_of k (g.R.RawReader.own_binding (g.R.RawReader.kept c.args.rdr.now)) in
    let draft = g.W.EditorState.draft c.args.wrt.now in
    let environment = g.W.EditorState.environment c.args.wrt.now in
    let p = err_from_is_err_and c.from_residual.result c.from_residual.ensures.1 in
    rw (p.1, p.2) (refused_part g.W.EditorState g.R.RawReader (PhraseHere g.W.EditorState g.R.RawReader c.args.wrt.now k c.args.rdr.now) (key c.args.first ∷ [])
    (entered keymap draft i (key c.args.first ∷ [])) (λ c d. d) (λ (x : Read). command_of x.command) (λ x. read_input x i) _ c.args.wrt.now k c.args.rdr.now
    c.in_err-command.ensures.faults c.in_err-command.ensures.io (key-begins keymap environment draft i c.args.first))

pub returns-in_err-done_inserting : goal.returns-in_err-done_inserting
returns-in_err-done_inserting g c =
    let k = keys_of g.C.ConditionalEventHandler c.args.self.now in
    let i = input_of c.args.self.now in
    let keymap = keymap_of k (g.R.RawReader.own_binding (g.R.RawReader.kept c.args.rdr.now)) in
    let draft = g.W.EditorState.draft c.args.wrt.now in
    let environment = g.W.EditorState.environment c.args.wrt.now in
    let ended = c.in_err-done_inserting.ensures in
    let p = err_from_is_err_and c.from_residual-in_err-done_inserting.result c.from_residual-in_err-done_inserting.ensures.1 in
    rw (p.1, p.2) (memory_part g.W.EditorState g.R.RawReader (PhraseHere g.W.EditorState g.R.RawReader c.args.wrt.now k c.args.rdr.now) (key c.args.first ∷ [])
    (entered keymap draft i (key c.args.first ∷ [])) (λ c d. d) (λ (x : Read). command_of x.command) (λ x. read_input x i) _ c.args.wrt.now _ k c.args.rdr.now
    ended.memory ended.undrawn (record { line = ap (λ (d : Draft). d.line) ended.err; saved = ap (λ (d : Draft). d.saved) ended.err; index = ap (λ (d : Draft). d.index) ended.err })
    (key-begins keymap environment draft i c.args.first))
