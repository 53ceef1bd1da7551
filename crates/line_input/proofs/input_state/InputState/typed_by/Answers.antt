use Rattle.std.proofs.Common.{◌≡◌, rules, sym, subst, ap, ◌∙◌}
use Rattle.line_input.specs.InputState.{input_of, keys_of}
use Rattle.line_input.specs.Keymap.{key_handler, keymap_of}
use Rattle.line_input.specs.Phrase.{TypesChar}
use Rattle.line_input.proofs.TypedLemmas.{found-nothing, plain_key, typed-alone}
use Rattle.line_input.proofs.input_state.InputState.typed_by.Goals as goal

pub returns-else-is_some-2 : goal.returns-else-is_some-2
returns-else-is_some-2 g c =
    let k = keys_of g.C.ConditionalEventHandler c.args.self.now in
    let own = g.R.RawReader.own_binding (g.R.RawReader.kept c.args.rdr.now) in
    let same : plain_key c.in-Char.c ≡ c.args.key = search rules in
    subst (λ typed. TypesChar (keymap_of k own) (input_of c.args.self.now) typed c.in-Char.c) same
    (typed-alone (keymap_of k own) (input_of c.args.self.now) c.in-Char.c
    (ap (key_handler k.bound) same ∙ found-nothing _ _ _ c.of_key.ensures (sym c.is_some.ensures ∙ c.if-is_some.false))
    (ap own same ∙ found-nothing _ _ _ c.find_binding.ensures (sym c.is_some-else-is_some.ensures ∙ c.if-is_some-2.false))
    (sym c.types.ensures ∙ c.if-types.true))
