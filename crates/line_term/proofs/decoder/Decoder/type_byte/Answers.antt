use Rattle.std.proofs.Common.{◌∙◌, ◌∷◌, ◌++◌, [], ap}
use Rattle.line_keys.specs.Item.{key}
use Rattle.line_keys.specs.Key.{event_of}
use Rattle.line_keys.specs.declared.keys.KeyEvent.{KeyEvent}
use Rattle.line_keys.specs.declared.keys.TheConstants.Modifiers.{NONE}
use Rattle.line_term.specs.Decoder.{DecoderState}
use Rattle.line_term.proofs.TypingLemmas.{types_byte}
use Rattle.line_term.proofs.decoder.Decoder.type_byte.Goals as goal

pub returns-clause-fed : goal.returns-clause-fed
returns-clause-fed c =
    let printable = c.requires.printable in
    let pressed = c.new.ensures ∙ ap (λ x. event_of x NONE) c.from.ensures in
    rw (types_byte c.args.self.now c.args.byte c.requires.pending c.requires.begun printable.0 printable.1)
    (record {
      items = c.in_ok-press.ensures.appended ∙ ap (λ (k : KeyEvent). record c.args.keys.now { rest = c.args.keys.now.rest ++ key k ∷ [] }) pressed;
      left = ap (λ (s : DecoderState). record s { pauses = 0 }) c.self.view_is;
    })
