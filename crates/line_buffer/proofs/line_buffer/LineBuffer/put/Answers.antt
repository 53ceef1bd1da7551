use Rattle.std.proofs.Common.{string_bytes, ap, ◌∙◌, length, arith}
use Rattle.std.proofs.lemmas.Str.{IsUtf8-had}
use Rattle.std.specs.List.{slice_range}
use Rattle.line_buffer.specs.Line.{Line}
use Rattle.line_buffer.proofs.PlainLemmas.{plain_replaced}
use Rattle.line_buffer.proofs.TellsLemmas.{front-replaced}
use Rattle.line_buffer.proofs.line_buffer.LineBuffer.put.Goals as goal

pub returns-clause-front : goal.returns-clause-front
returns-clause-front c =
    rw (← c.self.view_is)
    (front-replaced (string_bytes c.self.inside.buf) (string_bytes c.replace_range.new.self) _ c.args.from c.args.to (IsUtf8-had _ c.self.inside.buf.ok) (IsUtf8-had _ c.replace_range.new.self.ok)
    c.in_ok-replace_range.ensures.bytes (omega (arith, c.requires.start.0, ap (λ (l : Line). length l.text) c.self.view_is)))

pub invariant_of-self-inside-2 : goal.invariant_of-self-inside-2
invariant_of-self-inside-2 c =
    let plain = plain_replaced (string_bytes c.self.inside.buf) (string_bytes c.replace_range.new.self) c.args.text.now c.range.result.now c.args.from c.args.to
    c.requires.ordered (c.range.ensures.value ∙ ap (λ t. slice_range t c.args.from c.args.to) c.as_str.ensures.value) c.in_ok-replace_range.ensures.bytes in
    (grind (arith, plain), tt)
