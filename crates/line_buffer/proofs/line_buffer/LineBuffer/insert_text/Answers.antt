use Rattle.std.proofs.Common.{string_bytes, arith}
use Rattle.std.proofs.lemmas.Str.{IsUtf8-had}
use Rattle.line_buffer.proofs.PlainLemmas.{plain_inserted}
use Rattle.line_buffer.proofs.TellsLemmas.{front-replaced}
use Rattle.line_buffer.proofs.line_buffer.LineBuffer.insert_text.Goals as goal

pub returns-clause-front : goal.returns-clause-front
returns-clause-front c =
    rw (← c.self.view_is)
    (front-replaced (string_bytes c.self.inside.buf) (string_bytes c.insert_str.new.self) c.args.text.now c.self.inside.pos c.self.inside.pos (IsUtf8-had _ c.self.inside.buf.ok)
    (IsUtf8-had _ c.insert_str.new.self.ok) c.in_ok-insert_str.ensures.bytes c.self.invariant.0)

pub invariant_of-self-inside-2 : goal.invariant_of-self-inside-2
invariant_of-self-inside-2 c = (grind (arith, plain_inserted), tt)
