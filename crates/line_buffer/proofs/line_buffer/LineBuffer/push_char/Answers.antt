use Rattle.std.proofs.Common.{encode_utf8, string_bytes, ◌∙◌}
use Rattle.std.proofs.lemmas.Str.{IsUtf8-had}
use Rattle.line_buffer.proofs.PlainLemmas.{inserted_at_end}
use Rattle.line_buffer.proofs.TellsLemmas.{front-replaced}
use Rattle.line_buffer.proofs.line_buffer.LineBuffer.push_char.Goals as goal

pub returns-clause-front : goal.returns-clause-front
returns-clause-front c =
    let end = rw (← c.self.view_is) at c.requires in
    rw (← c.self.view_is)
    (front-replaced (string_bytes c.self.inside.buf) (string_bytes c.push.new.self) (encode_utf8 c.args.c) c.self.inside.pos c.self.inside.pos (IsUtf8-had _ c.self.inside.buf.ok)
    (IsUtf8-had _ c.push.new.self.ok) (c.in_ok-push.ensures.bytes ∙ inserted_at_end (string_bytes c.self.inside.buf) (encode_utf8 c.args.c) c.self.inside.pos end) c.self.invariant.0)
