use Rattle.std.proofs.Common.{rules}
use Rattle.std.proofs.lemmas.Str.{IsCharBoundary-start, IsUtf8-had}
use Rattle.line_buffer.proofs.line_buffer.LineBuffer.move_buffer_start.Goals as goal

pub invariant_of-self : goal.invariant_of-self
invariant_of-self c = IsCharBoundary-start _ (IsUtf8-had _ c.self.inside.buf.ok)

pub returns : goal.returns
returns c =
    record {
      answer = search rules;
      line = search rules;
      cursor = IsCharBoundary-start _ (IsUtf8-had _ c.self.inside.buf.ok);
    }
