use Rattle.std.proofs.lemmas.Str.{IsCharBoundary-start}
use Rattle.line_buffer.proofs.line_buffer.LineBuffer.as_str.Goals as goal

pub returns-clause-start : goal.returns-clause-start
returns-clause-start c = rw (← c.self.view_is, ← c.as_str.ensures.value) (IsCharBoundary-start c.as_str.result.now c.as_str.utf8)
