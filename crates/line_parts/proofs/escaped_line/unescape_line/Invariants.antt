use Rattle.std.proofs.Common.{length}
use Rattle.line_parts.proofs.EscapeLemmas.{UndoesTo}
use Rattle.line_parts.proofs.escaped_line.unescape_line.Given as goal

abbrev pub invariant-loop-at : goal.invariant-loop-at
invariant-loop-at l = UndoesTo l.escapes l.fn.line l.text.items l.rest

abbrev pub decreases-loop-at : goal.decreases-loop-at
decreases-loop-at l = length l.rest
