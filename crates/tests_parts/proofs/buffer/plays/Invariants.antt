use Rattle.line_buffer.specs.Undo.{Tells}
use Rattle.tests_parts.proofs.buffer.plays.Given as goal

-- the changes tell of the line
abbrev pub invariant-loop-row : goal.invariant-loop-row
invariant-loop-row l = Tells l.changes.entries l.line.text
