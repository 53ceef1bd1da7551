use Rattle.line_buffer.specs.Undo.{Tells}
use Rattle.tests_parts.proofs.buffer.repeats.Given as goal

-- the changes tell of the line
abbrev pub invariant-loop : goal.invariant-loop
invariant-loop l = Tells l.changes.entries l.line.text
