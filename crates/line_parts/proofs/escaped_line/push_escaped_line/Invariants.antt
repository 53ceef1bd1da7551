use Rattle.std.proofs.Common.{◌≡◌, ◌++◌, length}
use Rattle.line_parts.specs.EscapedLine.{escaped_line}
use Rattle.line_parts.proofs.escaped_line.push_escaped_line.Given as goal

abbrev pub invariant-loop-at : goal.invariant-loop-at
invariant-loop-at l = l.fn.text.items ++ escaped_line l.escapes l.line ≡ l.text.items ++ escaped_line l.escapes l.rest

abbrev pub decreases-loop-at : goal.decreases-loop-at
decreases-loop-at l = length l.rest
