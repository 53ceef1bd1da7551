use Rattle.std.proofs.Common.{length}
use Rattle.line_script.proofs.script.Parsed.push_lines.Given as goal

abbrev pub decreases-loop-end : goal.decreases-loop-end
decreases-loop-end l = length l.rest
