use Rattle.std.proofs.Common.{length}
use Rattle.line_script.proofs.report.write_escaped.Given as goal

abbrev pub decreases-loop-at : goal.decreases-loop-at
decreases-loop-at g l = length l.rest
