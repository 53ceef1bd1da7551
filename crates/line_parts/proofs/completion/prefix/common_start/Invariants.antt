use Rattle.std.proofs.Common.{length}
use Rattle.line_parts.proofs.PrefixLemmas.{BeginAlike}
use Rattle.line_parts.proofs.completion.prefix.common_start.Given as goal

abbrev pub invariant-loop-behind : goal.invariant-loop-behind
invariant-loop-behind l = BeginAlike l.one l.other l.rest l.other_rest

abbrev pub decreases-loop-behind : goal.decreases-loop-behind
decreases-loop-behind l = length l.rest
