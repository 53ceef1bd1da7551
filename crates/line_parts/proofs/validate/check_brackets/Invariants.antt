use Rattle.std.proofs.Common.{reverse, take}
use Rattle.line_parts.proofs.BracketLemmas.{Leaves}
use Rattle.line_parts.proofs.validate.check_brackets.Given as goal

abbrev pub invariant-loop-byte : goal.invariant-loop-byte
invariant-loop-byte l = Leaves (reverse l.open.items) (take l.byte-index l.byte-items)
