use Rattle.std.proofs.Common.{◌≡◌, ◌+◌, drop}
use Rattle.std.specs.List.{prefix_len}
use Rattle.console.specs.Spelling.{passes}
use Rattle.console.proofs.arithmetic.token.run_len.Given as goal

abbrev pub invariant-loop-byte : goal.invariant-loop-byte
invariant-loop-byte l = (l.len ≡ l.byte-index)
    × (prefix_len (passes l.kind) l.bytes ≡ l.len + prefix_len (passes l.kind) (drop l.byte-index l.bytes))
