use Rattle.std.proofs.Common.{length}
use Rattle.line_term.specs.Decoder.{Releases}
use Rattle.line_term.proofs.decoder.release.Given as goal

-- the first were appended
abbrev pub invariant-loop-key : goal.invariant-loop-key
invariant-loop-key l = Releases l.fn.held.items l.held.items l.fn.keys l.keys

abbrev pub decreases-loop-key : goal.decreases-loop-key
decreases-loop-key l = length l.held.items
