use Rattle.std.proofs.Common.{◌+◌, ◌-◌, ◌*◌, length}
use Rattle.console.specs.Names.{value_in}
use Rattle.console.specs.Parts.{IsPart}
use Rattle.console.specs.Grammar.{looseness}
use Rattle.console.proofs.SettleLemmas.{Going}
use Rattle.console.proofs.arithmetic.parts.+parts.Given as goal

abbrev pub decreases-read_factor : goal.decreases-read_factor
decreases-read_factor l = 4 * l.depth

abbrev pub decreases-read_part : goal.decreases-read_part
decreases-read_part l = 4 * l.depth + (1 + looseness l.rank)

abbrev pub invariant-read_part-loop-operator : goal.invariant-read_part-loop-operator
invariant-read_part-loop-operator l = record {
  part : IsPart l.tokens (value_in l.names) l.rank l.at l.part;
  going : Going l.tokens (value_in l.names) l.at l.rank l.part;
}

abbrev pub decreases-read_part-loop-operator : goal.decreases-read_part-loop-operator
decreases-read_part-loop-operator l = length l.tokens - l.part.next
