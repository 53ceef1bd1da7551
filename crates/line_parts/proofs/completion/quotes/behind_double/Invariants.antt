use Rattle.std.proofs.Common.{length}
use Rattle.line_parts.specs.declared.completion.escapes.Quote.TheVariants as quote
use Rattle.line_parts.proofs.QuoteLemmas.{Inside}
use Rattle.line_parts.proofs.completion.quotes.behind_double.Given as goal

abbrev pub invariant-loop-c : goal.invariant-loop-c
invariant-loop-c l = Inside quote.Double l.text l.rest

abbrev pub decreases-loop-c : goal.decreases-loop-c
decreases-loop-c l = length l.rest
