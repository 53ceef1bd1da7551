use Rattle.std.proofs.Common.{length}
use Rattle.std.specs.Str.{chars}
use Rattle.line_parts.proofs.QuoteLemmas.{ClosedUpTo}
use Rattle.line_parts.proofs.completion.quotes.find_unclosed_quote.Given as goal

abbrev pub invariant-loop-first : goal.invariant-loop-first
invariant-loop-first l = ClosedUpTo l.text l.rest

abbrev pub decreases-loop-first : goal.decreases-loop-first
decreases-loop-first l = length (chars l.rest)
