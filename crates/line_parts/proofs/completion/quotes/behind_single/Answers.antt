use Rattle.line_parts.specs.declared.completion.escapes.Quote.TheVariants as quote
use Rattle.line_parts.proofs.QuoteLemmas.{closes, single_more, single_open, single_start}
use Rattle.line_parts.proofs.WordLemmas.{shorter_by}
use Rattle.line_parts.proofs.completion.quotes.behind_single.Goals as goal

pub loop-c-init : goal.loop-c-init
loop-c-init c = single_start c.args.text.now c.utf8.text

pub returns-then-c-eq39-clause-closed : goal.returns-then-c-eq39-clause-closed
returns-then-c-eq39-clause-closed c =
    closes quote.Single 39 _ _ _ c.in-Some.c c.loop-c.invariant c.in-Some.ensures.first c.if-c-eq39.true

pub loop-c-smaller : goal.loop-c-smaller
loop-c-smaller c = shorter_by c.in-Some.c _ _ c.in-Some.ensures.first

pub loop-c-preserved : goal.loop-c-preserved
loop-c-preserved c = single_more _ _ _ c.in-Some.c c.loop-c.invariant c.in-Some.ensures.first c.if-c-eq39.false

pub returns-clause-closed : goal.returns-clause-closed
returns-clause-closed c = single_open _ _ c.loop-c.invariant c.in_default.ensures.first
