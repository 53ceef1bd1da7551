use Rattle.std.proofs.Common.{rules}
use Rattle.line_parts.specs.declared.completion.escapes.Quote.TheVariants as quote
use Rattle.line_parts.proofs.QuoteLemmas.{closed_more, closed_shorter, closed_start, found_open, none_at_backslash, none_at_end, unpaired_double, unpaired_single}
use Rattle.line_parts.proofs.completion.quotes.find_unclosed_quote.Goals as goal

pub loop-first-init : goal.loop-first-init
loop-first-init c = closed_start c.args.text.now c.utf8.text

pub loop-first-smaller : goal.loop-first-smaller
loop-first-smaller c =
    closed_shorter _ _ _ c.in-Some.first c.loop-first.invariant.utf8 c.in-Some.ensures.first c.in-Some-default.ensures.closed

pub loop-first-preserved : goal.loop-first-preserved
loop-first-preserved c =
    closed_more _ _ _ _ c.in-Some.first c.loop-first.invariant c.in-Some.ensures.first c.in-Some-default.ensures.utf8 c.in-Some-default.ensures.closed

pub returns-in-None-eq34-clause-open : goal.returns-in-None-eq34-clause-open
returns-in-None-eq34-clause-open c =
    found_open _ _ _ c.in-Some.first quote.Double (λ e. cc) c.loop-first.invariant c.in-Some.ensures.first
    (unpaired_double c.in-Some.first _ c.in-None-eq34.is-1 c.in-None-eq34.ensures.closed)

pub returns-in-None-eq39-clause-open : goal.returns-in-None-eq39-clause-open
returns-in-None-eq39-clause-open c =
    found_open _ _ _ c.in-Some.first quote.Single (λ e. cc) c.loop-first.invariant c.in-Some.ensures.first
    (unpaired_single c.in-Some.first _ c.in-None-eq39.is-1 c.in-None-eq39.ensures.closed)

pub returns-in-None-default-clause-open : goal.returns-in-None-default-clause-open
returns-in-None-default-clause-open c =
    none_at_backslash _ _ c.in-Some.more.now c.in-Some.first c.loop-first.invariant c.in-Some.ensures.first (search rules) (search rules) c.in-None-default.ensures.closed

pub returns-clause-open : goal.returns-clause-open
returns-clause-open c = none_at_end _ _ c.loop-first.invariant c.in_default.ensures.first
