use Rattle.std.proofs.Common.{lt_trans, rules}
use Rattle.line_parts.specs.declared.completion.escapes.Quote.TheVariants as quote
use Rattle.line_parts.proofs.QuoteLemmas.{closes, double_cut, double_more, double_open, double_pair, double_start, is_nothing}
use Rattle.line_parts.proofs.WordLemmas.{shorter_by}
use Rattle.line_parts.proofs.completion.quotes.behind_double.Goals as goal

pub loop-c-init : goal.loop-c-init
loop-c-init c = double_start c.args.text.now c.utf8.text

pub returns-in-34-clause-closed : goal.returns-in-34-clause-closed
returns-in-34-clause-closed c = closes quote.Double 34 _ _ _ c.in-Some.c c.loop-c.invariant c.in-Some.ensures.first c.in-34.is

pub returns-in_err-rest-in-92-clause-closed : goal.returns-in_err-rest-in-92-clause-closed
returns-in_err-rest-in-92-clause-closed c =
    is_nothing c.from_residual.result _ _ c.from_residual.ensures
    (double_cut _ _ _ c.in-Some.c c.loop-c.invariant c.in-Some.ensures.first c.in-92.is c.in_err-rest-in-92.ensures.first)

pub loop-c-preserved-in-92 : goal.loop-c-preserved-in-92
loop-c-preserved-in-92 c =
    double_pair _ _ c.in-Some.more.now _ c.in-Some.c c.in_ok-rest-in-92.field-0.0 c.loop-c.invariant c.in-Some.ensures.first c.in-92.is c.in_ok-rest-in-92.ensures.first

pub loop-c-smaller-in-92 : goal.loop-c-smaller-in-92
loop-c-smaller-in-92 c =
    lt_trans (shorter_by c.in_ok-rest-in-92.field-0.0 _ _ c.in_ok-rest-in-92.ensures.first)
    (shorter_by c.in-Some.c _ _ c.in-Some.ensures.first)

pub loop-c-smaller : goal.loop-c-smaller
loop-c-smaller c = shorter_by c.in-Some.c _ _ c.in-Some.ensures.first

pub loop-c-preserved : goal.loop-c-preserved
loop-c-preserved c = double_more _ _ _ c.in-Some.c c.loop-c.invariant c.in-Some.ensures.first (search rules) (search rules)

pub returns-clause-closed : goal.returns-clause-closed
returns-clause-closed c = double_open _ _ c.loop-c.invariant c.in_default.ensures.first
