use Rattle.std.proofs.Common.{rules}
use Rattle.line_parts.proofs.QuoteLemmas.{after_double, after_escaped, after_plain, after_single, is_nothing, lone_backslash}
use Rattle.line_parts.proofs.completion.quotes.behind_piece.Goals as goal

pub returns-in_err-split_first-in-92-clause-closed :
    goal.returns-in_err-split_first-in-92-clause-closed
returns-in_err-split_first-in-92-clause-closed c =
    is_nothing c.from_residual.result _ _ c.from_residual.ensures
    (lone_backslash c.args.first c.args.more.now c.in-92.is c.in_err-split_first-in-92.ensures.first)

pub returns-in-34-clause-closed : goal.returns-in-34-clause-closed
returns-in-34-clause-closed c =
    after_double c.args.first c.args.more.now c.behind_double.result c.in-34.is c.behind_double.ensures.closed

pub returns-in-39-clause-closed : goal.returns-in-39-clause-closed
returns-in-39-clause-closed c =
    after_single c.args.first c.args.more.now c.behind_single.result c.in-39.is c.behind_single.ensures.closed

pub returns-in_ok-split_first-in-92-clause-closed :
    goal.returns-in_ok-split_first-in-92-clause-closed
returns-in_ok-split_first-in-92-clause-closed c =
    after_escaped c.args.first c.in_ok-split_first-in-92.field-0.0 _ _ c.in-92.is c.utf8.more c.in_ok-split_first-in-92.ensures.first

pub returns-in_default-clause-closed : goal.returns-in_default-clause-closed
returns-in_default-clause-closed c = after_plain c.args.first c.args.more.now (search rules) (search rules) (search rules)
