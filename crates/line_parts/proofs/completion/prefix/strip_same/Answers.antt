use Rattle.line_parts.proofs.PrefixLemmas.{none_alike, other_first}
use Rattle.line_parts.proofs.completion.prefix.strip_same.Goals as goal

pub returns-in-None-clause-same : goal.returns-in-None-clause-same
returns-in-None-clause-same c = λ e behind more is also. none_alike e c.args.one.now behind c.in-None.ensures.first is

pub returns-in-None-split_first-clause-same : goal.returns-in-None-split_first-clause-same
returns-in-None-split_first-clause-same c = λ e behind more is also.
    none_alike e c.args.other.now more c.in-None-split_first.ensures.first also

pub returns-in-Some-2-clause-same : goal.returns-in-Some-2-clause-same
returns-in-Some-2-clause-same c = λ e behind more is also.
    other_first c.in-Some.c c.in-Some-split_first.d e _ _ _ _ _ _ c.in-Some.ensures.first c.in-Some-split_first.ensures.first c.if-c-d.false is also
