use Rattle.std.proofs.Common.{ap, ◌∙◌, filter, nat_lt, length}
use Rattle.std.specs.Str.Iter.{lines_rest}
use Rattle.std.proofs.lemmas.Iterator.Consumers.{YieldsList-end}
use Rattle.std.proofs.lemmas.Iterator.Splits.{YieldsList-from_lines}
use Rattle.line_host.proofs.session.words_of.Goals as goal

pub returns-clause-words : goal.returns-clause-words
returns-clause-words c =
    let rest = ap lines_rest c.into_iter-word-iterator.ensures.into_iter_gives ∙ c.lines-word-items.ensures.rest in
    let all = YieldsList-end (YieldsList-from_lines c.args.text.now rest) c.loop-word.yielded _ c.loop-word.yielded_by _ _ c.in-None.is c.next.ensures.steps in
    c.loop-word.invariant ∙ ap (λ l. filter (λ word. nat_lt 0 (length word)) l) all.0
