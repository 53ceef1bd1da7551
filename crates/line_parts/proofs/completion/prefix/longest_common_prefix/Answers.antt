use Rattle.std.proofs.Common.{◌∙◌, sym}
use Rattle.line_parts.proofs.PrefixLemmas.{common_text, no_texts, one_text}
use Rattle.line_parts.proofs.completion.prefix.longest_common_prefix.Goals as goal

pub returns-in-None : goal.returns-in-None
returns-in-None g c = no_texts _ c.args.candidates.now c.in-None.ensures.cases

pub returns-then-is_empty : goal.returns-then-is_empty
returns-then-is_empty g c =
    one_text _ c.args.candidates.now c.in-Some.first.now c.in-Some.others.now _ c.in-Some.ensures.cases.0
    (sym c.is_empty.ensures ∙ c.if-is_empty.true) c.replacement-text.ensures

pub returns-else-is_empty : goal.returns-else-is_empty
returns-else-is_empty g c =
    common_text _ c.args.candidates.now c.in-Some.first.now c.in-Some.others.now _ _ _ c.in-Some.ensures.cases.0
    (sym c.is_empty.ensures ∙ c.if-is_empty.false) c.replacement-text.ensures c.common_with.ensures c.some_text.ensures
