use Rattle.std.proofs.Common.{◌∙◌, sym}
use Rattle.line_parts.proofs.WordStartLemmas.{ends_nowhere, ends_otherwise}
use Rattle.line_parts.proofs.completion.escapes.strip_escape.Goals as goal

pub returns-in-None-clause-stripped : goal.returns-in-None-clause-stripped
returns-in-None-clause-stripped c = λ d behind more is. absurd (ends_nowhere d c.args.text.now behind c.in-None.ensures.last is)

pub returns-in-Some-2-clause-stripped : goal.returns-in-Some-2-clause-stripped
returns-in-Some-2-clause-stripped c = λ d behind more is.
    ends_otherwise c.args.esc_char c.in-Some.last d c.args.text.now c.in-Some.front.now behind c.utf8.text c.in-Some.ensures.utf8
    c.in-Some.ensures.last (sym c.is_escape.ensures ∙ c.if-is_escape.false) more is
