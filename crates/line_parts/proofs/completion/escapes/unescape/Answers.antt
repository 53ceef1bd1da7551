use Rattle.std.proofs.Common.{◌∙◌, Some, ap, sym}
use Rattle.line_parts.specs.Escape.{on_chars, unescaped}
use Rattle.line_parts.proofs.WordLemmas.{stays_as_it_is, stays_without}
use Rattle.line_parts.proofs.completion.escapes.unescape.Goals as goal

pub returns-in-None-clause-text : goal.returns-in-None-clause-text
returns-in-None-clause-text c =
    stays_without c.args.input.now c.utf8.input ∙ ap (λ e. on_chars (unescaped e) c.args.input.now) (sym c.in-None.is)

pub returns-in-Some-clause-text : goal.returns-in-Some-clause-text
returns-in-Some-clause-text c =
    stays_as_it_is (Some c.in-Some.esc_char) c.args.input.now c.utf8.input c.if-not-contains.ensures.cases
    ∙ ap (λ e. on_chars (unescaped e) c.args.input.now) (sym c.in-Some.is)
