use Rattle.line_parts.proofs.WordLemmas.{stays_in_single, stays_unescaped}
use Rattle.line_parts.proofs.completion.escapes.escape.Goals as goal

pub returns-in-None-default-clause-text : goal.returns-in-None-default-clause-text
returns-in-None-default-clause-text g c = λ is_break answers.
    stays_unescaped c.args.input c.args.esc_char is_break c.args.quote c.in-None-default.is-0

pub returns-in-Some-Single-clause-text : goal.returns-in-Some-Single-clause-text
returns-in-Some-Single-clause-text g c = λ is_break answers.
    stays_in_single c.args.input c.args.esc_char c.in-Some-Single.field-0-0 is_break c.args.quote c.in-Some-Single.is-0 c.in-Some-Single.is-1
