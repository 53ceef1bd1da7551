use Rattle.line_parts.proofs.WordLemmas.{escapes_all, escapes_more}
use Rattle.line_parts.proofs.completion.escapes.escape_chars.Goals as goal

pub loop-c-preserved : goal.loop-c-preserved
loop-c-preserved g c = λ is_break answers.
    escapes_more _ is_break _ _ _ _ _ c.in-Some.c c.is_break_char.result (c.loop-c.invariant is_break answers) c.in-Some.ensures.steps.0
    (λ good. answers c.in-Some.c c.is_break_char.result good c.is_break_char.ensures) c.in_ok-push_escaped.ensures.text

pub returns-clause-text : goal.returns-clause-text
returns-clause-text g c = λ is_break answers.
    escapes_all _ is_break _ _ _ (c.loop-c.invariant is_break answers) c.in-None.ensures.steps.0.0
