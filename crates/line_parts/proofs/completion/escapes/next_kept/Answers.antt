use Rattle.line_parts.proofs.WordLemmas.{is_other, is_same, kept_behind, kept_other, next_char, utf8_behind}
use Rattle.line_parts.proofs.completion.escapes.next_kept.Goals as goal

pub returns-then-c-esc_char-clause-kept : goal.returns-then-c-esc_char-clause-kept
returns-then-c-esc_char-clause-kept c =
    kept_behind c.args.esc_char c.in_ok-c.c _ _ _ _ _ c.requires c.in_ok-c.ensures.steps.0 (is_same c.if-c-esc_char.true)
    c.next-then-c-esc_char.ensures.steps.0

pub returns-then-c-esc_char-clause-utf8 : goal.returns-then-c-esc_char-clause-utf8
returns-then-c-esc_char-clause-utf8 c =
    utf8_behind c.in_ok-c.c _ _ _ _ _ c.requires c.in_ok-c.ensures.steps.0 c.next-then-c-esc_char.ensures.steps.0

pub returns-clause-kept : goal.returns-clause-kept
returns-clause-kept c =
    kept_other c.args.esc_char c.in_ok-c.c _ _ c.requires c.in_ok-c.ensures.steps.0 (is_other c.if-c-esc_char.false)

pub returns-clause-utf8 : goal.returns-clause-utf8
returns-clause-utf8 c = (next_char c.in_ok-c.c _ _ c.requires c.in_ok-c.ensures.steps.0).2
