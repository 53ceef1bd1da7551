use Rattle.std.proofs.Common.{Bool, ℕ, string_bytes}
use Rattle.std.specs.Str.Iter.{chars_rest}
use Rattle.line_parts.specs.Escape.{AnswersBy}
use Rattle.line_parts.proofs.WordLemmas.{EscapesTo}
use Rattle.line_parts.proofs.completion.escapes.escape_chars.Given as goal

abbrev pub invariant-loop-c : goal.invariant-loop-c
invariant-loop-c g l =
    (is_break : ℕ → Bool) → AnswersBy g.F.Fn l.is_break_char is_break
    → EscapesTo l.esc_char is_break (string_bytes l.input) (string_bytes l.text) (chars_rest l.c-iterator)
