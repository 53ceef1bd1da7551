use Rattle.std.proofs.Common.{length}
use Rattle.line_parts.specs.Escape.{AnswersBy}
use Rattle.line_parts.proofs.WordStartLemmas.{BackTo}
use Rattle.line_parts.proofs.completion.escapes.last_word.Given as goal

abbrev pub invariant-loop-before : goal.invariant-loop-before
invariant-loop-before g l = BackTo (λ is_break. AnswersBy g.F.Fn l.is_break_char is_break) l.esc_char l.text l.rest

abbrev pub decreases-loop-before : goal.decreases-loop-before
decreases-loop-before g l = length l.rest
