use denote.Text.{Utf8}
use denote.Shadow.{shadow}
use Rattle.tests_parts.proofs.file.plays_text.Given as goal

-- the area is text
abbrev pub invariant-loop-line : goal.invariant-loop-line
invariant-loop-line l =
    (goal.iterator-loop-line).can_next l.line-iterator ×
    (goal.iterator-loop-line).is_finite l.line-iterator ×
    shadow (Utf8 l.area)
