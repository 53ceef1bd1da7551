-- The range from a bracket to its match.
use Rattle.std.proofs.Common.{◌≡◌, ℕ, ◌+◌, ◌<◌, ◌≤◌, max, min, Option, Some, option_map, refl, ap, ◌∙◌, arith}
use Rattle.std.proofs.lemmas.Str.{IsCharBoundary-after_ascii, IsCharBoundary-before_ascii}
use Rattle.std.specs.Str.{IsUtf8}
use Rattle.line_buffer.specs.Line.{Line}
use Rattle.line_buffer.specs.Offset.{IsRangeIfAny}
use Rattle.line_parts.specs.BracketMatch.{matching_bracket}
use Rattle.line_state.specs.Edited.{HasOneByteAt, bracket_range}

abbrev span : ℕ → ℕ → Option (ℕ × ℕ)
span from to = Some (from, to)

ends : (cursor at from to : ℕ) → from ≡ min cursor at → to ≡ max cursor at + 1 → span from to ≡ span (min cursor at) (max cursor at + 1)
ends cursor at from to e f = rw (e, f) refl

abbrev between : ℕ → ℕ → ℕ × ℕ
between cursor at = (min cursor at, max cursor at + 1)

-- the match stands behind the cursor
pub range_on : (l : Line) (at : ℕ) → IsUtf8 l.text → HasOneByteAt l.text l.cursor → HasOneByteAt l.text at → Some at ≡ matching_bracket l.text l.cursor → l.cursor < at
    → IsRangeIfAny (Some (l.cursor, at + 1)) l (bracket_range l)
range_on l at text here there is behind = record {
  range = ends l.cursor at l.cursor (at + 1) (grind (arith, behind)) (grind (arith, behind))
      ∙ ap (λ (found : Option ℕ). option_map (between l.cursor) found) is;
  ordered = omega (arith, behind);
  before = omega arith;
  start = IsCharBoundary-before_ascii l.text l.cursor here.within here.single;
  end = IsCharBoundary-after_ascii l.text at text there.within there.single;
}

-- or not
pub range_back : (l : Line) (at : ℕ) → IsUtf8 l.text → HasOneByteAt l.text l.cursor → HasOneByteAt l.text at → Some at ≡ matching_bracket l.text l.cursor → at ≤ l.cursor
    → IsRangeIfAny (Some (at, l.cursor + 1)) l (bracket_range l)
range_back l at text here there is before = record {
  range = ends l.cursor at at (l.cursor + 1) (grind (arith, before)) (grind (arith, before))
      ∙ ap (λ (found : Option ℕ). option_map (between l.cursor) found) is;
  ordered = omega (arith, before);
  before = before;
  start = IsCharBoundary-before_ascii l.text at there.within there.single;
  end = IsCharBoundary-after_ascii l.text l.cursor text here.within here.single;
}
