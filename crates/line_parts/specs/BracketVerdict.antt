-- The validation result for the brackets of a text, as a function.
use Rattle.std.specs.Prelude.{ℕ, ◌==◌, ◌&&◌, if◌then◌else◌, List, [], ◌∷◌, Some, None}
use Rattle.line_parts.specs.Brackets.{is_bracket, is_close, is_open, partner}
use Rattle.line_parts.specs.Brackets.{unclosed_message, unpaired_message}
use Rattle.line_parts.specs.Verdict.{Verdict, incomplete, invalid, valid}

-- a bracket with those that are left after it: an opening one with its partner is struck out
unfoldable pub struck : ℕ → List ℕ → List ℕ
struck b [] = b ∷ []
struck b (c ∷ left) = if is_open b && c == partner b then left else b ∷ c ∷ left

-- the brackets that are left of a text when pairs that stand next to each other are struck out, as
-- long as there are any
unfoldable pub left_over : List ℕ → List ℕ
left_over [] = []
left_over (b ∷ text) = if is_bracket b then struck b (left_over text) else left_over text

-- the validation result for brackets that are left after an open one
unfoldable pub verdict_behind : ℕ → List ℕ → Verdict
verdict_behind b [] = incomplete
verdict_behind b (c ∷ left) =
    if is_close c then invalid (Some (unclosed_message b)) else verdict_behind c left

-- the validation result for brackets that are left
unfoldable pub verdict_on_left : List ℕ → Verdict
verdict_on_left [] = valid None
verdict_on_left (b ∷ left) =
    if is_close b then invalid (Some (unpaired_message b)) else verdict_behind b left

-- the validation result for the brackets of a text
abbrev pub bracket_verdict : List ℕ → Verdict
bracket_verdict text = verdict_on_left (left_over text)
