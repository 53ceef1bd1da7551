-- Hints, as text.
use Rattle.std.specs.Prelude.{◌≡◌, ℕ, ◌==◌, if◌then◌else◌, List, length, Option, Some, None, option_map, Result, IfOk}
use Rattle.line_parts.specs.declared.hint.Hint.{Ghosts}

-- what a hint displays, and what it completes the line with, if anything
pub record Suggestion : Type 0 where
  pub display : List ℕ
  pub completion : Option (List ℕ)

-- a hint as text
abbrev pub suggestion_of : {T : Type 0} → Ghosts T → T → Suggestion
suggestion_of hint h = record { display = hint.display_text h; completion = hint.completion_text h }

-- a hinter offers this hint, unless it fails
abbrev pub Suggests : {T E : Type 0} → Ghosts T → Result (Option T) E → Option Suggestion → Type 0
Suggests hint result suggestion = IfOk result (λ h. option_map (suggestion_of hint) h ≡ suggestion)

-- the hint, if it displays something
abbrev pub visible : Option Suggestion → Option Suggestion
visible None = None
visible (Some s) = if length s.display == 0 then None else Some s

-- a text as a hint that completes the line
abbrev pub suggested : List ℕ → Suggestion
suggested text = record { display = text; completion = Some text }
