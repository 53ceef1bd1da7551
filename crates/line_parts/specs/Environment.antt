-- What answers for a line while it is edited. It never changes.
use Rattle.std.specs.Prelude.{ℕ, Bool, List, Option, None, option_map, unwrap_or}
use Rattle.line_parts.specs.Candidate.{Completion}
use Rattle.line_parts.specs.Hint.{Suggestion, visible}
use Rattle.line_parts.specs.Shown.{Shown}
use Rattle.line_parts.specs.Verdict.{Verdict, valid}
use Rattle.line_parts.specs.Written.{Written}
use Rattle.line_parts.specs.declared.highlight.CmdKind.{CmdKind}

-- the helper's hints, its validation results if there is a helper, its full drawings, its completions and what it makes of an elected
-- text, and the history's lines
pub record Environment : Type 0 where
  pub hint_at : Shown → Option Suggestion
  pub verdict_at : Option (List ℕ → Verdict)
  pub lights : List ℕ → ℕ → CmdKind → Bool
  pub completion_at : Shown → Completion
  pub updated : Written → ℕ → List ℕ → Written
  pub lines : List (List ℕ)

-- what is shown of a line at a history index
abbrev pub shown_at : Environment → List ℕ → ℕ → ℕ → Shown
shown_at environment text cursor index =
    record { text = text; cursor = cursor; index = index; lines = environment.lines }

-- the hint for a line at a history index, where it displays something
abbrev pub hint_for : Environment → List ℕ → ℕ → ℕ → Option Suggestion
hint_for environment text cursor index =
    visible (environment.hint_at (shown_at environment text cursor index))

-- the validation result for a text: without a helper it is valid
abbrev pub verdict_on : Environment → List ℕ → Verdict
verdict_on environment text =
    unwrap_or (option_map (λ verdict. verdict text) environment.verdict_at) (valid None)
