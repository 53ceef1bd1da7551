-- The answers of a helper, where there may be none.
use Rattle.std.specs.Prelude.{ℕ, Bool, true, false, ◌&&◌, List, Option, Some, None}
use Rattle.std.specs.Borrow.{MutBor}
use Rattle.line_parts.specs.Asks.{Sureness}
use Rattle.line_parts.specs.Candidate.{Completion, no_completion}
use Rattle.line_parts.specs.Environment.{Environment}
use Rattle.line_parts.specs.Hint.{Suggestion}
use Rattle.line_parts.specs.Shown.{Shown}
use Rattle.line_parts.specs.Verdict.{Verdict}
use Rattle.line_parts.specs.Written.{Written}
use Rattle.line_parts.specs.declared.completion.Completer as completers
use Rattle.line_parts.specs.declared.highlight.CmdKind.{CmdKind}

-- the hints of a helper; without one there are none
unfoldable pub hint_by : {H : Type 0} → (H → Shown → Option Suggestion) → Option (MutBor H)
    → Shown → Option Suggestion
hint_by hint_at None shown = None
hint_by hint_at (Some helper) shown = hint_at helper.now shown

-- the validation results of a helper, where there is one
unfoldable pub verdict_by : {H : Type 0} → (H → List ℕ → Verdict) → Option (MutBor H)
    → Option (List ℕ → Verdict)
verdict_by verdict_at None = None
verdict_by verdict_at (Some helper) = Some (verdict_at helper.now)

-- where a helper asks for a full drawing; without one nothing does
unfoldable pub lights_by : {H : Type 0} → (H → List ℕ → ℕ → CmdKind → Bool) → Option (MutBor H)
    → List ℕ → ℕ → CmdKind → Bool
lights_by lights None text cursor kind = false
lights_by lights (Some helper) text cursor kind = lights helper.now text cursor kind

-- whether a helper is sure; without one nothing can fail
unfoldable pub is_sure_by : {H : Type 0} → (H → Bool) → Option (MutBor H) → Bool
is_sure_by sure None = true
is_sure_by sure (Some helper) = sure helper.now

-- the same of a helper that may ask the history too
unfoldable pub is_sure_with : {H : Type 0} → (H → Bool) → Bool → Option (MutBor H) → Bool
is_sure_with sure history None = true
is_sure_with sure history (Some helper) = sure helper.now && history

-- who is sure of a helper, if there is one, and a history, which the helper may ask for a hint and for a completion
abbrev pub sure_by : {H : Type 0} → (H → Bool) → (H → Bool) → (H → Bool) → Bool → Option (MutBor H) → Sureness
sure_by hinter validator completer history helper = record {
  hints = is_sure_with hinter history helper;
  verdicts = is_sure_by validator helper;
  completions = is_sure_with completer history helper;
  history = history;
}

-- the completions of a helper; without one nothing is offered
unfoldable pub completion_by : {H : Type 0} → (H → Shown → Completion) → Option (MutBor H)
    → Shown → Completion
completion_by completion_at None shown = no_completion
completion_by completion_at (Some helper) shown = completion_at helper.now shown

-- what a helper makes of an elected text; without one the line stays
unfoldable pub update_by : {H : Type 0} → (H → Written → ℕ → List ℕ → Written) → Option (MutBor H)
    → Written → ℕ → List ℕ → Written
update_by updated None written start text = written
update_by updated (Some helper) written start text = updated helper.now written start text

-- what answers for a line: a helper, if there is one, and the lines of a history
abbrev pub environment_by : {H C : Type 0} → (H → Shown → Option Suggestion) → (H → List ℕ → Verdict)
    → (H → List ℕ → ℕ → CmdKind → Bool) → completers.Ghosts H C → Option (MutBor H) → List (List ℕ) → Environment
environment_by hint_at verdict_at lights completer helper lines = record {
  hint_at = hint_by hint_at helper;
  verdict_at = verdict_by verdict_at helper;
  lights = lights_by lights helper;
  completion_at = completion_by completer.completion_at helper;
  updated = update_by completer.updated helper;
  lines = lines;
}
