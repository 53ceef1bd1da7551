-- What is left of a line where a call fails by a fault.
use Rattle.std.specs.Prelude.{◌≡◌, ◌⊎◌, true, Option, None, Result, Ok, Err}
use Rattle.line_buffer.specs.Changes.{no_changes}
use Rattle.line_config.specs.Error.{is_fault, is_io, is_memory}
use Rattle.line_config.specs.declared.error.ReadlineError.{ReadlineError}
use Rattle.line_keys.specs.Model.Draft.{Draft, KeepsText, hinted}
use Rattle.line_parts.specs.Environment.{Environment}
use Rattle.line_parts.specs.Hint.{Suggestion}

-- a hint from before a call or from halfway, or none
abbrev pub IsEarlierHint : Draft → Draft → Option Suggestion → Type 0
IsEarlierHint before halfway hint = (hint ≡ before.hint) ⊎ (hint ≡ None) ⊎ (hint ≡ halfway.hint)

-- a draft is that of a moment but for its hint, which is an earlier one, none, or that of its line
pub record IsOf (environment : Environment) (before halfway moment draft : Draft) : Type 0 where
  pub text : KeepsText moment draft
  pub hint : IsEarlierHint before halfway draft.hint ⊎ (draft.hint ≡ (hinted environment draft).hint)

-- a draft is that of one moment of a call that edits the line: before it, halfway, or after it
pub data IsOfMoment (environment : Environment) (before halfway left draft : Draft) : Type 0 where
  as_before : IsOf environment before halfway before draft → IsOfMoment environment before halfway left draft
  as_halfway : IsOf environment before halfway halfway draft → IsOfMoment environment before halfway left draft
  as_left : IsOf environment before halfway left draft → IsOfMoment environment before halfway left draft

-- a draft has lost its changes; its saved line and its history index are those of a moment, its line and its hint may be any
pub record LosesChanges (moment draft : Draft) : Type 0 where
  pub changes : draft.changes ≡ no_changes
  pub saved : draft.saved ≡ moment.saved
  pub index : draft.index ≡ moment.index

-- a draft has lost its changes in one of the moments of a call
abbrev pub HasLostChanges : Draft → Draft → Draft → Draft → Type 0
HasLostChanges before halfway left draft = LosesChanges before draft ⊎ LosesChanges halfway draft ⊎ LosesChanges left draft

-- a fault leaves a draft that is of one moment of the call; or, where memory ran out, one that has lost its changes
abbrev pub FaultLeft : ReadlineError → Environment → Draft → Draft → Draft → Draft → Type 0
FaultLeft e environment before halfway left draft =
    is_fault e ≡ true → IsOfMoment environment before halfway left draft ⊎ ((is_memory e ≡ true) × HasLostChanges before halfway left draft)

-- the same of a call's result
abbrev pub FaultLeaves : {T : Type 0} → Result T ReadlineError → Environment → Draft → Draft → Draft → Draft → Type 0
FaultLeaves (Ok _) environment before halfway left draft = Unit {0}
FaultLeaves (Err e) environment before halfway left draft = FaultLeft e environment before halfway left draft

-- an error of input or output leaves a draft that is of a moment: before the call, or after it
abbrev pub IoLeft : ReadlineError → Environment → Draft → Draft → Draft → Type 0
IoLeft e environment before left draft = is_io e ≡ true → IsOfMoment environment before left left draft

-- the same of a call's result
abbrev pub IoLeaves : {T : Type 0} → Result T ReadlineError → Environment → Draft → Draft → Draft → Type 0
IoLeaves (Ok _) environment before left draft = Unit {0}
IoLeaves (Err e) environment before left draft = IoLeft e environment before left draft
