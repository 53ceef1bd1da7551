-- What stays in each call of an editor, and which errors occur, by what contracts see of the editor.
use Rattle.std.specs.Prelude.{◌≡◌, ◌≤◌, true, Result, ℕ}
use Rattle.line_config.specs.Error.{FaultsOnly, IoOnlyIf, Rose}
use Rattle.line_config.specs.Failures.{UnlessIo}
use Rattle.line_config.specs.declared.error.ReadlineError.{ReadlineError}
use Rattle.line_parts.specs.Asks.{Asks, is_sure}
use Rattle.line_keys.specs.declared.editor_state.EditorState.{Ghosts}

-- the frame: what no call of an editor but `resized` changes; the count of failures never falls
pub record Frame {X : Type 0} (e : Ghosts X) (old new : X) : Type 0 where
  pub environment : e.environment new ≡ e.environment old
  pub loan : e.loan new ≡ e.loan old
  pub surface : (e.display new).surface ≡ (e.display old).surface
  pub prompt : (e.display new).prompt ≡ (e.display old).prompt
  pub prompt_end : (e.display new).prompt_end ≡ (e.display old).prompt_end
  pub sure : e.sure new ≡ e.sure old
  pub failures : e.failures old ≤ e.failures new

-- an error of input or output occurs only where this holds, the only other error is that memory ran out, and without an error
-- of input or output the count of failures stays
pub record FailsOnlyIf {T : Type 0} (result : Result T ReadlineError) (cause : Type 0) (old new : ℕ) : Type 0 where
  pub io : IoOnlyIf result cause
  pub faults : FaultsOnly result
  pub quiet : UnlessIo result (new ≡ old)

-- the renderer failed
abbrev pub RendererFailed : {X : Type 0} → Ghosts X → X → X → Type 0
RendererFailed e old new = Rose (e.failures old) (e.failures new)

-- the renderer failed, or one of those that are asked is not sure
abbrev pub PartyFailed : {X : Type 0} → Ghosts X → Asks → X → X → Type 0
PartyFailed e asks old new = is_sure (e.sure old) asks ≡ true → Rose (e.failures old) (e.failures new)

-- how a call may fail that asks the renderer alone
abbrev pub FailsByRenderer : {X T : Type 0} → Ghosts X → Result T ReadlineError → X → X → Type 0
FailsByRenderer e result old new = FailsOnlyIf result (RendererFailed e old new) (e.failures old) (e.failures new)

-- how a call may fail that asks the helper or the history too
abbrev pub FailsByParty : {X T : Type 0} → Ghosts X → Asks → Result T ReadlineError → X → X → Type 0
FailsByParty e asks result old new = FailsOnlyIf result (PartyFailed e asks old new) (e.failures old) (e.failures new)
