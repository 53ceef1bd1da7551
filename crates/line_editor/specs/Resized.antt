-- What is left once the screen was resized.
use Rattle.std.specs.Prelude.{◌≡◌, ◌≤◌, ℕ, Result, OnOk, OnErr}
use Rattle.line_config.specs.declared.error.ReadlineError.{ReadlineError}
use Rattle.line_keys.specs.Model.Display.{corner}
use Rattle.line_keys.specs.Model.Draft.{hint_shown}
use Rattle.line_keys.specs.Model.Frame.{FailsByRenderer}
use Rattle.line_keys.specs.Model.ShownLine.{HasRightLayout, Redraws, Shows}
use Rattle.line_keys.specs.declared.editor_state.EditorState.{Ghosts}
use Rattle.line_state.specs.ScreenState.{ResizesTo}

-- what a resize leaves of an editor: all but the screen, the end of the prompt, and what is drawn; the count of failures never falls
pub record LeftByResize {X : Type 0} (e : Ghosts X) (old new : X) : Type 0 where
  pub draft : e.draft new ≡ e.draft old
  pub environment : e.environment new ≡ e.environment old
  pub sure : e.sure new ≡ e.sure old
  pub loan : e.loan new ≡ e.loan old
  pub prompt : (e.display new).prompt ≡ (e.display old).prompt
  pub lit : (e.display new).lit ≡ (e.display old).lit
  pub failures : e.failures old ≤ e.failures new

-- the screen has so many columns and rows from now on, and the own prompt is measured anew. Then the line was drawn in full after it
-- with its hint, and the kept layout is right. After an error the kept layout is the one from before
pub record Resizes {X T : Type 0} (e : Ghosts X) (result : Result T ReadlineError) (old new : X) (columns rows : ℕ) : Type 0 where
  pub surface : ResizesTo columns rows (e.display old).surface (e.display new).surface
  pub prompt_end : (e.display new).prompt_end ≡ (e.display new).surface.measure (e.display new).prompt corner
  pub shows : OnOk result (Shows e new (hint_shown (e.draft new)))
  pub right : OnOk result (HasRightLayout e new)
  pub redraws : OnOk result (Redraws e 1 1 old new)
  pub kept : OnErr result ((e.display new).layout ≡ (e.display old).layout)
  pub stays : LeftByResize e old new
  pub fails : FailsByRenderer e result old new
