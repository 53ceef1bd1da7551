-- What contracts see of what is drawn of a line.
use Rattle.std.specs.Prelude.{◌≡◌, ◌≤◌, Bool, true, false, List, [], ◌∷◌, ◌++◌, length, ℕ, Option, Result, OnOk, OnErr}
use Rattle.std.specs.List.{list_all}
use Rattle.line_buffer.specs.Line.{Line, inserted_at_cursor, is_at_end}
use Rattle.line_buffer.specs.Printable.{is_plain, is_printable}
use Rattle.line_buffer.specs.declared.layout.Layout.{Layout}
use Rattle.line_buffer.specs.declared.layout.Position.{Position}
use Rattle.line_config.specs.Error.{IsOneMore, Rose}
use Rattle.line_config.specs.declared.error.ReadlineError.{ReadlineError}
use Rattle.line_keys.specs.Model.Display.{IsFullRedraw, IsRight, ShowsInFull, ShowsText, columns_back, columns_on, corner, ending_at}
use Rattle.line_keys.specs.Model.Frame.{FailsOnlyIf}
use Rattle.line_state.specs.ScreenState.{ResizesTo, WritesAtMost}
use Rattle.line_state.specs.declared.drawn.Drawn.{Ghosts}

-- what no drawing changes: whose loan the renderer is, the surface, the own prompt and its end; the count of failures never falls
pub record KeepsSurface {X : Type 0} (d : Ghosts X) (old new : X) : Type 0 where
  pub loan : d.loan new ≡ d.loan old
  pub surface : (d.display new).surface ≡ (d.display old).surface
  pub prompt : (d.display new).prompt ≡ (d.display old).prompt
  pub prompt_end : (d.display new).prompt_end ≡ (d.display old).prompt_end
  pub failures : d.failures old ≤ d.failures new

-- a highlighter is passed only where colors are shown
abbrev pub ColorsAreOn : {X : Type 0} → Ghosts X → X → Bool → Type 0
ColorsAreOn d view highlighted = highlighted ≡ true → (d.display view).surface.colors ≡ true

-- how a call may fail that asks the renderer
abbrev pub FailsBySurface : {X T : Type 0} → Ghosts X → Result T ReadlineError → X → X → Type 0
FailsBySurface d result old new = FailsOnlyIf result (Rose (d.failures old) (d.failures new)) (d.failures old) (d.failures new)

-- a full redraw of a line, after a prompt that ends there and is the own one or another, with a trailing text or none; after an error
-- the kept layout stays
pub record DrawsInFull {X T : Type 0} (d : Ghosts X) (result : Result T ReadlineError) (old new : X) (text : List ℕ) (prompt_end : Position) (own : Bool) (line : Line) (trailing : Option (List ℕ)) : Type 0 where
  pub shown : OnOk result (ShowsInFull (d.display new) text prompt_end line trailing)
  pub prompt : OnOk result ((d.display new).layout.default_prompt ≡ own)
  pub lit : (d.display new).lit ≡ (d.display old).lit
  pub kept : OnErr result ((d.display new).layout ≡ (d.display old).layout)
  pub redraws : OnOk result (IsOneMore (d.redraws old) (d.redraws new))
  pub beside : d.beside new ≡ d.beside old
  pub keeps : KeepsSurface d old new
  pub fails : FailsBySurface d result old new

-- the screen has so many columns and rows from now on, and the own prompt is measured anew. Then the line is drawn in full after it,
-- with a trailing text or none. After an error the kept layout stays
pub record DrawsResized {X T : Type 0} (d : Ghosts X) (result : Result T ReadlineError) (old new : X) (columns rows : ℕ) (line : Line) (trailing : Option (List ℕ)) : Type 0 where
  pub surface : ResizesTo columns rows (d.display old).surface (d.display new).surface
  pub prompt : (d.display new).prompt ≡ (d.display old).prompt
  pub prompt_end : (d.display new).prompt_end ≡ (d.display new).surface.measure (d.display new).prompt corner
  pub shown : OnOk result (ShowsInFull (d.display new) (d.display new).prompt (d.display new).prompt_end line trailing)
  pub own_prompt : OnOk result ((d.display new).layout.default_prompt ≡ true)
  pub lit : (d.display new).lit ≡ (d.display old).lit
  pub kept : OnErr result ((d.display new).layout ≡ (d.display old).layout)
  pub redraws : OnOk result (IsOneMore (d.redraws old) (d.redraws new))
  pub beside : d.beside new ≡ d.beside old
  pub loan : d.loan new ≡ d.loan old
  pub failures : d.failures old ≤ d.failures new
  pub fails : FailsBySurface d result old new

-- a kept layout is drawn again after the own prompt, and stays; where it is a full redraw's, the line is shown in full
pub record RedrawsKept {X T : Type 0} (d : Ghosts X) (result : Result T ReadlineError) (old new : X) (line : Line) (trailing : Option (List ℕ)) : Type 0 where
  pub layout : (d.display new).layout ≡ (d.display old).layout
  pub lit : (d.display new).lit ≡ (d.display old).lit
  pub shown : IsFullRedraw (d.display old).surface (d.display old).prompt_end line trailing (d.display old).layout
      → OnOk result (ShowsInFull (d.display new) (d.display old).prompt (d.display old).prompt_end line trailing)
  pub redraws : OnOk result (IsOneMore (d.redraws old) (d.redraws new))
  pub beside : d.beside new ≡ d.beside old
  pub keeps : KeepsSurface d old new
  pub fails : FailsBySurface d result old new

-- a call of the renderer that draws nothing in full
pub record DrawsNoneInFull {X T : Type 0} (d : Ghosts X) (result : Result T ReadlineError) (old new : X) : Type 0 where
  pub lit : (d.display new).lit ≡ (d.display old).lit
  pub redraws : d.redraws new ≡ d.redraws old
  pub keeps : KeepsSurface d old new
  pub fails : FailsBySurface d result old new

-- a layout once the screen was cleared: its cursor and its end are at the corner
abbrev pub cleared : Layout → Layout
cleared layout = ending_at corner layout

-- after an error the kept layout stays but for its cursor
abbrev pub KeepsEnd : {X T : Type 0} → Ghosts X → Result T ReadlineError → X → X → Type 0
KeepsEnd d result old new = OnErr result ((d.display new).layout ≡ record (d.display old).layout { cursor = (d.display new).layout.cursor })

-- a printable character was written where the kept cursor is, with nothing of the line after it: cursor and end move one column on;
-- after an error the kept layout stays
pub record Writes {X T : Type 0} (d : Ghosts X) (result : Result T ReadlineError) (old new : X) (c : ℕ) : Type 0 where
  pub layout : OnOk result ((d.display new).layout ≡ ending_at (columns_on 1 (d.display old).layout.cursor) (d.display old).layout)
  pub right : (line : Line) → is_at_end line ≡ true → list_all is_plain line.text ≡ true
      → (d.display old).layout.has_info ≡ false → IsRight (d.display old) line → OnOk result (IsRight (d.display new) (inserted_at_cursor line (c ∷ [])))
  pub kept : OnErr result ((d.display new).layout ≡ (d.display old).layout)
  pub beside : WritesAtMost (d.beside old) (d.beside new)
  pub part : DrawsNoneInFull d result old new

-- the last characters of what is shown were taken away, printable ones: cursor and end move as many columns back from the end; after an
-- error the kept end stays
pub record TakesBack {X T : Type 0} (d : Ghosts X) (result : Result T ReadlineError) (old new : X) (count : ℕ) : Type 0 where
  pub layout : OnOk result ((d.display new).layout ≡ ending_at (columns_back count (d.display old).layout.end) (d.display old).layout)
  pub right : (front gone : List ℕ) → list_all is_plain front ≡ true → list_all is_printable gone ≡ true → length gone ≡ count
      → (d.display old).layout.has_info ≡ false → ShowsText (d.display old) (front ++ gone)
      → OnOk result (IsRight (d.display new) (record { text = front; cursor = length front }))
  pub kept : KeepsEnd d result old new
  pub beside : d.beside new ≡ d.beside old
  pub part : DrawsNoneInFull d result old new
