-- What contracts see of a screen, and when it shows what it is handed.
use Rattle.std.specs.Prelude.{◌≡◌, ℕ, ◌+◌, ◌++◌, ◌∷◌, ◌<◌, [], Bool, true, List, Option, None, IfSome, Result}
use Rattle.std.specs.List.{list_all}
use Rattle.line_buffer.specs.Line.{Line}
use Rattle.line_buffer.specs.Printable.{is_plain}
use Rattle.line_buffer.specs.declared.layout.Layout.{Layout}
use Rattle.line_config.specs.Error.{FaultsOnly}
use Rattle.line_config.specs.Failures.{CountsFailures}
use Rattle.line_config.specs.declared.error.ReadlineError.{ReadlineError}
use Rattle.line_keys.specs.Model.Display.{Beside, Surface, Screen, IsFullRedraw, corner}
use Rattle.line_state.specs.declared.screen_state.ScreenState.{Ghosts}

-- what is handed over for a full redraw agrees: the prompt ends at the layout's prompt end, the layout is a full redraw's, the old
-- layout's cursor is the screen cursor, and a highlighter is passed only where colors are shown
pub record Agrees (surface : Surface) (screen : Screen) (prompt : List ℕ) (line : Line) (trailing : Option (List ℕ)) (old : Option Layout) (layout : Layout) (highlighted : Bool) : Type 0 where
  pub prompt_end : layout.prompt_size ≡ surface.measure prompt corner
  pub full : IsFullRedraw surface layout.prompt_size line trailing layout
  pub drawn : IfSome old (λ l. l.cursor ≡ screen.position)
  pub colored : highlighted ≡ true → surface.colors ≡ true

-- a screen has so many columns and rows from now on: how it measures may change with them, its colors and how it counts clusters stay
abbrev pub ResizesTo : ℕ → ℕ → Surface → Surface → Type 0
ResizesTo columns rows old new = new ≡ record old { measure = new.measure; columns = columns; rows = rows }

-- the line is shown by its layout, after a prompt, with a trailing text or none, and this is known
abbrev pub shown_by : Layout → List ℕ → Line → Option (List ℕ) → Screen
shown_by layout prompt line trailing = record {
  position = layout.cursor;
  prompt = prompt;
  text = line.text;
  origin = layout.prompt_size;
  behind = trailing;
  known = true;
}

-- the shown text is printable ASCII and newlines with nothing after it, the cursor stands where it ends, and a column is free after that
pub record HasRoom (surface : Surface) (screen : Screen) : Type 0 where
  pub plain : list_all is_plain screen.text ≡ true
  pub bare : screen.behind ≡ None
  pub at_end : screen.position ≡ surface.measure screen.text screen.origin
  pub free : screen.position.col + 1 < surface.columns

-- the screen with one more character after the shown text
abbrev pub with_shown : Screen → ℕ → Screen
with_shown screen c = record screen {
  position = record { row = screen.position.row; col = screen.position.col + 1 };
  text = screen.text ++ c ∷ [];
}

-- the shown text is printable ASCII and newlines with nothing after it, and ends on the cursor's row, so many columns after the cursor
pub record EndsBehind (surface : Surface) (screen : Screen) (columns : ℕ) : Type 0 where
  pub plain : list_all is_plain screen.text ≡ true
  pub bare : screen.behind ≡ None
  pub row : (surface.measure screen.text screen.origin).row ≡ screen.position.row
  pub column : screen.position.col + columns ≡ (surface.measure screen.text screen.origin).col

-- a call that may fail: the surface stays, an error of input or output raises the count of failures and nothing else changes it, and the
-- only other error is that memory ran out
pub record Tries {X T : Type 0} (r : Ghosts X) (result : Result T ReadlineError) (old new : X) : Type 0 where
  pub surface : r.surface new ≡ r.surface old
  pub counts : CountsFailures result (r.failures old) (r.failures new)
  pub faults : FaultsOnly result

-- such a call that draws nothing in full
pub record DrawsNoLine {X T : Type 0} (r : Ghosts X) (result : Result T ReadlineError) (old new : X) : Type 0 where
  pub redraws : r.redraws new ≡ r.redraws old
  pub tries : Tries r result old new

-- such a call that draws a part, and is asked for nothing beside that
pub record DrawsPart {X T : Type 0} (r : Ghosts X) (result : Result T ReadlineError) (old new : X) : Type 0 where
  pub redraws : r.redraws new ≡ r.redraws old
  pub tries : Tries r result old new
  pub beside : r.beside new ≡ r.beside old

-- beside drawing a screen was asked at most to write texts by themselves
abbrev pub WritesAtMost : Beside → Beside → Type 0
WritesAtMost old new = new ≡ record old { written = new.written }

-- beside drawing a screen was asked at most to beep
abbrev pub BeepsAtMost : Beside → Beside → Type 0
BeepsAtMost old new = new ≡ record old { beeps = new.beeps }

-- beside drawing a screen was asked at most to hold back what is drawn, or to show it
abbrev pub HoldsAtMost : Beside → Beside → Type 0
HoldsAtMost old new = new ≡ record old { held = new.held }
