-- What a terminal shows of a line that is kept.
use Rattle.std.proofs.Common.{◌≡◌, ◌∙◌, ℕ, true, Bool, List, Option, Some, None, option_map, sym, ap, ap₂, subst}
use Rattle.std.specs.Option.{IfSome}
use Rattle.line_buffer.specs.Line.{Line}
use Rattle.line_buffer.specs.declared.layout.Position.{Position}
use Rattle.line_keys.specs.Model.Display.{Display, Screen, ShowsInFull, Surface, corner, cursor_position}
use Rattle.line_keys.specs.Item.{Item}
use Rattle.line_parts.specs.Environment.{Environment}
use Rattle.line_screen.specs.Measure.{measured}
use Rattle.line_state.specs.Kept.{display_on}
use Rattle.line_editor.specs.Released.{KeptDraft}
use Rattle.line_term.specs.Shown.{EndsInRows, IsOnTerminal}
use Rattle.line_session.specs.Kept.{FitsScreen, IsShownWithItems}
use Rattle.line_session.specs.OnTerminal.{IsLineInModeOn, IsLineOn, ShowsBegun, screen_of}
use Rattle.line_session.specs.Searching.{search_value, search_prompt}
use Rattle.line_session.specs.Sitting.{BegunLine, Sitting}
use Rattle.line_session.specs.declared.mode.Mode.{Mode}
use Rattle.line_session.specs.declared.mode.Mode.TheVariants as modes

screen_is : (s : Screen) (place : Position) (prompt text : List ℕ) (origin : Position) (behind : Option (List ℕ)) → s.position ≡ place → s.prompt ≡ prompt
    → s.text ≡ text → s.origin ≡ origin → s.behind ≡ behind → s.known ≡ true
    → s ≡ record { position = place; prompt = prompt; text = text; origin = origin; behind = behind; known = true }
screen_is s place prompt text origin behind e₁ e₂ e₃ e₄ e₅ e₆ =
    ap₂ (λ (x : Position) (y : List ℕ). record s { position = x; prompt = y }) e₁ e₂
    ∙ ap₂ (λ (x : List ℕ) (y : Position). record s { position = place; prompt = prompt; text = x; origin = y }) e₃ e₄
    ∙ ap₂ (λ (x : Option (List ℕ)) (y : Bool). record { position = place; prompt = prompt; text = text; origin = origin; behind = x; known = y }) e₅ e₆

-- what a screen is known to show in full is shown by what was written
in_full : {O : Type 0} (contents : O → Option (List ℕ)) (columns : ℕ) (out : O) (display : Display) (shown : List ℕ) (prompt_end : Position) (line : Line)
    (trailing : Option (List ℕ)) → display.surface.measure ≡ measured columns → prompt_end ≡ measured columns shown corner
    → ShowsInFull display shown prompt_end line trailing
    → (display.screen.known ≡ true → EndsInRows (measured columns) display.screen → IsOnTerminal contents columns out display.screen)
    → IsLineOn contents columns out shown line trailing
in_full contents columns out display shown prompt_end line trailing measure ends full told = λ rows.
    let is : display.screen ≡ screen_of columns shown line trailing =
    screen_is display.screen _ shown line.text _ trailing
    (full.position ∙ full.layout.cursor ∙ ap₂ (λ m e. cursor_position m e line) measure ends)
    full.prompt_text full.shows (full.origin ∙ ends) full.behind full.known in
    subst (IsOnTerminal contents columns out) is (told full.known (subst (EndsInRows (measured columns)) (sym is) rows))

-- a line that is shown as it is in a mode
shows_in_mode : {O : Type 0} (contents : O → Option (List ℕ)) (columns : ℕ) (out : O) (mode : Mode) (items : List Item) (environment : Environment)
    (prompt : List ℕ) (kept : KeptDraft) (surface : Surface) (screen : Screen) → surface.measure ≡ measured columns
    → surface.measure prompt corner ≡ kept.drawing.prompt_end
    → IsShownWithItems mode items environment (display_on kept.drawing surface screen prompt) kept.draft
    → (screen.known ≡ true → EndsInRows (measured columns) screen → IsOnTerminal contents columns out screen)
    → IsLineInModeOn contents mode items environment columns out prompt kept.draft
shows_in_mode contents columns out modes.Editing items environment prompt kept surface screen measure ends shown told =
    (shown.trailing, shown.trails, in_full contents columns out _ prompt _ _ _ measure (sym ends ∙ ap (λ m. m prompt corner) measure) shown.in_full told)
shows_in_mode contents columns out modes.Quoting items environment prompt kept surface screen measure ends shown told =
    (shown.trailing, shown.trails, in_full contents columns out _ prompt _ _ _ measure (sym ends ∙ ap (λ m. m prompt corner) measure) shown.in_full told)
shows_in_mode contents columns out (modes.Completing going) items environment prompt kept surface screen measure ends shown told =
    (shown.trailing, shown.trails, in_full contents columns out _ prompt _ _ _ measure (sym ends ∙ ap (λ m. m prompt corner) measure) shown.in_full told)
shows_in_mode contents columns out (modes.Offering candidates) items environment prompt kept surface screen measure ends shown told =
    (shown.trailing, shown.trails, in_full contents columns out _ prompt _ _ _ measure (sym ends ∙ ap (λ m. m prompt corner) measure) shown.in_full told)
shows_in_mode contents columns out (modes.Listing listing) items environment prompt kept surface screen measure ends shown told = tt
shows_in_mode contents columns out (modes.Searching searching) items environment prompt kept surface screen measure ends shown told = λ none.
    let prompt' = search_prompt (search_value searching) in
    in_full contents columns out _ prompt' _ _ _ measure (ap (λ m. m prompt' corner) measure) (shown none) told
shows_in_mode contents columns out modes.Suspended items environment prompt kept surface screen measure ends shown told = tt

-- so is the one that has begun, if one has
pub shows_begun : {O H B : Type 0} (contents : O → Option (List ℕ)) (answers : H → List (List ℕ) → Environment) (out : O) (line : Option B) (begun_of : B → BegunLine)
    (sitting : Sitting H) (surface : Surface) (screen : Screen) → sitting.line ≡ option_map begun_of line
    → surface.measure ≡ measured sitting.columns
    → IfSome line (λ b. FitsScreen (begun_of b).kept (begun_of b).mode (begun_of b).draws sitting.items surface screen sitting.prompt (answers sitting.helper sitting.lines))
    → (screen.known ≡ true → EndsInRows (measured sitting.columns) screen → IsOnTerminal contents sitting.columns out screen)
    → ShowsBegun contents answers sitting out
shows_begun contents answers out None begun_of sitting surface screen is measure fits told = λ begun line off. absurd (let none = sym line ∙ is in cc)
shows_begun {B = B} contents answers out (Some b) begun_of sitting surface screen is measure fits told = λ begun line off.
    let begun_is : begun_of b ≡ begun = let same : Some (begun_of b) ≡ Some begun = sym is ∙ line in cc in
    subst (λ x. IsLineInModeOn contents x.mode sitting.items (answers sitting.helper sitting.lines) sitting.columns out sitting.prompt x.kept.draft) begun_is
    (shows_in_mode contents sitting.columns out (begun_of b).mode sitting.items (answers sitting.helper sitting.lines) sitting.prompt (begun_of b).kept surface screen
    measure fits.left.measured (fits.shown (ap (λ (x : BegunLine). x.draws) begun_is ∙ off)) told)
