-- Facts on a line that is kept.
use Rattle.std.proofs.Common.{◌≡◌, ℕ, Bool, List, [], ◌∷◌, ◌++◌, Option, Some, None, Result, Ok, Err, IfOk, OnOk, OnErr, refl, sym, ◌∙◌, ap, subst}
use Rattle.std.specs.Prelude.{IfSome}
use Rattle.std.specs.Borrow.{MutBor}
use Rattle.line_config.specs.Settings.{Settings}
use Rattle.line_keys.specs.Model.Display.{Display, Screen, Surface}
use Rattle.line_keys.specs.Model.Draft.{Draft}
use Rattle.line_parts.specs.Environment.{Environment}
use Rattle.line_parts.specs.Helped.{completion_by, environment_by, hint_by, lights_by, update_by, verdict_by}
use Rattle.line_parts.specs.Hint.{Suggestion}
use Rattle.line_parts.specs.Shown.{Shown}
use Rattle.line_parts.specs.Verdict.{Verdict}
use Rattle.line_parts.specs.declared.completion.Completer as completers
use Rattle.line_parts.specs.declared.highlight.CmdKind.{CmdKind}
use Rattle.line_buffer.specs.KillRing.{Ring}
use Rattle.line_keys.specs.Command.{Command}
use Rattle.line_keys.specs.Item.{Item}
use Rattle.line_keys.specs.declared.keys.KeyEvent.{KeyEvent}
use Rattle.line_screen.specs.KeyQueue.{Queued}
use Rattle.line_editor.specs.Binding.{Bound}
use Rattle.line_editor.specs.Editor.{Ruler, own_ruler}
use Rattle.line_editor.specs.Input.{Input}
use Rattle.line_editor.specs.Released.{KeptDraft}
use Rattle.line_editor.specs.declared.run.Turned.{Turned}
use Rattle.line_editor.specs.declared.run.Turned.TheVariants as turned
use Rattle.line_session.specs.Kept.{FitsScreen, IsShownWithItems, answers_of}
use Rattle.line_session.specs.Sitting.{standing_with}
use Rattle.line_session.specs.Steps.{Rules, Standing, starting}
use Rattle.line_session.specs.Taken.{TurnsComeTo, WaitsBehind}
use Rattle.line_session.specs.declared.mode.Mode.{Mode}
use Rattle.line_session.specs.declared.mode.Mode.TheVariants as modes

-- a helper that is lent answers as it does
pub lent_answers : {H C : Type 0} (hint_at : H → Shown → Option Suggestion) (verdict_at : H → List ℕ → Verdict) (lights : H → List ℕ → ℕ → CmdKind → Bool) (completer : completers.Ghosts H C) (helper : MutBor H) (lines : List (List ℕ))
    → environment_by hint_at verdict_at lights completer (Some helper) lines ≡ answers_of hint_at verdict_at lights completer helper.now lines
unfolding hint_by verdict_by lights_by completion_by update_by
lent_answers hint_at verdict_at lights completer helper lines = refl

-- a helper that comes back answers as it did
pub answers_back : {H C : Type 0} (hint_at : H → Shown → Option Suggestion) (verdict_at : H → List ℕ → Verdict) (lights : H → List ℕ → ℕ → CmdKind → Bool) (completer : completers.Ghosts H C)
    (helper lent : MutBor H) (back : Option (MutBor H)) (w w' : Environment) (lines : List (List ℕ))
    → back ≡ Some lent → w ≡ environment_by hint_at verdict_at lights completer back w.lines → w ≡ w' → w' ≡ environment_by hint_at verdict_at lights completer (Some helper) lines
    → w ≡ answers_of hint_at verdict_at lights completer lent.now lines
answers_back hint_at verdict_at lights completer helper lent back w w' lines is by same before =
    let lines_stay : w.lines ≡ lines = ap (λ (x : Environment). x.lines) (same ∙ before) in
    by ∙ ap (λ b. environment_by hint_at verdict_at lights completer b w.lines) is ∙ lent_answers hint_at verdict_at lights completer lent w.lines
    ∙ ap (λ l. answers_of hint_at verdict_at lights completer lent.now l) lines_stay

-- a line that is kept fits what is equal
pub fits_alike : {A : Type 0} (surface : A → Surface) (screen : A → Screen) (kept : KeptDraft) (mode : Mode) (draws : Bool) (items : List Item) (a b : A) (p p' : List ℕ) (w w' : Environment)
    → a ≡ b → p ≡ p' → w ≡ w' → FitsScreen kept mode draws items (surface b) (screen b) p' w' → FitsScreen kept mode draws items (surface a) (screen a) p w
fits_alike surface screen kept mode draws items a b p p' w w' same_screen same_prompt same_answers fits =
    subst (λ x. FitsScreen kept mode draws items (surface a) (screen a) p x) (sym same_answers)
    (subst (λ x. FitsScreen kept mode draws items (surface a) (screen a) x w') (sym same_prompt)
    (subst (λ x. FitsScreen kept mode draws items (surface x) (screen x) p' w') (sym same_screen) fits))

-- those who answer alike with one history answer alike with any
pub answers_any : {H C : Type 0} (hint_at : H → Shown → Option Suggestion) (verdict_at : H → List ℕ → Verdict) (lights : H → List ℕ → ℕ → CmdKind → Bool) (completer : completers.Ghosts H C)
    (one other : H) (lines : List (List ℕ)) → answers_of hint_at verdict_at lights completer one lines ≡ answers_of hint_at verdict_at lights completer other lines
    → (all : List (List ℕ)) → answers_of hint_at verdict_at lights completer one all ≡ answers_of hint_at verdict_at lights completer other all
answers_any hint_at verdict_at lights completer one other lines same all = ap (λ (w : Environment). record w { lines = all }) same

-- what holds of one result holds of another that is the same where it is a success
pub on_both : {T E : Type 0} (P Q : T → Type 0) (one two : Result T E) → IfOk two (λ done. one ≡ Ok done) → IfOk one P
    → ((done : T) → two ≡ Ok done → P done → Q done) → IfOk two Q
on_both P Q one (Ok done) same holds then_so = then_so done refl (subst (λ r. IfOk r P) same holds)
on_both P Q one (Err error) same holds then_so = tt

-- turns come to what is equal
pub comes_alike : (own own' : Bool) (by by' : Rules) (start start' end end' : Standing) → by ≡ by' → start ≡ start' → end ≡ end'
    → (done : Turned) → (done ≡ turned.NeedsMore → own ≡ own') → TurnsComeTo own by start end done → TurnsComeTo own' by' start' end' done
comes_alike own own' by by' start start' end end' same_rules same_start same_end done same_own comes =
    by_done done same_own
    (subst (λ b. TurnsComeTo own b start' end' done) same_rules (subst (λ s. TurnsComeTo own by s end' done) same_start (subst (λ e. TurnsComeTo own by start e done) same_end comes)))
  where
    by_done : (done : Turned) → (done ≡ turned.NeedsMore → own ≡ own') → TurnsComeTo own by' start' end' done → TurnsComeTo own' by' start' end' done
    by_done turned.Proceeds same_own comes = comes
    by_done turned.Submitted same_own comes = comes
    by_done turned.Ended same_own comes = comes
    by_done turned.Interrupted same_own comes = comes
    by_done turned.NeedsMore same_own comes = subst (λ o. WaitsBehind o by' start' end') (same_own refl) comes

-- what turns came to of a line that was resumed, as it is kept again
pub comes_so : {E : Type 0} (own own' : Bool) (by by' : Rules) (start start' end end' : Standing) (one two : Result Turned E)
    → IfOk one (TurnsComeTo own by start end) → IfOk two (λ done. one ≡ Ok done) → by ≡ by' → start ≡ start' → end ≡ end'
    → (two ≡ Ok turned.NeedsMore → own ≡ own') → IfOk two (TurnsComeTo own' by' start' end')
comes_so own own' by by' start start' end end' one two comes same same_rules same_start same_end same_own =
    on_both (TurnsComeTo own by start end) (TurnsComeTo own' by' start' end') one two same comes
    (λ done is came. comes_alike own own' by by' start start' end end' same_rules same_start same_end done (λ more. same_own (is ∙ ap (λ t. Ok t) more)) came)

-- what commands are read and executed by, of its parts
abbrev pub rules_with : Bound → (KeyEvent → Option Command) → Ruler → Environment → Settings → Rules
rules_with bound own ruler w settings = record { keymap = record { bound = bound; own = own }; ruler = ruler; environment = w; settings = settings }

-- it is equal where its parts are
pub rules_alike : (bound bound' : Bound) (own : KeyEvent → Option Command) (d d' : Display) (settings : Settings) (w w' : Environment) → bound ≡ bound' → d ≡ d' → w ≡ w'
    → rules_with bound own (own_ruler d settings.indent_size) w settings ≡ rules_with bound' own (own_ruler d' settings.indent_size) w' settings
rules_alike bound bound' own d d' settings w w' same_bound same_display same_answers =
    ap (λ b. rules_with b own (own_ruler d settings.indent_size) w settings) same_bound ∙ ap (λ x. rules_with bound' own (own_ruler x settings.indent_size) w settings) same_display
    ∙ ap (λ x. rules_with bound' own (own_ruler d' settings.indent_size) x settings) same_answers

-- and so is where reading starts
pub starts_alike : (draws : Bool) (draft draft' : Draft) (input input' : Input) (w w' : Environment) (mode : Mode) (items : List Item) (kills : Ring)
    → draft ≡ draft' → input ≡ input' → w ≡ w'
    → starting w draws (standing_with draft input mode items kills) ≡ starting w' draws (standing_with draft' input' mode items kills)
starts_alike draws draft draft' input input' w w' mode items kills same_draft same_input same_answers =
    ap (λ x. starting w draws (standing_with x input mode items kills)) same_draft ∙ ap (λ x. starting w draws (standing_with draft' x mode items kills)) same_input
    ∙ ap (λ x. starting x draws (standing_with draft' input' mode items kills)) same_answers

-- and where it stands
pub stands_alike : (draft draft' : Draft) (input input' : Input) (mode : Mode) (items : List Item) (kills : Ring) → draft ≡ draft' → input ≡ input'
    → standing_with draft input mode items kills ≡ standing_with draft' input' mode items kills
stands_alike draft draft' input input' mode items kills same_draft same_input =
    ap (λ x. standing_with x input mode items kills) same_draft ∙ ap (λ x. standing_with draft' x mode items kills) same_input

-- of turns that ended so in this way, this holds
pub ended_so : {T E : Type 0} (P : T → Type 0) (one two : Result T E) (done : T) → IfOk two (λ t. one ≡ Ok t) → IfOk one P → two ≡ Ok done → P done
ended_so P one two done same holds is = let there : one ≡ Ok done = subst (λ r. IfOk r (λ t. one ≡ Ok t)) is same in subst (λ r. IfOk r P) there holds

-- what follows from a success and from an error follows
pub either_way : {T E C : Type 0} (result : Result T E) (A B : Type 0) → OnOk result A → OnErr result B → (A → C) → (B → C) → C
either_way (Ok done) A B ok err by_ok by_err = by_ok ok
either_way (Err error) A B ok err by_ok by_err = by_err err

-- items and others behind them are none only where those are none
none_before : (items given : List Item) → items ++ given ≡ [] → items ≡ []
none_before [] given none = refl
none_before (first ∷ rest) given none = absurd (let is = none in cc)

pub none_left : (before after : Queued) (given : List Item) → after ≡ record before { rest = before.rest ++ given } → after.rest ≡ [] → before.rest ≡ []
none_left before after given is none = none_before before.rest given (sym (ap (λ (q : Queued). q.rest) is) ∙ none)

-- a line that is shown with some items is shown with more of them
with_items : (m : Mode) (items items' : List Item) (w : Environment) (d : Display) (t : Draft) → (items' ≡ [] → items ≡ []) → IsShownWithItems m items w d t → IsShownWithItems m items' w d t
with_items modes.Editing items items' w d t none shown = shown
with_items modes.Quoting items items' w d t none shown = shown
with_items (modes.Completing going) items items' w d t none shown = shown
with_items (modes.Offering candidates) items items' w d t none shown = shown
with_items (modes.Listing listing) items items' w d t none shown = tt
with_items (modes.Searching searching) items items' w d t none shown = λ is. shown (none is)
with_items modes.Suspended items items' w d t none shown = tt

-- and so does a line fit that is kept, if one is
pub still_fits : {B : Type 0} (line : Option B) (kept : B → KeptDraft) (mode : B → Mode) (draws : B → Bool) (items items' : List Item) (surface : Surface) (screen : Screen) (prompt : List ℕ) (w : Environment)
    → (items' ≡ [] → items ≡ []) → IfSome line (λ b. FitsScreen (kept b) (mode b) (draws b) items surface screen prompt w)
    → IfSome line (λ b. FitsScreen (kept b) (mode b) (draws b) items' surface screen prompt w)
still_fits None kept mode draws items items' surface screen prompt w none fits = tt
still_fits (Some b) kept mode draws items items' surface screen prompt w none fits = record {
  left = fits.left;
  within = fits.within;
  shown = λ off. with_items (mode b) items items' w _ _ none (fits.shown off);
}
