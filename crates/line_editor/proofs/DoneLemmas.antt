-- Facts on edits that are shown.
use Rattle.std.proofs.Common.{◌≡◌, ◌⊎◌, inl, inr, ap₂, ℕ, [], ◌∷◌, length, Bool, true, false, List, Option, Some, Result, Ok, Err, refl, sym, ◌∙◌, ap, subst, arith}
use Rattle.std.specs.Prelude.{if◌then◌else◌}
use Rattle.line_config.specs.declared.error.ReadlineError.{ReadlineError}
use Rattle.line_buffer.specs.Line.{Line, inserted_at_cursor, without}
use Rattle.line_buffer.specs.Undo.{first_text}
use Rattle.line_keys.specs.Model.Display.{Display, HasCursorAt, lit_after}
use Rattle.line_keys.specs.Model.Draft.{Draft, KeepsText, hinted, hint_shown, start_text}
use Rattle.line_keys.specs.Model.Drawing.{ChangedPlainly, Does, DoesInTwo, Drew, DrewCursor, DrewLine, DrewNothing, KeepsDraftOnErr, Refreshes, ShowsChange, ShowsEdit, Undrawn, cursor, drawn_if, drawn_in_full, drawn_plainly, edit_drawn, text_same, with_hint}
use Rattle.line_keys.specs.Model.Fault.{IsEarlierHint}
use Rattle.line_keys.specs.Model.Frame.{FailsByParty}
use Rattle.line_keys.specs.Model.Plainly.{KilledPlainly, TypedPlainly, kills_plainly, types_plainly}
use Rattle.line_keys.specs.Model.ShownLine.{HasCursorDrawn, HasRightLayout}
use Rattle.line_keys.specs.declared.editor_state.EditorState.{Ghosts}
use Rattle.line_parts.specs.Asks.{Asks, for_hint, is_sure, nobody}
use Rattle.line_parts.specs.Environment.{Environment}
use Rattle.line_parts.specs.declared.highlight.CmdKind.{CmdKind}
use Rattle.line_parts.specs.declared.highlight.CmdKind.TheVariants.{MoveCursor, Other}
use Rattle.line_parts.specs.Hint.{Suggestion}
use Rattle.line_state.specs.Edited.{Edited}
use Rattle.line_editor.specs.Editor.{with_edited}
use Rattle.line_editor.specs.DraftEdits.{after_edit}
use Rattle.line_editor.specs.Outcomes.{EditedOnIo, EditsThenDraws}
use Rattle.line_input.proofs.CountLemmas.{stays_then}
use Rattle.line_editor.proofs.FaultLemmas.{but_hinted, fault_from, fault_shown, made_stays}
use Rattle.line_input.proofs.DraftLemmas.{whole_text}
use Rattle.line_editor.proofs.DrawnLemmas.{drawn_stays, hint_trails, keeps_move, keeps_then, prompt_after, prompt_same, right_after, way_after}
use Rattle.line_input.proofs.DrawnTwiceLemmas.{frame_then}

-- what leaves all but the draft draws nothing
pub nothing_drawn : {X : Type 0} (e : Ghosts X) (old new : X)
    → e.environment new ≡ e.environment old → e.loan new ≡ e.loan old → e.display new ≡ e.display old
    → e.sure new ≡ e.sure old → e.failures new ≡ e.failures old → e.redraws new ≡ e.redraws old
    → Undrawn e old new
nothing_drawn e old new environment loan display sure failures redraws = record {
  drew = record { display = display; redraws = redraws };
  failures = failures;
  frame = record {
    environment = environment;
    loan = loan;
    surface = ap (λ (d : Display). d.surface) display;
    prompt = ap (λ (d : Display). d.prompt) display;
    prompt_end = ap (λ (d : Display). d.prompt_end) display;
    sure = sure;
    failures = omega (arith, failures);
  };
}

-- the hint was asked again, and the line drawn in full with it
abbrev pub Redrawn : {X T : Type 0} → Ghosts X → Result T ReadlineError → X → X → Type 0
Redrawn e r mid new = Refreshes e r mid new (hinted (e.environment mid) (e.draft mid)) with_hint

-- two steps that draw nothing are one
pub undrawn_twice : {X : Type 0} (e : Ghosts X) (old mid new : X) → Undrawn e old mid → Undrawn e mid new → Undrawn e old new
undrawn_twice e old mid new first second = record {
  drew = record { display = second.drew.display ∙ first.drew.display; redraws = second.drew.redraws ∙ first.drew.redraws };
  failures = second.failures ∙ first.failures;
  frame = frame_then e old mid new first.frame second.frame;
}

module _ {X : Type 0} (e : Ghosts X) (old mid new : X) (undrawn : Undrawn e old mid) where
  -- a full redraw behind a step that draws nothing is one from before it
  pub line_after : (most : ℕ) (trailing : Option (List ℕ)) (kind : CmdKind) → DrewLine e most trailing kind mid new → DrewLine e most trailing kind old new
  line_after most trailing kind drew =
      let P : Environment → Type 0 = λ w. (e.display new).lit ≡ lit_after w (e.display old) (e.draft new).line kind in
      let Q : Display → Type 0 = λ d. (e.display new).lit ≡ lit_after (e.environment mid) d (e.draft new).line kind in
      record {
        shows = drew.shows;
        right = drew.right;
        lit = subst P undrawn.frame.environment (subst Q undrawn.drew.display drew.lit);
        redraws = λ below. let n = undrawn.drew.redraws in
            let s = drew.redraws (omega (arith, below, n)) in (omega (arith, s.0, n), omega (arith, s.1, n));
      }

  nothing_after : DrewNothing e mid new → DrewNothing e old new
  nothing_after drew = record { display = drew.display ∙ undrawn.drew.display; redraws = drew.redraws ∙ undrawn.drew.redraws }

  pub cursor_after : (kind : CmdKind) → (e.draft new).line ≡ (e.draft mid).line → HasCursorDrawn e new → DrewCursor e kind mid new → DrewCursor e kind old new
  cursor_after kind line placed drew =
      let P : Display → Type 0 = λ d. HasCursorAt d (e.draft new).line in
      let Q : Line → Type 0 = λ l. HasCursorAt (e.display mid) l in
      record {
        way = way_after e old mid new undrawn.drew.display undrawn.frame.environment undrawn.drew.redraws kind drew.way;
        still = λ was at. let there = subst P (sym undrawn.drew.display) at in nothing_after (drew.still (subst Q line there) there);
        placed = λ was. placed;
      }

  -- failures behind such a step are failures from before it
  pub fails_after : {T : Type 0} (asks : Asks) (r : Result T ReadlineError) → FailsByParty e asks r mid new → FailsByParty e asks r old new
  fails_after asks (Ok x) fails = record { io = tt; faults = tt; quiet = fails.quiet ∙ undrawn.failures }
  fails_after asks (Err er) fails = record {
    io = λ i sure below. let n = undrawn.failures in
        let more = fails.io i (ap (λ s. is_sure s asks) undrawn.frame.sure ∙ sure) (omega (arith, below, n)) in omega (arith, more, n);
    faults = fails.faults;
    quiet = λ no. fails.quiet no ∙ undrawn.failures;
  }

  module _ (made : Draft) (draft : e.draft mid ≡ made) (first : start_text made ≡ start_text (e.draft old)) (hint : made.hint ≡ (e.draft old).hint) where
    -- an edit that was reported
    pub done_reported : {T : Type 0} (r : Result T ReadlineError) → Redrawn e r mid new
        → Does e r old new (hinted (e.environment old) made) with_hint 1
    done_reported (Err er) shows =
        record {
          draft = tt;
          fault = fault_shown e er old mid new made _ (hinted (e.environment old) made) undrawn.frame.environment draft hint (but_hinted (e.environment old) made) shows.err;
          start = tt;
          drew = tt;
          keeps = tt;
          change = tt;
          prompt = prompt_after (e.display old) (e.display mid) (e.display new) undrawn.drew.display (prompt_same (e.display mid) (e.display new) shows.kept);
          frame = frame_then e old mid new undrawn.frame shows.frame;
          fails = fails_after for_hint (Err er) shows.fails;
        }
    done_reported (Ok x) shows =
        let asked : e.draft new ≡ hinted (e.environment old) made =
        shows.draft ∙ ap (λ w. hinted w (e.draft mid)) undrawn.frame.environment ∙ ap (λ d. hinted (e.environment old) d) draft in
        let drew : DrewLine e 1 (hint_shown (e.draft new)) Other old new = line_after 1 (hint_shown (e.draft new)) Other shows.drew in
        record {
          draft = asked;
          fault = tt;
          start = ap start_text asked ∙ first;
          drew = drew;
          keeps = record { right = λ was. drew.right; line = λ was. hint_trails e new drew.shows };
          change = drawn_in_full drew.shows drew.redraws;
          prompt = tt;
          frame = frame_then e old mid new undrawn.frame shows.frame;
          fails = fails_after for_hint (Ok x) shows.fails;
        }

    -- an edit that was not reported: at most the cursor moved
    done_unreported : {T : Type 0} (r : Result T ReadlineError) → made.line.text ≡ (e.draft old).line.text → ShowsEdit e false r mid new
        → Does e r old new made (cursor MoveCursor) 1
    done_unreported (Err er) text shows =
        record {
          draft = tt;
          fault = fault_shown e er old mid new made _ made undrawn.frame.environment draft hint (whole_text made) shows.err;
          start = tt;
          drew = tt;
          keeps = tt;
          change = tt;
          prompt = prompt_after (e.display old) (e.display mid) (e.display new) undrawn.drew.display (prompt_same (e.display mid) (e.display new) shows.kept);
          frame = frame_then e old mid new undrawn.frame shows.frame;
          fails = fails_after nobody (Err er) shows.fails;
        }
    done_unreported (Ok x) text shows =
        let same : (e.draft mid).line.text ≡ (e.draft old).line.text = ap (λ (d : Draft). d.line.text) draft ∙ text in
        let right : HasRightLayout e old → HasRightLayout e new =
        λ was. right_after e old mid new undrawn.drew.display same (ap (λ (d : Draft). d.line) shows.draft) shows.right was in
        record {
          draft = shows.draft ∙ draft;
          fault = tt;
          start = ap start_text (shows.draft ∙ draft) ∙ first;
          drew = cursor_after MoveCursor (ap (λ (d : Draft). d.line) shows.draft) shows.placed shows.drew;
          keeps = keeps_move e MoveCursor old new (frame_then e old mid new undrawn.frame shows.frame) (ap (λ (d : Draft). d.line.text) (shows.draft ∙ draft) ∙ text)
              (ap (λ (d : Draft). d.hint) (shows.draft ∙ draft) ∙ hint) right
              (way_after e old mid new undrawn.drew.display undrawn.frame.environment undrawn.drew.redraws MoveCursor shows.drew.way) (λ was. shows.placed);
          change = text_same (ap (λ (d : Draft). d.line.text) (shows.draft ∙ draft) ∙ text);
          prompt = tt;
          frame = frame_then e old mid new undrawn.frame shows.frame;
          fails = fails_after nobody (Ok x) shows.fails;
        }

    done_either : {T : Type 0} (r : Result T ReadlineError) (reported : Bool)
        → (reported ≡ false → made.line.text ≡ (e.draft old).line.text) → ShowsEdit e reported r mid new
        → Does e r old new (if reported then hinted (e.environment old) made else made) (edit_drawn reported) 1
    done_either r true text shows =
        done_reported r (record { draft = shows.draft; err = shows.err; text = shows.text; drew = shows.drew; kept = shows.kept; frame = shows.frame; fails = shows.fails })
    done_either r false text shows = done_unreported r (text refl) shows

-- an edit that is shown: reported or not, the draft is drawn
pub edit_done : {X T : Type 0} (e : Ghosts X) (r : Result T ReadlineError) (old mid new : X) (made left : Draft) (reported rep : Bool)
    → Undrawn e old mid → e.draft mid ≡ made → made ≡ left
    → start_text made ≡ start_text (e.draft old) → made.hint ≡ (e.draft old).hint
    → reported ≡ rep
    → (reported ≡ false → made.line.text ≡ (e.draft old).line.text)
    → ShowsEdit e reported r mid new
    → Does e r old new (if rep then hinted (e.environment old) left else left) (edit_drawn rep) 1
edit_done e r old mid new made left reported rep undrawn draft same first hint answer text shows =
    let P : Draft → Type 0 = λ d. Does e r old new (if rep then hinted (e.environment old) d else d) (edit_drawn rep) 1 in
    let Q : Bool → Type 0 = λ b. Does e r old new (if b then hinted (e.environment old) made else made) (edit_drawn b) 1 in
    subst P same (subst Q answer (done_either e old mid new undrawn made draft first hint r reported text shows))

-- an edit that is always reported
pub edit_reported : {X T : Type 0} (e : Ghosts X) (r : Result T ReadlineError) (old mid new : X) (made left : Draft)
    → Undrawn e old mid → e.draft mid ≡ made → made ≡ left
    → start_text made ≡ start_text (e.draft old) → made.hint ≡ (e.draft old).hint
    → Redrawn e r mid new
    → Does e r old new (hinted (e.environment old) left) with_hint 1
edit_reported e r old mid new made left undrawn draft same first hint shows =
    let P : Draft → Type 0 = λ d. Does e r old new (hinted (e.environment old) d) with_hint 1 in
    subst P same (done_reported e old mid new undrawn made draft first hint r shows)

-- the same of an edit of the line with its changes
pub line_done : {X T : Type 0} (e : Ghosts X) (r : Result T ReadlineError) (old mid new : X) (edited left : Edited) (reported rep : Bool)
    → Undrawn e old mid → e.draft mid ≡ with_edited (e.draft old) edited → edited ≡ left
    → first_text edited.changes edited.line ≡ start_text (e.draft old)
    → reported ≡ rep
    → (reported ≡ false → edited.line.text ≡ (e.draft old).line.text)
    → ShowsEdit e reported r mid new
    → Does e r old new (after_edit (e.environment old) rep left (e.draft old)) (edit_drawn rep) 1
line_done e r old mid new edited left reported rep undrawn draft same first answer text shows =
    edit_done e r old mid new (with_edited (e.draft old) edited) (with_edited (e.draft old) left) reported rep undrawn draft
    (ap (λ x. with_edited (e.draft old) x) same) first refl answer text shows

pub line_reported : {X T : Type 0} (e : Ghosts X) (r : Result T ReadlineError) (old mid new : X) (edited left : Edited)
    → Undrawn e old mid → e.draft mid ≡ with_edited (e.draft old) edited → edited ≡ left
    → first_text edited.changes edited.line ≡ start_text (e.draft old)
    → Redrawn e r mid new
    → Does e r old new (after_edit (e.environment old) true left (e.draft old)) with_hint 1
line_reported e r old mid new edited left undrawn draft same first shows =
    edit_reported e r old mid new (with_edited (e.draft old) edited) (with_edited (e.draft old) left) undrawn draft
    (ap (λ x. with_edited (e.draft old) x) same) first refl shows

-- an edit that could not be drawn is done
edit_stays : {X T : Type 0} (e : Ghosts X) (r : Result T ReadlineError) (old mid new : X) (made left : Draft) (rep : Bool)
    → Undrawn e old mid → e.draft mid ≡ made → made ≡ left → made.hint ≡ (e.draft old).hint
    → KeepsDraftOnErr e r mid new (hinted (e.environment mid) (e.draft mid))
    → EditedOnIo r (e.environment old) (e.draft old) (if rep then hinted (e.environment old) left else left) (e.draft new)
edit_stays e (Ok x) old mid new made left rep undrawn draft same hint err = tt
edit_stays e (Err er) old mid new made left rep undrawn draft same hint err =
    λ io. made_stays e er old mid new made (e.draft old) (if rep then hinted (e.environment old) left else left) undrawn.frame.environment draft hint (text_with rep) err
  where
    text_with : (b : Bool) → KeepsText (if b then hinted (e.environment old) left else left) made
    text_with true = subst (λ (d : Draft). KeepsText (hinted (e.environment old) d) made) same (but_hinted (e.environment old) made)
    text_with false = subst (λ (d : Draft). KeepsText d made) same (whole_text made)

-- an edit of the line with its changes, of which the drawing alone may fail
pub line_drawn : {X T : Type 0} (e : Ghosts X) (r : Result T ReadlineError) (old mid new : X) (edited left : Edited) (reported rep : Bool)
    → Undrawn e old mid → e.draft mid ≡ with_edited (e.draft old) edited → edited ≡ left
    → first_text edited.changes edited.line ≡ start_text (e.draft old)
    → reported ≡ rep
    → (reported ≡ false → edited.line.text ≡ (e.draft old).line.text)
    → ShowsEdit e reported r mid new
    → EditsThenDraws e r old new (after_edit (e.environment old) rep left (e.draft old)) (edit_drawn rep) 1
line_drawn e r old mid new edited left reported rep undrawn draft same first answer text shows = record {
  does = line_done e r old mid new edited left reported rep undrawn draft same first answer text shows;
  edited = edit_stays e r old mid new (with_edited (e.draft old) edited) (with_edited (e.draft old) left) rep undrawn draft
      (ap (λ x. with_edited (e.draft old) x) same) refl shows.err;
}

-- a draft with another line and hint
abbrev lined : Draft → Line → Option Suggestion → Draft
lined draft line hint = record draft { line = line; hint = hint }

-- what is done behind a step that draws nothing and leaves the line and its hint is done from before it
pub does_after : {X T : Type 0} (e : Ghosts X) (asks : Asks) (r : Result T ReadlineError) (old mid new : X) (halfway' halfway left left' : Draft) (reported : Bool)
    → Undrawn e old mid → (e.draft mid).line ≡ (e.draft old).line → (e.draft mid).hint ≡ (e.draft old).hint
    → start_text (e.draft mid) ≡ start_text (e.draft old) → left ≡ left'
    → IsEarlierHint (e.draft old) halfway halfway'.hint
    → KeepsText (e.draft old) (e.draft mid) ⊎ KeepsText halfway (e.draft mid) → KeepsText (e.draft old) halfway' ⊎ KeepsText halfway halfway'
    → DoesInTwo e asks r mid new halfway' left (drawn_if reported) 1 → DoesInTwo e asks r old new halfway left' (drawn_if reported) 1
does_after e asks (Err er) old mid new halfway' halfway left left' reported undrawn line hint first same hint' moment moment' does = record {
  draft = tt;
  fault = fault_from er (e.environment mid) (e.environment old) (e.draft old) (e.draft mid) halfway' halfway left left' (e.draft new) undrawn.frame.environment same (inl hint) hint' moment moment' does.fault;
  start = tt;
  drew = tt;
  keeps = tt;
  change = tt;
  prompt = prompt_after (e.display old) (e.display mid) (e.display new) undrawn.drew.display does.prompt;
  frame = frame_then e old mid new undrawn.frame does.frame;
  fails = fails_after e old mid new undrawn asks (Err er) does.fails;
}
does_after e asks (Ok x) old mid new halfway' halfway left left' reported undrawn line hint first same hint' moment moment' does =
    record {
      draft = does.draft ∙ same;
      fault = tt;
      start = does.start ∙ first;
      drew = drawn_after reported does.drew;
      keeps = keeps_then e old mid new (drawn_stays e old mid undrawn.frame.environment undrawn.drew line hint) does.keeps;
      change = change_after does.change;
      prompt = tt;
      frame = frame_then e old mid new undrawn.frame does.frame;
      fails = fails_after e old mid new undrawn asks (Ok x) does.fails;
    }
  where
    drawn_after : (b : Bool) → Drew e 1 (drawn_if b) mid new → Drew e 1 (drawn_if b) old new
    drawn_after true drew = line_after e old mid new undrawn 1 (hint_shown (e.draft new)) Other drew
    drawn_after false drew = nothing_after e old mid new undrawn drew

    -- a plain change has no more to be asked of what stays than the line and the hint
    plain_after : ChangedPlainly e mid new → ChangedPlainly e old new
    plain_after changed =
        let P : Environment → Type 0 = λ w. TypedPlainly w (e.display mid) (e.draft mid) (e.draft new) ⊎ KilledPlainly w (e.display mid) (e.draft mid) (e.draft new) in
        let Q : Display → Type 0 = λ d. TypedPlainly (e.environment old) d (e.draft mid) (e.draft new) ⊎ KilledPlainly (e.environment old) d (e.draft mid) (e.draft new) in
        record {
          plainly = elim (subst Q undrawn.drew.display (subst P undrawn.frame.environment changed.plainly)) [
            | inl t ↦ inl (record { char = t.char; plain = typed_plain t.char ∙ t.plain; line = t.line ∙ ap (λ (l : Line). inserted_at_cursor l (t.char ∷ [])) line })
            | inr k ↦ inr (record { from = k.from; plain = killed_plain k.from ∙ k.plain; line = k.line ∙ ap (λ (l : Line). without l (Some (k.from, length l.text))) line })
          ];
          redraws = changed.redraws ∙ undrawn.drew.redraws;
        }
      where
        typed_plain : (c : ℕ) → types_plainly (e.environment old) (e.display old) (e.draft old) (e.draft new) c ≡ types_plainly (e.environment old) (e.display old) (e.draft mid) (e.draft new) c
        typed_plain c = ap₂ (λ (l : Line) (h : Option Suggestion). types_plainly (e.environment old) (e.display old) (lined (e.draft old) l h) (e.draft new) c) (sym line) (sym hint)

        killed_plain : (from : ℕ) → kills_plainly (e.environment old) (e.display old) (e.draft old) (e.draft new) from ≡ kills_plainly (e.environment old) (e.display old) (e.draft mid) (e.draft new) from
        killed_plain from = ap₂ (λ (l : Line) (h : Option Suggestion). kills_plainly (e.environment old) (e.display old) (lined (e.draft old) l h) (e.draft new) from) (sym line) (sym hint)

    change_after : ShowsChange e 1 mid new → ShowsChange e 1 old new
    change_after (text_same stays) = text_same (stays ∙ ap (λ (l : Line). l.text) line)
    change_after (drawn_in_full shows redraws) = drawn_in_full shows (stays_then 1 1 (e.redraws old) (e.redraws mid) (e.redraws new) undrawn.drew.redraws redraws)
    change_after (drawn_plainly changed) = drawn_plainly (plain_after changed)
