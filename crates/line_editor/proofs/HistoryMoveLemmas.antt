-- Facts on moves in the history, and on what is drawn where a step that draws nothing comes first.
use Rattle.std.proofs.Common.{◌≡◌, inl, inr, ℕ, ◌+◌, ◌-◌, ◌≤◌, ◌==◌, ◌++◌, Bool, true, false, cond, List, length, take, drop, Option, Some, None, Result, Ok, Err, eqb, not, is_some, refl, sym, ◌∙◌, ap, subst, arith}
use Rattle.std.specs.Prelude.{if◌then◌else◌, IsCharBoundary, IsUtf8, OnOk, option_and_then}
use Rattle.std.specs.List.{slice_range, starts_with}
use Rattle.std.proofs.Math.Seq.{take-append_seam}
use Rattle.std.proofs.lemmas.Bool.Decides.{Decides-eqb}
use Rattle.std.proofs.lemmas.List.{length-append}
use Rattle.std.proofs.lemmas.Slice.Eq.{starts_is}
use Rattle.std.proofs.lemmas.Str.{IsCharBoundary-from_take}
use Rattle.line_config.specs.declared.error.ReadlineError.{ReadlineError}
use Rattle.line_config.specs.Error.{Rose, is_fault, is_io, is_memory}
use Rattle.line_config.specs.declared.error.ReadlineError.TheVariants.{Eof, Interrupted, Io, Memory}
use Rattle.line_keys.specs.Model.Draft.{Draft, KeepsText, start_text}
use Rattle.line_keys.specs.Model.Fault.{FaultLeft}
use Rattle.line_keys.specs.Model.Drawing.{Does, DoesAsking, DoesInTwo, DrewNothing, Drawing, Paints, Undrawn, drawn_if, nothing, text_same, with_hint}
use Rattle.line_keys.specs.Model.Frame.{FailsByParty, FailsByRenderer, Frame}
use Rattle.line_keys.specs.declared.editor_state.EditorState.{Ghosts}
use Rattle.line_parts.specs.Environment.{Environment}
use Rattle.line_parts.specs.Asks.{Asks, for_hint, for_line, for_look_up, nobody}
use Rattle.line_parts.specs.History.{Found, behind_start, starting_with}
use Rattle.line_parts.specs.HistoryLaws.{IsOnSide}
use Rattle.line_parts.specs.Hint.{Suggestion}
use Rattle.line_parts.specs.declared.history.SearchDirection.{SearchDirection}
use Rattle.line_parts.specs.declared.history.SearchDirection.TheVariants.{Forward, Reverse}
use Rattle.line_parts.proofs.HistoryLawLemmas.{found_is_nearest}
use Rattle.line_buffer.specs.Line.{Line, before, with_cursor}
use Rattle.line_buffer.specs.Undo.{first_text}
use Rattle.line_state.specs.Edited.{Edited, in_one_group, with_update_to}
use Rattle.line_editor.specs.Editor.{edited_of, with_edited}
use Rattle.line_editor.specs.DraftEdits.{completed, with_completion_at_end}
use Rattle.line_editor.specs.HistoryMoves.{asked_for, asked_in_search, at_index, come_back, search_beside, search_of, search_shown, found_shown, line_shown, restored, saved_at_end, showing}
use Rattle.line_buffer.proofs.SearchLemmas.{front_range}
use Rattle.line_state.proofs.EditedLemmas.{first_moved}
use Rattle.line_editor.proofs.AskedLemmas.{does_more, sure_hint}
use Rattle.line_editor.proofs.DoneLemmas.{Redrawn, does_after, edit_reported, undrawn_twice}
use Rattle.line_editor.proofs.FaultLemmas.{fault_exact, fault_other, fault_stays, fault_wider}
use Rattle.line_input.proofs.DraftLemmas.{same_draft}
use Rattle.line_editor.proofs.DrawnLemmas.{drawn_stays, prompt_same}
use Rattle.line_input.proofs.DrawnTwiceLemmas.{frame_then}
use Rattle.line_keys.specs.Model.Display.{Display}

-- all stays
frame_stays : {X : Type 0} (e : Ghosts X) (old : X) → Frame e old old
frame_stays e old = record { environment = refl; loan = refl; surface = refl; prompt = refl; prompt_end = refl; sure = refl; failures = omega arith }

-- a step that draws nothing and leaves the line does nothing else
pub still_done : {X T : Type 0} (e : Ghosts X) (asks : Asks) (r : Result T ReadlineError) (old new : X) (left : Draft)
    → e.draft new ≡ left → left.line ≡ (e.draft old).line → left.hint ≡ (e.draft old).hint → start_text left ≡ start_text (e.draft old)
    → DrewNothing e old new → Frame e old new → FailsByParty e asks r old new
    → DoesAsking e asks r old new left nothing 1
still_done e asks (Err er) old new left draft line hint first undrew frame fails =
    record { draft = tt; fault = fault_exact e er old new _ left draft hint; start = tt; drew = tt; keeps = tt; change = tt; prompt = prompt_same (e.display old) (e.display new) (ap (λ (d : Display). d.layout) undrew.display); frame = frame; fails = fails }
still_done e asks (Ok x) old new left draft line hint first undrew frame fails = record {
  draft = draft;
  fault = tt;
  start = ap start_text draft ∙ first;
  drew = undrew;
  keeps = drawn_stays e old new frame.environment undrew (ap (λ (d : Draft). d.line) draft ∙ line) (ap (λ (d : Draft). d.hint) draft ∙ hint);
  change = text_same (ap (λ (d : Draft). d.line.text) draft ∙ ap (λ l. l.text) line);
  prompt = tt;
  frame = frame;
  fails = fails;
}

-- a call that leaves nothing halfway may be said to
pub in_two : {X T : Type 0} (e : Ghosts X) (asks : Asks) (r : Result T ReadlineError) (old new : X) (halfway left : Draft) (drawing : Drawing) (times : ℕ)
    → DoesAsking e asks r old new left drawing times → DoesInTwo e asks r old new halfway left drawing times
in_two e asks r old new halfway left drawing times does = record {
  draft = does.draft;
  fault = fault_wider r (e.environment old) (e.draft old) halfway left (e.draft new) does.fault;
  start = does.start;
  drew = does.drew;
  keeps = does.keeps;
  change = does.change;
  prompt = does.prompt;
  frame = does.frame;
  fails = does.fails;
}

-- nothing happens
pub nothing_done : {X T : Type 0} (e : Ghosts X) (asks : Asks) (x : T) (old : X) → DoesAsking e asks (Ok x) old old (e.draft old) nothing 1
nothing_done e asks x old =
    still_done e asks (Ok x) old old (e.draft old) refl refl refl refl (record { display = refl; redraws = refl }) (frame_stays e old) (record { io = tt; faults = tt; quiet = refl })

-- a text of the history was put in the line's place, at another index
pub shown_in_group : {X T : Type 0} (e : Ghosts X) (r : Result T ReadlineError) (old mid new : X) (text : List ℕ) (cursor index at : ℕ) (edited : Edited)
    → Undrawn e old mid → e.draft mid ≡ at_index at (with_edited (e.draft old) edited) → at ≡ index
    → edited ≡ in_one_group (with_update_to text cursor) (edited_of (e.draft old))
    → first_text edited.changes edited.line ≡ start_text (e.draft old)
    → Redrawn e r mid new
    → Does e r old new (showing (e.environment old) text cursor (at_index index (e.draft old))) with_hint 1
shown_in_group e r old mid new text cursor index at edited undrawn draft place same first shows =
    edit_reported e r old mid new (at_index at (with_edited (e.draft old) edited))
    (at_index index (with_edited (e.draft old) (in_one_group (with_update_to text cursor) (edited_of (e.draft old)))))
    undrawn draft
    (ap (λ i. at_index i (with_edited (e.draft old) edited)) place ∙ ap (λ x. at_index index (with_edited (e.draft old) x)) same)
    first refl shows

none_some : {A : Type 0} (x : A) → None ≡ Some x → ⊥
none_some x e = subst (λ o. elim o as (λ _. Type 0) [ None ↦ Unit {0} | Some _ ↦ ⊥ ]) e tt

some_number : (x y : ℕ) → Some x ≡ Some y → x ≡ y
some_number x y e = ap (λ o. elim o as (λ _. ℕ) [ None ↦ x | Some z ↦ z ]) e

-- the saved line came back as the one that is being written
pub came_back : {X T : Type 0} (e : Ghosts X) (r : Result T ReadlineError) (old back mid new : X) (at : ℕ)
    → Undrawn e old back → e.draft back ≡ restored (e.draft old) → start_text (e.draft back) ≡ start_text (e.draft old)
    → Undrawn e back mid → e.draft mid ≡ at_index at (e.draft back) → at ≡ length (e.environment old).lines
    → Redrawn e r mid new
    → Does e r old new (come_back (e.environment old) (e.draft old)) with_hint 1
came_back e r old back mid new at first draft start second draft' place shows =
    edit_reported e r old mid new (at_index at (e.draft back)) (at_index (length (e.environment old).lines) (restored (e.draft old)))
    (undrawn_twice e old back mid first second) draft'
    (ap (λ i. at_index i (e.draft back)) place ∙ ap (λ d. at_index (length (e.environment old).lines) d) draft)
    start (ap (λ (d : Draft). d.hint) draft) shows

-- saving the line changes nothing that is shown of it
saved_line : (b : Bool) (draft : Draft) → (cond b (record draft { saved = draft.line }) draft).line ≡ draft.line
saved_line true draft = refl
saved_line false draft = refl

saved_hint : (b : Bool) (draft : Draft) → (cond b (record draft { saved = draft.line }) draft).hint ≡ draft.hint
saved_hint true draft = refl
saved_hint false draft = refl

saved_starts : (b : Bool) (draft : Draft) → start_text (cond b (record draft { saved = draft.line }) draft) ≡ start_text draft
saved_starts true draft = refl
saved_starts false draft = refl

-- the line was left for one of the history
pub left_for : {X T : Type 0} (e : Ghosts X) (r : Result T ReadlineError) (old mid new : X) (index : ℕ)
    → Undrawn e old mid → e.draft mid ≡ saved_at_end (e.environment old) (e.draft old)
    → DoesAsking e for_line r mid new (line_shown (e.environment mid) index (e.draft mid)) with_hint 1
    → DoesInTwo e for_line r old new (saved_at_end (e.environment old) (e.draft old)) (line_shown (e.environment old) index (saved_at_end (e.environment old) (e.draft old))) with_hint 1
left_for e r old mid new index undrawn draft shown =
    let at_end : Bool = (e.draft old).index == length (e.environment old).lines in
    does_after e for_line r old mid new (e.draft mid) (saved_at_end (e.environment old) (e.draft old)) _ _ true undrawn
    (ap (λ (d : Draft). d.line) draft ∙ saved_line at_end (e.draft old))
    (ap (λ (d : Draft). d.hint) draft ∙ saved_hint at_end (e.draft old))
    (ap start_text draft ∙ saved_starts at_end (e.draft old))
    (ap (λ w. line_shown w index (e.draft mid)) undrawn.frame.environment ∙ ap (λ d. line_shown (e.environment old) index d) draft)
    (inl (ap (λ (d : Draft). d.hint) draft ∙ saved_hint at_end (e.draft old)))
    (inr (same_draft _ (e.draft mid) draft)) (inr (same_draft _ (e.draft mid) draft))
    shown

-- at the way's end all stays, and before it an edit is drawn
pub way_stays : {X T : Type 0} (e : Ghosts X) (x : T) (old : X) (b : Bool) (asks : Asks) (halfway left : Draft) → b ≡ true
    → DoesInTwo e (if b then nobody else asks) (Ok x) old old halfway (if b then e.draft old else left) (drawn_if (not b)) 1
way_stays e x old b asks halfway left at =
    subst (λ c. DoesInTwo e (if c then nobody else asks) (Ok x) old old halfway (if c then e.draft old else left) (drawn_if (not c)) 1) (sym at)
    (in_two e nobody (Ok x) old old halfway (e.draft old) nothing 1 (nothing_done e nobody x old))

pub way_goes : {X T : Type 0} (e : Ghosts X) (r : Result T ReadlineError) (old new : X) (b : Bool) (asks asks' : Asks) (halfway left left' : Draft)
    → b ≡ false → asks ≡ asks' → left ≡ left' → DoesInTwo e asks r old new halfway left with_hint 1
    → DoesInTwo e (if b then nobody else asks') r old new halfway (if b then e.draft old else left') (drawn_if (not b)) 1
way_goes e r old new b asks asks' halfway left left' at asked same edit =
    subst (λ c. DoesInTwo e (if c then nobody else asks') r old new halfway (if c then e.draft old else left') (drawn_if (not c)) 1) (sym at)
    (subst (λ a. DoesInTwo e a r old new halfway left' with_hint 1) asked (subst (λ d. DoesInTwo e asks r old new halfway d with_hint 1) same edit))

-- the same of a call that leaves nothing halfway
pub way_goes_once : {X T : Type 0} (e : Ghosts X) (r : Result T ReadlineError) (old new : X) (b : Bool) (asks asks' : Asks) (halfway left left' : Draft)
    → b ≡ false → asks ≡ asks' → left ≡ left' → DoesAsking e asks r old new left with_hint 1
    → DoesInTwo e (if b then nobody else asks') r old new halfway (if b then e.draft old else left') (drawn_if (not b)) 1
way_goes_once e r old new b asks asks' halfway left left' at asked same edit =
    way_goes e r old new b asks asks' halfway left left' at asked same (in_two e asks r old new halfway left with_hint 1 edit)

-- a renderer that failed is a party that failed
fails_by : {X T : Type 0} (e : Ghosts X) (asks : Asks) (r : Result T ReadlineError) (old mid new : X) → e.failures mid ≡ e.failures old
    → FailsByRenderer e r mid new → FailsByParty e asks r old new
fails_by e asks (Ok x) old mid new same fails = record { io = tt; faults = tt; quiet = fails.quiet ∙ same }
fails_by e asks (Err er) old mid new same fails = record {
  io = λ i sure. subst (λ n. Rose n (e.failures new)) same (fails.io i);
  faults = fails.faults;
  quiet = λ no. fails.quiet no ∙ same;
}

-- memory that is out is no error of input or output
memory_alone : (f : ReadlineError) → is_memory f ≡ true → (is_io f ≡ false) × (is_fault f ≡ true)
memory_alone Memory is = (refl, refl)
memory_alone Eof is = absurd (cc)
memory_alone Interrupted is = absurd (cc)
memory_alone (Io cause) is = absurd (cc)

-- a line that could not be saved
pub saving_fails : {X T : Type 0} (e : Ghosts X) (f : ReadlineError) (old new : X) (halfway left : Draft) → e.draft new ≡ e.draft old → Undrawn e old new → is_memory f ≡ true
    → DoesInTwo {T = T} e for_line (Err f) old new halfway left with_hint 1
saving_fails e f old new halfway left same undrawn memory =
    let kind = memory_alone f memory in
    record {
      draft = tt;
      fault = fault_stays e f old new halfway left same;
      start = tt;
      drew = tt;
      keeps = tt;
      change = tt;
      prompt = prompt_same (e.display old) (e.display new) (ap (λ (d : Display). d.layout) undrawn.drew.display);
      frame = undrawn.frame;
      fails = record { io = λ io. absurd (let no = kind.0 in cc); faults = kind.1; quiet = λ no. undrawn.failures };
    }

-- what the hint completes the line with changes nothing but the line and its changes
completion_text : (environment : Environment) (hint : Option Suggestion) (draft : Draft) → is_some hint ≡ true
    → KeepsText (completed environment hint draft) (with_edited draft (with_completion_at_end (option_and_then (λ h. h.completion) hint) draft))
completion_text environment None draft some = absurd (cc)
completion_text environment (Some h) draft some = record { line = refl; saved = refl; index = refl; changes = refl }

-- a hint that could not be put into the line
pub completing_fails : {X T U : Type 0} (e : Ghosts X) (f : ReadlineError) (old new : X) → is_some (e.draft old).hint ≡ true
    → FaultLeft f (e.environment old) (e.draft old) (e.draft old)
    (with_edited (e.draft old) (with_completion_at_end (option_and_then (λ h. h.completion) (e.draft old).hint) (e.draft old))) (e.draft new)
    → DrewNothing e old new → Frame e old new → FailsByRenderer {T = T} e (Err f) old new
    → Does {T = U} e (Err f) old new (completed (e.environment old) (e.draft old).hint (e.draft old)) (drawn_if (is_some (e.draft old).hint)) 1
completing_fails {U = U} e f old new some fault undrew frame fails = record {
  draft = tt;
  fault = fault_other f (e.environment old) (e.draft old) (e.draft old) _ _ (e.draft new) (completion_text (e.environment old) (e.draft old).hint (e.draft old) some) fault;
  start = tt;
  drew = tt;
  keeps = tt;
  change = tt;
  prompt = prompt_same (e.display old) (e.display new) (ap (λ (d : Display). d.layout) undrew.display);
  frame = frame;
  fails = fails_by {T = U} e _ (Err f) old old new refl (record { io = fails.io; faults = fails.faults; quiet = fails.quiet });
}

-- there is a beep behind a step that draws nothing and leaves the line
pub beeped : {X T : Type 0} (e : Ghosts X) (asks : Asks) (r : Result T ReadlineError) (old mid new : X) (left : Draft) → Undrawn e old mid
    → e.draft mid ≡ left → left.line ≡ (e.draft old).line → left.hint ≡ (e.draft old).hint → start_text left ≡ start_text (e.draft old)
    → DrewNothing e mid new → Paints e false r mid new
    → DoesAsking e asks r old new left nothing 1
beeped e asks r old mid new left undrawn draft line hint first undrew beep =
    still_done e asks r old new left (beep.draft ∙ draft) line hint first
    (record { display = undrew.display ∙ undrawn.drew.display; redraws = undrew.redraws ∙ undrawn.drew.redraws })
    (frame_then e old mid new undrawn.frame beep.frame) (fails_by e asks r old mid new undrawn.failures beep.fails)

-- a search that found nothing leaves the index where it began
pub search_fails : {X T : Type 0} (e : Ghosts X) (r : Result T ReadlineError) (old mid new : X) (found : Option Found) (at index : ℕ)
    → None ≡ found → Undrawn e old mid → e.draft mid ≡ at_index at (e.draft old) → at ≡ index
    → DrewNothing e mid new → Paints e false r mid new
    → DoesAsking e (asked_for found) r old new (found_shown (e.environment old) found (at_index index (e.draft old))) (drawn_if (is_some found)) 1
search_fails e r old mid new found at index none undrawn draft place undrew beep =
    subst (λ f. DoesAsking e (asked_for f) r old new (found_shown (e.environment old) f (at_index index (e.draft old))) (drawn_if (is_some f)) 1) none
    (beeped e for_look_up r old mid new (at_index index (e.draft old)) undrawn (draft ∙ ap (λ i. at_index i (e.draft old)) place) refl refl refl
    undrew beep)

-- what a search found is shown
pub search_shows : {X T : Type 0} (e : Ghosts X) (r : Result T ReadlineError) (old new : X) (found : Option Found) (f : Found) (index : ℕ)
    → Some f ≡ found → Does e r old new (showing (e.environment old) f.entry f.pos (at_index f.index (e.draft old))) with_hint 1
    → DoesAsking e (asked_for found) r old new (found_shown (e.environment old) found (at_index index (e.draft old))) (drawn_if (is_some found)) 1
search_shows e r old new found f index some edit =
    subst (λ o. DoesAsking e (asked_for o) r old new (found_shown (e.environment old) o (at_index index (e.draft old))) (drawn_if (is_some o)) 1) some
    (does_more e r for_hint for_line old new (showing (e.environment old) f.entry f.pos (at_index f.index (e.draft old))) with_hint 1 (sure_hint (e.sure old)) edit)

pub search_goes : {X T : Type 0} (e : Ghosts X) (r : Result T ReadlineError) (old new : X) (b : Bool) (asks : Asks) (found : Option Found) (left : Draft)
    → b ≡ false → DoesAsking e asks r old new left (drawn_if (is_some found)) 1
    → DoesAsking e (if b then nobody else asks) r old new (if b then e.draft old else left) (drawn_if (is_some (if b then None else found))) 1
search_goes e r old new b asks found left at edit =
    subst (λ c. DoesAsking e (if c then nobody else asks) r old new (if c then e.draft old else left) (drawn_if (is_some (if c then None else found))) 1) (sym at)
    edit

-- what begins with a term can be cut behind it
begins_at : (term line : List ℕ) (pos : ℕ) (b : Bool) → starts_with eqb line term ≡ b → (if b then Some (length term) else None) ≡ Some pos
    → (line ≡ term ++ drop (length term) line) × (pos ≡ length term)
begins_at term line pos true begins e = ((starts_is Decides-eqb line term _ refl).0 begins, some_number pos (length term) (sym e))
begins_at term line pos false begins e = absurd (none_some pos e)

cut_behind : (term line : List ℕ) (pos : ℕ) → IsUtf8 term → IsUtf8 line → behind_start term line ≡ Some pos → IsCharBoundary line pos
cut_behind term line pos utf8 utf8' e =
    let at = begins_at term line pos (starts_with eqb line term) refl e in
    let front : take (length term) line ≡ term = ap (λ l. take (length term) l) at.0 ∙ take-append_seam term (drop (length term) line) in
    let size : length line ≡ length term + length (drop (length term) line) = ap length at.0 ∙ length-append term (drop (length term) line) in
    subst (λ n. IsCharBoundary line n) (sym at.1)
    (IsCharBoundary-from_take line (length term) utf8' (omega (arith, size)) (subst IsUtf8 (sym front) utf8))

-- a line that was found can be cut behind the term that it begins with
pub found_cut : (lines : List (List ℕ)) (term : List ℕ) (index : ℕ) (dir : SearchDirection) (f : Found) → IsUtf8 term → IsUtf8 f.entry
    → Some f ≡ starting_with lines term index dir → IsCharBoundary f.entry f.pos
found_cut lines term index dir f utf8 utf8' some =
    cut_behind term f.entry f.pos utf8 utf8' (found_is_nearest behind_start lines term index dir f (sym some)).has_place

on_side : (dir : SearchDirection) (count start index : ℕ) → start ≤ count → IsOnSide dir count start index → index ≤ count
on_side Forward count start index within side = omega (arith, side.1)
on_side Reverse count start index within side = omega (arith, within, side)

-- what holds in any case holds where there is no error
pub always : {T E P : Type 0} (r : Result T E) → P → OnOk r P
always (Ok x) p = p
always (Err er) p = tt

-- moving the cursor changes nothing of the first text
pub first_there : (edited old : Edited) (place : ℕ) → edited ≡ record old { line = with_cursor old.line place }
    → first_text edited.changes edited.line ≡ first_text old.changes old.line
first_there edited old place moved = ap (λ (x : Edited). first_text x.changes x.line) moved ∙ first_moved old.changes old.line (Some place)

-- a search from the line before this one, or from the one behind it
pub search_back : {X T : Type 0} (e : Ghosts X) (r : Result T ReadlineError) (old new : X) (dir : SearchDirection) (at : ℕ)
    → dir ≡ Reverse → at ≡ (e.draft old).index → (at == 0) ≡ false
    → DoesAsking e (asked_for (starting_with (e.environment old).lines (before (e.draft old).line) (at - 1) dir)) r old new
    (found_shown (e.environment old) (starting_with (e.environment old).lines (before (e.draft old).line) (at - 1) dir) (at_index (at - 1) (e.draft old)))
    (drawn_if (is_some (starting_with (e.environment old).lines (before (e.draft old).line) (at - 1) dir))) 1
    → DoesAsking e (asked_in_search (e.environment old) dir (e.draft old)) r old new (search_shown (e.environment old) dir (e.draft old)) (drawn_if (is_some (search_of (e.environment old) dir (e.draft old)))) 1
search_back e r old new Forward at is same away edit = absurd (cc)
search_back e r old new Reverse at is same away edit =
    search_goes e r old new ((e.draft old).index == 0) (asked_for (search_beside (e.environment old) Reverse (e.draft old))) (search_beside (e.environment old) Reverse (e.draft old))
    (found_shown (e.environment old) (search_beside (e.environment old) Reverse (e.draft old)) (at_index ((e.draft old).index - 1) (e.draft old)))
    (subst (λ n. (n == 0) ≡ false) same away)
    (subst (λ n. DoesAsking e (asked_for (starting_with (e.environment old).lines (before (e.draft old).line) (n - 1) Reverse)) r old new
    (found_shown (e.environment old) (starting_with (e.environment old).lines (before (e.draft old).line) (n - 1) Reverse) (at_index (n - 1) (e.draft old)))
    (drawn_if (is_some (starting_with (e.environment old).lines (before (e.draft old).line) (n - 1) Reverse))) 1) same edit)

pub search_on : {X T : Type 0} (e : Ghosts X) (r : Result T ReadlineError) (old new : X) (dir : SearchDirection) (at end : ℕ)
    → dir ≡ Forward → at ≡ (e.draft old).index → end ≡ length (e.environment old).lines → (at == end) ≡ false
    → DoesAsking e (asked_for (starting_with (e.environment old).lines (before (e.draft old).line) (at + 1) dir)) r old new
    (found_shown (e.environment old) (starting_with (e.environment old).lines (before (e.draft old).line) (at + 1) dir) (at_index (at + 1) (e.draft old)))
    (drawn_if (is_some (starting_with (e.environment old).lines (before (e.draft old).line) (at + 1) dir))) 1
    → DoesAsking e (asked_in_search (e.environment old) dir (e.draft old)) r old new (search_shown (e.environment old) dir (e.draft old)) (drawn_if (is_some (search_of (e.environment old) dir (e.draft old)))) 1
search_on e r old new Reverse at end is same ends away edit = absurd (cc)
search_on e r old new Forward at end is same ends away edit =
    search_goes e r old new ((e.draft old).index == length (e.environment old).lines) (asked_for (search_beside (e.environment old) Forward (e.draft old))) (search_beside (e.environment old) Forward (e.draft old))
    (found_shown (e.environment old) (search_beside (e.environment old) Forward (e.draft old)) (at_index ((e.draft old).index + 1) (e.draft old)))
    (subst (λ n. (n == length (e.environment old).lines) ≡ false) same (subst (λ n. (at == n) ≡ false) ends away))
    (subst (λ n. DoesAsking e (asked_for (starting_with (e.environment old).lines (before (e.draft old).line) (n + 1) Forward)) r old new
    (found_shown (e.environment old) (starting_with (e.environment old).lines (before (e.draft old).line) (n + 1) Forward) (at_index (n + 1) (e.draft old)))
    (drawn_if (is_some (starting_with (e.environment old).lines (before (e.draft old).line) (n + 1) Forward))) 1) same edit)

-- the text before the cursor is asked for
pub asked_before : (line line' : Line) (text term : List ℕ) (pos : ℕ) → term ≡ slice_range text 0 pos → text ≡ line'.text → pos ≡ line'.cursor
    → line' ≡ line → term ≡ before line
asked_before line line' text term pos cut whole at same =
    cut ∙ ap (λ t. slice_range t 0 pos) whole ∙ ap (λ n. slice_range line'.text 0 n) at ∙ front_range line'.cursor line'.text ∙ ap (λ l. before l) same

-- the same search finds the same
pub same_search : {what : Option Found} (lines lines' : List (List ℕ)) (term term' : List ℕ) (index : ℕ) (dir : SearchDirection) (found : Option Found)
    → what ≡ found → found ≡ starting_with lines term index dir → lines ≡ lines' → term ≡ term' → what ≡ starting_with lines' term' index dir
same_search lines lines' term term' index dir found is answer same asked =
    is ∙ answer ∙ ap (λ l. starting_with l term index dir) same ∙ ap (λ t. starting_with lines' t index dir) asked
