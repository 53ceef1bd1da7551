-- Facts on a line with its changes.
use Rattle.std.proofs.Common.{◌≡◌, Bool, true, false, List, ℕ, [], ◌∷◌, Option, Some, None, is_some, Result, Ok, Err, IfOk, OnOk, OnErr, ◌⊎◌, inl, inr, refl, sym, ap, ◌∙◌}
use Rattle.std.specs.List.{list_any}
use Rattle.line_buffer.proofs.TellsLemmas.{told_kept, told_kept_anywhere}
use Rattle.line_buffer.specs.Changes.{Changes, Entry, begins, begun, deleted, ended, ends, inserted, no_changes, replaced}
use Rattle.line_buffer.specs.Cluster.{place_back}
use Rattle.line_buffer.specs.Edit.{Edits}
use Rattle.line_buffer.specs.Line.{Line, moved_to}
use Rattle.line_buffer.specs.Range.{from_cursor}
use Rattle.line_buffer.specs.Undo.{KeepsTold, KeepsToldAnywhere, StillTells, StillTellsOrGone, TellTheSame, Tells, TellsOf, all_taken_back, first_text, is_change, taken_back, text_before}
use Rattle.line_state.specs.Edited.{Edited, EditsTo, in_one_group, with_copies, with_copies_to, with_place, without_range}

-- entries that tell how a text came from another give that one when all are taken back
all_back : (entries : List Entry) (l : Line) (start : List ℕ) → TellsOf entries l.text start → (all_taken_back entries l).text ≡ start
all_back [] l start told = told
all_back (e ∷ entries) l start told = all_back entries (taken_back e l) start told.1

-- what tells of the line still does after an edit
pub kept : {T E : Type 0} (r : Result T E) (old new : Changes) (line line' : Line) → KeepsTold r old line new line'
    → Tells old.entries line.text → Tells new.entries line'.text
kept r old new line line' k h = told_kept r old new line line' k h

-- after an edit that succeeds, taking all back gives the same text
pub first_kept : {T E : Type 0} (r : Result T E) (old new : Changes) (line line' : Line) → KeepsTold r old line new line'
    → Tells old.entries line.text → OnOk r ((all_taken_back new.entries line').text ≡ (all_taken_back old.entries line).text)
first_kept (Ok x) old new line line' k h =
    all_back new.entries line' h.start (k.tells.tells h.start h.told) ∙ sym (all_back old.entries line h.start h.told)
first_kept (Err e) old new line line' k h = tt

-- the same of a call that leaves the text
pub kept_anywhere : {T E : Type 0} (r : Result T E) (old new : Changes) (line : Line) → KeepsToldAnywhere r old new
    → Tells old.entries line.text → Tells new.entries line.text
kept_anywhere r old new line k h = told_kept_anywhere r old new line k h

first_on_anywhere : {T E : Type 0} (r : Result T E) (old new : Changes) (line : Line) → OnOk r (TellTheSame old.entries new.entries)
    → Tells old.entries line.text → OnOk r ((all_taken_back new.entries line).text ≡ (all_taken_back old.entries line).text)
first_on_anywhere (Ok x) old new line t h =
    all_back new.entries line h.start ((t.of line.text).tells h.start h.told) ∙ sym (all_back old.entries line h.start h.told)
first_on_anywhere (Err e) old new line t h = tt

pub first_kept_anywhere : {T E : Type 0} (r : Result T E) (old new : Changes) (line : Line) → KeepsToldAnywhere r old new
    → Tells old.entries line.text → OnOk r ((all_taken_back new.entries line).text ≡ (all_taken_back old.entries line).text)
first_kept_anywhere r old new line k h = first_on_anywhere r old new line k.tells h

-- entries that still tell what others told lead back to the same text
pub first_stays : (old new : Changes) (line line' : Line) → StillTells old.entries line.text new.entries line'.text
    → Tells old.entries line.text → (all_taken_back new.entries line').text ≡ (all_taken_back old.entries line).text
first_stays old new line line' k h =
    all_back new.entries line' h.start (k.tells h.start h.told) ∙ sym (all_back old.entries line h.start h.told)

-- the same of a call after whose error there may be no changes
pub told_or_gone : {T E : Type 0} (r : Result T E) (old new : Changes) (line line' : Line) → StillTellsOrGone r old line new line'
    → Tells old.entries line.text → Tells new.entries line'.text
told_or_gone (Ok x) old new line line' k h = record { start = h.start; told = k.tells.tells h.start h.told }
told_or_gone (Err e) old new line line' k h = elim k.err [
  | inl still ↦ record { start = h.start; told = still.tells h.start h.told }
  | inr gone ↦ rw gone (record { start = line'.text; told = refl })
]

pub first_told : {T E : Type 0} (r : Result T E) (old new : Changes) (line line' : Line) → StillTellsOrGone r old line new line'
    → Tells old.entries line.text → OnOk r ((all_taken_back new.entries line').text ≡ (all_taken_back old.entries line).text)
first_told (Ok x) old new line line' k h = first_stays old new line line' k.tells h
first_told (Err e) old new line line' k h = tt

pub first_or_gone : {T E : Type 0} (r : Result T E) (old new : Changes) (line line' : Line) → StillTellsOrGone r old line new line'
    → Tells old.entries line.text → OnErr r (((all_taken_back new.entries line').text ≡ (all_taken_back old.entries line).text) ⊎ (new ≡ no_changes))
first_or_gone (Ok x) old new line line' k h = tt
first_or_gone (Err e) old new line line' k h = elim k.err [
  | inl still ↦ inl (first_stays old new line line' still h)
  | inr gone ↦ inr gone
]

-- what all changes taken back give is a matter of the text, and not of the cursor
same_text_back : (entries : List Entry) (l l' : Line) → l'.text ≡ l.text → (all_taken_back entries l').text ≡ (all_taken_back entries l).text
same_text_back [] l l' same = same
same_text_back (e ∷ entries) l l' same = same_text_back entries (taken_back e l) (taken_back e l') (ap (text_before e) same)

pub first_by_text : (c : Changes) (l l' : Line) → l'.text ≡ l.text → first_text c l' ≡ first_text c l
first_by_text c l l' same = same_text_back c.entries l l' same

-- a move of the cursor leaves the text
pub moved_text : (l : Line) (place : Option ℕ) → (moved_to l place).text ≡ l.text
moved_text l None = refl
moved_text l (Some place) = refl

pub first_moved : (c : Changes) (l : Line) (place : Option ℕ) → first_text c (moved_to l place) ≡ first_text c l
first_moved c l place = same_text_back c.entries l (moved_to l place) (moved_text l place)

-- a line and its changes are those of an edit, part by part
pub edited_is : (line line' : Line) (changes changes' : Changes) → line ≡ line' → changes ≡ changes'
    → ◌≡◌ {A = Edited} (record { line = line; changes = changes }) (record { line = line'; changes = changes' })
edited_is line line' changes changes' same_line same_changes =
    ap (λ l. record { line = l; changes = changes }) same_line ∙ ap (λ c. record { line = line'; changes = c }) same_changes

-- the same of a call that leaves the line
pub edited_on : {T E : Type 0} (r : Result T E) (line : Line) (changes changes' : Changes) → OnOk r (changes ≡ changes')
    → OnOk r (◌≡◌ {A = Edited} (record { line = line; changes = changes }) (record { line = line; changes = changes' }))
edited_on (Ok x) line changes changes' same = ap (λ c. record { line = line; changes = c }) same
edited_on (Err e) line changes changes' same = tt

-- what a call of the line buffer says of a line and its changes, said of both together
pub edits_both : {T E : Type 0} (r : Result T E) (line line' made : Line) (c c' : Changes) (add : Changes → Changes) → Edits r line line' c c' made add
    → Tells c.entries line.text
    → EditsTo r (record { line = line; changes = c }) (record { line = line'; changes = c' }) (record { line = made; changes = add c })
edits_both (Ok x) line line' made c c' add e h = record {
  edited = edited_is _ _ _ _ e.line e.changes;
  first = first_stays c c' line line' e.told.tells h;
  err = tt;
}
edits_both (Err x) line line' made c c' add e h = record { edited = tt; first = tt; err = e.told.err }

-- an edit between the begin and the end of a group is the edit as one group
pub grouped : {B T D R E : Type 0} (edit : Edited → Edited) (b : B) (x : T) (d : D) (z : R) (old opened inside new : Edited)
    → EditsTo {E = E} (Ok b) old opened (record old { changes = begun old.changes }) → EditsTo {E = E} (Ok x) opened inside (edit opened)
    → EditsTo {E = E} (Ok d) inside new (record inside { changes = ended inside.changes }) → EditsTo {E = E} (Ok z) old new (in_one_group edit old)
grouped edit b x d z old opened inside new opens edits closes = record {
  edited = closes.edited ∙ ap {A = Edited} (λ e. record e { changes = ended e.changes }) (edits.edited ∙ ap edit opens.edited);
  first = closes.first ∙ edits.first ∙ opens.first;
  err = tt;
}

-- clusters go, copies of a character come, and the cursor goes one cluster back
pub copies_for : {T U R E : Type 0} (x : T) (y : U) (z : R) (c count : ℕ) (stop : Option ℕ) (old without copied new : Edited) → is_some stop ≡ true
    → EditsTo {E = E} (Ok x) old without (without_range (from_cursor old.line stop) old) → EditsTo {E = E} (Ok y) without copied (with_copies count c without)
    → new ≡ with_place (place_back copied.line 1) copied → EditsTo {E = E} (Ok z) old new (with_copies_to c count stop old)
copies_for x y z c count None old without copied new some gone came moved = cc
copies_for x y z c count (Some stop) old without copied new some gone came moved = record {
  edited = moved ∙ ap (λ e. with_place (place_back e.line 1) e) (came.edited ∙ ap (with_copies count c) gone.edited);
  first = ap (λ e. first_text e.changes e.line) moved ∙ first_moved copied.changes copied.line (place_back copied.line 1) ∙ came.first ∙ gone.first;
  err = tt;
}

-- entries of which none changed the text leave the line as it is
pub none_changed : (entries : List Entry) (l : Line) → list_any is_change entries ≡ false → all_taken_back entries l ≡ l
none_changed [] l none = refl
none_changed (begins ∷ entries) l none = none_changed entries l none
none_changed (ends ∷ entries) l none = none_changed entries l none
none_changed (inserted place t ∷ entries) l none = cc
none_changed (deleted place t ∷ entries) l none = cc
none_changed (replaced place old new ∷ entries) l none = cc

pub unreported_undo : {E : Type 0} (r : Result Bool E) (entries : List Entry) (l l' : Line) → IfOk r (λ done. done ≡ list_any is_change entries)
    → OnOk r (l' ≡ all_taken_back entries l) → IfOk r (λ done. done ≡ false → l' ≡ l)
unreported_undo (Ok done) entries l l' answer line = λ none. line ∙ none_changed entries l (sym answer ∙ none)
unreported_undo (Err e) entries l l' answer line = tt
