-- A completion is one change.
use Rattle.std.proofs.Common.{◌≡◌, ◌∙◌, inl, inr, ℕ, ◌+◌, ◌-◌, ◌≤◌, Bool, true, List, [], ◌∷◌, ◌++◌, length, take, drop, Option, Some, None, refl, sym, ap, ap₂, subst, arith, append_assoc, length-drop, slice_get, if◌then◌else◌, IsCharBoundary}
use Rattle.std.proofs.lemmas.List.{length-take-le, take-append-drop}
use Rattle.std.proofs.lemmas.List.Folds.{drop_split}
use Rattle.std.proofs.Math.Seq.{drop-append-add, drop-append_seam, take-append_seam}
use Rattle.std.specs.List.{replace_range, slice_range}
use Rattle.line_buffer.specs.Changes.{Changes, Entry, adds_end, begun, ended, replaced}
use Rattle.line_buffer.specs.Line.{Line}
use Rattle.line_buffer.proofs.GroupLemmas.{closed_group}
use Rattle.line_keys.specs.Model.Draft.{Draft, KeepsLine, hinted}
use Rattle.line_parts.specs.Candidate.{BeginsIn}
use Rattle.line_parts.specs.Environment.{Environment}
use Rattle.line_parts.specs.Written.{Written, put_to_cursor, written_as}
use Rattle.line_parts.specs.declared.completion.pair.Pair.{Pair}
use Rattle.line_state.specs.Edited.{Edited, undone}
use Rattle.line_editor.specs.Completing.{ComesIn, taken_back_once}
use Rattle.line_editor.specs.Editor.{edited_of}
use Rattle.line_session.specs.Completing.{Elects, GoesOnTo, ShowsCandidate, before_shown, replacement_of}
use Rattle.line_session.specs.OneChange.{CompletionIsOneChange, CompletionKeepsTheRest, GivingUpRestores, GoneThrough, PutsToCursorAlways}
use Rattle.line_session.specs.OneChange as one_change
use Rattle.line_session.specs.declared.completing.Completing.{Completing}
use Rattle.line_session.specs.declared.mode.Mode.{Mode}

-- a text came in place of a range, and what stood there comes back
put_back : (t new : List ℕ) (p q : ℕ) → p ≤ q → q ≤ length t → replace_range (replace_range t p q new) p (p + length new) (slice_range t p q) ≡ t
put_back t new p q low within =
    let a = take p t in
    let z = drop q t in
    let at : length a ≡ p = length-take-le p t (omega (arith, low, within)) in
    let whole : (a ++ new) ++ z ≡ a ++ (new ++ z) = append_assoc a new z in
    let front : take p ((a ++ new) ++ z) ≡ a =
    ap (λ x. take p x) whole ∙ ap (λ k. take k (a ++ (new ++ z))) (sym at) ∙ take-append_seam a (new ++ z) in
    let behind : drop (p + length new) ((a ++ new) ++ z) ≡ z =
    ap (λ x. drop (p + length new) x) whole ∙ ap (λ k. drop (k + length new) (a ++ (new ++ z))) (sym at) ∙ drop-append-add a (new ++ z) (length new) ∙ drop-append_seam new z in
    ap₂ (λ f r. (f ++ slice_range t p q) ++ r) front behind ∙ append_assoc a (slice_range t p q) z
    ∙ ap (λ r. a ++ r) (sym (drop_split t p q low)) ∙ take-append-drop p t

-- an elected text that came in is one change, which is taken back
module _ (updated : Written → ℕ → List ℕ → Written) (start : ℕ) (text : List ℕ) (grown : Bool) (old new : Edited)
    (usual : (written : Written) (start : ℕ) (text : List ℕ) → updated written start text ≡ put_to_cursor written start text) (low : start ≤ old.line.cursor)
    (within : old.line.cursor ≤ length old.line.text) where
  abbrev shut : Changes
  shut = ended old.changes

  abbrev word : List ℕ
  word = slice_range old.line.text start old.line.cursor

  abbrev put : Written
  put = put_to_cursor (written_as old.line (begun shut)) start text

  width : length word ≡ old.line.cursor - start
  width = length-take-le (old.line.cursor - start) (drop start old.line.text) (omega (arith, low, within, length-drop start old.line.text))

  here : (undone 1 (record { line = put.line; changes = ended put.changes })).line ≡ old.line
  here =
      ap (λ (s : List Entry × Line). s.1) (closed_group shut (replaced start word text ∷ []) put.line refl (omega arith) refl)
      ∙ ap₂ (λ t c. record { text = t; cursor = c }) (put_back old.line.text text start old.line.cursor low within) (omega (arith, width, low))

  put_text : ComesIn updated start text grown old new → new.line.text ≡ take start old.line.text ++ text ++ drop old.line.cursor old.line.text
  put_text comes =
      let elected = comes.elected ∙ usual (written_as old.line (begun shut)) start text in
      ap (λ (e : Edited). e.line.text) comes.left ∙ ap (λ (w : Written). w.line.text) elected

  put_taken_back : ComesIn updated start text grown old new → ((undone 1 new).line ≡ old.line) × (grown ≡ true)
  put_taken_back comes =
      let elected = comes.elected ∙ usual (written_as old.line (begun shut)) start text in (
        ap (λ (e : Edited). (undone 1 e).line) (comes.left ∙ ap (λ (w : Written). record { line = w.line; changes = ended w.changes }) elected) ∙ here,
        comes.told ∙ ap (λ (w : Written). adds_end w.changes.open_groups w.changes.entries) elected,
      )

module _ (environment : Environment) (old : Draft) (usual : PutsToCursorAlways environment)
    (cursor : IsCharBoundary old.line.text old.line.cursor) where
  -- a text that came into a draft of that line: the line from before it
  elected_back : (start : ℕ) (text : List ℕ) (grown : Bool) (bare new : Draft) → KeepsLine old bare → BeginsIn old.line.text old.line.cursor start
      → Elects environment start text grown bare new → KeepsLine old (if grown then taken_back_once new else new)
  elected_back start text grown bare new same fits elects =
      let fits_there : BeginsIn bare.line.text bare.line.cursor start = subst (λ (l : Line). BeginsIn l.text l.cursor start) (sym same.line) fits in
      let within : bare.line.cursor ≤ length bare.line.text = subst (λ (l : Line). l.cursor ≤ length l.text) (sym same.line) cursor.0 in
      let back = put_taken_back environment.updated start text grown (edited_of bare) (edited_of elects.put) usual fits_there.0 within (elects.comes fits_there) in
      let there : KeepsLine old (taken_back_once (hinted environment elects.put)) = record {
        line = back.0 ∙ same.line;
        saved = ap (λ (d : Draft). d.saved) elects.stays ∙ same.saved;
        index = ap (λ (d : Draft). d.index) elects.stays ∙ same.index;
      } in
      subst (λ b. KeepsLine old (if b then taken_back_once new else new)) (sym back.1) (subst (λ d. KeepsLine old (taken_back_once d)) (sym elects.asked) there)

  shown_back : (start : ℕ) (candidate : Option Pair) (grown : Bool) (bare new : Draft) → KeepsLine old bare → BeginsIn old.line.text old.line.cursor start
      → ShowsCandidate environment start candidate grown bare new → KeepsLine old (if grown then taken_back_once new else new)
  shown_back start (Some candidate) grown bare new same fits shows = elected_back start (replacement_of candidate) grown bare new same fits shows
  shown_back start None grown bare new same fits shows =
      let there : KeepsLine old (hinted environment bare) = record { line = same.line; saved = same.saved; index = same.index } in
      subst (λ b. KeepsLine old (if b then taken_back_once new else new)) (sym shows.0) (subst (λ d. KeepsLine old d) (sym shows.1) there)

  goes_back : (going : Completing) (index : ℕ) (draft new : Draft) (mode : Mode) → KeepsLine old (before_shown going draft) → BeginsIn old.line.text old.line.cursor going.start
      → (goes : GoesOnTo environment going index draft new mode) → KeepsLine old (before_shown goes.next new)
  goes_back going index draft new mode same fits goes =
      shown_back going.start (slice_get going.candidates.items index) goes.next.grown (before_shown going draft) new same fits goes.shows

  gone_back : (going : Completing) (new : Draft) → GoneThrough environment old going new
      → BeginsIn old.line.text old.line.cursor going.start × KeepsLine old (before_shown going new)
  gone_back _ new (one_change.begun {mode} going index fresh fits goes) =
      let same : KeepsLine old (before_shown going old) = subst (λ b. KeepsLine old (if b then taken_back_once old else old)) (sym fresh) (record { line = refl; saved = refl; index = refl }) in
      (subst (λ s. BeginsIn old.line.text old.line.cursor s) (sym goes.start) fits, goes_back going index old new mode same fits goes)
  gone_back _ new (one_change.on {going} {draft} {mode} gone index goes) =
      let before = gone_back going draft gone in
      (subst (λ s. BeginsIn old.line.text old.line.cursor s) (sym goes.start) before.0, goes_back going index draft new mode before.1 before.0 goes)

pub one-change : CompletionIsOneChange
one-change environment old new going usual cursor gone = (gone_back environment old usual cursor going new gone).1

pub giving-up : GivingUpRestores
giving-up environment old draft new going mode usual cursor gone gives =
    let back = (gone_back environment old usual cursor going draft gone).1 in
    subst (λ d. KeepsLine old d) (sym gives.0) (record { line = back.line; saved = back.saved; index = back.index })

pub keeps-rest : CompletionKeepsTheRest
keeps-rest environment start text grown old new usual cursor fits elects =
    ap (λ (d : Draft). d.line.text) elects.asked
    ∙ put_text environment.updated start text grown (edited_of old) (edited_of elects.put) usual fits.0 cursor.0 (elects.comes fits)
