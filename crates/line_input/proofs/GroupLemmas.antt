-- Facts on groups of changes that end before a phrase is read on.
use Rattle.std.proofs.Common.{◌≡◌, ℕ, ◌-◌, ◌≤◌, zero, suc, min, replicate, drop, ap₂, List, [], ◌∷◌, ◌++◌, None, refl, ◌∙◌, ap, arith}
use Rattle.line_buffer.specs.Changes.{Entry, begins, begins_in_a_row, closed, deleted, ends, inserted, replaced}
use Rattle.line_buffer.specs.Line.{Line}
use Rattle.line_buffer.specs.Undo.{all_taken_back}
use Rattle.line_keys.specs.Model.Draft.{Draft, out_of_group, start_text}
use Rattle.line_keys.specs.Item.{Item, key, paste}
use Rattle.line_input.specs.Input.{Input}
use Rattle.line_input.specs.Keymap.{Keymap, Source, by_binding, by_phrase, by_reader, by_table, source_of}
use Rattle.line_input.specs.Phrase.{entered, entered_by}

-- an end is taken back with nothing
ends_back : (n : ℕ) (entries : List Entry) (l : Line) → all_taken_back (replicate n ends ++ entries) l ≡ all_taken_back entries l
ends_back zero entries l = refl
ends_back (suc n) entries l = ends_back n entries l

-- so is a begin
begins_back : (m : ℕ) (entries : List Entry) (l : Line) → m ≤ begins_in_a_row entries → all_taken_back (drop m entries) l ≡ all_taken_back entries l
begins_back zero entries l few = refl
begins_back (suc m) [] l few = absurd (omega (arith, few))
begins_back (suc m) (begins ∷ entries) l few = begins_back m entries l (omega (arith, few))
begins_back (suc m) (ends ∷ entries) l few = absurd (omega (arith, few))
begins_back (suc m) (inserted place text ∷ entries) l few = absurd (omega (arith, few))
begins_back (suc m) (deleted place text ∷ entries) l few = absurd (omega (arith, few))
begins_back (suc m) (replaced place old new ∷ entries) l few = absurd (omega (arith, few))

-- where groups end, all changes taken back give the same
pub start_ended : (draft : Draft) → start_text (out_of_group draft) ≡ start_text draft
start_ended draft =
    let entries = draft.changes.entries in
    let n = draft.changes.open_groups in
    let row = begins_in_a_row entries in
    ap (λ (l : Line). l.text) (ends_back (n - row) (drop (min n row) entries) draft.line ∙ begins_back (min n row) entries draft.line (omega arith))

-- groups that have ended don't end again
pub ended_twice : (draft : Draft) → out_of_group (out_of_group draft) ≡ out_of_group draft
ended_twice draft =
    let entries = closed draft.changes.open_groups draft.changes.entries in
    let row = begins_in_a_row entries in
    let left : 0 - row ≡ 0 = omega arith in
    let gone : min 0 row ≡ 0 = omega arith in
    ap (λ e. record draft { changes = record { entries = e; open_groups = 0 } }) (ap₂ (λ m k. replicate m ends ++ drop k entries) left gone)

-- the draft behind a first key
pub start_entered : (source : Source) (draft : Draft) → start_text (entered_by source draft) ≡ start_text draft
start_entered (by_binding command) draft = refl
start_entered (by_reader command) draft = refl
start_entered (by_phrase plain) draft = start_ended draft
start_entered (by_table entry) draft = refl

-- and of a phrase
pub start_there : (keymap : Keymap) (draft : Draft) (input : Input) (items : List Item) → start_text (entered keymap draft input items) ≡ start_text draft
start_there keymap draft input [] = refl
start_there keymap draft input (key first ∷ items) = start_entered (source_of keymap draft input None first) draft
start_there keymap draft input (paste text ∷ items) = refl
