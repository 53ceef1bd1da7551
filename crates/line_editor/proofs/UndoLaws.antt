-- Taking back at least as many steps as there are changes.
use Rattle.std.proofs.Common.{max, ◌≡◌, ℕ, ◌+◌, ◌-◌, ◌≤◌, zero, suc, Bool, true, false, cond, List, ◌∷◌, length, take, filter, unwrap_or, refl, ap, ◌∙◌, arith}
use Rattle.std.specs.List.{list_any, range_with_len, slice_get}
use Rattle.std.proofs.Math.Seq.{take-length}
use Rattle.line_buffer.specs.Changes.{Entry}
use Rattle.line_buffer.specs.Line.{Line}
use Rattle.line_buffer.specs.Undo.{all_taken_back, is_change, is_step, newest_steps, steps_len}
use Rattle.line_keys.specs.Model.Draft.{Draft}
use Rattle.line_parts.specs.Environment.{Environment}
use Rattle.line_state.specs.Edited.{Edited, undone}
use Rattle.line_editor.specs.Editor.{edited_of}
use Rattle.line_editor.specs.DraftEdits.{after_edit}
use Rattle.line_editor.specs.Laws.{EnoughUndo}

-- where one more number is tested before others
one_more : (passes : Bool) (a m k last : ℕ) (others : List ℕ) → suc m ≤ k + 1 → last + 1 ≡ a + suc m
    → ((k : ℕ) → m ≤ k + 1 → unwrap_or (slice_get others k) last ≡ last)
    → unwrap_or (slice_get (cond passes (a ∷ others) others) k) last ≡ last
one_more true a m zero last others few is behind = omega (arith, few, is)
one_more true a m (suc k) last others few is behind = behind k (omega (arith, few))
one_more false a m k last others few is behind = behind k (omega (arith, few))

-- a place past all but one of the numbers of a range that pass a test holds the last of the range, if it holds one
last_passing : (p : ℕ → Bool) (a m k last : ℕ) → m ≤ k + 1 → last + 1 ≡ a + m
    → unwrap_or (slice_get (filter p (range_with_len a m)) k) last ≡ last
last_passing p a zero k last few is = refl
last_passing p a (suc m) k last few is =
    one_more (p a) a m k last (filter p (range_with_len (a + 1) m)) few is
    (λ k few. last_passing p (a + 1) m k last few (omega (arith, is)))

-- as many steps as there are entries, or more, are all entries
all_steps : (entries : List Entry) (n : ℕ) → length entries ≤ n → newest_steps n entries ≡ entries
all_steps entries n enough =
    let all : steps_len entries n ≡ length entries =
    last_passing (is_step entries) 1 (length entries) (max n 1 - 1) (length entries) (omega (arith, enough)) (omega arith) in
    ap (λ k. take k entries) all ∙ take-length entries

-- an edit leaves its line, whether the hint is asked again or not
pub edited_line : (environment : Environment) (reported : Bool) (edited : Edited) (draft : Draft) → (after_edit environment reported edited draft).line ≡ edited.line
edited_line environment true edited draft = refl
edited_line environment false edited draft = refl

pub enough-undo : EnoughUndo
enough-undo ruler environment input editor n enough =
    let entries : List Entry = editor.draft.changes.entries in
    ap (λ (l : Line). l.text)
    (edited_line environment (list_any is_change (newest_steps n entries)) (undone n (edited_of editor.draft)) editor.draft
    ∙ ap (λ es. all_taken_back es editor.draft.line) (all_steps entries n enough))
