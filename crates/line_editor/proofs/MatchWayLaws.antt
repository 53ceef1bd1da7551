-- Going to the matching bracket and back, and killing to it and yanking.
use Rattle.std.proofs.Common.{◌≡◌, ℕ, ◌+◌, ◌-◌, ◌<◌, ◌≤◌, ◌==◌, max, min, Bool, false, true, List, [], ◌∷◌, ◌++◌, length, take, drop, Option, Some, None, refl, ap, ◌∙◌, subst, arith, length-append, length-drop}
use Rattle.std.proofs.Math.Seq.{drop-append_seam, take-append_seam}
use Rattle.std.proofs.lemmas.List.{append-nil, length-take, take-append-drop}
use Rattle.std.specs.List.{insert_slice, replace_range, slice_range}
use Rattle.line_buffer.specs.Cluster.{place_back}
use Rattle.line_buffer.proofs.RowLemmas.{row_is_yanked}
use Rattle.line_buffer.specs.KillRing.{Ring, after_kill, is_kill, other, with_last, yanked_text}
use Rattle.line_buffer.specs.Laws.{IsRing}
use Rattle.line_buffer.specs.Line.{moved_to}
use Rattle.line_buffer.specs.declared.kill_ring.Mode.{Mode}
use Rattle.line_buffer.specs.declared.kill_ring.Mode.TheVariants.{Append}
use Rattle.line_keys.specs.Model.Draft.{Draft}
use Rattle.line_parts.proofs.MatchLawLemmas.{match_is_mutual, match_within}
use Rattle.line_parts.specs.BracketMatch.{matching_bracket}
use Rattle.line_parts.specs.Environment.{Environment}
use Rattle.line_editor.specs.BracketLaws.{GoingToTheMatchTwice, KilledToTheMatchComesBack}
use Rattle.line_editor.specs.DraftEdits.{range_emptied, yanked_in}
use Rattle.line_editor.specs.Editor.{edited_of}
use Rattle.line_input.specs.Input.{Input, is_vi_command}
use Rattle.line_keys.specs.declared.cmd.Anchor.TheVariants.{Before}
use Rattle.line_state.proofs.PlainTextLemmas.{taken_between}
use Rattle.line_state.specs.Edited.{Edited, stepped_back, with_yanked}

pub going_twice : GoingToTheMatchTwice
going_twice ruler environment editor input second match is here there =
    let back : matching_bracket editor.draft.line.text match ≡ Some editor.draft.line.cursor =
    match_is_mutual editor.draft.line.text editor.draft.line.cursor match is in
    rw (is, there, back, here) refl

-- what was killed is yanked, where the last action was no kill
killed_anew : (r : Ring) (text : List ℕ) (mode : Mode) → is_kill r.last ≡ false → after_kill r text mode ≡ after_kill (with_last r other) text mode
killed_anew r text mode unkilled = rw unkilled refl

pub yanked_back : (r : Ring) (text : List ℕ) (mode : Mode) → IsRing r → 0 < r.size → is_kill r.last ≡ false → yanked_text (after_kill r text mode) ≡ Some text
yanked_back r text mode ring some unkilled = ap yanked_text (killed_anew r text mode unkilled) ∙ row_is_yanked r text mode [] ring some

-- a text that is taken out and put in again
put_back : (text : List ℕ) (from to : ℕ) → from ≤ to → to ≤ length text → insert_slice (replace_range text from to []) from (slice_range text from to) ≡ text
put_back text from to order within =
    let front : List ℕ = take from text ++ [] in
    let len : length front ≡ from = omega (arith, length-append (take from text) [], length-take from text, order, within) in
    let before : take from (front ++ drop to text) ≡ front = subst (λ n. take n (front ++ drop to text) ≡ front) len (take-append_seam front (drop to text)) in
    let behind : drop from (front ++ drop to text) ≡ drop to text = subst (λ n. drop n (front ++ drop to text) ≡ drop to text) len (drop-append_seam front (drop to text)) in
    rw (before, behind)
    (ap (λ xs. (xs ++ slice_range text from to) ++ drop to text) (append-nil (take from text))
    ∙ ap (λ xs. xs ++ drop to text) (taken_between from to text order) ∙ take-append-drop to text)

-- a step back leaves the text
stepped_text : (back : Bool) (e : Edited) → (stepped_back back e).line.text ≡ e.line.text
stepped_text false e = refl
stepped_text true e = by (place_back e.line 1)
  where
    by : (place : Option ℕ) → (moved_to e.line place).text ≡ e.line.text
    by None = refl
    by (Some place) = refl

-- a text that is yanked once comes in at the cursor
yanked_there : (environment : Environment) (input : Input) (text : List ℕ) (draft : Draft) → 0 < length text
    → (yanked_in environment input Before 1 text draft).line.text ≡ insert_slice draft.line.text draft.line.cursor text
yanked_there environment input [] draft some = absurd (omega (arith, some))
yanked_there environment input (b ∷ bs) draft some =
    let held : (length (b ∷ bs) == 0) ≡ false = grind (arith, some) in
    rw held
    (stepped_text (is_vi_command input) (with_yanked (b ∷ bs) 1 (edited_of draft))
    ∙ ap (insert_slice draft.line.text draft.line.cursor) (append-nil (b ∷ bs)))

pub killed_comes_back : KilledToTheMatchComesBack
killed_comes_back ruler environment editor input second match is ring some unkilled =
    let text : List ℕ = editor.draft.line.text in
    let cursor : ℕ = editor.draft.line.cursor in
    let from : ℕ = min cursor match in
    let to : ℕ = max cursor match + 1 in
    let both = match_within text cursor match is in
    let order : from ≤ to = grind arith in
    let within : to ≤ length text = grind (arith, both.0, both.1) in
    let gone : List ℕ = slice_range text from to in
    let less : from < to = grind arith in
    let len : 0 < length gone = omega (arith, length-take (to - from) (drop from text), length-drop from text, within, less) in
    let yanked : yanked_text (after_kill editor.kills gone Append) ≡ Some gone = yanked_back editor.kills gone Append ring some unkilled in
    let left : Draft = range_emptied environment (Some (from, to)) editor.draft in
    let at : from + 0 ≡ from = omega arith in
    rw (is, yanked)
    (yanked_there environment second gone left len ∙ ap (λ c. insert_slice (replace_range text from to []) c gone) at ∙ put_back text from to order within)
