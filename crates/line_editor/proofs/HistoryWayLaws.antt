-- Leaving the history's end and coming back to it.
use Rattle.std.proofs.Common.{◌≡◌, ◌≢◌, ℕ, ◌+◌, ◌-◌, ◌<◌, ◌≤◌, ◌==◌, ◌||◌, suc, Bool, true, false, cond, List, [], ◌∷◌, ◌++◌, length, take, Option, Some, None, is_some, not, refl, sym, ap, ◌∙◌, arith}
use Rattle.std.specs.List.{list_any}
use Rattle.std.proofs.lemmas.Bool.{eqb-true, eqb-false, ne_eqb}
use Rattle.line_buffer.specs.Kill.{killed_range}
use Rattle.line_buffer.specs.KillRing.{Ring, yank_popped, yanked_text}
use Rattle.line_buffer.specs.Line.{Line, ends_in_white_space}
use Rattle.line_buffer.specs.Lines.{down_by, up_by}
use Rattle.line_buffer.specs.declared.movement.Movement.{Movement}
use Rattle.line_buffer.specs.declared.movement.Movement.TheVariants.{LineDown, LineUp}
use Rattle.line_parts.specs.Environment.{Environment, verdict_on}
use Rattle.line_parts.specs.Hint.{Suggestion}
use Rattle.line_parts.specs.Verdict.{Verdict, incomplete, invalid, valid}
use Rattle.line_state.specs.Edited.{Edited, bracket_range, with_nothing_for, with_text, yanked_at}
use Rattle.line_keys.specs.Command.{Command, accept_line, accept_or_insert_line, beginning_of_history, capitalize_word, complete_hint, downcase_word, end_of_history, history_search_backward, history_search_forward, insert, kill, kill_to_bracket, line_down_or_next_history, line_up_or_previous_history, next_history, overwrite, previous_history, replace, replace_char, replace_to_bracket, transpose_chars, transpose_words, undo, upcase_word, yank, yank_pop}
use Rattle.line_keys.specs.Model.Draft.{Draft, in_group, out_of_group, unhinted}
use Rattle.line_keys.specs.declared.cmd.Anchor.{Anchor}
use Rattle.line_editor.specs.Accept.{replied, reply_to, unhinted_by, validated}
use Rattle.line_editor.specs.declared.command.Reply.{Reply}
use Rattle.line_editor.specs.declared.command.Reply.TheVariants as reply
use Rattle.line_editor.specs.Editor.{Editor, edited_of, measuring}
use Rattle.line_input.specs.Ruler.{Ruler}
use Rattle.line_editor.specs.DraftEdits.{after_edit, bracket_killed, bracket_replaced, completed, cursor_moved, kill_popped, kill_yanked, killed_by, perhaps_inserted, movement_replaced, typed_in}
use Rattle.line_editor.specs.HistoryMoves.{come_back, first_shown, is_own_line, line_shown, next_shown, previous_shown, saved_at_end}
use Rattle.line_input.specs.Input.{Input, is_vi_command}
use Rattle.line_editor.specs.Laws.{ComingBack, after_commands, searches}
use Rattle.line_editor.specs.Run.{ready}
use Rattle.line_editor.specs.Step.{step}

-- the saved line and the history index stay
record Stays (old new : Draft) : Type 0 where
  saved : new.saved ≡ old.saved
  index : new.index ≡ old.index

-- what a command that does not search does to the place in the history: it stays; or a line of the history is shown, and the line
-- that was left at the end is saved; or the saved line comes back
data Way (environment : Environment) (old new : Draft) : Type 0 where
  stays : Stays old new → Way environment old new
  shown : new.saved ≡ (saved_at_end environment old).saved → new.index < length environment.lines → Way environment old new
  back : new.line ≡ old.saved → new.index ≡ length environment.lines → Way environment old new

-- ---- edits stay at their place

edit_stays : (environment : Environment) (reported : Bool) (edited : Edited) (draft : Draft) → Stays draft (after_edit environment reported edited draft)
edit_stays environment true edited draft = record { saved = refl; index = refl }
edit_stays environment false edited draft = record { saved = refl; index = refl }

killed_stays : (environment : Environment) (movement : Movement) (editor : Editor) (range : Option (ℕ × ℕ)) → Stays editor.draft (killed_by environment movement editor range).draft
killed_stays environment movement editor None = record { saved = refl; index = refl }
killed_stays environment movement editor (Some range) = record { saved = refl; index = refl }

-- one of two drafts at the place
either_stays : (b : Bool) (old left right : Draft) → Stays old left → Stays old right → Stays old (cond b left right)
either_stays true old left right first second = first
either_stays false old left right first second = second

then_stays : (old middle new : Draft) → Stays old middle → Stays middle new → Stays old new
then_stays old middle new first second = record { saved = second.saved ∙ first.saved; index = second.index ∙ first.index }

-- a text that comes in, if there is one
text_stays : (environment : Environment) (text : Option (List ℕ)) (draft : Draft) → Stays draft (perhaps_inserted environment text draft)
text_stays environment None draft = record { saved = refl; index = refl }
text_stays environment (Some text) draft =
    either_stays (length text == 0) draft draft (after_edit environment true (with_text text (edited_of draft)) draft)
    (record { saved = refl; index = refl }) (record { saved = refl; index = refl })

replaced_stays : (environment : Environment) (movement : Movement) (text : Option (List ℕ)) (editor : Editor) → Stays editor.draft (movement_replaced environment movement text editor).draft
replaced_stays environment movement text editor =
    let left : Editor = killed_by environment movement editor (killed_range editor.draft.line movement) in
    then_stays editor.draft left.draft (perhaps_inserted environment text left.draft)
    (killed_stays environment movement editor (killed_range editor.draft.line movement)) (text_stays environment text left.draft)

-- and of a text from a bracket to its match
emptied_stays : (environment : Environment) (editor : Editor) → Stays editor.draft (bracket_killed environment editor).draft
emptied_stays environment editor =
    edit_stays environment (is_some (bracket_range editor.draft.line)) (with_nothing_for (bracket_range editor.draft.line) (edited_of editor.draft)) editor.draft

refilled_stays : (environment : Environment) (text : Option (List ℕ)) (editor : Editor) → Stays editor.draft (bracket_replaced environment text editor).draft
refilled_stays environment text editor =
    let left : Editor = bracket_killed environment editor in
    then_stays editor.draft left.draft (perhaps_inserted environment text left.draft) (emptied_stays environment editor) (text_stays environment text left.draft)

yanked_stays : (environment : Environment) (input : Input) (anchor : Anchor) (n : ℕ) (text : Option (List ℕ)) (editor : Editor)
    → Stays editor.draft (kill_yanked environment input anchor n text editor).draft
yanked_stays environment input anchor n None editor = record { saved = refl; index = refl }
yanked_stays environment input anchor n (Some text) editor =
    edit_stays environment (not (length text == 0)) (yanked_at anchor text n (is_vi_command input) (edited_of editor.draft)) editor.draft

popped_stays : (environment : Environment) (popped : Option (ℕ × List ℕ)) (editor : Editor) → Stays editor.draft (kill_popped environment popped editor).draft
popped_stays environment None editor = record { saved = refl; index = refl }
popped_stays environment (Some popped) editor = search edit_stays

completed_stays : (environment : Environment) (hint : Option Suggestion) (draft : Draft) → Stays draft (completed environment hint draft)
completed_stays environment None draft = record { saved = refl; index = refl }
completed_stays environment (Some hint) draft = record { saved = refl; index = refl }

-- ---- a validated and an accepted line stay at their place

unhinted_stays : (verdict : Verdict) (draft : Draft) → Stays draft (unhinted_by verdict draft)
unhinted_stays (valid message) draft = record { saved = refl; index = refl }
unhinted_stays (invalid message) draft = record { saved = refl; index = refl }
unhinted_stays incomplete draft = record { saved = refl; index = refl }

validated_stays : (environment : Environment) (draft : Draft) → Stays draft (validated environment draft)
validated_stays environment draft =
    let asked : Stays draft (unhinted_by (verdict_on environment draft.line.text) (out_of_group (in_group draft))) =
    then_stays draft (out_of_group (in_group draft)) (unhinted_by (verdict_on environment draft.line.text) (out_of_group (in_group draft)))
    (record { saved = refl; index = refl }) (unhinted_stays (verdict_on environment draft.line.text) (out_of_group (in_group draft))) in
    either_stays (is_some environment.verdict_at) draft (unhinted_by (verdict_on environment draft.line.text) (out_of_group (in_group draft))) draft
    asked (record { saved = refl; index = refl })

-- the same after the hint was taken away
left_validated : (environment : Environment) (draft : Draft) → Stays draft (validated environment (unhinted draft))
left_validated environment draft =
    then_stays draft (unhinted draft) (validated environment (unhinted draft)) (record { saved = refl; index = refl }) (validated_stays environment (unhinted draft))

accepted_stays : (r : Reply) (old left longer : Draft) → Stays old left → Stays old longer → Stays old (replied r left longer).0
accepted_stays reply.Submits old left longer stay edited = stay
accepted_stays reply.Stays old left longer stay edited = stay
accepted_stays reply.GoesOn old left longer stay edited = edited

-- ---- the moves in the history

saved_off_end : (environment : Environment) (draft : Draft) → is_own_line environment draft ≡ false → (saved_at_end environment draft).saved ≡ draft.saved
saved_off_end environment draft away = ap (λ b. (cond b (record draft { saved = draft.line }) draft).saved) away

saved_on_end : (environment : Environment) (draft : Draft) → is_own_line environment draft ≡ true → (saved_at_end environment draft).saved ≡ draft.line
saved_on_end environment draft at = ap (λ b. (cond b (record draft { saved = draft.line }) draft).saved) at

-- one of two drafts on a way
either_way : (b : Bool) (environment : Environment) (old left right : Draft) → Way environment old left → Way environment old right → Way environment old (cond b left right)
either_way true environment old left right first second = first
either_way false environment old left right first second = second

-- a line of the history is shown, unless the index is the first
shown_further_back : (environment : Environment) (draft : Draft) (index : ℕ) (first : Bool) → (first ≡ false → index < length environment.lines)
    → Way environment draft (cond first draft (line_shown environment index (saved_at_end environment draft)))
shown_further_back environment draft index true below = stays (record { saved = refl; index = refl })
shown_further_back environment draft index false below = shown refl (below refl)

previous_way : (environment : Environment) (draft : Draft) → draft.index ≤ length environment.lines → Way environment draft (previous_shown environment draft)
previous_way environment draft within =
    shown_further_back environment draft (draft.index - 1) (draft.index == 0)
    (λ later. let some : draft.index ≢ 0 = eqb-false draft.index 0 later in omega (arith, some, within))

first_way : (environment : Environment) (draft : Draft) → draft.index ≤ length environment.lines → Way environment draft (first_shown environment draft)
first_way environment draft within =
    shown_further_back environment draft 0 (draft.index == 0)
    (λ later. let some : draft.index ≢ 0 = eqb-false draft.index 0 later in omega (arith, some, within))

-- the line behind this one is shown, or the saved line comes back from the last
shown_further_on : (environment : Environment) (draft : Draft) (at last : Bool) → draft.index ≤ length environment.lines
    → is_own_line environment draft ≡ at → (draft.index + 1 == length environment.lines) ≡ last
    → Way environment draft (cond at draft (cond last (come_back environment draft) (line_shown environment (draft.index + 1) draft)))
shown_further_on environment draft true last within end next = stays (record { saved = refl; index = refl })
shown_further_on environment draft false true within end next = back refl refl
shown_further_on environment draft false false within end next =
    let off : draft.index ≢ length environment.lines = eqb-false draft.index (length environment.lines) end in
    let off_next : draft.index + 1 ≢ length environment.lines = eqb-false (draft.index + 1) (length environment.lines) next in
    shown (sym (saved_off_end environment draft end)) (omega (arith, off, off_next, within))

next_way : (environment : Environment) (draft : Draft) → draft.index ≤ length environment.lines → Way environment draft (next_shown environment draft)
next_way environment draft within =
    shown_further_on environment draft (is_own_line environment draft) (draft.index + 1 == length environment.lines) within refl refl

-- ---- each command

step_way : (ruler : Ruler) (environment : Environment) (input : Input) (draft : Draft) (kills : Ring) (command : Command)
    → searches command ≡ false → draft.index ≤ length environment.lines
    → Way environment draft (step ruler environment input (ready command draft kills) command).editor.draft
step_way ruler environment input draft kills history_search_backward none within = absurd (cc)
step_way ruler environment input draft kills history_search_forward none within = absurd (cc)
step_way ruler environment input draft kills previous_history none within = previous_way environment draft within
step_way ruler environment input draft kills next_history none within = next_way environment draft within
step_way ruler environment input draft kills beginning_of_history none within = first_way environment draft within
step_way ruler environment input draft kills end_of_history none within =
    either_way (is_own_line environment draft) environment draft draft (come_back environment draft)
    (stays (record { saved = refl; index = refl })) (back refl refl)
step_way ruler environment input draft kills (line_up_or_previous_history n) none within =
    either_way (is_some (up_by (measuring ruler) draft.line n)) environment draft (cursor_moved ruler (LineUp n) draft) (previous_shown environment draft)
    (stays (record { saved = refl; index = refl })) (previous_way environment draft within)
step_way ruler environment input draft kills (line_down_or_next_history n) none within =
    either_way (is_some (down_by (measuring ruler) draft.line n)) environment draft (cursor_moved ruler (LineDown n) draft) (next_shown environment draft)
    (stays (record { saved = refl; index = refl })) (next_way environment draft within)
step_way ruler environment input draft kills (kill movement) none within =
    stays (killed_stays environment movement (ready (kill movement) draft kills) (killed_range draft.line movement))
step_way ruler environment input draft kills (replace movement text) none within =
    let found : Editor = ready (replace movement text) draft kills in
    stays (then_stays draft found.draft (movement_replaced environment movement text found).draft (record { saved = refl; index = refl }) (replaced_stays environment movement text found))
step_way ruler environment input draft kills kill_to_bracket none within = stays (emptied_stays environment (ready kill_to_bracket draft kills))
step_way ruler environment input draft kills (replace_to_bracket text) none within =
    let found : Editor = ready (replace_to_bracket text) draft kills in
    stays (then_stays draft found.draft (bracket_replaced environment text found).draft (record { saved = refl; index = refl }) (refilled_stays environment text found))
step_way ruler environment input draft kills (yank n anchor) none within =
    let found : Editor = ready (yank n anchor) draft kills in
    stays (yanked_stays environment input anchor n (yanked_text found.kills) found)
step_way ruler environment input draft kills yank_pop none within =
    let found : Editor = ready yank_pop draft kills in
    stays (popped_stays environment (yank_popped found.kills) found)
step_way ruler environment input draft kills accept_line none within =
    stays (left_validated environment draft)
step_way ruler environment input draft kills (accept_or_insert_line in_the_middle) none within =
    let left : Draft = validated environment (unhinted draft) in
    let stay : Stays draft left = left_validated environment draft in
    let typed : Stays draft (typed_in environment 1 10 left) = then_stays draft left (typed_in environment 1 10 left) stay (record { saved = refl; index = refl }) in
    stays (accepted_stays (reply_to (verdict_on environment draft.line.text) (in_the_middle || ends_in_white_space draft.line)) draft left (typed_in environment 1 10 left) stay typed)
step_way ruler environment input draft kills complete_hint none within = stays (completed_stays environment draft.hint draft)
step_way ruler environment input draft kills (insert n text) none within = stays (search edit_stays)
step_way ruler environment input draft kills (replace_char n c) none within = stays (search edit_stays)
step_way ruler environment input draft kills (overwrite c) none within = stays (search edit_stays)
step_way ruler environment input draft kills (undo n) none within = stays (search edit_stays)
step_way ruler environment input draft kills transpose_chars none within = stays (search edit_stays)
step_way ruler environment input draft kills (transpose_words n) none within = stays (search edit_stays)
step_way ruler environment input draft kills capitalize_word none within = stays (search edit_stays)
step_way ruler environment input draft kills downcase_word none within = stays (search edit_stays)
step_way ruler environment input draft kills upcase_word none within = stays (search edit_stays)
step_way ruler environment input draft kills command none within = stays (record { saved = refl; index = refl })

-- ---- many commands

-- at a line of the history, with this line saved
record IsAway (environment : Environment) (line : Line) (draft : Draft) : Type 0 where
  saved : draft.saved ≡ line
  before_end : draft.index < length environment.lines

-- a way from the end to a line of the history saves the line
leaves_end : (environment : Environment) (old new : Draft) → Way environment old new
    → is_own_line environment old ≡ true → is_own_line environment new ≡ false → IsAway environment old.line new
leaves_end environment old new (stays same) at off =
    absurd (eqb-false new.index (length environment.lines) off (same.index ∙ eqb-true old.index (length environment.lines) at))
leaves_end environment old new (shown saved below) at off = record { saved = saved ∙ saved_on_end environment old at; before_end = below }
leaves_end environment old new (back line index) at off = absurd (eqb-false new.index (length environment.lines) off index)

-- the history's end is elsewhere
is_off : (environment : Environment) (line : Line) (draft : Draft) → IsAway environment line draft → is_own_line environment draft ≡ false
is_off environment line draft away = let below : draft.index < length environment.lines = away.before_end in
    ne_eqb draft.index (length environment.lines) (λ same. omega (arith, same, below))

-- a way that does not come to the end keeps what is saved
stays_away : (environment : Environment) (line : Line) (old new : Draft) → Way environment old new
    → IsAway environment line old → is_own_line environment new ≡ false → IsAway environment line new
stays_away environment line old new (stays same) away off =
    let below : old.index < length environment.lines = away.before_end in
    record { saved = same.saved ∙ away.saved; before_end = omega (arith, same.index, below) }
stays_away environment line old new (shown saved below) away off =
    record { saved = saved ∙ saved_off_end environment old (is_off environment line old away) ∙ away.saved; before_end = below }
stays_away environment line old new (back line' index) away off = absurd (eqb-false new.index (length environment.lines) off index)

-- a way to the end brings back what is saved
comes_to_end : (environment : Environment) (line : Line) (old new : Draft) → Way environment old new
    → IsAway environment line old → is_own_line environment new ≡ true → new.line ≡ line
comes_to_end environment line old new (stays same) away at =
    let below : old.index < length environment.lines = away.before_end in
    let end : new.index ≡ length environment.lines = eqb-true new.index (length environment.lines) at in
    let there : new.index ≡ old.index = same.index in
    absurd (omega (arith, below, end, there))
comes_to_end environment line old new (shown saved below) away at =
    let end : new.index ≡ length environment.lines = eqb-true new.index (length environment.lines) at in
    absurd (omega (arith, below, end))
comes_to_end environment line old new (back line' index) away at = line' ∙ away.saved

-- neither the first of two tests nor the second
neither : (first second : Bool) → first || second ≡ false → (first ≡ false) × (second ≡ false)
neither false second none = (refl, none)
neither true second none = absurd (cc)

module _ (ruler : Ruler) (environment : Environment) where
  -- what one command leaves, as a run executes it
  abbrev after_one : Editor → Input × Command → Editor
  after_one editor next = (step ruler environment next.0 (ready next.1 editor.draft editor.kills) next.1).editor

  -- commands that come to the end only by the last one bring the saved line back
  comes_back : (line : Line) (editor : Editor) (between : List (Input × Command)) (last : Input × Command)
      → IsAway environment line editor.draft
      → list_any (λ next. searches next.1) (between ++ last ∷ []) ≡ false
      → ((k : ℕ) → k ≤ length between → is_own_line environment (after_commands ruler environment editor (take k between)).draft ≡ false)
      → is_own_line environment (after_commands ruler environment editor (between ++ last ∷ [])).draft ≡ true
      → (after_commands ruler environment editor (between ++ last ∷ [])).draft.line ≡ line
  comes_back line editor [] last away none off at =
      let below : editor.draft.index < length environment.lines = away.before_end in
      let within : editor.draft.index ≤ length environment.lines = omega (arith, below) in
      comes_to_end environment line editor.draft (after_one editor last).draft
      (step_way ruler environment last.0 editor.draft editor.kills last.1 (neither (searches last.1) false none).0 within) away at
  comes_back line editor (next ∷ more) last away none off at =
      let apart = neither (searches next.1) (list_any (λ next. searches next.1) (more ++ last ∷ [])) none in
      let below : editor.draft.index < length environment.lines = away.before_end in
      let within : editor.draft.index ≤ length environment.lines = omega (arith, below) in
      let next_off : is_own_line environment (after_one editor next).draft ≡ false = off 1 (omega arith) in
      comes_back line (after_one editor next) more last
      (stays_away environment line editor.draft (after_one editor next).draft (step_way ruler environment next.0 editor.draft editor.kills next.1 apart.0 within) away next_off)
      apart.1 (λ k few. off (suc k) (omega (arith, few))) at

pub coming-back : ComingBack
coming-back ruler environment editor first last between none at off end =
    let apart = neither (searches first.1) (list_any (λ next. searches next.1) (between ++ last ∷ [])) none in
    let here : editor.draft.index ≡ length environment.lines = eqb-true editor.draft.index (length environment.lines) at in
    let within : editor.draft.index ≤ length environment.lines = omega (arith, here) in
    let left : Editor = after_one ruler environment editor first in
    let away : IsAway environment editor.draft.line left.draft =
    leaves_end environment editor.draft left.draft (step_way ruler environment first.0 editor.draft editor.kills first.1 apart.0 within) at (off 0 (omega arith)) in
    comes_back ruler environment editor.draft.line left between last away apart.1 off end
