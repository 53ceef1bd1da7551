-- Facts on what kills leave that go wrong.
use Rattle.std.proofs.Common.{◌≡◌, ◌⊎◌, ℕ, Bool, true, false, inl, inr, List, Option, Result, Ok, Err, refl, sym, ◌∙◌, ap, subst}
use Rattle.std.specs.Prelude.{◌==◌, if◌then◌else◌, is_some, length}
use Rattle.line_buffer.specs.KillRing.{Ring, after_yank, after_yank_pop, back_one, current_text, with_last, yank_pop_size, yanked}
use Rattle.line_buffer.specs.Line.{Line}
use Rattle.line_buffer.specs.declared.layout.Position.{Position}
use Rattle.line_buffer.specs.declared.movement.Movement.{Movement}
use Rattle.line_config.specs.Error.{is_memory}
use Rattle.line_config.specs.declared.error.ReadlineError.{ReadlineError}
use Rattle.line_keys.specs.Model.Draft.{Draft, start_text}
use Rattle.line_keys.specs.Model.Drawing.{Does, Drawing, asked_by, nothing, with_hint}
use Rattle.line_keys.specs.declared.editor_state.EditorState.{Ghosts}
use Rattle.line_parts.specs.Asks.{Sureness, is_sure, nobody}
use Rattle.line_parts.specs.Environment.{Environment}
use Rattle.line_state.specs.Edited.{bracket_range}
use Rattle.line_editor.specs.Drawings.{bracket_drawn, has_text, kill_drawn, replacement_drawn}
use Rattle.line_editor.specs.DraftEdits.{bracket_killed, bracket_text, copied_to, killed_by, range_emptied}
use Rattle.line_editor.specs.Editor.{Editor}
use Rattle.line_editor.specs.Outcomes.{DoesInTwoWithKills, DoesWithKills, EditedOnIo, EditsThenDraws, IsEditorOf, KillsLeft, editor_of}
use Rattle.line_editor.proofs.AskedLemmas.{fails_more}
use Rattle.line_editor.proofs.KillLemmas.{KilledAs, kill_as, killed_as}
use Rattle.line_editor.proofs.DoneLemmas.{does_after}
use Rattle.line_editor.proofs.FaultLemmas.{fault_halfway, leaves_kills, of_wider, ring_behind}
use Rattle.line_input.proofs.DraftLemmas.{not_io, same_draft, whole_text}

-- a yank keeps the size of the kill ring
yanked_size : (kills : Ring) → (after_yank kills).size ≡ kills.size
yanked_size kills = by_empty (length kills.slots == 0)
  where
    by_empty : (empty : Bool) → (if empty then kills else with_last kills (yanked (length (current_text kills)))).size ≡ kills.size
    by_empty true = refl
    by_empty false = refl

-- and so does a yank-pop
pub popped_size : (kills : Ring) → (after_yank_pop kills).size ≡ kills.size
popped_size kills = by_yank (is_some (yank_pop_size kills))
  where
    by_yank : (was : Bool) → (if was then after_yank (back_one kills) else kills).size ≡ kills.size
    by_yank true = yanked_size (back_one kills)
    by_yank false = refl

-- a text that could not be copied to the kill ring, before anything went
pub copy_fails : {X T U : Type 0} (e : Ghosts X) (f : ReadlineError) (old new : X) (kills kills' : Ring) (left left' : Editor) (drawing : Drawing) (times : ℕ)
    → is_memory f ≡ true → left.draft ≡ e.draft old → left'.kills ≡ left.kills → DoesWithKills e {T = T} (Err f) old kills new kills' left nothing 1
    → DoesWithKills e {T = U} (Err f) old kills new kills' left' drawing times
copy_fails {U = U} e f old new kills kills' left left' drawing times memory stays same copied = record {
  does = record {
    draft = tt;
    fault = fault_halfway f (e.environment old) (e.environment old) (e.draft old) (e.draft old) left.draft (e.draft old) left'.draft (e.draft new) refl stays (inl refl)
        (whole_text (e.draft old)) copied.does.fault;
    start = tt;
    drew = tt;
    keeps = tt;
    change = tt;
    prompt = copied.does.prompt;
    frame = copied.does.frame;
    fails = fails_more e {T = U} (Err f) nobody (asked_by drawing) old new (λ sure. refl)
        (record { io = copied.does.fails.io; faults = copied.does.fails.faults; quiet = copied.does.fails.quiet });
  };
  kills_left = subst (λ (k : Ring). KillsLeft f kills k kills') (sym same) copied.kills_left;
  moment = λ io. not_io f memory io;
}

-- the text from the bracket at the cursor to its match that was copied, and then goes
pub bracket_goes : {X T U : Type 0} (e : Ghosts X) (x : T) (r : Result U ReadlineError) (old mid new : X) (kills kills' : Ring)
    → DoesWithKills e (Ok x) old kills mid kills' (record (editor_of e old kills) { kills = copied_to kills (bracket_text (e.draft old).line) }) nothing 1
    → EditsThenDraws e r mid new (range_emptied (e.environment mid) (bracket_range (e.draft mid).line) (e.draft mid)) (bracket_drawn (e.draft mid).line) 1
    → DoesWithKills e r old kills new kills' (bracket_killed (e.environment old) (editor_of e old kills)) (bracket_drawn (e.draft old).line) 1
bracket_goes e x r old mid new kills kills' copied goes =
    let emptied : Environment → Draft → Draft = λ w d. range_emptied w (bracket_range d.line) d in
    let same : e.draft mid ≡ e.draft old = copied.does.draft in
    let gone : emptied (e.environment mid) (e.draft mid) ≡ emptied (e.environment old) (e.draft old) =
    ap (λ w. emptied w (e.draft mid)) copied.does.frame.environment ∙ ap (λ d. emptied (e.environment old) d) same in
    record {
      does = does_after e (asked_by (bracket_drawn (e.draft old).line)) r old mid new (e.draft mid) (e.draft old) _ _ (is_some (bracket_range (e.draft old).line))
          (record { drew = copied.does.drew; failures = copied.does.fails.quiet; frame = copied.does.frame })
          (ap (λ (d : Draft). d.line) same) (ap (λ (d : Draft). d.hint) same) (ap start_text same) gone (inl (ap (λ (d : Draft). d.hint) same))
          (inl (same_draft (e.draft old) (e.draft mid) same)) (inl (same_draft (e.draft old) (e.draft mid) same))
          (subst (λ (l : Line). Does e r mid new (emptied (e.environment mid) (e.draft mid)) (bracket_drawn l) 1) (ap (λ (d : Draft). d.line) same) goes.does);
      kills_left = leaves_kills r kills _ kills' copied.kills_left;
      moment = ring_behind r (e.environment old) (editor_of e old kills) (bracket_killed (e.environment old) (editor_of e old kills)) (editor_of e new kills')
          (subst (λ (d : Draft). EditedOnIo r (e.environment old) d (emptied (e.environment old) (e.draft old)) (e.draft new)) same
          (subst (λ (l : Draft). EditedOnIo r (e.environment old) (e.draft mid) l (e.draft new)) gone
          (subst (λ (w : Environment). EditedOnIo r w (e.draft mid) (emptied (e.environment mid) (e.draft mid)) (e.draft new)) copied.does.frame.environment goes.edited))) copied.kills_left;
    }

-- whoever is asked for a replacement is asked for its kill
sure_killed : (sure : Sureness) (drawing : Drawing) (text : Bool) → KilledAs drawing → is_sure sure (asked_by (if text then with_hint else drawing)) ≡ true
    → is_sure sure (asked_by drawing) ≡ true
sure_killed sure drawing false as_kill all = all
sure_killed sure drawing true as_kill all =
    subst (λ (d : Drawing). is_sure sure (asked_by d) ≡ true) as_kill.same (by_kill as_kill.found as_kill.plainly as_kill.position)
  where
    by_kill : (found plainly : Bool) (position : Position) → is_sure sure (asked_by (killed_as found plainly position)) ≡ true
    by_kill false plainly position = refl
    by_kill true true position = all
    by_kill true false position = all

-- a kill that went wrong, before a text could come in its place
pub kill_fails : {X T U : Type 0} (e : Ghosts X) (f : ReadlineError) (old new : X) (kills kills' : Ring) (left left' : Editor) (drawing : Drawing) (as_kill : KilledAs drawing) (text : Option (List ℕ)) (times : ℕ)
    → left'.kills ≡ left.kills → DoesWithKills e {T = T} (Err f) old kills new kills' left drawing 1
    → DoesInTwoWithKills e {T = U} (Err f) old kills new kills' left left' (replacement_drawn drawing text) times
kill_fails {U = U} e f old new kills kills' left left' drawing as_kill text times same killed = record {
  does = record {
    draft = tt;
    fault = fault_halfway f (e.environment old) (e.environment old) (e.draft old) (e.draft old) left.draft left.draft left'.draft (e.draft new) refl refl (inl refl)
        (whole_text (e.draft old)) killed.does.fault;
    start = tt;
    drew = tt;
    keeps = tt;
    change = tt;
    prompt = killed.does.prompt;
    frame = killed.does.frame;
    fails = fails_more e {T = U} (Err f) (asked_by drawing) (asked_by (replacement_drawn drawing text)) old new
        (λ sure. sure_killed (e.sure old) drawing (has_text text) as_kill sure)
        (record { io = killed.does.fails.io; faults = killed.does.fails.faults; quiet = killed.does.fails.quiet });
  };
  kills_left = subst (λ (k : Ring). KillsLeft f kills k kills') (sym same) killed.kills_left;
  moment = λ io. there (killed.moment io);
}
  where
    wider : (moment : Editor) → IsEditorOf (e.environment old) (editor_of e old kills) (editor_of e old kills) moment (editor_of e new kills')
        → IsEditorOf (e.environment old) (editor_of e old kills) left moment (editor_of e new kills')
    wider moment at = (of_wider (e.environment old) (e.draft old) left.draft moment.draft (e.draft new) at.0, at.1)

    there : IsEditorOf (e.environment old) (editor_of e old kills) (editor_of e old kills) (editor_of e old kills) (editor_of e new kills')
        ⊎ IsEditorOf (e.environment old) (editor_of e old kills) (editor_of e old kills) (editor_of e old kills) (editor_of e new kills')
        ⊎ IsEditorOf (e.environment old) (editor_of e old kills) (editor_of e old kills) left (editor_of e new kills')
        → IsEditorOf (e.environment old) (editor_of e old kills) left (editor_of e old kills) (editor_of e new kills')
        ⊎ IsEditorOf (e.environment old) (editor_of e old kills) left left (editor_of e new kills')
        ⊎ IsEditorOf (e.environment old) (editor_of e old kills) left left' (editor_of e new kills')
    there (inl was) = inl (wider (editor_of e old kills) was)
    there (inr (inl was)) = inl (wider (editor_of e old kills) was)
    there (inr (inr done)) = inr (inl (wider left done))

-- the same of a movement that could not be killed
pub movement_fails : {X T U : Type 0} (e : Ghosts X) (f : ReadlineError) (old new : X) (kills kills' : Ring) (movement : Movement) (range : Option (ℕ × ℕ)) (left' : Editor) (text : Option (List ℕ)) (times : ℕ)
    → left'.kills ≡ (killed_by (e.environment old) movement (editor_of e old kills) range).kills
    → DoesWithKills e {T = T} (Err f) old kills new kills' (killed_by (e.environment old) movement (editor_of e old kills) range) (kill_drawn (e.display old) (e.environment old) (e.draft old) range) 1
    → DoesInTwoWithKills e {T = U} (Err f) old kills new kills' (killed_by (e.environment old) movement (editor_of e old kills) range) left'
    (replacement_drawn (kill_drawn (e.display old) (e.environment old) (e.draft old) range) text) times
movement_fails e f old new kills kills' movement range left' text times same killed =
    kill_fails e f old new kills kills' (killed_by (e.environment old) movement (editor_of e old kills) range) left' (kill_drawn (e.display old) (e.environment old) (e.draft old) range)
    (kill_as (e.display old) (e.environment old) (e.draft old) range) text times same killed
