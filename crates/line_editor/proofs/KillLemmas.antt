-- Facts on what kills and yanks leave.
use Rattle.std.proofs.Common.{◌≡◌, ◌⊎◌, ℕ, ◌+◌, ◌-◌, Bool, true, false, cond, inl, inr, List, Option, Some, None, option_map, Result, Ok, Err, refl, sym, ◌∙◌, ap, subst, arith}
use Rattle.std.specs.Prelude.{◌==◌, if◌then◌else◌, length, not, is_some}
use Rattle.line_buffer.specs.KillRing.{Ring, after_yank, after_yank_pop}
use Rattle.line_buffer.specs.Line.{Line}
use Rattle.line_buffer.specs.declared.movement.Movement.{Movement}
use Rattle.line_config.specs.declared.error.ReadlineError.{ReadlineError}
use Rattle.line_keys.specs.declared.cmd.Anchor.{Anchor}
use Rattle.line_buffer.specs.declared.layout.Position.{Position}
use Rattle.line_keys.specs.Model.Display.{Display, KeepsPrompt, ShowsInFull, columns_back, corner, lit_after}
use Rattle.line_keys.specs.Model.Draft.{Draft, KeepsText, hint_shown}
use Rattle.line_keys.specs.Model.Fault.{FaultLeft, IsEarlierHint}
use Rattle.line_keys.specs.Model.Drawing.{Does, DoesInTwo, Drawing, Drew, DrewLine, DrewNothing, DrewPart, ShowsChange, asked_by, change_drawn, drawn_if, drawn_in_full, drawn_plainly, edit_drawn, nothing, text_same, with_hint}
use Rattle.line_keys.specs.Model.Plainly.{KilledPlainly, TypedPlainly}
use Rattle.line_keys.specs.Model.Frame.{FailsByParty, Frame}
use Rattle.line_keys.specs.Model.ShownLine.{Redraws}
use Rattle.line_keys.specs.declared.editor_state.EditorState.{Ghosts}
use Rattle.line_parts.specs.Asks.{for_hint, nobody}
use Rattle.line_parts.specs.Environment.{Environment}
use Rattle.line_parts.specs.declared.highlight.CmdKind.TheVariants.{Other}
use Rattle.line_state.specs.Edited as edits
use Rattle.line_state.specs.Edited.{bracket_range, pops_text}
use Rattle.line_editor.specs.Drawings.{bracket_drawn, is_plain_kill, kill_drawn, once_for, pop_drawn, replacement_drawn, replacement_times, yank_drawn}
use Rattle.line_editor.specs.Editor.{Editor, edited_of, with_draft}
use Rattle.line_editor.specs.DraftEdits.{after_edit, bracket_replaced, kill_popped, kill_yanked, killed_by, movement_replaced, popped_in, text_inserted, yanked_in}
use Rattle.line_input.specs.Input.{Input}
use Rattle.line_editor.specs.Outcomes.{DoesInTwoWithKills, DoesWithKills, EditsThenDraws, LeavesOneMoment, editor_of}
use Rattle.line_editor.proofs.AskedLemmas.{fails_more}
use Rattle.line_input.proofs.CountLemmas.{rises_stays, rises_within}
use Rattle.line_editor.proofs.FaultLemmas.{fault_from, io_behind, leaves_kills, ring_behind}
use Rattle.line_input.proofs.DraftLemmas.{same_draft}
use Rattle.line_input.proofs.DrawnTwiceLemmas.{frame_then, colorless, line_kept, line_then}
use Rattle.line_editor.proofs.DrawnLemmas.{keeps_then, prompt_drawn, prompt_same, prompt_then}
use Rattle.line_buffer.specs.declared.layout.Layout.{Layout}
use Rattle.line_editor.proofs.CommandLemmas.{fails_then}

-- what is drawn of a kill: of a range that was found, a part where it is a plain kill
abbrev pub killed_as : Bool → Bool → Position → Drawing
killed_as found plainly position = if found then change_drawn plainly position else nothing

-- that is what is drawn of any kill
pub record KilledAs (drawing : Drawing) : Type 0 where
  pub found : Bool
  pub plainly : Bool
  pub position : Position
  pub same : killed_as found plainly position ≡ drawing

pub kill_as : (display : Display) (environment : Environment) (draft : Draft) (range : Option (ℕ × ℕ)) → KilledAs (kill_drawn display environment draft range)
kill_as display environment draft None = record { found = false; plainly = false; position = corner; same = refl }
kill_as display environment draft (Some range) = record {
  found = true;
  plainly = is_plain_kill display environment draft range;
  position = columns_back (length draft.line.text - range.0) display.layout.end;
  same = refl;
}

-- and of a kill from a bracket to its match
pub bracket_as : (line : Line) → KilledAs (bracket_drawn line)
bracket_as line = record { found = is_some (bracket_range line); plainly = false; position = corner; same = refl }

-- a part that was drawn, with nothing drawn behind it
part_kept : {X : Type 0} (e : Ghosts X) (old mid new : X) (position : Position) → DrewNothing e mid new → (e.draft new).line ≡ (e.draft mid).line
    → DrewPart e position old mid → DrewPart e position old new
part_kept e old mid new position undrew line drew = record {
  layout = ap (λ (d : Display). d.layout) undrew.display ∙ drew.layout;
  lit = ap (λ (d : Display). d.lit) undrew.display ∙ drew.lit ∙ ap (λ (l : Line). lit_after (e.environment old) (e.display old) l Other) (sym line);
  redraws = undrew.redraws ∙ drew.redraws;
}

-- a change that was shown, with nothing drawn behind it
change_kept : {X : Type 0} (e : Ghosts X) (old mid new : X) (most : ℕ) → DrewNothing e mid new → e.draft new ≡ e.draft mid → ShowsChange e most old mid → ShowsChange e most old new
change_kept e old mid new most undrew same (text_same stays) = text_same (ap (λ (d : Draft). d.line.text) same ∙ stays)
change_kept e old mid new most undrew same (drawn_in_full shows redraws) =
    drawn_in_full
    (record {
      in_full =
          subst (λ (d : Draft). ShowsInFull (e.display new) (e.display new).prompt (e.display new).prompt_end d.line (hint_shown d)) (sym same)
          (subst (λ (d : Display). ShowsInFull d d.prompt d.prompt_end (e.draft mid).line (hint_shown (e.draft mid))) (sym undrew.display) shows.in_full);
      own_prompt = ap (λ (d : Display). d.layout.default_prompt) undrew.display ∙ shows.own_prompt;
    })
    (rises_stays 1 most (e.redraws old) (e.redraws mid) (e.redraws new) redraws undrew.redraws)
change_kept e old mid new most undrew same (drawn_plainly changed) = drawn_plainly (record {
  plainly = subst (λ (d : Draft). TypedPlainly (e.environment old) (e.display old) (e.draft old) d ⊎ KilledPlainly (e.environment old) (e.display old) (e.draft old) d) (sym same) changed.plainly;
  redraws = undrew.redraws ∙ changed.redraws;
})

module _ {X : Type 0} (e : Ghosts X) (old mid new : X) (frame : Frame e old mid) where
  -- without colors a kill leaves the last answer of `highlight_char`
  killed_lit : (found plainly : Bool) (p : Position) → Drew e 1 (killed_as found plainly p) old mid → (e.display old).surface.colors ≡ false → (e.display mid).lit ≡ (e.display old).lit
  killed_lit true true p drew none = drew.lit ∙ colorless e (e.environment old) (e.display old) (e.draft mid).line Other none
  killed_lit true false p drew none = drew.lit ∙ colorless e (e.environment old) (e.display old) (e.draft mid).line Other none
  killed_lit false plainly p drew none = ap (λ (d : Display). d.lit) drew.display

  killed_redraws : (found plainly : Bool) (p : Position) → Drew e 1 (killed_as found plainly p) old mid
      → Redraws e (once_for (killed_as found plainly p)) (once_for (killed_as found plainly p)) old mid
  killed_redraws true true p drew = λ below. (omega (arith, drew.redraws), omega (arith, drew.redraws))
  killed_redraws true false p drew = drew.redraws
  killed_redraws false plainly p drew = λ below. (omega (arith, drew.redraws), omega (arith, drew.redraws))

  -- a kill with nothing drawn behind it
  killed_kept : (found plainly : Bool) (p : Position) → DrewNothing e mid new → (e.draft new).line ≡ (e.draft mid).line → (e.draft new).hint ≡ (e.draft mid).hint
      → Drew e 1 (killed_as found plainly p) old mid → Drew e 1 (killed_as found plainly p) old new
  killed_kept true true p undrew line hint drew = part_kept e old mid new p undrew line drew
  killed_kept true false p undrew line hint drew =
      subst (λ (h : _). DrewLine e 1 (option_map (λ s. s.display) h) Other old new) (sym hint)
      (line_kept e old mid new 1 (hint_shown (e.draft mid)) Other undrew line drew)
  killed_kept false plainly p undrew line hint drew = record { display = undrew.display ∙ drew.display; redraws = undrew.redraws ∙ drew.redraws }

  abbrev times_for : Bool → Bool → Bool → Position → ℕ
  times_for found plainly empty p = if not empty then once_for (killed_as found plainly p) + 1 else 1

  -- a kill, and then a text in its place, if there is one
  twice_drawn : (found plainly empty : Bool) (p : Position) → (empty ≡ true → e.draft new ≡ e.draft mid)
      → Drew e 1 (killed_as found plainly p) old mid → Drew e 1 (drawn_if (not empty)) mid new
      → Drew e (times_for found plainly empty p) (if not empty then with_hint else killed_as found plainly p) old new
  twice_drawn found plainly true p stays first second =
      killed_kept found plainly p second (ap (λ (d : Draft). d.line) (stays refl)) (ap (λ (d : Draft). d.hint) (stays refl)) first
  twice_drawn found plainly false p stays first second =
      line_then e old mid new frame (killed_lit found plainly p first) (once_for (killed_as found plainly p)) 1 (hint_shown (e.draft new)) Other (killed_redraws found plainly p first) second

  twice_changed : (found plainly empty : Bool) (p : Position) → (empty ≡ true → e.draft new ≡ e.draft mid) → ShowsChange e 1 old mid → Drew e 1 (drawn_if (not empty)) mid new
      → Drew e (times_for found plainly empty p) (if not empty then with_hint else killed_as found plainly p) old new
      → ShowsChange e (times_for found plainly empty p) old new
  twice_changed found plainly false p stays first second drew =
      drawn_in_full drew.shows
      (rises_within 1 (once_for (killed_as found plainly p) + 1) (once_for (killed_as found plainly p) + 1) (e.redraws old) (e.redraws new) (omega arith) (omega arith) drew.redraws)
  twice_changed found plainly true p stays first second drew = change_kept e old mid new 1 second (stays refl) first

-- no text leaves the draft as it is
none_put : (environment : Environment) (text : List ℕ) (draft : Draft) (empty : Bool) → (length text == 0) ≡ empty → empty ≡ true → text_inserted environment text draft ≡ draft
none_put environment text draft empty is none =
    ap (λ b. cond b draft (after_edit environment true (edits.with_text text (edited_of draft)) draft)) (is ∙ none)

-- a kill, and then a text in its place
module _ {X T : Type 0} (e : Ghosts X) (x : T) (old mid new : X) (kills kills' : Ring) (before : Editor) (killed_drawn : Drawing) (as_kill : KilledAs killed_drawn) (text : List ℕ)
    (killed : DoesWithKills e (Ok x) old kills mid kills' before killed_drawn 1) where
  abbrev empty : Bool
  empty = length text == 0

  abbrev put_in : Draft
  put_in = text_inserted (e.environment old) text before.draft

  -- whom the text asks is asked for both
  fails_put : {U : Type 0} (r : Result U ReadlineError) (none : Bool) (asks : Drawing) → Frame e mid new → FailsByParty e (asked_by (drawn_if (not none))) r mid new
      → FailsByParty e (asked_by (if not none then with_hint else asks)) r old new
  fails_put r false asks frame fails = fails_then e for_hint r old mid new killed.does.frame frame killed.does.fails.quiet fails
  fails_put r true asks frame fails =
      fails_more e r nobody (asked_by asks) old new (λ sure. refl) (fails_then e nobody r old mid new killed.does.frame frame killed.does.fails.quiet fails)

  abbrev Leaves : {U : Type 0} → Result U ReadlineError → Drawing → Type 0
  Leaves r drawing = DoesInTwo e (asked_by (if not empty then with_hint else drawing)) r old new before.draft put_in
      (if not empty then with_hint else drawing) (if not empty then once_for drawing + 1 else 1)

  -- the kill is what was done halfway
  abbrev killed_text : KeepsText before.draft (e.draft mid)
  killed_text = same_draft before.draft (e.draft mid) killed.does.draft

  abbrev killed_hint : IsEarlierHint (e.draft old) before.draft (e.draft mid).hint
  killed_hint = inr (inr (ap (λ (d : Draft). d.hint) killed.does.draft))

  put_is : text_inserted (e.environment mid) text (e.draft mid) ≡ put_in
  put_is = ap (λ (w : Environment). text_inserted w text (e.draft mid)) killed.does.frame.environment ∙ ap (λ (d : Draft). text_inserted (e.environment old) text d) killed.does.draft

  first_drawn : Drew e 1 (killed_as as_kill.found as_kill.plainly as_kill.position) old mid
  first_drawn = subst (λ (d : Drawing). Drew e 1 d old mid) (sym as_kill.same) killed.does.drew

  killed_prompt : (found plainly : Bool) (p : Position) → Drew e 1 (killed_as found plainly p) old mid → KeepsPrompt (e.display old) (e.display mid)
  killed_prompt true true p drew = inl (ap (λ (l : Layout). l.prompt_size) drew.layout, ap (λ (l : Layout). l.grapheme_cluster_mode) drew.layout)
  killed_prompt true false p drew = prompt_drawn e old mid 1 (hint_shown (e.draft mid)) Other killed.does.frame drew
  killed_prompt false plainly p drew = prompt_same (e.display old) (e.display mid) (ap (λ (d : Display). d.layout) drew.display)

  fault_put : (f : ReadlineError)
      → FaultLeft f (e.environment mid) (e.draft mid) (e.draft mid) (text_inserted (e.environment mid) text (e.draft mid)) (e.draft new)
      → FaultLeft f (e.environment old) (e.draft old) before.draft put_in (e.draft new)
  fault_put f fault =
      fault_from f (e.environment mid) (e.environment old) (e.draft old) (e.draft mid) (e.draft mid) before.draft _ _ (e.draft new) killed.does.frame.environment put_is
      killed_hint killed_hint (inr killed_text) (inr killed_text) fault

  -- after an error of input or output the kill is done, and the text may be
  moment_put : {U : Type 0} (r : Result U ReadlineError) → Does e r mid new (text_inserted (e.environment mid) text (e.draft mid)) (drawn_if (not empty)) 1
      → LeavesOneMoment r (e.environment old) (editor_of e old kills) before (with_draft before put_in) (editor_of e new kills')
  moment_put (Ok y) put = tt
  moment_put (Err f) put = λ io.
      elim (io_behind f (e.environment mid) (e.environment old) (e.draft old) (e.draft mid) before.draft _ put_in (e.draft new) killed.does.frame.environment put_is killed.does.draft put.fault io) [
        | inl half ↦ inr (inl (half, killed.kills_left))
        | inr done ↦ inr (inr (done, killed.kills_left))
      ]

  puts : {U : Type 0} (r : Result U ReadlineError) → Does e r mid new (text_inserted (e.environment mid) text (e.draft mid)) (drawn_if (not empty)) 1 → Leaves r killed_drawn
  puts (Err f) put =
      record { draft = tt; fault = fault_put f put.fault; start = tt; drew = tt; keeps = tt; change = tt; prompt = prompt_then (e.display old) (e.display mid) (e.display new) killed.does.frame.surface killed.does.frame.prompt_end (killed_prompt as_kill.found as_kill.plainly as_kill.position first_drawn) put.prompt; frame = frame_then e old mid new killed.does.frame put.frame; fails = fails_put (Err f) empty killed_drawn put.frame put.fails }
  puts (Ok y) put =
      let stays : empty ≡ true → e.draft new ≡ e.draft mid = λ none. put.draft ∙ none_put (e.environment mid) text (e.draft mid) empty refl none in
      let first : Drew e 1 (killed_as as_kill.found as_kill.plainly as_kill.position) old mid = subst (λ (d : Drawing). Drew e 1 d old mid) (sym as_kill.same) killed.does.drew in
      let drew = twice_drawn e old mid new killed.does.frame as_kill.found as_kill.plainly empty as_kill.position stays first put.drew in
      subst (λ (d : Drawing). Leaves (Ok y) d) as_kill.same (record {
        draft = put.draft ∙ put_is;
        fault = tt;
        start = put.start ∙ killed.does.start;
        drew = drew;
        keeps = keeps_then e old mid new killed.does.keeps put.keeps;
        change = twice_changed e old mid new killed.does.frame as_kill.found as_kill.plainly empty as_kill.position stays killed.does.change put.drew drew;
        prompt = tt;
        frame = frame_then e old mid new killed.does.frame put.frame;
        fails = fails_put (Ok y) empty (killed_as as_kill.found as_kill.plainly as_kill.position) put.frame put.fails;
      })

  pub replaced : {U : Type 0} (r : Result U ReadlineError)
      → Does e r mid new (text_inserted (e.environment mid) text (e.draft mid)) (drawn_if (not (length text == 0))) 1
      → DoesInTwoWithKills e r old kills new kills' before (with_draft before put_in) (replacement_drawn killed_drawn (Some text)) (replacement_times killed_drawn (Some text))
  replaced r put = record { does = puts r put; kills_left = leaves_kills r kills before.kills kills' killed.kills_left; moment = moment_put r put }

-- the same of a movement that is killed
pub replaced_movement : {X T U : Type 0} (e : Ghosts X) (x : T) (old mid new : X) (kills kills' : Ring) (movement : Movement) (range : Option (ℕ × ℕ)) (text : List ℕ)
    → DoesWithKills e (Ok x) old kills mid kills' (killed_by (e.environment old) movement (editor_of e old kills) range) (kill_drawn (e.display old) (e.environment old) (e.draft old) range) 1
    → (r : Result U ReadlineError) → Does e r mid new (text_inserted (e.environment mid) text (e.draft mid)) (drawn_if (not (length text == 0))) 1
    → DoesInTwoWithKills e r old kills new kills' (killed_by (e.environment old) movement (editor_of e old kills) range)
    (with_draft (killed_by (e.environment old) movement (editor_of e old kills) range)
    (text_inserted (e.environment old) text (killed_by (e.environment old) movement (editor_of e old kills) range).draft))
    (replacement_drawn (kill_drawn (e.display old) (e.environment old) (e.draft old) range) (Some text))
    (replacement_times (kill_drawn (e.display old) (e.environment old) (e.draft old) range) (Some text))
replaced_movement e x old mid new kills kills' movement range text killed r put =
    replaced e x old mid new kills kills' (killed_by (e.environment old) movement (editor_of e old kills) range) (kill_drawn (e.display old) (e.environment old) (e.draft old) range)
    (kill_as (e.display old) (e.environment old) (e.draft old) range) text killed r put

-- a kill with nothing in its place
pub only_killed : {X T U : Type 0} (e : Ghosts X) (x : T) (y : U) (old new : X) (kills kills' : Ring) (left : Editor) (drawing : Drawing)
    → (halfway : Editor) → DoesWithKills e (Ok x) old kills new kills' left drawing 1 → DoesInTwoWithKills e (Ok y) old kills new kills' halfway left drawing 1
only_killed e x y old new kills kills' left drawing halfway killed = record {
  does = record {
    draft = killed.does.draft;
    fault = tt;
    start = killed.does.start;
    drew = killed.does.drew;
    keeps = killed.does.keeps;
    change = killed.does.change;
    prompt = tt;
    frame = killed.does.frame;
    fails = record { io = tt; faults = tt; quiet = killed.does.fails.quiet };
  };
  kills_left = killed.kills_left;
  moment = tt;
}

-- the same of an equal text
pub replaced_as : {X T : Type 0} (e : Ghosts X) (r : Result T ReadlineError) (old new : X) (kills kills' : Ring) (movement : Movement) (drawing : Drawing) (put put' : Option (List ℕ)) → put ≡ put'
    → (halfway : Editor)
    → DoesInTwoWithKills e r old kills new kills' halfway (movement_replaced (e.environment old) movement put (editor_of e old kills)) (replacement_drawn drawing put) (replacement_times drawing put)
    → DoesInTwoWithKills e r old kills new kills' halfway (movement_replaced (e.environment old) movement put' (editor_of e old kills)) (replacement_drawn drawing put') (replacement_times drawing put')
replaced_as e r old new kills kills' movement drawing put put' same halfway done =
    subst (λ (p : Option (List ℕ)). DoesInTwoWithKills e r old kills new kills' halfway (movement_replaced (e.environment old) movement p (editor_of e old kills)) (replacement_drawn drawing p) (replacement_times drawing p)) same done

pub bracket_replaced_as : {X T : Type 0} (e : Ghosts X) (r : Result T ReadlineError) (old new : X) (kills kills' : Ring) (drawing : Drawing) (put put' : Option (List ℕ)) → put ≡ put'
    → (halfway : Editor)
    → DoesInTwoWithKills e r old kills new kills' halfway (bracket_replaced (e.environment old) put (editor_of e old kills)) (replacement_drawn drawing put) (replacement_times drawing put)
    → DoesInTwoWithKills e r old kills new kills' halfway (bracket_replaced (e.environment old) put' (editor_of e old kills)) (replacement_drawn drawing put') (replacement_times drawing put')
bracket_replaced_as e r old new kills kills' drawing put put' same halfway done =
    subst (λ (p : Option (List ℕ)). DoesInTwoWithKills e r old kills new kills' halfway (bracket_replaced (e.environment old) p (editor_of e old kills)) (replacement_drawn drawing p) (replacement_times drawing p)) same done

-- the current text of the kill ring that is yanked
pub yanked_by : {X T : Type 0} (e : Ghosts X) (r : Result T ReadlineError) (old new : X) (kills kills' : Ring) (input : Input) (anchor : Anchor) (n : ℕ) (yanked : Option (List ℕ)) (text : List ℕ)
    → Some text ≡ yanked → kills' ≡ after_yank kills
    → EditsThenDraws e r old new (yanked_in (e.environment old) input anchor n text (e.draft old)) (edit_drawn (not (length text == 0))) 1
    → DoesWithKills e r old kills new kills' (kill_yanked (e.environment old) input anchor n yanked (editor_of e old kills)) (yank_drawn yanked) 1
yanked_by e r old new kills kills' input anchor n yanked text is ring edit =
    subst (λ (y : Option (List ℕ)). DoesWithKills e r old kills new kills' (kill_yanked (e.environment old) input anchor n y (editor_of e old kills)) (yank_drawn y) 1) is
    (record {
      does = edit.does;
      kills_left = leaves_kills r kills _ kills' ring;
      moment = ring_behind r (e.environment old) (editor_of e old kills) (kill_yanked (e.environment old) input anchor n (Some text) (editor_of e old kills)) (editor_of e new kills') edit.edited ring;
    })

-- a text that takes the place of a yanked one
pub popped_by : {X T : Type 0} (e : Ghosts X) (r : Result T ReadlineError) (old new : X) (kills kills' : Ring) (popped : Option (ℕ × List ℕ)) (size : ℕ) (text : List ℕ)
    → Some (size, text) ≡ popped → kills' ≡ after_yank_pop kills
    → EditsThenDraws e r old new (popped_in (e.environment old) size text (e.draft old)) (edit_drawn (pops_text (e.draft old).line size text)) 1
    → DoesWithKills e r old kills new kills' (kill_popped (e.environment old) popped (editor_of e old kills)) (pop_drawn (e.draft old).line popped) 1
popped_by e r old new kills kills' popped size text is ring edit =
    subst (λ p. DoesWithKills e r old kills new kills' (kill_popped (e.environment old) p (editor_of e old kills)) (pop_drawn (e.draft old).line p) 1) is
    (record {
      does = edit.does;
      kills_left = leaves_kills r kills _ kills' ring;
      moment = ring_behind r (e.environment old) (editor_of e old kills) (kill_popped (e.environment old) (Some (size, text)) (editor_of e old kills)) (editor_of e new kills') edit.edited ring;
    })
