-- Facts on lines that are accepted.
use Rattle.std.proofs.Common.{◌≡◌, inl, inr, ℕ, ◌+◌, ◌==◌, Bool, true, false, cond, not, List, [], ◌∷◌, length, Option, None, Ok, Err, refl, sym, ◌∙◌, ap, subst, arith}
use Rattle.std.specs.Prelude.{◌||◌, ◌&&◌, if◌then◌else◌, is_some}
use Rattle.line_buffer.specs.Changes.{adds_end}
use Rattle.line_buffer.specs.KillRing.{Ring}
use Rattle.line_buffer.specs.Line.{Line, ends_in_white_space}
use Rattle.line_config.specs.declared.config.EditMode.{EditMode}
use Rattle.line_config.specs.declared.config.EditMode.TheVariants.{Emacs, Vi}
use Rattle.line_config.specs.declared.error.ReadlineError.{ReadlineError}
use Rattle.line_config.specs.declared.error.ReadlineError.TheVariants.{Eof}
use Rattle.line_keys.specs.Command.{Command, accept_line, accept_or_insert_line, end_of_file}
use Rattle.line_keys.specs.Model.Display.{Display, KeepsPrompt, Surface}
use Rattle.line_keys.specs.Model.Draft.{Draft, KeepsText, hint_shown, in_group, out_of_group, unhinted}
use Rattle.line_keys.specs.Model.Drawing.{Does, DoesAsking, Drawing, Drew, DrewLine, Undrawn, drawn_in_full, nothing, text_same, with_hint, with_text}
use Rattle.line_keys.specs.Model.Frame.{FailsByParty, Frame}
use Rattle.line_keys.specs.Model.ShownLine.{LosesHint, ShowsNoHint}
use Rattle.line_keys.specs.declared.editor_state.EditorState.{Ghosts}
use Rattle.line_parts.specs.Asks.{Asks, Sureness, for_hint, for_verdict, is_sure, nobody}
use Rattle.line_parts.specs.Environment.{Environment, verdict_on}
use Rattle.line_parts.specs.Verdict.{Verdict, incomplete, invalid, message_of, valid}
use Rattle.line_parts.specs.declared.highlight.CmdKind.{CmdKind}
use Rattle.line_parts.specs.declared.highlight.CmdKind.TheVariants.{ForcedRefresh, Other}
use Rattle.line_editor.specs.Accept.{accepted, answer_at_end, replied, reply_to, unhinted_by, validated}
use Rattle.line_editor.specs.Drawings.{asked_for_reply, asked_of, once_for, reply_drawn, reply_times, unhinted_drawn, validated_drawn, validated_times, verdict_drawn}
use Rattle.line_editor.specs.Editor.{Answer, ended, proceeds, submitted}
use Rattle.line_editor.specs.DraftEdits.{typed_in}
use Rattle.line_input.specs.Input.{Input}
use Rattle.line_editor.specs.Outcomes.{DrawnAfter, Executed, Executes, editor_of, step_from}
use Rattle.line_editor.specs.Status.{answer_of}
use Rattle.line_editor.specs.declared.command.Status.{Status}
use Rattle.line_editor.specs.Step.{halfway_of}
use Rattle.line_editor.specs.declared.command.Reply.{Reply}
use Rattle.line_editor.specs.declared.command.Reply.TheVariants.{GoesOn, Stays, Submits}
use Rattle.line_editor.specs.DrawnVerdict.{draws_verdict, draws_verdict_on, kind_of_verdict}
use Rattle.line_editor.proofs.AskedLemmas.{fails_more, sure_all}
use Rattle.line_editor.proofs.CommandLemmas.{draft_wrong, editor_with, executed_ok, fails_then, few_by, perhaps_lit, perhaps_prompt, perhaps_redraws, twice_at_most}
use Rattle.line_input.proofs.DrawnTwiceLemmas.{line_kept, line_then, frame_then}
use Rattle.line_input.proofs.CountLemmas.{rises_twice, rises_within}
use Rattle.line_editor.proofs.DoneLemmas.{line_after}
use Rattle.line_editor.proofs.DrawnLemmas.{hint_trails, keeps_then, no_hint_line, prompt_after, prompt_then}
use Rattle.line_editor.proofs.EditLemmas.{was_validated}
use Rattle.line_input.proofs.DraftLemmas.{but_hint, same_draft, whole_text}
use Rattle.line_editor.proofs.FaultLemmas.{fault_from, fault_halfway, fault_other, fault_unhinted, fault_within}

-- the end of the input, where the hint was taken away
pub ends_at : {X T : Type 0} (e : Ghosts X) (x : T) (old new : X) (input : Input) (indent : ℕ) (kills : Ring) (answer : Answer)
    → DoesAsking e nobody (Ok x) old new (unhinted (e.draft old)) (unhinted_drawn (e.display old) (e.draft old)) 1
    → answer_at_end input.style (e.draft old).line.text ≡ answer → DrawnAfter e answer old new
    → Executed e old input indent kills end_of_file new kills answer
ends_at e x old new input indent kills answer drop is drawn = record {
  steps = record { editor = ap (λ (d : Draft). editor_with d kills) drop.draft; answered = is };
  drew = drop.drew;
  drawn = drawn;
  change = text_same (ap (λ (d : Draft). d.line.text) drop.draft);
  few = few_by e old new kills end_of_file drop.drew;
  part = λ is. absurd (cc);
  start = drop.start;
}

-- the end of the input, where no error comes of it
pub end_answers : {X T : Type 0} (e : Ghosts X) (x : T) (old new : X) (input : Input) (indent : ℕ) (kills : Ring) (status : Status)
    → DoesAsking e nobody (Ok x) old new (unhinted (e.draft old)) (unhinted_drawn (e.display old) (e.draft old)) 1
    → answer_at_end input.style (e.draft old).line.text ≡ answer_of status → DrawnAfter e (answer_of status) old new
    → Executes e (Ok status) old input indent kills end_of_file new kills
end_answers e x old new input indent kills status drop is drawn =
    executed_ok e old new input indent kills kills end_of_file status (ends_at e x old new input indent kills (answer_of status) drop is drawn) drop.frame drop.fails.quiet

-- and on an empty line, where it ends the run
pub end_ends : {X T : Type 0} (e : Ghosts X) (x : T) (old new : X) (input : Input) (indent : ℕ) (kills : Ring)
    → DoesAsking e nobody (Ok x) old new (unhinted (e.draft old)) (unhinted_drawn (e.display old) (e.draft old)) 1
    → LosesHint e old new → answer_at_end input.style (e.draft old).line.text ≡ ended
    → Executes e (Err Eof) old input indent kills end_of_file new kills
end_ends e x old new input indent kills drop loses is = record {
  comes = λ calm. ends_at e x old new input indent kills ended drop is loses;
  wrong = record {
    draft = λ fault. absurd (cc);
    kills_left = inl refl;
    moment = λ io. absurd (cc);
    prompt = perhaps_prompt e (is_some (e.draft old).hint || (e.display old).lit || not (e.display old).layout.default_prompt) None ForcedRefresh old new drop.frame drop.drew;
  };
  frame = drop.frame;
  io = λ io. absurd (cc);
  quiet = λ io. drop.fails.quiet;
}

-- an empty line ends the run, and another one is kept by Emacs and submitted by Vi
pub empty_ends : (style : EditMode) (text : List ℕ) → (length text == 0) ≡ true → answer_at_end style text ≡ ended
empty_ends style [] is = refl
empty_ends style (x ∷ xs) is = absurd (grind (arith, is))

pub emacs_keeps : (text : List ℕ) → (length text == 0) ≡ false → answer_at_end Emacs text ≡ proceeds
emacs_keeps [] is = absurd (cc)
emacs_keeps (x ∷ xs) is = refl

pub others_submit : (style : EditMode) (text : List ℕ) → (style ≡ Emacs → ⊥) → (length text == 0) ≡ false → answer_at_end style text ≡ submitted
others_submit Emacs text other is = absurd (other refl)
others_submit Vi [] other is = absurd (cc)
others_submit Vi (x ∷ xs) other is = refl

-- a verdict keeps the line
verdict_keeps : (asked : Bool) (verdict : Verdict) (draft : Draft)
    → (cond asked (unhinted_by verdict (out_of_group (in_group draft))) draft).line ≡ draft.line
verdict_keeps false verdict draft = refl
verdict_keeps true incomplete draft = refl
verdict_keeps true (valid message) draft = refl
verdict_keeps true (invalid message) draft = refl

pub validated_line : (environment : Environment) (draft : Draft) → (validated environment draft).line ≡ draft.line
validated_line environment draft = verdict_keeps (is_some environment.verdict_at) (verdict_on environment draft.line.text) draft

-- a text that may be drawn behind a step that draws nothing
perhaps_after : {X : Type 0} (e : Ghosts X) (old mid new : X) → Undrawn e old mid → (drawn : Bool) (trailing : Option (List ℕ)) (kind : CmdKind)
    → Drew e 1 (if drawn then with_text trailing kind else nothing) mid new → Drew e 1 (if drawn then with_text trailing kind else nothing) old new
perhaps_after e old mid new undrawn true trailing kind drew = line_after e old mid new undrawn 1 trailing kind drew
perhaps_after e old mid new undrawn false trailing kind drew =
    record { display = drew.display ∙ undrawn.drew.display; redraws = drew.redraws ∙ undrawn.drew.redraws }

-- a verdict that was asked for in a group, and then drawn
pub validates : {X T U V : Type 0} (e : Ghosts X) (x : T) (y : U) (z : V) (old mid new : X) (verdict : Verdict) (corrected : Bool)
    → is_some (e.environment old).verdict_at ≡ true
    → verdict ≡ verdict_on (e.environment old) (e.draft old).line.text
    → corrected ≡ adds_end (in_group (e.draft old)).changes.open_groups (in_group (e.draft old)).changes.entries
    → DoesAsking e for_verdict (Ok x) old mid (out_of_group (in_group (e.draft old))) nothing 1
    → DoesAsking e nobody (Ok y) mid new (unhinted_by verdict (e.draft mid))
    (if draws_verdict_on verdict (corrected || is_some (e.draft mid).hint) then with_text (message_of verdict) (kind_of_verdict verdict) else nothing) 1
    → DoesAsking e for_verdict (Ok z) old new (validated (e.environment old) (e.draft old)) (verdict_drawn (e.environment old) (e.draft old)) 1
validates e x y z old mid new verdict corrected helped said ends asked shown =
    let undrawn : Undrawn e old mid = record { drew = asked.drew; failures = asked.fails.quiet; frame = asked.frame } in
    let n = undrawn.drew.redraws in
    let v : Verdict = verdict_on (e.environment old) (e.draft old).line.text in
    let left : e.draft new ≡ validated (e.environment old) (e.draft old) =
    shown.draft ∙ ap (λ d. unhinted_by verdict d) asked.draft ∙ ap (λ w. unhinted_by w (out_of_group (in_group (e.draft old)))) said
    ∙ sym (was_validated (e.environment old) (e.draft old) helped) in
    let draws : draws_verdict_on verdict (corrected || is_some (e.draft mid).hint) ≡ draws_verdict (e.environment old) (e.draft old) =
    ap (λ b. draws_verdict_on verdict (b || is_some (e.draft mid).hint)) ends
    ∙ ap (λ (d : Draft). draws_verdict_on verdict (adds_end (in_group (e.draft old)).changes.open_groups (in_group (e.draft old)).changes.entries || is_some d.hint)) asked.draft
    ∙ ap (λ w. draws_verdict_on w (adds_end (in_group (e.draft old)).changes.open_groups (in_group (e.draft old)).changes.entries || is_some (e.draft old).hint)) said
    ∙ sym (ap (λ b. b && draws_verdict_on v (adds_end (in_group (e.draft old)).changes.open_groups (in_group (e.draft old)).changes.entries || is_some (e.draft old).hint)) helped) in
    record {
      draft = left;
      fault = tt;
      start = shown.start ∙ asked.start;
      drew = subst (λ w. Drew e 1 (if draws_verdict (e.environment old) (e.draft old) then with_text (message_of w) (kind_of_verdict w) else nothing) old new) said
          (subst (λ b. Drew e 1 (if b then with_text (message_of verdict) (kind_of_verdict verdict) else nothing) old new) draws
          (perhaps_after e old mid new undrawn _ (message_of verdict) (kind_of_verdict verdict) shown.drew));
      keeps = keeps_then e old mid new asked.keeps shown.keeps;
      change = text_same (ap (λ (d : Draft). d.line.text) left ∙ ap (λ (l : Line). l.text) (validated_line (e.environment old) (e.draft old)));
      prompt = tt;
      frame = frame_then e old mid new asked.frame shown.frame;
      fails = record { io = tt; faults = tt; quiet = shown.fails.quiet ∙ asked.fails.quiet };
    }

-- a verdict changes nothing but the hint
verdict_text : (verdict : Verdict) (draft : Draft) → KeepsText (unhinted_by verdict draft) draft
verdict_text incomplete draft = whole_text draft
verdict_text (valid message) draft = record { line = refl; saved = refl; index = refl; changes = refl }
verdict_text (invalid message) draft = record { line = refl; saved = refl; index = refl; changes = refl }

validated_text : (environment : Environment) (draft : Draft) → is_some environment.verdict_at ≡ true → KeepsText (validated environment draft) (out_of_group (in_group draft))
validated_text environment draft helped =
    subst (λ (d : Draft). KeepsText d (out_of_group (in_group draft))) (sym (was_validated environment draft helped))
    (verdict_text (verdict_on environment draft.line.text) (out_of_group (in_group draft)))

-- a verdict that could not be asked for
pub asking_fails : {X T U : Type 0} (e : Ghosts X) (f : ReadlineError) (old new : X) → is_some (e.environment old).verdict_at ≡ true
    → DoesAsking {T = T} e for_verdict (Err f) old new (out_of_group (in_group (e.draft old))) nothing 1
    → DoesAsking {T = U} e for_verdict (Err f) old new (validated (e.environment old) (e.draft old)) (verdict_drawn (e.environment old) (e.draft old)) 1
asking_fails {T = T} {U = U} e f old new helped asked = record {
  draft = tt;
  fault = fault_other f (e.environment old) (e.draft old) (e.draft old) _ _ (e.draft new) (validated_text (e.environment old) (e.draft old) helped) asked.fault;
  start = tt;
  drew = tt;
  keeps = tt;
  change = tt;
  prompt = asked.prompt;
  frame = asked.frame;
  fails = record { io = asked.fails.io; faults = asked.fails.faults; quiet = asked.fails.quiet };
}

-- one that could not be drawn
pub drawing_fails : {X T U V : Type 0} (e : Ghosts X) (x : T) (f : ReadlineError) (old mid new : X) (verdict : Verdict) (drawing : Drawing) → is_some (e.environment old).verdict_at ≡ true
    → DoesAsking e for_verdict (Ok x) old mid (out_of_group (in_group (e.draft old))) nothing 1
    → DoesAsking {T = U} e nobody (Err f) mid new (unhinted_by verdict (e.draft mid)) drawing 1
    → DoesAsking {T = V} e for_verdict (Err f) old new (validated (e.environment old) (e.draft old)) (verdict_drawn (e.environment old) (e.draft old)) 1
drawing_fails {U = U} {V = V} e x f old mid new verdict drawing helped asked shown =
    let text : KeepsText (validated (e.environment old) (e.draft old)) (e.draft mid) =
    but_hint _ _ (e.draft mid) (validated_text (e.environment old) (e.draft old) helped) (same_draft _ (e.draft mid) asked.draft) in
    record {
      draft = tt;
      fault = fault_within f (e.environment mid) (e.environment old) (e.draft old) (e.draft mid) (e.draft old) _ _ (e.draft new) asked.frame.environment
          (inl (ap (λ (d : Draft). d.hint) asked.draft)) text (by_verdict verdict (e.draft mid) _ text) shown.fault;
      start = tt;
      drew = tt;
      keeps = tt;
      change = tt;
      prompt = prompt_after (e.display old) (e.display mid) (e.display new) asked.drew.display shown.prompt;
      frame = frame_then e old mid new asked.frame shown.frame;
      fails = fails_more e {T = V} (Err f) nobody for_verdict old new (λ sure. refl) (fails_then e nobody (Err f) old mid new asked.frame shown.frame asked.fails.quiet
          (record { io = shown.fails.io; faults = shown.fails.faults; quiet = shown.fails.quiet }));
    }
  where
    by_verdict : (verdict : Verdict) (draft left : Draft) → KeepsText left draft → KeepsText left (unhinted_by verdict draft)
    by_verdict incomplete draft left text = text
    by_verdict (valid message) draft left text = record { line = text.line; saved = text.saved; index = text.index; changes = text.changes }
    by_verdict (invalid message) draft left text = record { line = text.line; saved = text.saved; index = text.index; changes = text.changes }

-- a hint that could not be taken away
pub drop_fails : {X T : Type 0} (e : Ghosts X) (f : ReadlineError) (old new : X) (input : Input) (indent : ℕ) (kills : Ring) (command : Command) (drawing : Drawing)
    → (halfway_of (e.environment old) (editor_of e old kills) command).kills ≡ kills → (step_from e old input indent kills command).editor.kills ≡ kills
    → DoesAsking {T = T} e nobody (Err f) old new (unhinted (e.draft old)) drawing 1
    → Executes e (Err f) old input indent kills command new kills
drop_fails {T = T} e f old new input indent kills command drawing half left does =
    draft_wrong e old new input indent kills kills command {T = T} f
    (fault_unhinted f (e.environment old) (e.draft old) _ _ (e.draft new) does.fault) half left refl does.prompt
    (fails_more e {T = T} (Err f) nobody _ old new (λ sure. refl) does.fails) does.frame

-- whoever is asked for a reply is asked for a verdict
sure_verdict : (sure : Sureness) (reply : Reply) → is_sure sure (asked_for_reply reply) ≡ true → is_sure sure for_verdict ≡ true
sure_verdict sure Submits all = all
sure_verdict sure Stays all = all
sure_verdict sure GoesOn all = sure_all sure for_verdict all

module _ {X T U : Type 0} (e : Ghosts X) (x : T) (f : ReadlineError) (old mid new : X) (drawing : Drawing)
    (drop : DoesAsking e nobody (Ok x) old mid (unhinted (e.draft old)) (unhinted_drawn (e.display old) (e.draft old)) 1)
    (asked : DoesAsking {T = U} e for_verdict (Err f) mid new (validated (e.environment mid) (e.draft mid)) drawing 1) where
  bare_text : KeepsText (e.draft old) (e.draft mid)
  bare_text = but_hint (e.draft old) (unhinted (e.draft old)) (e.draft mid) (record { line = refl; saved = refl; index = refl; changes = refl })
      (same_draft (unhinted (e.draft old)) (e.draft mid) drop.draft)

  bare_hint : (e.draft mid).hint ≡ None
  bare_hint = ap (λ (d : Draft). d.hint) drop.draft

  left_bare : validated (e.environment mid) (e.draft mid) ≡ validated (e.environment old) (unhinted (e.draft old))
  left_bare = ap (λ w. validated w (e.draft mid)) drop.frame.environment ∙ ap (λ d. validated (e.environment old) d) drop.draft

  prompt_both : KeepsPrompt (e.display old) (e.display new)
  prompt_both = prompt_then (e.display old) (e.display mid) (e.display new) drop.frame.surface drop.frame.prompt_end
      (perhaps_prompt e (is_some (e.draft old).hint || (e.display old).lit || not (e.display old).layout.default_prompt) None ForcedRefresh old mid drop.frame drop.drew) asked.prompt

  asked_fails : FailsByParty {T = U} e for_verdict (Err f) old new
  asked_fails = fails_then e for_verdict (Err f) old mid new drop.frame asked.frame drop.fails.quiet asked.fails

  -- a verdict that could not be had for a line that is to be submitted
  pub accepting_fails : (input : Input) (indent : ℕ) (kills : Ring) → Executes e (Err f) old input indent kills accept_line new kills
  accepting_fails input indent kills =
      draft_wrong e old new input indent kills kills accept_line {T = U} f
      (fault_from f (e.environment mid) (e.environment old) (e.draft old) (e.draft mid) (e.draft mid) (e.draft old) _ _ (e.draft new) drop.frame.environment left_bare
      (inr (inl bare_hint)) (inr (inl bare_hint)) (inl bare_text) (inl bare_text) asked.fault)
      refl refl refl prompt_both asked_fails (frame_then e old mid new drop.frame asked.frame)

  -- or for one that may be given a newline
  pub inserting_fails : (in_the_middle : Bool) (input : Input) (indent : ℕ) (kills : Ring) → Executes e (Err f) old input indent kills (accept_or_insert_line in_the_middle) new kills
  inserting_fails in_the_middle input indent kills =
      draft_wrong e old new input indent kills kills (accept_or_insert_line in_the_middle) {T = U} f
      (fault_halfway f (e.environment mid) (e.environment old) (e.draft old) (e.draft mid) _ (validated (e.environment old) (unhinted (e.draft old))) _ (e.draft new)
      drop.frame.environment left_bare (inr (inl bare_hint)) bare_text asked.fault)
      refl refl refl prompt_both
      (fails_more e {T = U} (Err f) for_verdict (asked_of (e.display old) (e.environment old) (editor_of e old kills) (accept_or_insert_line in_the_middle)) old new
      (λ sure. sure_verdict (e.sure old) _ sure) asked_fails) (frame_then e old mid new drop.frame asked.frame)

-- the hint taken away, and then a verdict: the last of both is what was drawn
two_drawn : {X : Type 0} (e : Ghosts X) (old mid new : X) (dropped said : Bool) (message : Option (List ℕ)) (kind : CmdKind) → Frame e old mid
    → (e.draft new).line ≡ (e.draft mid).line
    → Drew e 1 (if dropped then with_text None ForcedRefresh else nothing) old mid
    → Drew e 1 (if said then with_text message kind else nothing) mid new
    → Drew e (once_for (if dropped then with_text None ForcedRefresh else nothing) + once_for (if said then with_text message kind else nothing))
    (if said then (if said then with_text message kind else nothing) else (if dropped then with_text None ForcedRefresh else nothing)) old new
two_drawn e old mid new dropped true message kind frame line first second =
    line_then e old mid new frame (perhaps_lit e dropped 1 None ForcedRefresh old mid first) (once_for (if dropped then with_text None ForcedRefresh else nothing)) 1 message kind (perhaps_redraws e dropped None ForcedRefresh old mid first) second
two_drawn e old mid new true false message kind frame line first second = line_kept e old mid new 1 None ForcedRefresh second line first
two_drawn e old mid new false false message kind frame line first second =
    record { display = second.display ∙ first.display; redraws = second.redraws ∙ first.redraws }

-- the own prompt stays behind a verdict
prompt_stays : {X : Type 0} (e : Ghosts X) (mid new : X) (said : Bool) (message : Option (List ℕ)) (kind : CmdKind)
    → (e.display mid).layout.default_prompt ≡ true → Drew e 1 (if said then with_text message kind else nothing) mid new
    → (e.display new).layout.default_prompt ≡ true
prompt_stays e mid new true message kind own drew = drew.shows.own_prompt
prompt_stays e mid new false message kind own drew = ap (λ (d : Display). d.layout.default_prompt) drew.display ∙ own

-- without colors the verdict's drawing leaves the last answer of `highlight_char`
both_lit : {X : Type 0} (e : Ghosts X) (old mid new : X) (dropped said : Bool) (message : Option (List ℕ)) (kind : CmdKind) → Frame e old mid
    → Drew e 1 (if dropped then with_text None ForcedRefresh else nothing) old mid
    → Drew e 1 (if said then with_text message kind else nothing) mid new
    → (e.display old).surface.colors ≡ false → (e.display new).lit ≡ (e.display old).lit
both_lit e old mid new dropped said message kind frame first second none =
    perhaps_lit e said 1 message kind mid new second (ap (λ (s : Surface). s.colors) frame.surface ∙ none)
    ∙ perhaps_lit e dropped 1 None ForcedRefresh old mid first none

module _ {X T U : Type 0} (e : Ghosts X) (x : T) (y : U) (old mid new : X)
    (drop : DoesAsking e nobody (Ok x) old mid (unhinted (e.draft old)) (unhinted_drawn (e.display old) (e.draft old)) 1) (loses : LosesHint e old mid)
    (asked : DoesAsking e for_verdict (Ok y) mid new (validated (e.environment mid) (e.draft mid)) (verdict_drawn (e.environment mid) (e.draft mid)) 1)
    (no_hint : ShowsNoHint e mid → ShowsNoHint e new) where
  -- what is left, by the environment and the draft before
  left_is : e.draft new ≡ validated (e.environment old) (unhinted (e.draft old))
  left_is = asked.draft ∙ ap (λ w. validated w (e.draft mid)) drop.frame.environment ∙ ap (λ d. validated (e.environment old) d) drop.draft

  line_is : (e.draft new).line ≡ (e.draft mid).line
  line_is = ap (λ (d : Draft). d.line) asked.draft ∙ validated_line (e.environment mid) (e.draft mid)

  text_is : (e.draft new).line.text ≡ (e.draft old).line.text
  text_is = ap (λ (l : Line). l.text) line_is ∙ ap (λ (d : Draft). d.line.text) drop.draft

  said_there : Drew e 1 (verdict_drawn (e.environment old) (unhinted (e.draft old))) mid new
  said_there =
      subst (λ d. Drew e 1 (verdict_drawn (e.environment old) d) mid new) drop.draft
      (subst (λ w. Drew e 1 (verdict_drawn w (e.draft mid)) mid new) drop.frame.environment asked.drew)

  abbrev has_stale : Bool
  has_stale = is_some (e.draft old).hint || (e.display old).lit || not (e.display old).layout.default_prompt

  abbrev says : Bool
  says = draws_verdict (e.environment old) (unhinted (e.draft old))

  abbrev said : Verdict
  said = verdict_on (e.environment old) (e.draft old).line.text

  shown_both : Drew e (validated_times (e.display old) (e.environment old) (e.draft old)) (validated_drawn (e.display old) (e.environment old) (e.draft old)) old new
  shown_both = two_drawn e old mid new has_stale says (message_of said) (kind_of_verdict said) drop.frame line_is drop.drew said_there

  loses_both : LosesHint e old new
  loses_both = record {
    own_prompt = prompt_stays e mid new says (message_of said) (kind_of_verdict said) loses.own_prompt said_there;
    right = λ was. asked.keeps.right (loses.right was);
    no_hint = λ shown. no_hint (loses.no_hint shown);
  }

  -- a line that is submitted whatever is said of it
  pub accepts : (input : Input) (indent : ℕ) (kills : Ring) → Executed e old input indent kills accept_line new kills submitted
  accepts input indent kills = record {
    steps = record { editor = ap (λ (d : Draft). editor_with d kills) left_is; answered = refl };
    drew = shown_both;
    drawn = loses_both;
    change = text_same text_is;
    few = few_by e old new kills accept_line shown_both;
    part = λ is. absurd (cc);
    start = asked.start ∙ drop.start;
  }

  module _ (in_the_middle at_end : Bool) (verdict : Verdict) (told : verdict ≡ verdict_on (e.environment mid) (e.draft mid).line.text) (ends : at_end ≡ ends_in_white_space (e.draft new).line) (reply : Reply) (replies : reply ≡ reply_to verdict (in_the_middle || at_end)) where
    abbrev shown : Drawing
    shown = validated_drawn (e.display old) (e.environment old) (e.draft old)

    abbrev left : Draft
    left = validated (e.environment old) (unhinted (e.draft old))

    reply_is : reply_to said (in_the_middle || ends_in_white_space (e.draft old).line) ≡ reply
    reply_is =
        sym (replies
        ∙ ap (λ v. reply_to v (in_the_middle || at_end)) (told ∙ ap (λ w. verdict_on w (e.draft mid).line.text) drop.frame.environment ∙ ap (λ (d : Draft). verdict_on (e.environment old) d.line.text) drop.draft)
        ∙ ap (λ b. reply_to said (in_the_middle || b)) (ends ∙ ap (λ l. ends_in_white_space l) (line_is ∙ ap (λ (d : Draft). d.line) drop.draft)))

    whole : accepted (e.environment old) in_the_middle (unhinted (e.draft old)) ≡ replied reply left (typed_in (e.environment old) 1 10 left)
    whole = ap (λ r. replied r left (typed_in (e.environment old) 1 10 left)) reply_is

    abbrev times : ℕ
    times = validated_times (e.display old) (e.environment old) (e.draft old)

    drawn_by : (given : Reply) (last : X) → reply ≡ given → Drew e (reply_times given times) (reply_drawn given shown) old last
        → Drew e (reply_times (reply_to said (in_the_middle || ends_in_white_space (e.draft old).line)) times)
        (reply_drawn (reply_to said (in_the_middle || ends_in_white_space (e.draft old).line)) shown) old last
    drawn_by given last is drew = subst (λ r. Drew e (reply_times r times) (reply_drawn r shown) old last) (sym (reply_is ∙ is)) drew

    left_by : (given : Reply) → reply ≡ given → replied given left (typed_in (e.environment old) 1 10 left) ≡ accepted (e.environment old) in_the_middle (unhinted (e.draft old))
    left_by given is = ap (λ r. replied r left (typed_in (e.environment old) 1 10 left)) (sym is) ∙ sym whole

    -- a line that is submitted
    pub submits_line : reply ≡ Submits → (input : Input) (indent : ℕ) (kills : Ring) → Executed e old input indent kills (accept_or_insert_line in_the_middle) new kills submitted
    submits_line is input indent kills = record {
      steps = record {
        editor = ap (λ (d : Draft). editor_with d kills) (left_is ∙ ap (λ (p : Draft × Answer). p.0) (left_by Submits is));
        answered = ap (λ (p : Draft × Answer). p.1) (sym (left_by Submits is));
      };
      drew = drawn_by Submits new is shown_both;
      drawn = loses_both;
      change = text_same text_is;
      few = few_by e old new kills (accept_or_insert_line in_the_middle) (drawn_by Submits new is shown_both);
      part = λ is. absurd (cc);
      start = asked.start ∙ drop.start;
    }

    -- a line that stays as it is
    pub line_stays_so : reply ≡ Stays → (input : Input) (indent : ℕ) (kills : Ring) → Executed e old input indent kills (accept_or_insert_line in_the_middle) new kills proceeds
    line_stays_so is input indent kills = record {
      steps = record {
        editor = ap (λ (d : Draft). editor_with d kills) (left_is ∙ ap (λ (p : Draft × Answer). p.0) (left_by Stays is));
        answered = ap (λ (p : Draft × Answer). p.1) (sym (left_by Stays is));
      };
      drew = drawn_by Stays new is shown_both;
      drawn = record { right = λ was. asked.keeps.right (loses.right was); line = λ there. no_hint_line e new (no_hint (loses.no_hint there)) };
      change = text_same text_is;
      few = few_by e old new kills (accept_or_insert_line in_the_middle) (drawn_by Stays new is shown_both);
      part = λ is. absurd (cc);
      start = asked.start ∙ drop.start;
    }

    -- a line that is given a newline
    pub newline_comes : {V : Type 0} (z : V) (last : X) → reply ≡ GoesOn
        → Does e (Ok z) new last (typed_in (e.environment new) 1 10 (e.draft new)) with_hint 1
        → (input : Input) (indent : ℕ) (kills : Ring) → Executed e old input indent kills (accept_or_insert_line in_the_middle) last kills proceeds
    newline_comes z last is typed input indent kills =
        let all : Frame e old new = frame_then e old mid new drop.frame asked.frame in
        let longer : e.draft last ≡ typed_in (e.environment old) 1 10 left =
        typed.draft ∙ ap (λ w. typed_in w 1 10 (e.draft new)) all.environment ∙ ap (λ d. typed_in (e.environment old) 1 10 d) left_is in
        let first : ℕ = once_for (if has_stale then with_text None ForcedRefresh else nothing) in
        let second : ℕ = once_for (if says then with_text (message_of said) (kind_of_verdict said) else nothing) in
        let line : DrewLine e (first + second + 1) (hint_shown (e.draft last)) Other old last =
        line_then e old new last all (both_lit e old mid new has_stale says (message_of said) (kind_of_verdict said) drop.frame drop.drew said_there) (first + second) 1 _ Other
        (rises_twice first first second second (e.redraws old) (e.redraws mid) (e.redraws new)
        (perhaps_redraws e has_stale None ForcedRefresh old mid drop.drew) (perhaps_redraws e says (message_of said) (kind_of_verdict said) mid new said_there)) typed.drew in
        record {
          steps = record {
            editor = ap (λ (d : Draft). editor_with d kills) (longer ∙ ap (λ (p : Draft × Answer). p.0) (left_by GoesOn is));
            answered = ap (λ (p : Draft × Answer). p.1) (sym (left_by GoesOn is));
          };
          drew = drawn_by GoesOn last is line;
          drawn = record { right = λ was. line.right; line = λ there. hint_trails e last line.shows };
          change = drawn_in_full line.shows
              (rises_within 1 (first + second + 1) 3 (e.redraws old) (e.redraws last) (omega arith)
              (omega (arith, twice_at_most (e.display old) (e.environment old) (e.draft old))) line.redraws);
          few = few_by e old last kills (accept_or_insert_line in_the_middle) (drawn_by GoesOn last is line);
          part = λ is. absurd (cc);
          start = typed.start ∙ asked.start ∙ drop.start;
        }

    -- a newline that could not be put in
    pub newline_fails : {V : Type 0} (f : ReadlineError) (last : X) → reply ≡ GoesOn
        → DoesAsking {T = V} e for_hint (Err f) new last (typed_in (e.environment new) 1 10 (e.draft new)) with_hint 1
        → (input : Input) (indent : ℕ) (kills : Ring) → Executes e (Err f) old input indent kills (accept_or_insert_line in_the_middle) last kills
    newline_fails f last is typed input indent kills =
        let asks : Asks = asked_of (e.display old) (e.environment old) (editor_of e old kills) (accept_or_insert_line in_the_middle) in
        let all : Frame e old new = frame_then e old mid new drop.frame asked.frame in
        draft_wrong e old last input indent kills kills (accept_or_insert_line in_the_middle) f
        (fault_from f (e.environment new) (e.environment old) (e.draft old) (e.draft new) (e.draft new) left _ _ (e.draft last) all.environment
        (ap (λ w. typed_in w 1 10 (e.draft new)) all.environment ∙ ap (λ d. typed_in (e.environment old) 1 10 d) left_is ∙ ap (λ (p : Draft × Answer). p.0) (left_by GoesOn is))
        (inr (inr (ap (λ (d : Draft). d.hint) left_is))) (inr (inr (ap (λ (d : Draft). d.hint) left_is)))
        (inr (same_draft left (e.draft new) left_is)) (inr (same_draft left (e.draft new) left_is)) typed.fault)
        refl refl refl
        (prompt_then (e.display old) (e.display new) (e.display last) all.surface all.prompt_end
        (prompt_then (e.display old) (e.display mid) (e.display new) drop.frame.surface drop.frame.prompt_end
        (perhaps_prompt e has_stale None ForcedRefresh old mid drop.frame drop.drew)
        (perhaps_prompt e (draws_verdict (e.environment mid) (e.draft mid)) (message_of (verdict_on (e.environment mid) (e.draft mid).line.text))
        (kind_of_verdict (verdict_on (e.environment mid) (e.draft mid).line.text)) mid new asked.frame asked.drew)) typed.prompt)
        (fails_more e (Err f) for_hint asks old last
        (λ sure. sure_all (e.sure old) for_hint (sym (ap (λ r. is_sure (e.sure old) (asked_for_reply r)) (reply_is ∙ is)) ∙ sure))
        (fails_then e for_hint (Err f) old new last all typed.frame (asked.fails.quiet ∙ drop.fails.quiet) typed.fails))
        (frame_then e old new last all typed.frame)

  -- what fails behind the hint that was taken away
  pub frame_both : Frame e old new
  frame_both = frame_then e old mid new drop.frame asked.frame

  pub none_failed : e.failures new ≡ e.failures old
  none_failed = asked.fails.quiet ∙ drop.fails.quiet
