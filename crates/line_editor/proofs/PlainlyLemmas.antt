-- Facts on a character typed plainly, and on a plain kill.
use Rattle.std.proofs.Common.{◌≡◌, ◌⊎◌, inl, inr, ℕ, ◌+◌, ◌-◌, ◌≤◌, ◌<◌, nat_lt, nat_le, Bool, true, false, ◌&&◌, ◌==◌, not, List, [], ◌∷◌, ◌++◌, length, take, drop, Option, Some, is_some, Result, Ok, Err, refl, sym, ◌∙◌, ap, ap₂, subst, arith, OnOk}
use Rattle.std.specs.Prelude.{encode_utf8}
use Rattle.std.specs.List.{list_all, repeat}
use Rattle.std.proofs.lemmas.Bool.{and_parts}
use Rattle.std.proofs.lemmas.Bool.Decides.{nat_tests}
use Rattle.std.proofs.lemmas.List.{append-nil, drop_all, length-drop, length-take-le, take-append-drop}
use Rattle.std.proofs.lemmas.Str.{encode_ascii}
use Rattle.line_config.specs.declared.error.ReadlineError.{ReadlineError}
use Rattle.line_buffer.specs.Kill.{ring_with_killed}
use Rattle.line_buffer.specs.KillRing.{Ring}
use Rattle.line_buffer.specs.Line.{Line, inserted_at_cursor, is_at_end, without}
use Rattle.line_buffer.specs.Printable.{is_plain, is_printable}
use Rattle.line_buffer.specs.Undo.{first_text}
use Rattle.line_buffer.specs.declared.layout.Layout.{Layout}
use Rattle.line_buffer.specs.declared.layout.Position.{Position}
use Rattle.line_buffer.specs.declared.movement.Movement.{Movement}
use Rattle.line_keys.specs.Model.Display.{Display, IsRight, ShowsText, columns_back, columns_on, ending_at, lit_after}
use Rattle.line_keys.specs.Model.Draft.{Draft, hint_shown, hinted, start_text}
use Rattle.line_keys.specs.Model.Drawing.{ChangedPlainly, Does, Drew, DrewLine, DrewPart, KeepsDraftOnErr, ShowsEnd, Undrawn, asked_by, change_drawn, drawn_in_full, drawn_plainly}
use Rattle.line_keys.specs.Model.Frame.{FailsByParty, Frame}
use Rattle.line_keys.specs.Model.Plainly.{KilledPlainly, TypedPlainly, gives_end, is_bare_line, leaves_bare, takes_char}
use Rattle.line_keys.specs.Model.ShownLine.{HasRightLayout, KeepsDrawn}
use Rattle.line_keys.specs.declared.editor_state.EditorState.{Ghosts}
use Rattle.line_parts.specs.Asks.{for_hint}
use Rattle.line_parts.specs.Environment.{Environment}
use Rattle.line_parts.specs.declared.highlight.CmdKind.TheVariants.{Other}
use Rattle.line_state.specs.Edited.{Edited, with_copies, without_range}
use Rattle.line_state.proofs.PlainTextLemmas.{all_before}
use Rattle.line_editor.specs.DraftEdits.{killed_by, range_killed, typed_in}
use Rattle.line_editor.specs.Drawings.{kill_drawn, typing_drawn}
use Rattle.line_editor.specs.Editor.{edited_of, with_edited}
use Rattle.line_editor.specs.Outcomes.{DoesWithKills, EditedOnIo, editor_of}
use Rattle.line_editor.proofs.FaultLemmas.{but_hinted, fault_shown, leaves_kills, made_stays, ring_behind}
use Rattle.line_editor.proofs.DoneLemmas.{Redrawn, fails_after, line_after, line_reported}
use Rattle.line_input.proofs.DrawnTwiceLemmas.{frame_then}
use Rattle.line_editor.proofs.DrawnLemmas.{hint_trails, prompt_after, right_shown, shown_right}

-- a change of the line's end, of which a part may have been drawn: what it leaves
module _ {X : Type 0} (e : Ghosts X) (old mid new : X) (undrawn : Undrawn e old mid) (made : Draft) (draft : e.draft mid ≡ made)
    (hint : made.hint ≡ (e.draft old).hint) (first : start_text made ≡ start_text (e.draft old)) (position : Position) (info : (e.display old).layout.has_info ≡ false)
    (plainly : leaves_bare (e.environment old) (e.display old) (hinted (e.environment old) made) ≡ true
    → TypedPlainly (e.environment old) (e.display old) (e.draft old) (hinted (e.environment old) made)
    ⊎ KilledPlainly (e.environment old) (e.display old) (e.draft old) (hinted (e.environment old) made)) where
  abbrev left : Draft
  left = hinted (e.environment old) made

  abbrev bare : Bool
  bare = leaves_bare (e.environment old) (e.display old) left

  asked : hinted (e.environment mid) (e.draft mid) ≡ left
  asked = ap (λ (w : Environment). hinted w (e.draft mid)) undrawn.frame.environment ∙ ap (λ (d : Draft). hinted (e.environment old) d) draft

  bare_is : leaves_bare (e.environment mid) (e.display mid) (hinted (e.environment mid) (e.draft mid)) ≡ bare
  bare_is =
      ap (λ (w : Environment). leaves_bare w (e.display mid) (hinted (e.environment mid) (e.draft mid))) undrawn.frame.environment
      ∙ ap (λ (d : Display). leaves_bare (e.environment old) d (hinted (e.environment mid) (e.draft mid))) undrawn.drew.display
      ∙ ap (λ (d : Draft). leaves_bare (e.environment old) (e.display old) d) asked

  part_after : DrewPart e position mid new → DrewPart e position old new
  part_after drew = record {
    layout = drew.layout ∙ ap (λ (d : Display). ending_at position d.layout) undrawn.drew.display;
    lit = drew.lit ∙ ap (λ (w : Environment). lit_after w (e.display mid) (e.draft new).line Other) undrawn.frame.environment
        ∙ ap (λ (d : Display). lit_after (e.environment old) d (e.draft new).line Other) undrawn.drew.display;
    redraws = drew.redraws ∙ undrawn.drew.redraws;
  }

  keeps_part : DrewPart e position old new → (HasRightLayout e old → HasRightLayout e new) → KeepsDrawn e old new
  keeps_part drew right = record {
    right = right;
    line = λ shown. right_shown e new (right (shown_right e old shown)) (ap (λ (l : Layout). l.has_info) drew.layout ∙ info)
        (ap (λ (l : Layout). l.default_prompt) drew.layout ∙ shown.shows.own_prompt);
  }

  changed : e.draft new ≡ left → bare ≡ true → DrewPart e position old new → ChangedPlainly e old new
  changed same is drew = record {
    plainly = subst (λ (d : Draft). TypedPlainly (e.environment old) (e.display old) (e.draft old) d ⊎ KilledPlainly (e.environment old) (e.display old) (e.draft old) d) (sym same) (plainly is);
    redraws = drew.redraws;
  }

  fails_of : {T : Type 0} (r : Result T ReadlineError) (b : Bool) → FailsByParty e for_hint r mid new → FailsByParty e (asked_by (change_drawn b position)) r old new
  fails_of r true fails = fails_after e old mid new undrawn for_hint r fails
  fails_of r false fails = fails_after e old mid new undrawn for_hint r fails

  by_bare : {T : Type 0} (x : T) → e.draft new ≡ left → Frame e mid new → FailsByParty e for_hint (Ok x) mid new → (HasRightLayout e old → HasRightLayout e new)
      → (b : Bool) → bare ≡ b → Drew e 1 (change_drawn b position) mid new → Does e (Ok x) old new left (change_drawn b position) 1
  by_bare x same frame fails right true is drew =
      let part : DrewPart e position old new = part_after drew in
      record {
        draft = same;
        fault = tt;
        start = ap start_text same ∙ first;
        drew = part;
        keeps = keeps_part part right;
        change = drawn_plainly (changed same is part);
        prompt = tt;
        frame = frame_then e old mid new undrawn.frame frame;
        fails = fails_of (Ok x) true fails;
      }
  by_bare x same frame fails right false is drew =
      let line : DrewLine e 1 (hint_shown (e.draft new)) Other old new = line_after e old mid new undrawn 1 (hint_shown (e.draft new)) Other drew in
      record {
        draft = same;
        fault = tt;
        start = ap start_text same ∙ first;
        drew = line;
        keeps = record { right = λ was. line.right; line = λ was. hint_trails e new line.shows };
        change = drawn_in_full line.shows line.redraws;
        prompt = tt;
        frame = frame_then e old mid new undrawn.frame frame;
        fails = fails_of (Ok x) false fails;
      }

  pub end_done : {T : Type 0} (r : Result T ReadlineError) → ShowsEnd e r mid new position → (HasRightLayout e old → OnOk r (HasRightLayout e new))
      → Does e r old new left (change_drawn bare position) 1
  end_done (Err er) shows right = record {
    draft = tt;
    fault = fault_shown e er old mid new made _ left undrawn.frame.environment draft hint (but_hinted (e.environment old) made) shows.err;
    start = tt;
    drew = tt;
    keeps = tt;
    change = tt;
    prompt = prompt_after (e.display old) (e.display mid) (e.display new) undrawn.drew.display (inl shows.kept);
    frame = frame_then e old mid new undrawn.frame shows.frame;
    fails = fails_of (Err er) bare shows.fails;
  }
  end_done (Ok x) shows right =
      by_bare x (shows.draft ∙ asked) shows.frame shows.fails right bare refl (subst (λ (b : Bool). Drew e 1 (change_drawn b position) mid new) bare_is shows.drew)

-- what it takes that a character is taken plainly
pub record Takes (display : Display) (draft : Draft) (c : ℕ) : Type 0 where
  pub print : is_printable c ≡ true
  pub at_end : is_at_end draft.line ≡ true
  pub free : nat_lt (display.layout.cursor.col + 1) display.surface.columns ≡ true
  pub plain : list_all is_plain draft.line.text ≡ true
  pub info : display.layout.has_info ≡ false

not_true : (b : Bool) → not b ≡ true → b ≡ false
not_true false is = refl
not_true true is = absurd (cc)

pub takes : (display : Display) (draft : Draft) (c : ℕ) → takes_char display draft c ≡ true → Takes display draft c
takes display draft c is =
    let first = and_parts (is_printable c && is_at_end draft.line && nat_lt (display.layout.cursor.col + 1) display.surface.columns) (is_bare_line display draft) is in
    let second = and_parts (is_printable c && is_at_end draft.line) (nat_lt (display.layout.cursor.col + 1) display.surface.columns) first.0 in
    let third = and_parts (is_printable c) (is_at_end draft.line) second.0 in
    let bare = and_parts (list_all is_plain draft.line.text && not (is_some draft.hint)) (not display.layout.has_info) first.1 in
    let plain = and_parts (list_all is_plain draft.line.text) (not (is_some draft.hint)) bare.0 in
    record { print = third.0; at_end = third.1; free = second.1; plain = plain.0; info = not_true display.layout.has_info bare.1 }

-- one copy of a printable character is that character
one_copy : (c : ℕ) → is_printable c ≡ true → repeat 1 (encode_utf8 c) ≡ c ∷ []
one_copy c print = let below : c < 128 = grind (arith, nat_tests) in ap (repeat 1) (encode_ascii c below)

typed_line : (line : Line) (n c : ℕ) → (n == 1) ≡ true → is_printable c ≡ true → inserted_at_cursor line (repeat n (encode_utf8 c)) ≡ inserted_at_cursor line (c ∷ [])
typed_line line n c once print =
    let one : n ≡ 1 = grind (arith, nat_tests) in
    ap (λ (m : ℕ). inserted_at_cursor line (repeat m (encode_utf8 c))) one ∙ ap (inserted_at_cursor line) (one_copy c print)

both_true : (x y z : Bool) → x ≡ true → y ≡ true → (x && (y && z)) ≡ z
both_true true true z first second = refl
both_true false y z first second = absurd (cc)
both_true true false z first second = absurd (cc)

one_false : (x y z : Bool) → (x && y) ≡ false → (x && (y && z)) ≡ false
one_false false y z is = refl
one_false true false z is = refl
one_false true true z is = absurd (cc)

module _ {X T : Type 0} (e : Ghosts X) (r : Result T ReadlineError) (old mid new : X) (edited : Edited) (n c : ℕ) (undrawn : Undrawn e old mid)
    (draft : e.draft mid ≡ with_edited (e.draft old) edited) (same : edited ≡ with_copies n c (edited_of (e.draft old)))
    (first : first_text edited.changes edited.line ≡ start_text (e.draft old)) where
  abbrev typed : Draft
  typed = with_edited (e.draft old) (with_copies n c (edited_of (e.draft old)))

  made : e.draft mid ≡ typed
  made = draft ∙ ap (λ (x : Edited). with_edited (e.draft old) x) same

  begins : start_text typed ≡ start_text (e.draft old)
  begins = ap start_text (sym made) ∙ ap start_text draft ∙ first

  -- a character that the line takes plainly
  pub typed_done : ((n == 1) && takes_char (e.display old) (e.draft old) c) ≡ true
      → ShowsEnd e r mid new (columns_on 1 (e.display mid).layout.cursor)
      → ((line : Line) → is_at_end line ≡ true → list_all is_plain line.text ≡ true → (e.display mid).layout.has_info ≡ false → IsRight (e.display mid) line
      → (e.draft mid).line ≡ inserted_at_cursor line (c ∷ []) → OnOk r (HasRightLayout e new))
      → Does e r old new (typed_in (e.environment old) n c (e.draft old)) (typing_drawn (e.display old) (e.environment old) (e.draft old) n c) 1
  typed_done plainly shows right =
      let parts = and_parts (n == 1) (takes_char (e.display old) (e.draft old) c) plainly in
      let t = takes (e.display old) (e.draft old) c parts.1 in
      let there : typed.line ≡ inserted_at_cursor (e.draft old).line (c ∷ []) = typed_line (e.draft old).line n c parts.0 t.print in
      let place : columns_on 1 (e.display mid).layout.cursor ≡ columns_on 1 (e.display old).layout.cursor = ap (λ (d : Display). columns_on 1 d.layout.cursor) undrawn.drew.display in
      let drawing = both_true (n == 1) (takes_char (e.display old) (e.draft old) c) (leaves_bare (e.environment old) (e.display old) (typed_in (e.environment old) n c (e.draft old))) parts.0 parts.1 in
      subst (λ (b : Bool). Does e r old new (typed_in (e.environment old) n c (e.draft old)) (change_drawn b (columns_on 1 (e.display old).layout.cursor)) 1) (sym drawing)
      (end_done e old mid new undrawn typed made refl begins (columns_on 1 (e.display old).layout.cursor) t.info
      (λ bare. inl (record { char = c; plain = ap₂ ◌&&◌ parts.1 bare; line = there }))
      r (subst (λ (p : Position). ShowsEnd e r mid new p) place shows)
      (λ was. right (e.draft old).line t.at_end t.plain (ap (λ (d : Display). d.layout.has_info) undrawn.drew.display ∙ t.info) (subst (λ (d : Display). IsRight d (e.draft old).line) (sym undrawn.drew.display) was) (ap (λ (d : Draft). d.line) made ∙ there)))

  -- one that it does not
  pub typed_full : ((n == 1) && takes_char (e.display old) (e.draft old) c) ≡ false → Redrawn e r mid new
      → Does e r old new (typed_in (e.environment old) n c (e.draft old)) (typing_drawn (e.display old) (e.environment old) (e.draft old) n c) 1
  typed_full plainly shows =
      let drawing = one_false (n == 1) (takes_char (e.display old) (e.draft old) c) (leaves_bare (e.environment old) (e.display old) (typed_in (e.environment old) n c (e.draft old))) plainly in
      subst (λ (b : Bool). Does e r old new (typed_in (e.environment old) n c (e.draft old)) (change_drawn b (columns_on 1 (e.display old).layout.cursor)) 1) (sym drawing)
      (line_reported e r old mid new edited (with_copies n c (edited_of (e.draft old))) undrawn draft same first shows)

-- what it takes that a line gives its end plainly
pub record Gives (display : Display) (draft : Draft) (from : ℕ) : Type 0 where
  pub print : list_all is_printable (drop from draft.line.text) ≡ true
  pub plain : list_all is_plain draft.line.text ≡ true
  pub info : display.layout.has_info ≡ false

pub gives : (display : Display) (draft : Draft) (from : ℕ) → gives_end display draft from ≡ true → Gives display draft from
gives display draft from is =
    let row = display.layout.cursor.row == display.layout.end.row in
    let cursor = nat_le (draft.line.cursor - from) display.layout.cursor.col in
    let end = nat_le (length draft.line.text - from) display.layout.end.col in
    let print = list_all is_printable (drop from draft.line.text) in
    let first = and_parts (print && row && cursor && end) (is_bare_line display draft) is in
    let second = and_parts (print && row && cursor) end first.0 in
    let third = and_parts (print && row) cursor second.0 in
    let fourth = and_parts print row third.0 in
    let bare = and_parts (list_all is_plain draft.line.text && not (is_some draft.hint)) (not display.layout.has_info) first.1 in
    let plain = and_parts (list_all is_plain draft.line.text) (not (is_some draft.hint)) bare.0 in
    record { print = fourth.0; plain = plain.0; info = not_true display.layout.has_info bare.1 }

abbrev line_of : List ℕ → ℕ → Line
line_of text cursor = record { text = text; cursor = cursor }

-- a line without its end
without_end : (line : Line) (from to : ℕ) → from ≤ to → to ≡ length line.text
    → without line (Some (from, to)) ≡ line_of (take from line.text) (length (take from line.text))
without_end line from to ordered end =
    let text : take from line.text ++ drop to line.text ≡ take from line.text =
    ap (λ (s : List ℕ). take from line.text ++ s) (drop_all to line.text (omega (arith, end))) ∙ append-nil (take from line.text) in
    let cursor : from ≡ length (take from line.text) = sym (length-take-le from line.text (omega (arith, ordered, end))) in
    ap₂ line_of text cursor

module _ {X T : Type 0} (e : Ghosts X) (r : Result T ReadlineError) (old mid new : X) (kills kills' : Ring) (movement : Movement) (from to : ℕ) (edited : Edited) (undrawn : Undrawn e old mid)
    (draft : e.draft mid ≡ with_edited (e.draft old) edited) (same : edited ≡ without_range (Some (from, to)) (edited_of (e.draft old)))
    (first : first_text edited.changes edited.line ≡ start_text (e.draft old)) where
  abbrev killed : Draft
  killed = with_edited (e.draft old) (without_range (Some (from, to)) (edited_of (e.draft old)))

  made_so : e.draft mid ≡ killed
  made_so = draft ∙ ap (λ (x : Edited). with_edited (e.draft old) x) same

  begins_so : start_text killed ≡ start_text (e.draft old)
  begins_so = ap start_text (sym made_so) ∙ ap start_text draft ∙ first

  abbrev left_so : Draft
  left_so = range_killed (e.environment old) (from, to) (e.draft old)

  abbrev end_column : Position
  end_column = columns_back (length (e.draft old).line.text - from) (e.display old).layout.end

  -- a plain kill
  plain_kill : from ≤ to → ((to == length (e.draft old).line.text) && gives_end (e.display old) (e.draft old) from) ≡ true
      → (count : ℕ) → count ≡ length (e.draft old).line.text - from
      → ShowsEnd e r mid new (columns_back count (e.display mid).layout.end)
      → ((front gone : List ℕ) → list_all is_plain front ≡ true → list_all is_printable gone ≡ true → length gone ≡ count → (e.display mid).layout.has_info ≡ false
      → ShowsText (e.display mid) (front ++ gone) → (e.draft mid).line ≡ record { text = front; cursor = length front } → OnOk r (HasRightLayout e new))
      → Does e r old new left_so (kill_drawn (e.display old) (e.environment old) (e.draft old) (Some (from, to))) 1
  plain_kill ordered plainly count counted shows right =
      let text = (e.draft old).line.text in
      let parts = and_parts (to == length text) (gives_end (e.display old) (e.draft old) from) plainly in
      let t = gives (e.display old) (e.draft old) from parts.1 in
      let end : to ≡ length text = grind (arith, nat_tests, parts.0) in
      let there : killed.line ≡ line_of (take from text) (length (take from text)) = without_end (e.draft old).line from to ordered end in
      let place : columns_back count (e.display mid).layout.end ≡ end_column =
      ap (λ (n : ℕ). columns_back n (e.display mid).layout.end) counted ∙ ap (λ (d : Display). columns_back (length text - from) d.layout.end) undrawn.drew.display in
      let drawing = both_true (to == length text) (gives_end (e.display old) (e.draft old) from) (leaves_bare (e.environment old) (e.display old) left_so) parts.0 parts.1 in
      subst (λ (b : Bool). Does e r old new left_so (change_drawn b end_column) 1) (sym drawing)
      (end_done e old mid new undrawn killed made_so refl begins_so end_column t.info
      (λ bare. inr (record { from = from; plain = ap₂ ◌&&◌ parts.1 bare; line = ap (λ (n : ℕ). without (e.draft old).line (Some (from, n))) end }))
      r (subst (λ (p : Position). ShowsEnd e r mid new p) place shows)
      (λ was. right (take from text) (drop from text) (all_before is_plain from text t.plain) t.print (length-drop from text ∙ sym counted)
      (ap (λ (d : Display). d.layout.has_info) undrawn.drew.display ∙ t.info)
      (subst (λ (s : List ℕ). ShowsText (e.display mid) s) (sym (take-append-drop from text)) (subst (λ (d : Display). ShowsText d text) (sym undrawn.drew.display) was.drawn))
      (ap (λ (d : Draft). d.line) made_so ∙ there)))

  -- a kill that is none
  full_kill : ((to == length (e.draft old).line.text) && gives_end (e.display old) (e.draft old) from) ≡ false → Redrawn e r mid new
      → Does e r old new left_so (kill_drawn (e.display old) (e.environment old) (e.draft old) (Some (from, to))) 1
  full_kill plainly shows =
      let drawing = one_false (to == length (e.draft old).line.text) (gives_end (e.display old) (e.draft old) from) (leaves_bare (e.environment old) (e.display old) left_so) plainly in
      subst (λ (b : Bool). Does e r old new left_so (change_drawn b end_column) 1) (sym drawing)
      (line_reported e r old mid new edited (without_range (Some (from, to)) (edited_of (e.draft old))) undrawn draft same first shows)

  module _ (range : Option (ℕ × ℕ)) (is : Some (from, to) ≡ range) (ring : kills' ≡ ring_with_killed (e.draft old).line movement range kills) where
    abbrev Leaves : Result T ReadlineError → Option (ℕ × ℕ) → Type 0
    Leaves r range = DoesWithKills e r old kills new kills' (killed_by (e.environment old) movement (editor_of e old kills) range) (kill_drawn (e.display old) (e.environment old) (e.draft old) range) 1

    rung : kills' ≡ ring_with_killed (e.draft old).line movement (Some (from, to)) kills
    rung = ring ∙ ap (λ (x : Option (ℕ × ℕ)). ring_with_killed (e.draft old).line movement x kills) (sym is)

    -- what could not be drawn is killed
    stays_killed : (q : Result T ReadlineError) → KeepsDraftOnErr e q mid new (hinted (e.environment mid) (e.draft mid))
        → EditedOnIo q (e.environment old) (e.draft old) left_so (e.draft new)
    stays_killed (Ok x) err = tt
    stays_killed (Err er) err =
        λ io. made_stays e er old mid new killed (e.draft old) left_so undrawn.frame.environment made_so refl (but_hinted (e.environment old) killed) err

    as_killed : Does e r old new left_so (kill_drawn (e.display old) (e.environment old) (e.draft old) (Some (from, to))) 1
        → KeepsDraftOnErr e r mid new (hinted (e.environment mid) (e.draft mid)) → Leaves r (Some (from, to))
    as_killed does err = record {
      does = does;
      kills_left = leaves_kills r kills _ kills' rung;
      moment = ring_behind r (e.environment old) (editor_of e old kills) (killed_by (e.environment old) movement (editor_of e old kills) (Some (from, to)))
          (editor_of e new kills') (stays_killed r err) rung;
    }

    pub killed_plainly : from ≤ to → ((to == length (e.draft old).line.text) && gives_end (e.display old) (e.draft old) from) ≡ true
        → (count : ℕ) → count ≡ length (e.draft old).line.text - from
        → ShowsEnd e r mid new (columns_back count (e.display mid).layout.end)
        → ((front gone : List ℕ) → list_all is_plain front ≡ true → list_all is_printable gone ≡ true → length gone ≡ count → (e.display mid).layout.has_info ≡ false
        → ShowsText (e.display mid) (front ++ gone) → (e.draft mid).line ≡ record { text = front; cursor = length front } → OnOk r (HasRightLayout e new))
        → Leaves r range
    killed_plainly ordered plainly count counted shows right =
        subst (λ (x : Option (ℕ × ℕ)). Leaves r x) is (as_killed (plain_kill ordered plainly count counted shows right) shows.err)

    pub killed_full : ((to == length (e.draft old).line.text) && gives_end (e.display old) (e.draft old) from) ≡ false → Redrawn e r mid new → Leaves r range
    killed_full plainly shows = subst (λ (x : Option (ℕ × ℕ)). Leaves r x) is (as_killed (full_kill plainly shows) shows.err)
