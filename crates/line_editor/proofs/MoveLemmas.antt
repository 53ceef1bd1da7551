-- Facts on a cursor that is moved.
use Rattle.std.proofs.Common.{◌≡◌, inl, inr, ℕ, Bool, true, false, List, [], ◌∷◌, Option, Some, None, is_some, Result, Ok, Err, refl, sym, ap, subst, ◌∙◌, arith}
use Rattle.std.specs.Prelude.{if◌then◌else◌}
use Rattle.line_buffer.specs.Changes.{Entry}
use Rattle.line_buffer.specs.Line.{Line, after, moved_to, with_cursor}
use Rattle.line_buffer.specs.Undo.{all_taken_back, first_text, taken_back, text_before}
use Rattle.line_buffer.specs.Word.{word_on}
use Rattle.line_buffer.specs.declared.layout.Position.{Position}
use Rattle.line_buffer.specs.declared.movement.At.TheVariants.{Start}
use Rattle.line_buffer.specs.declared.movement.Word.TheVariants.{Big}
use Rattle.line_config.specs.declared.error.ReadlineError.{ReadlineError}
use Rattle.line_keys.specs.Model.Draft.{Draft, start_text}
use Rattle.line_keys.specs.Model.Display.{Display, HasCursorAt, ShowsText, cursor_position}
use Rattle.line_keys.specs.Model.Drawing.{CursorWay, DoesInTwo, Drawing, DrawsCursor, DrewCursor, MovesTo, PutsCursorAt, Undrawn, cursor_over, cursor_stayed, drawn_if, text_same}
use Rattle.line_keys.specs.Model.Fault.{as_halfway}
use Rattle.line_keys.specs.Model.Frame.{FailsByRenderer, Frame}
use Rattle.line_keys.specs.Model.ShownLine.{HasCursorDrawn}
use Rattle.line_keys.specs.declared.editor_state.EditorState.{Ghosts}
use Rattle.line_parts.specs.Asks.{Asks, nobody}
use Rattle.line_parts.specs.Environment.{Environment}
use Rattle.line_parts.specs.declared.highlight.CmdKind.{CmdKind}
use Rattle.line_parts.specs.declared.highlight.CmdKind.TheVariants.{MoveCursor}
use Rattle.line_parts.specs.History.{begins_blank}
use Rattle.line_state.specs.Edited.{Edited, with_place}
use Rattle.line_state.specs.Moves.{to_first_print}
use Rattle.line_editor.specs.Editor.{edited_of, with_edited}
use Rattle.line_editor.proofs.DoneLemmas.{cursor_after, does_after}
use Rattle.line_input.proofs.DraftLemmas.{of_made, same_draft, whole_text}
use Rattle.line_input.proofs.DrawnTwiceLemmas.{frame_then}
use Rattle.line_editor.proofs.DrawnLemmas.{keeps_move, keeps_then, prompt_same, right_after, way_after}
use Rattle.line_editor.proofs.EditLemmas.{moved_text}

-- what all changes taken back give is a matter of the text, and not of the cursor
same_text_back : (entries : List Entry) (l l' : Line) → l'.text ≡ l.text → (all_taken_back entries l').text ≡ (all_taken_back entries l).text
same_text_back [] l l' same = same
same_text_back (e ∷ entries) l l' same = same_text_back entries (taken_back e l) (taken_back e l') (ap (text_before e) same)

-- a cursor that went to a place left what all changes taken back give
pub first_placed : (old new : Edited) (place : Option ℕ) → new ≡ with_place place old → first_text new.changes new.line ≡ first_text old.changes old.line
first_placed old new place is =
    ap (λ (e : Edited). first_text e.changes e.line) is
    ∙ same_text_back old.changes.entries old.line (with_place place old).line (moved_text old.line place)

-- without a place the cursor stays
stays_there : (line : Line) (place : Option ℕ) → is_some place ≡ false → moved_to line place ≡ line
stays_there line None missing = refl
stays_there line (Some place) missing = absurd (cc)

-- a cursor that went to a place, and then was drawn there
pub move_drawn : {X T U : Type 0} (e : Ghosts X) (x : T) (y : U) (old middle new : X) (edited : Edited) (place : Option ℕ)
    → Undrawn e old middle
    → e.draft middle ≡ with_edited (e.draft old) edited → edited ≡ with_place place (edited_of (e.draft old))
    → DrawsCursor e (Ok y) middle new MoveCursor
    → MovesTo e (Ok x) old new MoveCursor (moved_to (e.draft old).line place)
move_drawn e x y old middle new edited place undrawn draft is draws =
    let made : e.draft middle ≡ record (e.draft old) { line = moved_to (e.draft old).line place } =
    draft ∙ ap (λ x. with_edited (e.draft old) x) is in
    let all = draws.draft ∙ made in
    let text : (e.draft middle).line.text ≡ (e.draft old).line.text = ap (λ (d : Draft). d.line.text) made ∙ moved_text (e.draft old).line place in
    let frame : Frame e old new = frame_then e old middle new undrawn.frame draws.frame in
    record {
      draft = all;
      text = ap (λ (d : Draft). d.line.text) draws.draft ∙ text;
      start = ap start_text (draws.draft ∙ draft) ∙ first_placed (edited_of (e.draft old)) edited place is;
      drew = cursor_after e old middle new undrawn MoveCursor (ap (λ (d : Draft). d.line) draws.draft) draws.placed draws.drew;
      keeps = keeps_move e MoveCursor old new frame (ap (λ (d : Draft). d.line.text) draws.draft ∙ text) (ap (λ (d : Draft). d.hint) all)
          (right_after e old middle new undrawn.drew.display text (ap (λ (d : Draft). d.line) draws.draft) draws.right)
          (way_after e old middle new undrawn.drew.display undrawn.frame.environment undrawn.drew.redraws MoveCursor draws.drew.way) (λ was. draws.placed);
      kept = tt;
      frame = frame;
      fails = record { io = tt; faults = tt; quiet = draws.fails.quiet ∙ undrawn.failures };
    }

-- what fails behind a step that draws nothing fails from before it
fails_later : {X T : Type 0} (e : Ghosts X) (old mid new : X) → Undrawn e old mid → (r : Result T ReadlineError) → FailsByRenderer e r mid new → FailsByRenderer e r old new
fails_later e old mid new undrawn (Ok x) fails = record { io = tt; faults = tt; quiet = fails.quiet ∙ undrawn.failures }
fails_later e old mid new undrawn (Err f) fails = record {
  io = λ i below. let n = undrawn.failures in let more = fails.io i (omega (arith, below, n)) in omega (arith, more, n);
  faults = fails.faults;
  quiet = λ no. fails.quiet no ∙ undrawn.failures;
}

-- a cursor that was moved, and then drawn at a position that is the line's where the kept one was
module _ {X : Type 0} (e : Ghosts X) (old middle new : X) (kind : CmdKind) (line : Line) (position : Position) (edited : Edited) (undrawn : Undrawn e old middle)
    (made : e.draft middle ≡ with_edited (e.draft old) edited) (goes : edited ≡ record (edited_of (e.draft old)) { line = line })
    (text : edited.line.text ≡ (e.draft old).line.text) (first : first_text edited.changes edited.line ≡ start_text (e.draft old))
    (measured : HasCursorAt (e.display middle) (with_cursor (e.draft middle).line (e.draft old).line.cursor)
    → position ≡ cursor_position (e.display middle).surface.measure (e.display middle).prompt_end (e.draft middle).line) where
  draft : e.draft middle ≡ record (e.draft old) { line = line }
  draft = made ∙ ap (λ (x : Edited). with_edited (e.draft old) x) goes

  start : start_text (e.draft middle) ≡ start_text (e.draft old)
  start = ap start_text made ∙ first

  same_text : (e.draft middle).line.text ≡ (e.draft old).line.text
  same_text = ap (λ (d : Draft). d.line.text) made ∙ text

  -- the position is the line's, where the kept cursor was
  placed_there : HasCursorDrawn e old → position ≡ cursor_position (e.display middle).surface.measure (e.display middle).prompt_end (e.draft middle).line
  placed_there was =
      measured (subst (λ (s : List ℕ). HasCursorAt (e.display middle) (record { text = s; cursor = (e.draft old).line.cursor })) (sym same_text)
      (subst (λ (d : Display). HasCursorAt d (e.draft old).line) (sym undrawn.drew.display) was))

  pub followed : {T : Type 0} (r : Result T ReadlineError) → PutsCursorAt e r middle new kind position → MovesTo e r old new kind line
  followed (Err f) puts = record {
    draft = puts.draft ∙ draft;
    text = ap (λ (d : Draft). d.line.text) puts.draft ∙ same_text;
    start = ap start_text puts.draft ∙ start;
    drew = tt;
    keeps = tt;
    kept = puts.kept ∙ ap (λ (d : Display). d.layout) undrawn.drew.display;
    frame = frame_then e old middle new undrawn.frame puts.frame;
    fails = fails_later e old middle new undrawn (Err f) puts.fails;
  }
  followed (Ok x) puts =
      let frame : Frame e old new = frame_then e old middle new undrawn.frame puts.frame in
      let lines : (e.draft new).line ≡ (e.draft middle).line = ap (λ (d : Draft). d.line) puts.draft in
      let way : CursorWay e kind old new = way_after e old middle new undrawn.drew.display undrawn.frame.environment undrawn.drew.redraws kind puts.way in
      record {
        draft = puts.draft ∙ draft;
        text = ap (λ (d : Draft). d.line.text) puts.draft ∙ same_text;
        start = ap start_text puts.draft ∙ start;
        drew = record {
          way = way;
          still = λ was at.
              let there : (e.display middle).layout.cursor ≡ cursor_position (e.display middle).surface.measure (e.display middle).prompt_end (e.draft middle).line =
              subst (λ (l : Line). HasCursorAt (e.display middle) l) lines (subst (λ (d : Display). HasCursorAt d (e.draft new).line) (sym undrawn.drew.display) at) in
              let n = puts.still (there ∙ sym (placed_there was)) in
              record { display = n.display ∙ undrawn.drew.display; redraws = n.redraws ∙ undrawn.drew.redraws };
          placed = λ was. puts.placed (placed_there was);
        };
        keeps = keeps_move e kind old new frame (ap (λ (d : Draft). d.line.text) puts.draft ∙ same_text) (ap (λ (d : Draft). d.hint) (puts.draft ∙ draft))
            (λ was. puts.right (placed_there was.cursor) (subst (λ (s : List ℕ). ShowsText (e.display middle) s) (sym same_text)
            (subst (λ (d : Display). ShowsText d (e.draft old).line.text) (sym undrawn.drew.display) was.drawn)))
            way (λ was. puts.placed (placed_there was));
        kept = tt;
        frame = frame;
        fails = record { io = tt; faults = tt; quiet = puts.fails.quiet ∙ undrawn.failures };
      }

-- where the cursor has no place to go to, what is done instead is done from before
pub else_done : {X T : Type 0} (e : Ghosts X) (r : Result T ReadlineError) (old mid new : X) (found : Bool) (place : Option ℕ) (moved : Draft)
    (halfway left : Environment → Draft → Draft) (there : Drawing) (reported : Environment → Draft → Bool) (asked : Environment → Draft → Asks)
    → found ≡ is_some place → found ≡ false → Undrawn e old mid
    → e.draft mid ≡ record (e.draft old) { line = moved_to (e.draft old).line place }
    → DoesInTwo e (asked (e.environment mid) (e.draft mid)) r mid new (halfway (e.environment mid) (e.draft mid)) (left (e.environment mid) (e.draft mid)) (drawn_if (reported (e.environment mid) (e.draft mid))) 1
    → DoesInTwo e (if is_some place then nobody else asked (e.environment old) (e.draft old)) r old new (halfway (e.environment old) (e.draft old))
    (if is_some place then moved else left (e.environment old) (e.draft old))
    (if is_some place then there else drawn_if (reported (e.environment old) (e.draft old))) 1
else_done e r old mid new found place moved halfway left there reported asked answer missing undrawn draft does =
    let P : Bool → Type 0 = λ b. DoesInTwo e (if b then nobody else asked (e.environment old) (e.draft old)) r old new (halfway (e.environment old) (e.draft old)) (if b then moved else left (e.environment old) (e.draft old))
    (if b then there else drawn_if (reported (e.environment old) (e.draft old))) 1 in
    let none : is_some place ≡ false = sym answer ∙ missing in
    let same : e.draft mid ≡ e.draft old = draft ∙ ap (λ l. record (e.draft old) { line = l }) (stays_there (e.draft old).line place none) in
    let Q : Environment → Type 0 = λ w. DoesInTwo e (asked w (e.draft mid)) r mid new (halfway (e.environment mid) (e.draft mid)) (left (e.environment mid) (e.draft mid)) (drawn_if (reported w (e.draft mid))) 1 in
    let R : Draft → Type 0 = λ d. DoesInTwo e (asked (e.environment old) d) r mid new (halfway (e.environment mid) (e.draft mid)) (left (e.environment mid) (e.draft mid)) (drawn_if (reported (e.environment old) d)) 1 in
    let half : halfway (e.environment mid) (e.draft mid) ≡ halfway (e.environment old) (e.draft old) =
    ap (λ w. halfway w (e.draft mid)) undrawn.frame.environment ∙ ap (λ d. halfway (e.environment old) d) same in
    subst P (sym none)
    (does_after e (asked (e.environment old) (e.draft old)) r old mid new (halfway (e.environment mid) (e.draft mid)) (halfway (e.environment old) (e.draft old)) _ _ (reported (e.environment old) (e.draft old)) undrawn (ap (λ (d : Draft). d.line) same) (ap (λ (d : Draft). d.hint) same)
    (ap start_text same)
    (ap (λ w. left w (e.draft mid)) undrawn.frame.environment ∙ ap (λ d. left (e.environment old) d) same)
    (inr (inr (ap (λ (d : Draft). d.hint) half))) (inl (same_draft (e.draft old) (e.draft mid) same)) (inr (same_draft _ _ half))
    (subst R same (subst Q undrawn.frame.environment does)))

-- the cursor stays, and nothing is drawn
pub cursor_stays : {X : Type 0} (e : Ghosts X) (editor : X) → DrewCursor e MoveCursor editor editor
cursor_stays e editor = record {
  way = cursor_stayed (record { display = refl; redraws = refl });
  still = λ was at. record { display = refl; redraws = refl };
  placed = λ was. was;
}

abbrev on_line : Line → Draft → Draft
on_line line draft = record draft { line = line }

-- a move by way of another place of which the first half went wrong
pub way_fails : {X T U : Type 0} (e : Ghosts X) (f : ReadlineError) (old new : X) (way : Line) (left : Draft) → MovesTo {T = T} e (Err f) old new MoveCursor way
    → DoesInTwo {T = U} e nobody (Err f) old new (record (e.draft old) { line = way }) left (cursor_over way) 1
way_fails e f old new way left moves = record {
  draft = tt;
  fault = λ wrong. inl (as_halfway (of_made (e.environment old) (e.draft old) (record (e.draft old) { line = way }) (record (e.draft old) { line = way }) (record (e.draft old) { line = way })
      (e.draft new) refl (whole_text (record (e.draft old) { line = way })) (inl moves.draft)));
  start = tt;
  drew = tt;
  keeps = tt;
  change = tt;
  prompt = prompt_same (e.display old) (e.display new) moves.kept;
  frame = moves.frame;
  fails = record { io = λ i sure. moves.fails.io i; faults = moves.fails.faults; quiet = moves.fails.quiet };
}

-- a move by way of another place
module _ {X T : Type 0} (e : Ghosts X) (x : T) (old mid : X) (way : Line) (first : MovesTo e (Ok x) old mid MoveCursor way) where
  pub moves_over : {U V : Type 0} (y : U) (z : V) (new : X) (line : Line) → MovesTo e (Ok y) mid new MoveCursor line
      → DoesInTwo e nobody (Ok z) old new (record (e.draft old) { line = way }) (record (e.draft old) { line = line }) (cursor_over way) 1
  moves_over y z new line second = record {
    draft = second.draft ∙ ap (λ (d : Draft). on_line line d) first.draft;
    fault = tt;
    start = second.start ∙ first.start;
    drew = record { way = mid; on_way = ap (λ (d : Draft). d.line) first.draft; frame = first.frame; first = first.drew; second = second.drew };
    keeps = keeps_then e old mid new first.keeps second.keeps;
    change = text_same (second.text ∙ first.text);
    prompt = tt;
    frame = frame_then e old mid new first.frame second.frame;
    fails = record { io = tt; faults = tt; quiet = second.fails.quiet ∙ first.fails.quiet };
  }

  pub moves_there : {V : Type 0} (z : V) → DoesInTwo e nobody (Ok z) old mid (record (e.draft old) { line = way }) (record (e.draft old) { line = way }) (cursor_over way) 1
  moves_there z = record {
    draft = first.draft;
    fault = tt;
    start = first.start;
    drew = record { way = mid; on_way = ap (λ (d : Draft). d.line) first.draft; frame = first.frame; first = first.drew; second = cursor_stays e mid };
    keeps = first.keeps;
    change = text_same first.text;
    prompt = tt;
    frame = first.frame;
    fails = record { io = tt; faults = tt; quiet = first.fails.quiet };
  }

-- to the first character that is no white space: on from the start of the line where white space stands there
pub first_print_on : {X T U V : Type 0} (e : Ghosts X) (x : T) (y : U) (z : V) (old mid new : X) (way : Line) → MovesTo e (Ok x) old mid MoveCursor way
    → true ≡ begins_blank (after (e.draft mid).line)
    → MovesTo e (Ok y) mid new MoveCursor (moved_to (e.draft mid).line (word_on Start Big (e.draft mid).line 1))
    → DoesInTwo e nobody (Ok z) old new (record (e.draft old) { line = way }) (record (e.draft old) { line = to_first_print way }) (cursor_over way) 1
first_print_on e x y z old mid new way first blank second =
    let is : (e.draft mid).line ≡ way = ap (λ (d : Draft). d.line) first.draft in
    let there : begins_blank (after way) ≡ true = sym (blank ∙ ap (λ l. begins_blank (after l)) is) in
    let goes : MovesTo e (Ok y) mid new MoveCursor (moved_to way (word_on Start Big way 1)) =
    subst (λ l. MovesTo e (Ok y) mid new MoveCursor (moved_to l (word_on Start Big l 1))) is second in
    subst (λ b. DoesInTwo e nobody (Ok z) old new (record (e.draft old) { line = way }) (on_line (if b then moved_to way (word_on Start Big way 1) else way) (e.draft old)) (cursor_over way) 1) (sym there)
    (moves_over e x old mid way first y z new _ goes)

pub first_print_there : {X T V : Type 0} (e : Ghosts X) (x : T) (z : V) (old mid : X) (way : Line) → MovesTo e (Ok x) old mid MoveCursor way
    → false ≡ begins_blank (after (e.draft mid).line)
    → DoesInTwo e nobody (Ok z) old mid (record (e.draft old) { line = way }) (record (e.draft old) { line = to_first_print way }) (cursor_over way) 1
first_print_there e x z old mid way first print =
    let is : (e.draft mid).line ≡ way = ap (λ (d : Draft). d.line) first.draft in
    let there : begins_blank (after way) ≡ false = sym (print ∙ ap (λ l. begins_blank (after l)) is) in
    subst (λ b. DoesInTwo e nobody (Ok z) old mid (record (e.draft old) { line = way }) (on_line (if b then moved_to way (word_on Start Big way 1) else way) (e.draft old)) (cursor_over way) 1) (sym there)
    (moves_there e x old mid way first z)
