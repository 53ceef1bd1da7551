-- What a call draws.
use Rattle.std.specs.Prelude.{◌≡◌, ◌⊎◌, ℕ, Bool, true, false, if◌then◌else◌, MatchBool, List, Option, None, OnOk, OnErr, Result}
use Rattle.line_buffer.specs.Line.{Line}
use Rattle.line_config.specs.declared.error.ReadlineError.{ReadlineError}
use Rattle.line_buffer.specs.declared.layout.Position.{Position}
use Rattle.line_keys.specs.Model.Display.{HasCursorAt, IsRight, KeepsPrompt, KeepsShown, SamePrompt, ShowsInFull, ShowsText, corner, cursor_position, ending_at, lit_after}
use Rattle.line_keys.specs.Model.Draft.{Draft, KeepsText, hint_shown, hinted, start_text}
use Rattle.line_keys.specs.Model.Fault.{FaultLeaves}
use Rattle.line_keys.specs.Model.Frame.{FailsByParty, FailsByRenderer, Frame}
use Rattle.line_keys.specs.Model.Plainly.{KilledPlainly, TypedPlainly, has_highlighting, leaves_bare}
use Rattle.line_keys.specs.Model.ShownLine.{HasCursorDrawn, HasRightLayout, IsInPlace, KeepsDrawn, Redraws, Shows, StaysKnown}
use Rattle.line_keys.specs.declared.editor_state.EditorState.{Ghosts}
use Rattle.line_parts.specs.Asks.{Asks, for_hint, nobody}
use Rattle.line_parts.specs.declared.highlight.CmdKind.{CmdKind}
use Rattle.line_parts.specs.declared.highlight.CmdKind.TheVariants.{MoveCursor, Other}

-- what is drawn: nothing; the line in full with its hint; with another text after it or none, for a kind that `highlight_char` is
-- told; with its hint after another prompt; only what changed at its end, which is then at a position; the cursor where the line's is;
-- the cursor at a place on its way, and then where the line's is; or the cursor at the end of what is shown
pub data Drawing : Type 0 where
  nothing : Drawing
  with_hint : Drawing
  with_text : Option (List ℕ) → CmdKind → Drawing
  behind_prompt : List ℕ → Drawing
  in_part : Position → Drawing
  cursor : CmdKind → Drawing
  cursor_over : Line → Drawing
  cursor_to_end : Drawing

-- who is asked for what is drawn: where the hint is drawn, it is asked for first
abbrev pub asked_by : Drawing → Asks
asked_by with_hint = for_hint
asked_by (behind_prompt prompt) = for_hint
asked_by (in_part position) = for_hint
asked_by drawing = nobody

-- nothing was drawn
pub record DrewNothing {X : Type 0} (e : Ghosts X) (old new : X) : Type 0 where
  pub display : e.display new ≡ e.display old
  pub redraws : e.redraws new ≡ e.redraws old

-- the line was drawn in full with this after it, so often, and at last `highlight_char` was asked for this kind
pub record DrewLine {X : Type 0} (e : Ghosts X) (times : ℕ) (trailing : Option (List ℕ)) (kind : CmdKind) (old new : X) : Type 0 where
  pub shows : Shows e new trailing
  pub right : HasRightLayout e new
  pub lit : (e.display new).lit ≡ lit_after (e.environment old) (e.display old) (e.draft new).line kind
  pub redraws : Redraws e times times old new

-- the line was drawn in full with its hint after another prompt, so often, and at last `highlight_char` was asked
pub record DrewBehind {X : Type 0} (e : Ghosts X) (times : ℕ) (prompt : List ℕ) (old new : X) : Type 0 where
  pub shows : ShowsInFull (e.display new) prompt ((e.display new).surface.measure prompt corner) (e.draft new).line (hint_shown (e.draft new))
  pub other : (e.display new).layout.default_prompt ≡ false
  pub lit : (e.display new).lit ≡ lit_after (e.environment old) (e.display old) (e.draft new).line Other
  pub redraws : Redraws e times times old new

-- nothing was drawn in full: the kept cursor and end moved to this position, where the line ends, and `highlight_char` was asked
pub record DrewPart {X : Type 0} (e : Ghosts X) (position : Position) (old new : X) : Type 0 where
  pub layout : (e.display new).layout ≡ ending_at position (e.display old).layout
  pub lit : (e.display new).lit ≡ lit_after (e.environment old) (e.display old) (e.draft new).line Other
  pub redraws : e.redraws new ≡ e.redraws old

-- the screen cursor moved where the kept one did, and nothing else was drawn; `highlight_char` was asked for this kind
pub record DrewCursorAlone {X : Type 0} (e : Ghosts X) (kind : CmdKind) (old new : X) : Type 0 where
  pub layout : (e.display new).layout ≡ record (e.display old).layout { cursor = (e.display new).layout.cursor }
  pub position : IsInPlace e old → IsInPlace e new
  pub known : IsInPlace e old → StaysKnown e old new
  pub shows : KeepsShown (e.display old).screen (e.display new).screen
  pub lit : (e.display new).lit ≡ lit_after (e.environment old) (e.display old) (e.draft new).line kind
  pub redraws : e.redraws new ≡ e.redraws old

-- how the cursor was drawn: not at all; alone, where the line is not highlighted; or else by the line in full with nothing after it
pub data CursorWay {X : Type 0} (e : Ghosts X) (kind : CmdKind) (old new : X) : Type 0 where
  cursor_stayed : DrewNothing e old new → CursorWay e kind old new
  cursor_went : has_highlighting (e.environment old) (e.display old) (e.draft new).line kind ≡ false → DrewCursorAlone e kind old new → CursorWay e kind old new
  cursor_redrew : has_highlighting (e.environment old) (e.display old) (e.draft new).line kind ≡ true → DrewLine e 1 None kind old new → CursorWay e kind old new

-- the kept cursor, if it was that of the old line, is that of the new one; where it was so already, nothing was drawn
pub record DrewCursor {X : Type 0} (e : Ghosts X) (kind : CmdKind) (old new : X) : Type 0 where
  pub way : CursorWay e kind old new
  pub still : HasCursorDrawn e old → HasCursorAt (e.display old) (e.draft new).line → DrewNothing e old new
  pub placed : HasCursorDrawn e old → HasCursorDrawn e new

-- the cursor was drawn on the way to where the line's is, and then there
pub record DrewCursorOver {X : Type 0} (e : Ghosts X) (line : Line) (old new : X) : Type 0 where
  pub way : X
  pub on_way : (e.draft way).line ≡ line
  pub frame : Frame e old way
  pub first : DrewCursor e MoveCursor old way
  pub second : DrewCursor e MoveCursor way new

-- the kept cursor moved to the kept end; all else that is kept stays, and so does what is shown, and what is known where the renderer
-- stood at the kept cursor
pub record DrewCursorAtEnd {X : Type 0} (e : Ghosts X) (old new : X) : Type 0 where
  pub layout : (e.display new).layout ≡ record (e.display old).layout { cursor = (e.display old).layout.end }
  pub known : IsInPlace e old → StaysKnown e old new
  pub shows : KeepsShown (e.display old).screen (e.display new).screen
  pub lit : (e.display new).lit ≡ (e.display old).lit
  pub redraws : e.redraws new ≡ e.redraws old

-- this was drawn: a line with so many full redraws, anything else as its own record says
abbrev pub Drew : {X : Type 0} → Ghosts X → ℕ → Drawing → X → X → Type 0
Drew e times nothing old new = DrewNothing e old new
Drew e times with_hint old new = DrewLine e times (hint_shown (e.draft new)) Other old new
Drew e times (with_text trailing kind) old new = DrewLine e times trailing kind old new
Drew e times (behind_prompt prompt) old new = DrewBehind e times prompt old new
Drew e times (in_part position) old new = DrewPart e position old new
Drew e times (cursor kind) old new = DrewCursor e kind old new
Drew e times (cursor_over line) old new = DrewCursorOver e line old new
Drew e times cursor_to_end old new = DrewCursorAtEnd e old new

-- what is drawn of an edit: the line with its hint where the edit was reported, and else the cursor
abbrev pub edit_drawn : Bool → Drawing
edit_drawn reported = if reported then with_hint else cursor MoveCursor

-- the line with its hint, where there is something to draw
abbrev pub drawn_if : Bool → Drawing
drawn_if found = if found then with_hint else nothing

-- what is drawn of a change: where it is a plain one only what changed, and else the line with its hint
abbrev pub change_drawn : Bool → Position → Drawing
change_drawn plainly position = if plainly then in_part position else with_hint

-- nothing is drawn and no failure is counted: only the draft may change
pub record Undrawn {X : Type 0} (e : Ghosts X) (old new : X) : Type 0 where
  pub drew : DrewNothing e old new
  pub failures : e.failures new ≡ e.failures old
  pub frame : Frame e old new

-- after an error the kept layout is the one from before
abbrev pub KeepsLayoutOnErr : {X T : Type 0} → Ghosts X → Result T ReadlineError → X → X → Type 0
KeepsLayoutOnErr e result old new = OnErr result ((e.display new).layout ≡ (e.display old).layout)

-- after an error the draft is the one from before, or the one that was to be drawn
abbrev pub KeepsDraftOnErr : {X T : Type 0} → Ghosts X → Result T ReadlineError → X → X → Draft → Type 0
KeepsDraftOnErr e result old new left = OnErr result ((e.draft new ≡ e.draft old) ⊎ (e.draft new ≡ left))

-- what a call leaves that only draws, once in full or never: the draft and the last answer of `highlight_char` stay, and after an error
-- the kept layout
pub record Paints {X T : Type 0} (e : Ghosts X) (in_full : Bool) (result : Result T ReadlineError) (old new : X) : Type 0 where
  pub draft : e.draft new ≡ e.draft old
  pub lit : (e.display new).lit ≡ (e.display old).lit
  pub kept : KeepsLayoutOnErr e result old new
  pub redraws : MatchBool in_full (OnOk result (Redraws e 1 1 old new)) (e.redraws new ≡ e.redraws old)
  pub frame : Frame e old new
  pub fails : FailsByRenderer e result old new

-- what each refresh leaves: the draft, and all of it but the hint in any case; and what it draws. After an error the draft is the one
-- from before or the one that was to be drawn, and the kept layout stays
pub record Refreshes {X T : Type 0} (e : Ghosts X) (result : Result T ReadlineError) (old new : X) (left : Draft) (drawing : Drawing) : Type 0 where
  pub draft : OnOk result (e.draft new ≡ left)
  pub err : KeepsDraftOnErr e result old new left
  pub text : KeepsText (e.draft old) (e.draft new)
  pub drew : OnOk result (Drew e 1 drawing old new)
  pub kept : KeepsLayoutOnErr e result old new
  pub frame : Frame e old new
  pub fails : FailsByParty e (asked_by drawing) result old new

-- the text changed by plain typing or by a plain kill, and nothing was drawn in full
pub record ChangedPlainly {X : Type 0} (e : Ghosts X) (old new : X) : Type 0 where
  pub plainly : TypedPlainly (e.environment old) (e.display old) (e.draft old) (e.draft new)
      ⊎ KilledPlainly (e.environment old) (e.display old) (e.draft old) (e.draft new)
  pub redraws : e.redraws new ≡ e.redraws old

-- the text did not change; or it was drawn in full with its hint, with so many full redraws at most; or in part, where it changed
-- plainly
pub data ShowsChange {X : Type 0} (e : Ghosts X) (most : ℕ) (old new : X) : Type 0 where
  text_same : (e.draft new).line.text ≡ (e.draft old).line.text → ShowsChange e most old new
  drawn_in_full : Shows e new (hint_shown (e.draft new)) → Redraws e 1 most old new → ShowsChange e most old new
  drawn_plainly : ChangedPlainly e old new → ShowsChange e most old new

-- what a call leaves that edits the line or moves its cursor: the draft, and the text that taking back all changes restores; and what it
-- draws, a line with so many full redraws: what is drawn stays good, and a changed text is drawn; of the helper and the history, those in
-- `asks` alone may cause an error of input or output. After a fault the draft is that of a moment of the call, but for its hint: before
-- it, halfway or after it; or, where memory ran out, one that has lost its changes. After any error the kept prompt is the one from
-- before, or the own one
pub record DoesInTwo {X T : Type 0} (e : Ghosts X) (asks : Asks) (result : Result T ReadlineError) (old new : X) (halfway left : Draft) (drawing : Drawing) (times : ℕ) : Type 0 where
  pub draft : OnOk result (e.draft new ≡ left)
  pub fault : FaultLeaves result (e.environment old) (e.draft old) halfway left (e.draft new)
  pub start : OnOk result (start_text (e.draft new) ≡ start_text (e.draft old))
  pub drew : OnOk result (Drew e times drawing old new)
  pub keeps : OnOk result (KeepsDrawn e old new)
  pub change : OnOk result (ShowsChange e times old new)
  pub prompt : OnErr result (KeepsPrompt (e.display old) (e.display new))
  pub frame : Frame e old new
  pub fails : FailsByParty e asks result old new

-- the same of a call that changes the line once
abbrev pub DoesAsking : {X T : Type 0} → Ghosts X → Asks → Result T ReadlineError → X → X → Draft → Drawing → ℕ → Type 0
DoesAsking e asks result old new left drawing times = DoesInTwo e asks result old new (e.draft old) left drawing times

-- the same of a call that asks for what it draws alone
abbrev pub Does : {X T : Type 0} → Ghosts X → Result T ReadlineError → X → X → Draft → Drawing → ℕ → Type 0
Does e result old new left drawing times = DoesAsking e (asked_by drawing) result old new left drawing times

-- what showing a change of the line's end leaves: the hint is asked again; where there is none and no highlighting, only what changed is
-- drawn, and the line then ends at this position; else the line is drawn in full with its hint; all but the hint stays in any case
pub record ShowsEnd {X T : Type 0} (e : Ghosts X) (result : Result T ReadlineError) (old new : X) (position : Position) : Type 0 where
  pub draft : OnOk result (e.draft new ≡ hinted (e.environment old) (e.draft old))
  pub err : KeepsDraftOnErr e result old new (hinted (e.environment old) (e.draft old))
  pub text : KeepsText (e.draft old) (e.draft new)
  pub drew : OnOk result (Drew e 1 (change_drawn (leaves_bare (e.environment old) (e.display old) (hinted (e.environment old) (e.draft old))) position) old new)
  pub kept : OnErr result (SamePrompt (e.display old) (e.display new))
  pub frame : Frame e old new
  pub fails : FailsByParty e for_hint result old new

-- what taking the screen cursor to a position leaves: the draft as it was, and a right layout where the position is that of the line's
-- cursor
pub record PutsCursorAt {X T : Type 0} (e : Ghosts X) (result : Result T ReadlineError) (old new : X) (kind : CmdKind) (position : Position) : Type 0 where
  pub draft : e.draft new ≡ e.draft old
  pub way : OnOk result (CursorWay e kind old new)
  pub still : (e.display old).layout.cursor ≡ position → OnOk result (DrewNothing e old new)
  pub right : position ≡ cursor_position (e.display old).surface.measure (e.display old).prompt_end (e.draft old).line
      → ShowsText (e.display old) (e.draft old).line.text → OnOk result (HasRightLayout e new)
  pub placed : position ≡ cursor_position (e.display old).surface.measure (e.display old).prompt_end (e.draft old).line
      → OnOk result (HasCursorDrawn e new)
  pub kept : KeepsLayoutOnErr e result old new
  pub frame : Frame e old new
  pub fails : FailsByRenderer e result old new

-- what drawing the cursor leaves: the draft as it was, and the kept cursor where the line's is
pub record DrawsCursor {X T : Type 0} (e : Ghosts X) (result : Result T ReadlineError) (old new : X) (kind : CmdKind) : Type 0 where
  pub draft : e.draft new ≡ e.draft old
  pub drew : OnOk result (DrewCursor e kind old new)
  pub placed : OnOk result (HasCursorDrawn e new)
  pub right : OnOk result (ShowsText (e.display old) (e.draft old).line.text → IsRight (e.display new) (e.draft old).line)
  pub kept : KeepsLayoutOnErr e result old new
  pub frame : Frame e old new
  pub fails : FailsByRenderer e result old new

-- what showing an edit leaves: where it was reported the hint is asked again and the line is drawn in full with it; else the screen cursor
-- goes to the line's; all but the hint stays in any case
pub record ShowsEdit {X T : Type 0} (e : Ghosts X) (edited : Bool) (result : Result T ReadlineError) (old new : X) : Type 0 where
  pub draft : OnOk result (e.draft new ≡ (if edited then hinted (e.environment old) (e.draft old) else e.draft old))
  pub err : KeepsDraftOnErr e result old new (hinted (e.environment old) (e.draft old))
  pub text : KeepsText (e.draft old) (e.draft new)
  pub drew : OnOk result (Drew e 1 (edit_drawn edited) old new)
  pub placed : OnOk result (HasCursorDrawn e new)
  pub right : OnOk result (ShowsText (e.display old) (e.draft old).line.text → IsRight (e.display new) (e.draft old).line)
  pub kept : KeepsLayoutOnErr e result old new
  pub frame : Frame e old new
  pub fails : FailsByParty e (asked_by (edit_drawn edited)) result old new

-- what a move of the cursor leaves: after an error too, the draft with this line, which has the old text; and the cursor drawn, or after
-- an error the kept layout as it was
pub record MovesTo {X T : Type 0} (e : Ghosts X) (result : Result T ReadlineError) (old new : X) (kind : CmdKind) (line : Line) : Type 0 where
  pub draft : e.draft new ≡ record (e.draft old) { line = line }
  pub text : (e.draft new).line.text ≡ (e.draft old).line.text
  pub start : start_text (e.draft new) ≡ start_text (e.draft old)
  pub drew : OnOk result (DrewCursor e kind old new)
  pub keeps : OnOk result (KeepsDrawn e old new)
  pub kept : KeepsLayoutOnErr e result old new
  pub frame : Frame e old new
  pub fails : FailsByRenderer e result old new
