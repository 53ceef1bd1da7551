-- What turns leave that were taken one after another.
use Rattle.std.specs.Prelude.{◌≡◌, Bool, true, false, if◌then◌else◌, List, ◌∷◌, Option, Some, None, string_bytes}
use Rattle.line_buffer.specs.KillRing.{Ring}
use Rattle.line_config.specs.Settings.{Settings}
use Rattle.line_keys.specs.Model.Draft.{Draft, hinted}
use Rattle.line_keys.specs.Model.Frame.{Frame}
use Rattle.line_keys.specs.Item.{Item, key, paste}
use Rattle.line_keys.specs.Model.ShownLine.{HasRightLayout, HasShownEnd, IsAtEnd, IsInPlace, ShowsNoHint}
use Rattle.line_keys.specs.declared.editor_state.EditorState as editors
use Rattle.line_keys.specs.declared.raw_reader.RawReader as readers
use Rattle.line_editor.specs.Editor.{Leaves, ended, interrupted, own_ruler, proceeds, submitted}
use Rattle.line_editor.specs.Input.{Input}
use Rattle.line_editor.specs.ItemShown.{any_drawn}
use Rattle.line_editor.specs.Keymap.{Keymap, keymap_of}
use Rattle.line_editor.specs.Outcomes.{NeedsMoreItems, Session, editor_of}
use Rattle.line_editor.specs.Run.{ready}
use Rattle.line_editor.specs.Step.{step}
use Rattle.line_editor.specs.declared.run.Turned.{Turned}
use Rattle.line_editor.specs.declared.run.Turned.TheVariants as turned
use Rattle.line_session.specs.Kept.{IsShownBy, IsShownByMode, IsShownWithItems}
use Rattle.line_session.specs.Steps.{StepsEnd, NoneComesIn, Rules, Standing, TurnFrom, Waits, as_it_is, comes_in, shows_line, starting}
use Rattle.line_session.specs.declared.mode.AsItIs.{AsItIs}
use Rattle.line_session.specs.declared.mode.AsItIs.TheVariants as as_is
use Rattle.line_session.specs.Completing.{Replies, reply_by}
use Rattle.line_session.specs.declared.mode.Mode.{Mode}
use Rattle.line_session.specs.declared.mode.Mode.TheVariants as modes

-- reading waits for items; and something is shown of those that are no phrase yet only where it was drawn
pub record WaitsBehind (settled : Bool) (by : Rules) (start left : Standing) : Type 0 where
  pub waits : Waits by start left
  pub drawn : settled ≡ false → any_drawn waits.shown ≡ true

-- whether the line need not be drawn before the next key is read: it stands after its own prompt, or the mode does not show it there
abbrev pub is_settled : Mode → Bool → Bool
is_settled mode own_prompt = if shows_line mode then own_prompt else true

-- how turns end that were taken in a call: with the answer of the last one; or where more items are awaited
abbrev pub TurnsComeTo : Bool → Rules → Standing → Standing → Turned → Type 0
TurnsComeTo settled by start end turned.Proceeds = ⊥
TurnsComeTo settled by start end turned.Submitted = StepsEnd by false start end submitted
TurnsComeTo settled by start end turned.Ended = StepsEnd by false start end ended
TurnsComeTo settled by start end turned.Interrupted = StepsEnd by false start end interrupted
TurnsComeTo settled by start end turned.NeedsMore = WaitsBehind settled by start end

-- an item that is put in as it is, as the reader returns it
abbrev pub item_as_it_is : AsItIs → Item
item_as_it_is (as_is.Key typed) = key typed
item_as_it_is (as_is.Text text) = paste (string_bytes text)

-- the next item was taken, where it is taken by itself; and none where it is read as part of a command, or nothing is left
abbrev pub TakesAsItIs : Mode → Option Item → List Item → List Item → Type 0
TakesAsItIs mode (Some item) old new = (old ≡ item ∷ new) × (comes_in mode item ≡ true)
TakesAsItIs mode None old new = NoneComesIn mode old × (new ≡ old)

module _ {X : Type 0} (e : editors.Ghosts X) where
  -- the line is shown, and the kept layout is right
  abbrev pub IsLineShown : X → Type 0
  IsLineShown state = IsShownBy (e.environment state) (e.display state) (e.draft state)

  -- the line is shown as it is in a mode
  abbrev pub IsShownIn : Mode → X → Type 0
  IsShownIn mode state = IsShownByMode mode (e.environment state) (e.display state) (e.draft state)

  -- the same with these items, which are no command yet
  abbrev pub IsShownWith : Mode → List Item → X → Type 0
  IsShownWith mode items state = IsShownWithItems mode items (e.environment state) (e.display state) (e.draft state)

  -- what is drawn once turns have ended: after a submit or an end the line without a hint; after an interrupt the cursor stands at the end
  -- of what is shown; and where more is awaited after these items the line is shown, unless it is drawn before the next key
  abbrev pub DrawnOnce : Mode → List Item → Turned → X → Type 0
  DrawnOnce mode items turned.Proceeds state = ⊥
  DrawnOnce mode items turned.Submitted state = HasRightLayout e state × ShowsNoHint e state
  DrawnOnce mode items turned.Ended state = HasRightLayout e state × ShowsNoHint e state
  DrawnOnce mode items turned.Interrupted state = IsAtEnd e state × IsInPlace e state × HasShownEnd e state
  DrawnOnce mode items turned.NeedsMore state = is_settled mode (e.display state).layout.default_prompt ≡ true → IsShownWith mode items state

  -- an item was put into a draft as it is, after the own prompt
  abbrev pub PutsIn : Settings → Input → Item → X → Draft → Ring → X → Ring → Type 0
  PutsIn settings input item old draft kills new kills' =
      Leaves (step (own_ruler (e.display old) settings.indent_size) (e.environment old) input (ready (as_it_is item) draft kills) (as_it_is item))
      (editor_of e new kills') proceeds

  -- an item was taken by itself
  abbrev pub TakesItem : Settings → Input → Mode → Item → X → Ring → X → Ring → Mode → Type 0
  TakesItem settings input (modes.Listing listing) item old kills new kills' next =
      Replies (e.environment old) listing (reply_by listing.next item) (e.draft old) (e.draft new) next × (kills' ≡ kills)
  TakesItem settings input (modes.Searching searching) item old kills new kills' next =
      PutsIn settings input item old (hinted (e.environment old) (e.draft old)) kills new kills' × (next ≡ modes.Editing)
  TakesItem settings input mode item old kills new kills' next =
      PutsIn settings input item old (e.draft old) kills new kills' × (next ≡ modes.Editing)

  -- what is drawn after one turn, before which there were these items: where it proceeds the line, as it is in the next mode; and else what
  -- is drawn once turns have ended
  abbrev pub DrawnBehind : List Item → Mode → Turned → X → Type 0
  DrawnBehind items next turned.Proceeds state = IsShownIn next state
  DrawnBehind items next done state = DrawnOnce next items done state

  -- what the commands of a state are executed by, and read by a keymap
  abbrev pub rules_by : Keymap → Settings → X → Rules
  rules_by keymap settings state = record {
    keymap = keymap;
    ruler = own_ruler (e.display state) settings.indent_size;
    environment = e.environment state;
    settings = settings;
  }

module _ {X Y : Type 0} (e : editors.Ghosts X) (r : readers.Ghosts Y) where
  -- what the commands of a session are read and executed by
  abbrev pub session_rules : Settings → Session X Y → Rules
  session_rules settings session =
      rules_by e (keymap_of session.keys (r.own_binding (r.kept session.reader))) settings session.state

  -- what stays of a session while turns are taken: what commands are read and executed by, and what no command changes of the editor
  pub record KeepsRules (before after : Session X Y) : Type 0 where
    pub frame : Frame e before.state after.state
    pub own : r.own_binding (r.kept after.reader) ≡ r.own_binding (r.kept before.reader)
    pub bound : after.keys.bound ≡ before.keys.bound

  -- where the reading of a session stands, whose items are read so
  abbrev pub standing_of : Mode → Session X Y → Standing
  standing_of mode session = record {
    editor = editor_of e session.state session.kills;
    input = session.keys.input;
    items = r.rest session.reader;
    mode = mode;
  }

  -- how one turn ended of a session, and what items are read as then: a phrase was read, and its command done; or the items are no phrase
  -- yet, and the mode stays
  abbrev pub TakesOne : Settings → Mode → Session X Y → Turned → Mode → Session X Y → Type 0
  TakesOne settings mode before turned.NeedsMore next after = NeedsMoreItems e r before after × (next ≡ mode)
  TakesOne settings mode before turned.Proceeds next after =
      TurnFrom (session_rules settings before) (standing_of mode before) (standing_of next after) proceeds
  TakesOne settings mode before turned.Submitted next after =
      TurnFrom (session_rules settings before) (standing_of mode before) (standing_of next after) submitted × (next ≡ modes.Editing)
  TakesOne settings mode before turned.Ended next after =
      TurnFrom (session_rules settings before) (standing_of mode before) (standing_of next after) ended × (next ≡ modes.Editing)
  TakesOne settings mode before turned.Interrupted next after =
      TurnFrom (session_rules settings before) (standing_of mode before) (standing_of next after) interrupted × (next ≡ modes.Editing)

  -- where the steps of a call begin that finds a session in a mode
  abbrev pub start_of : Bool → Mode → Session X Y → Standing
  start_of draws mode session = starting (e.environment session.state) draws (standing_of mode session)
