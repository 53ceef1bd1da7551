-- What an editor keeps between two calls, and what becomes of a line as it reads items.
use Rattle.std.specs.Prelude.{◌≡◌, ◌⊎◌, ◌++◌, ℕ, Bool, true, false, if◌then◌else◌, List, length, Option, Some, None, is_some, option_map, unwrap_or, Result, Ok, string_bytes}
use Rattle.line_buffer.specs.KillRing.{Ring, other, with_last}
use Rattle.line_buffer.specs.declared.layout.GraphemeClusterMode.TheVariants.{Unicode}
use Rattle.line_buffer.specs.Line.{Line}
use Rattle.line_config.specs.Settings.{Settings}
use Rattle.line_config.specs.declared.error.ReadlineError.{ReadlineError}
use Rattle.line_keys.specs.Model.Display.{corner}
use Rattle.line_keys.specs.Model.Draft.{Draft, empty_draft}
use Rattle.line_keys.specs.Item.{Item}
use Rattle.line_parts.specs.Environment.{Environment}
use Rattle.line_parts.specs.History.{HistoryRules, added}
use Rattle.line_screen.specs.KeyQueue.{queue_binding}
use Rattle.line_screen.specs.Measure.{measured}
use Rattle.line_editor.specs.Binding.{Bound}
use Rattle.line_editor.specs.Editor.{Answer, ended, interrupted, submitted}
use Rattle.line_editor.specs.Input.{Input, first_input}
use Rattle.line_editor.specs.ItemShown.{any_drawn}
use Rattle.line_editor.specs.Released.{KeptDraft}
use Rattle.line_editor.specs.declared.run.Turned.{Turned}
use Rattle.line_editor.specs.declared.run.Turned.TheVariants as turned
use Rattle.line_term.specs.Decoder as decoding
use Rattle.line_session.specs.Steps.{StepsEnd, Rules, Standing, Waits, is_suspended, starting, once_resized}
use Rattle.line_session.specs.declared.editor.Fed.{Fed}
use Rattle.line_session.specs.declared.editor.Fed.TheVariants as fed
use Rattle.line_session.specs.declared.mode.Mode.{Mode}
use Rattle.line_session.specs.declared.mode.Mode.TheVariants.{Editing}

-- a line that has begun: what is kept of it, what reading keys remembers, what they are read as, and whether the line is drawn before the
-- next key is read
pub record BegunLine : Type 0 where
  pub kept : KeptDraft
  pub input : Input
  pub mode : Mode
  pub draws : Bool

-- the line that has begun, if one has, and the prompt of the last one that began; the lines of the history and which ones it takes; the kill
-- ring; the items that are left to read, and whether the queue of them binds keys; what the bytes that were read have left; the helper; the
-- settings; and the columns and the rows
pub record Sitting (H : Type 0) : Type 0 where
  pub line : Option BegunLine
  pub prompt : List ℕ
  pub lines : List (List ℕ)
  pub takes : HistoryRules
  pub kills : Ring
  pub items : List Item
  pub binds : Bool
  pub decoder : decoding.DecoderState
  pub helper : H
  pub settings : Settings
  pub columns : ℕ
  pub rows : ℕ

-- the draft of the line that has begun, what reading keys remembers, and the mode after a resize, if a line has begun
abbrev pub written_so_far : {H : Type 0} → Sitting H → Option (Draft × Input × Mode)
written_so_far sitting = option_map (λ (begun : BegunLine). (begun.kept.draft, begun.input, once_resized begun.mode)) sitting.line

-- whether the program is suspended
abbrev pub suspends : {H : Type 0} → Sitting H → Bool
suspends sitting = unwrap_or (option_map (λ (begun : BegunLine). is_suspended begun.mode) sitting.line) false

-- the line that has begun is drawn before the next key is read
abbrev pub to_be_drawn : {H : Type 0} → Sitting H → Sitting H
to_be_drawn sitting = record sitting { line = option_map (λ (begun : BegunLine). record begun { draws = true }) sitting.line }

-- all stays, but that the line may be drawn before the next key is read
abbrev pub StaysOrDraws : {H : Type 0} → Sitting H → Sitting H → Type 0
StaysOrDraws old new = (new ≡ old) ⊎ (new ≡ to_be_drawn old)

-- nothing is lost where a call fails: the line that had begun is there, if one had, and so are the lines of the history
pub record LosesNothing {H : Type 0} (old new : Sitting H) : Type 0 where
  pub line : is_some new.line ≡ is_some old.line
  pub lines : new.lines ≡ old.lines

-- the text of the line that has begun, if one has
abbrev pub line_text : {H : Type 0} → Sitting H → Option (List ℕ)
line_text sitting = option_map (λ (begun : BegunLine). begun.kept.draft.line.text) sitting.line

-- whether the line goes on after turns that ended so
abbrev pub line_goes_on : Result Turned ReadlineError → Bool
line_goes_on (Ok turned.Proceeds) = true
line_goes_on (Ok turned.NeedsMore) = true
line_goes_on _ = false

-- a turn of the bytes, a pause or the end among them: its items stand after those that are left
abbrev pub with_turn : {H : Type 0} → decoding.DecoderTurn → Sitting H → Sitting H
with_turn turn sitting = record sitting { items = sitting.items ++ turn.items; decoder = turn.after }

-- what commands are read and executed by: bindings, and whether the queue binds keys; the settings; the column where the prompt ends; and
-- those who answer
abbrev pub rules_for : Bound → Bool → Settings → ℕ → Environment → Rules
rules_for bound binds settings column environment = record {
  keymap = record { bound = bound; own = queue_binding binds };
  ruler = record { prompt_column = column; cluster_mode = Unicode; indent_size = settings.indent_size };
  environment = environment;
  settings = settings;
}

-- where reading stands with a draft, what is remembered of keys, what items are read as, those that are left, and the kill ring
abbrev pub standing_with : Draft → Input → Mode → List Item → Ring → Standing
standing_with draft input mode items kills = record {
  editor = record { draft = draft; kills = kills };
  input = input;
  items = items;
  mode = mode;
}

-- a line with a text before the cursor and one after it
abbrev pub line_with : List ℕ → List ℕ → Line
line_with left right = record { text = left ++ right; cursor = length left }

-- the draft of a line that begins with a text before the cursor and one after it
abbrev pub begun_with : List ℕ → List ℕ → List (List ℕ) → Draft
begun_with left right lines = record (empty_draft (length lines)) { line = line_with left right }

-- where reading stands of a line that begins: nothing is remembered of keys, commands are read, and a kill joins none of those before
abbrev pub first_standing : {H : Type 0} → List ℕ → List ℕ → Sitting H → Standing
first_standing left right old = standing_with (begun_with left right old.lines) (first_input old.settings.edit_mode) Editing old.items (with_last old.kills other)

module _ {H : Type 0} where
  -- the line has ended by this answer: it is gone, and what is left are the items and the kill ring of its end
  pub record LineHasEnded (by : Rules) (over_calls : Bool) (start : Standing) (new : Sitting H) (answer : Answer) : Type 0 where
    pub end : Standing
    pub ends : StepsEnd by over_calls start end answer
    pub gone : new.line ≡ None
    pub kills : new.kills ≡ end.editor.kills
    pub items : new.items ≡ end.items

  -- the line was submitted with this text, which is in the history where the settings say so
  pub record SubmitsLine (by : Rules) (over_calls : Bool) (start : Standing) (old new : Sitting H) (text : List ℕ) : Type 0 where
    pub ends : LineHasEnded by over_calls start new submitted
    pub text_left : text ≡ ends.end.editor.draft.line.text
    pub lines : new.lines ≡ (if old.settings.auto_add_history then added old.takes old.lines text else old.lines)

  -- the line goes on: more items are awaited, and it is drawn anew only where something was drawn of those that are no phrase yet
  pub record LineGoesOn (by : Rules) (start : Standing) (new : Sitting H) : Type 0 where
    pub left : BegunLine
    pub line : new.line ≡ Some left
    pub waits : Waits by start (standing_with left.kept.draft left.input left.mode new.items new.kills)
    pub drawn : left.draws ≡ true → any_drawn waits.shown ≡ true
    pub column : left.kept.drawing.prompt_end.col ≡ by.ruler.prompt_column

  -- what became of a line whose turns were taken, in a call or over several, from where the first one began
  abbrev pub CameFrom : Rules → Bool → Standing → Sitting H → Sitting H → Fed → Type 0
  CameFrom by over_calls start old new fed.More = LineGoesOn by start new × (new.lines ≡ old.lines)
  CameFrom by over_calls start old new (fed.Submitted text) = SubmitsLine by over_calls start old new (string_bytes text)
  CameFrom by over_calls start old new fed.Ended = LineHasEnded by over_calls start new ended × (new.lines ≡ old.lines)
  CameFrom by over_calls start old new fed.Interrupted = LineHasEnded by over_calls start new interrupted × (new.lines ≡ old.lines)

  -- the line that has begun ends as its last command says: it goes on; it is submitted with its text, which is in the history where the
  -- settings say so; or it is dropped
  abbrev pub LineEndsAs : Result Turned ReadlineError → Sitting H → Sitting H → Fed → Type 0
  LineEndsAs done old new fed.More = (line_goes_on done ≡ true) × (new ≡ old)
  LineEndsAs done old new (fed.Submitted text) = (done ≡ Ok turned.Submitted) × (Some (string_bytes text) ≡ line_text old) × (new ≡ record old {
    line = None;
    lines = if old.settings.auto_add_history then added old.takes old.lines (string_bytes text) else old.lines;
  })
  LineEndsAs done old new fed.Ended = (done ≡ Ok turned.Ended) × (new ≡ record old { line = None })
  LineEndsAs done old new fed.Interrupted = (done ≡ Ok turned.Interrupted) × (new ≡ record old { line = None })

  module _ (answers : H → List (List ℕ) → Environment) where
    module _ (bound : Bound) where
      -- what the commands of a line are read and executed by, whose prompt ends in this column
      abbrev pub rules_at : Sitting H → ℕ → Rules
      rules_at old column = rules_for bound old.binds old.settings column (answers old.helper old.lines)

      -- what became of the line that has begun
      abbrev pub Came : Sitting H → BegunLine → Sitting H → Fed → Type 0
      Came old begun = CameFrom (rules_at old begun.kept.drawing.prompt_end.col) false
          (starting (answers old.helper old.lines) begun.draws
          (standing_with begun.kept.draft begun.input begun.mode old.items old.kills)) old

      -- what became of a line that began after a prompt, with these texts before and after the cursor
      abbrev pub CameBegun : List ℕ → List ℕ → List ℕ → Sitting H → Sitting H → Fed → Type 0
      CameBegun prompt left right old = CameFrom (rules_at old (measured old.columns prompt corner).col) false
          (starting (answers old.helper old.lines) true (first_standing left right old)) old

    -- what stays while turns are taken: the prompt, those who answer, the lines that the history takes, the keys that the queue binds, what
    -- the bytes have left, the settings, the columns and the rows
    pub record Keeps (old new : Sitting H) : Type 0 where
      pub prompt : new.prompt ≡ old.prompt
      pub answers_alike : (lines : List (List ℕ)) → answers new.helper lines ≡ answers old.helper lines
      pub takes : new.takes ≡ old.takes
      pub own : queue_binding new.binds ≡ queue_binding old.binds
      pub decoder : new.decoder ≡ old.decoder
      pub settings : new.settings ≡ old.settings
      pub columns : new.columns ≡ old.columns
      pub rows : new.rows ≡ old.rows

    -- a line begins after a prompt, with these texts before and after the cursor: it is to be drawn
    pub record StartsWith (prompt left right : List ℕ) (old new : Sitting H) : Type 0 where
      pub begun : BegunLine
      pub line : new.line ≡ Some begun
      pub draft : begun.kept.draft ≡ begun_with left right old.lines
      pub input : begun.input ≡ first_input old.settings.edit_mode
      pub mode : begun.mode ≡ Editing
      pub draws : begun.draws ≡ true
      pub prompt_end : begun.kept.drawing.prompt_end ≡ measured old.columns prompt corner
      pub lines : new.lines ≡ old.lines
      pub kills : new.kills ≡ with_last old.kills other
      pub items : new.items ≡ old.items
      pub keeps : Keeps (record old { prompt = prompt }) new

    -- where a line cannot begin all stays, but that the line before may be drawn anew; where it has begun nothing is lost
    abbrev pub BeginsOrStays : List ℕ → List ℕ → List ℕ → Sitting H → Sitting H → Type 0
    BeginsOrStays prompt left right old new = StaysOrDraws old new
        ⊎ ((begun : Sitting H) × StartsWith prompt left right old begun × LosesNothing begun new)
