-- What a host's session holds, and what its calls lead to.
use Rattle.std.specs.Prelude.{◌≡◌, ◌≢◌, ◌<◌, ◌⊎◌, ℕ, Bool, MatchOption, IfErr, OnOk, is_some, true, false, if◌then◌else◌, List, Option, Some, None, Result, Ok, Err, String, string_bytes}
use Rattle.std.specs.Option.{option_or}
use Rattle.std.specs.declared.alloc.Global.{Global}
use Rattle.line_config.specs.Error.{FaultsOnly}
use Rattle.line_config.specs.declared.error.ReadlineError.{ReadlineError}
use Rattle.std.specs.Str.{IsUtf8}
use Rattle.line_parts.specs.Environment.{Environment}
use Rattle.line_editor.specs.Binding.{Bound, Rebinds}
use Rattle.line_editor.specs.Binding as binding
use Rattle.line_term.specs.Decoder.{DecoderTurn}
use Rattle.line_keys.specs.Command.{Command}
use Rattle.line_parts.specs.History.{added, settled}
use Rattle.line_parts.specs.HistoryText.{to_save}
use Rattle.line_parts.specs.declared.escaped_line.Escapes.TheVariants.{V3}
use Rattle.line_editor.specs.Event.{Chord}
use Rattle.line_session.specs.Filed.{Files, LoadsText}
use Rattle.line_session.specs.Sitting.{BeginsOrStays, BegunLine, Came, CameBegun, Keeps, LosesNothing, Sitting, to_be_drawn, suspends, line_text, with_turn, written_so_far}
use Rattle.line_session.specs.declared.editor.Fed.{Fed}
use Rattle.line_session.specs.declared.editor.Fed.TheVariants as fed
use Rattle.line_host.specs.Bound.{BoundCommands, bound}
use Rattle.line_host.specs.Names.{command_named}
use Rattle.line_host.specs.Status.{IsDoneOrFault, ReportsFault, MayBind, loading_status_of}
use Rattle.line_host.specs.declared.status.Status.{Status}
use Rattle.line_host.specs.declared.status.Status.TheVariants as status

-- a session: its editor; the commands that are bound to keys; the line that was submitted last, if one was; the bytes that are to be written to
-- the terminal, of those that are taken at the moment; and those of a saved history
pub record Hosted (H : Type 0) : Type 0 where
  pub editor : Sitting H
  pub commands : BoundCommands
  pub submitted : Option (List ℕ)
  pub output : List ℕ
  pub saved : List ℕ

-- these are texts: a prompt without styles and with them, and what stands before and after the cursor
abbrev pub AreLineTexts : List ℕ → List ℕ → List ℕ → List ℕ → Type 0
AreLineTexts prompt styled left right = IsUtf8 prompt × IsUtf8 styled × IsUtf8 left × IsUtf8 right

module _ {H : Type 0} where
  -- the same session with another editor
  abbrev pub with_editor : Sitting H → Hosted H → Hosted H
  with_editor editor old = record old { editor = editor }

  -- what became of a line, by its status: it goes on, or the program is suspended; it was submitted with its text; it ended or was interrupted;
  -- or there was a fault, and something is left
  abbrev pub CameTo : (Fed → Type 0) → Type 0 → Hosted H → Hosted H → Status → Type 0
  CameTo Comes Left old new status.Done = Comes fed.More × (suspends new.editor ≡ false) × (new ≡ with_editor new.editor old)
  CameTo Comes Left old new status.Suspended = Comes fed.More × (suspends new.editor ≡ true) × (new ≡ with_editor new.editor old)
  CameTo Comes Left old new status.Submitted =
      (text : String Global) × Comes (fed.Submitted text) × (new ≡ record (with_editor new.editor old) { submitted = Some (string_bytes text) })
  CameTo Comes Left old new status.Ended = Comes fed.Ended × (new ≡ with_editor new.editor old)
  CameTo Comes Left old new status.Interrupted = Comes fed.Interrupted × (new ≡ with_editor new.editor old)
  CameTo Comes Left old new other = ReportsFault other × Left × (new ≡ with_editor new.editor old)

  -- the text of the line that goes on, or else of the one that was submitted last, if one was
  abbrev pub line_of : Hosted H → Option (List ℕ)
  line_of session = option_or (line_text session.editor) session.submitted

  -- the line is dropped, which this status reports; or there was a fault, and the line is drawn anew at the next call
  abbrev pub Drops : Status → Hosted H → Hosted H → Status → Type 0
  Drops asked old new came = ((came ≡ asked) × (new ≡ with_editor (record old.editor { line = None }) old))
      ⊎ (ReportsFault came × (new ≡ with_editor (to_be_drawn old.editor) old))

  -- the line that goes on is dropped, if one does
  pub record Abandons (old new : Hosted H) (came : Status) : Type 0 where
    pub no_line : old.editor.line ≡ None → (came ≡ status.NoLine) × (new ≡ old)
    pub drops : is_some old.editor.line ≡ true → Drops status.Done old new came

  -- a line was added to the history, by its rules; not while a line goes on, nor where it is no text or there was a fault
  pub record AddsLine (line : List ℕ) (old new : Hosted H) (came : Status) : Type 0 where
    pub adds : came ≡ status.Done → new ≡ with_editor (record old.editor { lines = added old.editor.takes old.editor.lines line }) old
    pub kept : came ≢ status.Done → new ≡ old
    pub has_line : is_some old.editor.line ≡ true → came ≡ status.HasLine
    pub answers : old.editor.line ≡ None → IsUtf8 line → IsDoneOrFault came
    pub no_text : old.editor.line ≡ None → ¬ (IsUtf8 line) → came ≡ status.NotText

  -- a text was loaded into the history, or the first of its lines before there was a fault, or one that says no text
  pub record LoadsBy (text : List ℕ) (old new : Hosted H) (came : Status) : Type 0 where
    pub loaded : Result (Option Bool) ReadlineError
    pub loads : Files (LoadsText loaded (Some text)) old.editor new.editor
    pub done : OnOk loaded (came ≡ status.Done)
    pub failed : IfErr loaded (λ error. came ≡ loading_status_of error)
    pub faults : FaultsOnly loaded

  -- the same, unless a line goes on
  pub record LoadsHistory (text : List ℕ) (old new : Hosted H) (came : Status) : Type 0 where
    pub has_line : is_some old.editor.line ≡ true → (came ≡ status.HasLine) × (new ≡ old)
    pub stays : new ≡ with_editor new.editor old
    pub loads : old.editor.line ≡ None → LoadsBy text old new came

  -- the text of the history was made, of all lines or of the last so many that are new; not while a line goes on, and where there was a fault
  -- nothing changed
  pub record SavesHistory (append : Bool) (old new : Hosted H) (came : Status) : Type 0 where
    pub has_line : is_some old.editor.line ≡ true → (came ≡ status.HasLine) × (new ≡ old)
    pub answers : old.editor.line ≡ None → IsDoneOrFault came
    pub stays : new ≡ record (with_editor new.editor old) { saved = new.saved }
    pub saves : came ≡ status.Done → Files (λ had has. (new.saved ≡ to_save V3 append had) × (has ≡ settled had)) old.editor new.editor
    pub kept : came ≢ status.Done → new ≡ old

  -- the cursor of the line that goes on was reported, if one does
  abbrev pub TellsCursor : Hosted H → ℕ → ℕ → Status → Type 0
  TellsCursor session before reported came = MatchOption session.editor.line ((came ≡ status.NoLine) × (reported ≡ before))
      (λ begun. (came ≡ status.Done) × (reported ≡ begun.kept.draft.line.cursor))

  -- some keys were bound to the command of this name, in place of what they were bound to, if these are texts; or nothing was
  pub record BindsKeys (keys command : List ℕ) (old new : Hosted H) (came : Status) : Type 0 where
    pub stays : new ≡ record old { commands = new.commands }
    pub no_text : ¬ (IsUtf8 keys × IsUtf8 command) → came ≡ status.NotText
    pub answers : IsUtf8 keys → IsUtf8 command → MayBind came
    pub binds : came ≡ status.Done → (pair : Chord × Command) × (command_named command ≡ Some pair.1)
        × Rebinds (bound old.commands) (bound new.commands) pair.0 (binding.answers (Some pair.1))
    pub no_command : came ≡ status.NoCommand → command_named command ≡ None
    pub kept : came ≢ status.Done → new ≡ old

  -- what becomes of a line is reported by a status, and the text of one that was submitted is kept
  abbrev pub TellsStatus : Result Fed ReadlineError → Hosted H → Hosted H → Status → Type 0
  TellsStatus (Ok fed.More) old new came = (came ≡ (if suspends old.editor then status.Suspended else status.Done)) × (new ≡ old)
  TellsStatus (Ok (fed.Submitted text)) old new came = (came ≡ status.Submitted) × (new ≡ record old { submitted = Some (string_bytes text) })
  TellsStatus (Ok fed.Ended) old new came = (came ≡ status.Ended) × (new ≡ old)
  TellsStatus (Ok fed.Interrupted) old new came = (came ≡ status.Interrupted) × (new ≡ old)
  TellsStatus (Err error) old new came = ReportsFault came × (new ≡ old)

  module _ (answers : H → List (List ℕ) → Environment) where
    -- what became of a line that had begun, by bindings
    abbrev pub AdvancesLine : Bound → DecoderTurn → Sitting H → BegunLine → Sitting H → Fed → Type 0
    AdvancesLine by turn old begun new fed = Came answers by (with_turn turn old) begun new fed × Keeps answers (with_turn turn old) new

    -- what became of a line that began after a prompt, with these texts before and after the cursor
    abbrev pub BeginsAfterPrompt : Bound → List ℕ → List ℕ → List ℕ → Sitting H → Sitting H → Fed → Type 0
    BeginsAfterPrompt by prompt left right old new fed = CameBegun answers by prompt left right old new fed × Keeps answers (record old { prompt = prompt }) new

    -- a line began after a prompt, unless a text is none. After a fault some line and the history's lines are there, or those before
    pub record BeginsLine (prompt styled left right : List ℕ) (old new : Hosted H) (came : Status) : Type 0 where
      pub begins : AreLineTexts prompt styled left right → CameTo (BeginsAfterPrompt (bound old.commands) prompt left right old.editor new.editor)
          (BeginsOrStays answers prompt left right old.editor new.editor) old new came
      pub no_text : ¬ (AreLineTexts prompt styled left right) → (came ≡ status.NotText) × (new ≡ old)

    -- items were read, and their turns taken. Where no line had begun nothing changes. After a fault nothing is lost
    pub record ReadsItems (turn : DecoderTurn) (old new : Hosted H) (came : Status) : Type 0 where
      pub no_line : old.editor.line ≡ None → (came ≡ status.NoLine) × (new ≡ old)
      pub comes : (begun : BegunLine) → old.editor.line ≡ Some begun
          → CameTo (AdvancesLine (bound old.commands) turn old.editor begun new.editor) (LosesNothing old.editor new.editor) old new came

    -- the end of all bytes was read, and turns taken; a line that would go on ends
    pub record Finishes (turn : DecoderTurn) (old new : Hosted H) (came : Status) : Type 0 where
      pub left : Hosted H
      pub read : Status
      pub takes : ReadsItems turn old left read
      pub ends : read ≡ status.Done → Drops status.Ended left new came
      pub stands : read ≢ status.Done → (came ≡ read) × (new ≡ left)

    -- columns and rows are the new ones, unless there are no columns; the line that goes on, if one does, stays, and so does all else
    pub record ResizesSession (columns rows : ℕ) (old new : Hosted H) (came : Status) : Type 0 where
      pub none : columns ≡ 0 → (came ≡ status.BadSetting) × (new ≡ old)
      pub answered : 0 < columns → IsDoneOrFault came
      pub stays : new ≡ with_editor new.editor old
      pub line : written_so_far new.editor ≡ written_so_far old.editor
      pub lines : new.editor.lines ≡ old.editor.lines
      pub kills : new.editor.kills ≡ old.editor.kills
      pub items : new.editor.items ≡ old.editor.items
      pub keeps : 0 < columns → Keeps answers (record old.editor { columns = columns; rows = rows }) new.editor
