-- Steps of reading: commands that are read, executed and answered, and items that are taken by themselves, from the items that are there to
-- those that are left.
use Rattle.std.specs.Prelude.{◌≡◌, ℕ, ◌-◌, ◌==◌, ◌&&◌, nat_le, Bool, true, false, if◌then◌else◌, [], ◌∷◌, ◌++◌, List, Option, Some, None}
use Rattle.line_config.specs.Settings.{Settings}
use Rattle.line_keys.specs.Command.{Command, insert, self_insert, unknown}
use Rattle.line_keys.specs.Model.Draft.{Draft, hinted}
use Rattle.line_keys.specs.Item.{Item, key, paste}
use Rattle.line_keys.specs.Key.{bits_of}
use Rattle.line_keys.specs.declared.keys.KeyCode.{KeyCode}
use Rattle.line_keys.specs.declared.keys.KeyCode.TheVariants as codes
use Rattle.line_keys.specs.declared.keys.KeyEvent.{KeyEvent}
use Rattle.line_keys.specs.declared.keys.TheConstants.Modifiers.{CTRL, NONE}
use Rattle.line_parts.specs.Environment.{Environment}
use Rattle.line_parts.specs.declared.history.SearchDirection.TheVariants.{Forward, Reverse}
use Rattle.line_editor.specs.Editor.{Answer, Editor, Leaves, Ruler, proceeds}
use Rattle.line_editor.specs.Input.{Input}
use Rattle.line_editor.specs.ItemShown.{ItemShown}
use Rattle.line_editor.specs.Keymap.{Keymap}
use Rattle.line_editor.specs.Deferred.{deferred_by}
use Rattle.line_editor.specs.Phrase.{IsBeginning, Phrase}
use Rattle.line_editor.specs.Read.{Read}
use Rattle.line_editor.specs.Run.{CutShort, ready}
use Rattle.line_editor.specs.Step.{step}
use Rattle.line_editor.specs.declared.deferred.Deferred.{Deferred}
use Rattle.line_editor.specs.declared.deferred.Deferred.TheVariants as deferred
use Rattle.line_session.specs.Completing.{BeginsCompletion, GivesUp, GoesOnTo, Lists, Replies, index_before, index_behind, reply_by}
use Rattle.line_session.specs.Searching.{BeginsSearch, Search, Searches, search_cmd, search_value}
use Rattle.line_session.specs.declared.mode.Mode.{Mode}
use Rattle.line_session.specs.declared.mode.Mode.TheVariants as modes
use Rattle.line_session.specs.declared.searching.SearchCmd.{SearchCmd}

-- what commands are read and executed by, and the settings by which the program answers what they leave to it
pub record Rules : Type 0 where
  pub keymap : Keymap
  pub ruler : Ruler
  pub environment : Environment
  pub settings : Settings

-- where reading stands: the editor, what is remembered of keys, the items that are left, and what these are read as
pub record Standing : Type 0 where
  pub editor : Editor
  pub input : Input
  pub items : List Item
  pub mode : Mode

-- the same editor once the line was drawn: its hint was asked
abbrev pub once_drawn : Environment → Editor → Editor
once_drawn environment editor = record editor { draft = hinted environment editor.draft }

-- whether items are not read as commands in this mode: each is taken by itself, or none while the program is suspended
abbrev pub reads_no_command : Mode → Bool
reads_no_command modes.Quoting = true
reads_no_command (modes.Listing listing) = true
reads_no_command modes.Suspended = true
reads_no_command _ = false

-- whether the line is shown after its own prompt in this mode: not in a list, in a search, or while the program is suspended
abbrev pub shows_line : Mode → Bool
shows_line (modes.Listing listing) = false
shows_line (modes.Searching searching) = false
shows_line modes.Suspended = false
shows_line _ = true

-- whether the program is suspended
abbrev pub is_suspended : Mode → Bool
is_suspended modes.Suspended = true
is_suspended _ = false

-- a program that was suspended goes on: the line is drawn, and commands are read
abbrev pub resumed : Environment → Standing → Standing
resumed environment found = record found { editor = once_drawn environment found.editor; mode = modes.Editing }

-- where the steps of a call begin: a program that was suspended goes on; and the line is drawn, where it is to be drawn
abbrev pub starting : Environment → Bool → Standing → Standing
starting environment draws found =
    if is_suspended found.mode then resumed environment found
    else if draws then record found { editor = once_drawn environment found.editor } else found

-- the same mode after a resize: a list ends, and a program that was suspended goes on
abbrev pub once_resized : Mode → Mode
once_resized (modes.Listing listing) = modes.Editing
once_resized modes.Suspended = modes.Editing
once_resized mode = mode

-- what the program does about what a command left to it: to the draft, and to what the next items are read as
abbrev pub AnswersCommand : Settings → Environment → Option Deferred → Mode → Draft → Draft → Mode → Type 0
AnswersCommand settings environment (Some deferred.QuotedInsert) mode old new next = (new ≡ old) × (next ≡ modes.Quoting)
AnswersCommand settings environment (Some deferred.Complete) (modes.Completing going) old new next =
    GoesOnTo environment going (index_behind going) old new next
AnswersCommand settings environment (Some deferred.Complete) (modes.Offering candidates) old new next =
    Lists settings environment candidates old new next
AnswersCommand settings environment (Some deferred.Complete) mode old new next = BeginsCompletion settings environment old new next
AnswersCommand settings environment (Some deferred.CompleteBackward) (modes.Completing going) old new next =
    GoesOnTo environment going (index_before going) old new next
AnswersCommand settings environment (Some deferred.Abort) (modes.Completing going) old new next = GivesUp environment going old new next
AnswersCommand settings environment (Some deferred.ReverseSearchHistory) mode old new next = BeginsSearch environment Reverse old new next
AnswersCommand settings environment (Some deferred.ForwardSearchHistory) mode old new next = BeginsSearch environment Forward old new next
AnswersCommand settings environment (Some deferred.Suspend) mode old new next = (new ≡ old) × (next ≡ modes.Suspended)
AnswersCommand settings environment left mode old new next = (new ≡ old) × (next ≡ modes.Editing)

-- the same after a turn with this answer: the program does something where it proceeds, and else nothing is under way any more
abbrev pub AnswersTurn : Rules → Answer → Option Deferred → Mode → Editor → Editor → Mode → Type 0
AnswersTurn by proceeds left mode old new next =
    AnswersCommand by.settings by.environment left mode old.draft new.draft next × (new.kills ≡ old.kills)
AnswersTurn by _ left mode old new next = (new ≡ old) × (next ≡ modes.Editing)

-- a command is executed, and then what it left is done
pub record ExecutesAndAnswers (by : Rules) (mode : Mode) (command : Command) (input : Input) (found new : Editor) (next : Mode) (answer : Answer) : Type 0 where
  pub executed : Editor
  pub leaves : Leaves (step by.ruler by.environment input found command) executed answer
  pub answers : AnswersTurn by answer (deferred_by command) mode executed new next

-- a search does what a command says to it; another command ends it, and is executed once the line was drawn after its own prompt
abbrev pub DoesInSearch : Rules → Search → Option SearchCmd → Command → Input → Editor → Editor → Mode → Answer → Type 0
DoesInSearch by search (Some says) command input found new next answer =
    (answer ≡ proceeds) × (new.kills ≡ found.kills) × Searches by.environment search says found.draft new.draft next
DoesInSearch by search None command input found new next answer =
    ExecutesAndAnswers by modes.Editing command input (once_drawn by.environment found) new next answer

-- what a command does that is read in a mode
abbrev pub DoesInMode : Rules → Mode → Command → Input → Editor → Editor → Mode → Answer → Type 0
DoesInMode by (modes.Searching searching) command input found new next answer =
    DoesInSearch by (search_value searching) (search_cmd command) command input found new next answer
DoesInMode by mode command input found new next answer = ExecutesAndAnswers by mode command input found new next answer

-- a turn leads from one standing to another, with this answer: the items begin with a phrase, and its command is done
pub record TurnFrom (by : Rules) (from to : Standing) (answer : Answer) : Type 0 where
  pub reads : reads_no_command from.mode ≡ false
  pub phrase : List Item
  pub read : Read
  pub cut : from.items ≡ phrase ++ to.items
  pub comes : Phrase by.keymap by.environment from.editor.draft from.input phrase read
  pub input_left : to.input ≡ read.input
  pub does : DoesInMode by from.mode read.command read.input (ready read.command read.draft from.editor.kills) to.editor to.mode answer

-- the control character that a key with Ctrl stands for, by the character that it is named for: 64 places before it
abbrev pub control_character : ℕ → Option ℕ
control_character c = if nat_le 64 c && nat_le c 95 then Some (c - 64) else None

-- the character of a key without modifiers, if it stands for one
abbrev pub plain_character : KeyCode → Option ℕ
plain_character (codes.Char c) = Some c
plain_character codes.Backspace = Some 127
plain_character codes.Enter = Some 13
plain_character codes.Esc = Some 27
plain_character codes.Tab = Some 9
plain_character _ = None

-- the character of a key with Ctrl, if it stands for one
abbrev pub with_control : KeyCode → Option ℕ
with_control (codes.Char c) = control_character c
with_control _ = None

-- the character of a key, if it stands for one
abbrev pub character_of : KeyEvent → Option ℕ
character_of typed =
    if bits_of typed.1 == bits_of NONE then plain_character typed.0
    else if bits_of typed.1 == bits_of CTRL then with_control typed.0
    else None

-- the command that puts a character in, if there is one
abbrev pub typing : Option ℕ → Command
typing (Some c) = self_insert 1 c
typing None = unknown

-- the command that puts an item in as it is
abbrev pub as_it_is : Item → Command
as_it_is (key typed) = typing (character_of typed)
as_it_is (paste text) = insert 1 text

-- whether an item is taken by itself: any one after a quoted insert and in a list; and a pasted text that stands alone, as the key
-- before it was read as the key of something else; but none while the program is suspended
abbrev pub comes_in : Mode → Item → Bool
comes_in modes.Suspended item = false
comes_in mode (paste text) = true
comes_in mode (key typed) = reads_no_command mode

-- an item is put in as it is
abbrev pub PutsAsItIs : Rules → Input → Item → Editor → Editor → Type 0
PutsAsItIs by input item old new =
    Leaves (step by.ruler by.environment input (ready (as_it_is item) old.draft old.kills) (as_it_is item)) new proceeds

-- what an item does that is taken by itself: it answers a list, or is put in as it is, which ends a search
abbrev pub DoesItem : Rules → Input → Mode → Item → Editor → Editor → Mode → Type 0
DoesItem by input (modes.Listing listing) item old new next =
    Replies by.environment listing (reply_by listing.next item) old.draft new.draft next × (new.kills ≡ old.kills)
DoesItem by input (modes.Searching searching) item old new next =
    PutsAsItIs by input item (once_drawn by.environment old) new × (next ≡ modes.Editing)
DoesItem by input mode item old new next = PutsAsItIs by input item old new × (next ≡ modes.Editing)

-- an item is taken by itself
pub record ItemTaken (by : Rules) (from to : Standing) : Type 0 where
  pub item : Item
  pub comes : comes_in from.mode item ≡ true
  pub cut : from.items ≡ item ∷ to.items
  pub input : to.input ≡ from.input
  pub does : DoesItem by from.input from.mode item from.editor to.editor to.mode

-- a program that was suspended goes on
pub record Resumed (by : Rules) (from to : Standing) : Type 0 where
  pub was : from.mode ≡ modes.Suspended
  pub is : to ≡ resumed by.environment from

-- steps lead from a start to a standing: turns that proceed, and items that are taken by themselves. Where the program is suspended they
-- stop; but over several calls it goes on
pub data Steps (by : Rules) (over_calls : Bool) (start : Standing) : Standing → Type 0 where
  none : Steps by over_calls start start
  turn : {found next : Standing} → Steps by over_calls start found → TurnFrom by found next proceeds → Steps by over_calls start next
  item : {found next : Standing} → Steps by over_calls start found → ItemTaken by found next → Steps by over_calls start next
  resume : {found next : Standing} → over_calls ≡ true → Steps by over_calls start found → Resumed by found next → Steps by over_calls start next

-- steps, and after them a turn with this answer, lead from a start to an end
pub record StepsEnd (by : Rules) (over_calls : Bool) (start end : Standing) (answer : Answer) : Type 0 where
  pub found : Standing
  pub steps : Steps by over_calls start found
  pub last : TurnFrom by found end answer

-- the first item, if there is one, is not taken by itself
abbrev pub NoneComesIn : Mode → List Item → Type 0
NoneComesIn mode items = (item : Item) (more : List Item) → items ≡ item ∷ more → comes_in mode item ≡ false

-- where reading waits, and what is drawn of the items. Either commands are read, and the items are the beginning of a phrase. Or no command
-- is read, and the first item is not taken by itself
pub data WaitsIn (by : Rules) (found : Standing) (left : Editor) : List ItemShown → Type 0 where
  phrase : reads_no_command found.mode ≡ false → (begins : IsBeginning by.keymap by.environment found.editor.draft found.input found.items)
      → CutShort by.keymap by.environment found.input found.items begins.shown found.editor left → WaitsIn by found left begins.shown
  alone : reads_no_command found.mode ≡ true → NoneComesIn found.mode found.items → left ≡ found.editor → WaitsIn by found left []

-- steps lead from a start to where a call waits for items; those that are there stay
pub record Waits (by : Rules) (start left : Standing) : Type 0 where
  pub found : Standing
  pub steps : Steps by false start found
  pub shown : List ItemShown
  pub waits : WaitsIn by found left.editor shown
  pub input : left.input ≡ found.input
  pub items : left.items ≡ found.items
  pub mode : left.mode ≡ found.mode
