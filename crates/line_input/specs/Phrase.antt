-- Phrases: the items that one command is read from.
use Rattle.std.specs.Prelude.{◌≡◌, ℕ, Bool, true, false, if◌then◌else◌, List, [], ◌∷◌, ◌++◌, map, Option, Some, None, unwrap_or}
use Rattle.line_buffer.specs.declared.movement.CharSearch.{CharSearch}
use Rattle.line_config.specs.declared.config.EditMode.{EditMode}
use Rattle.line_config.specs.declared.config.EditMode.TheVariants.{Emacs, Vi}
use Rattle.line_parts.specs.Environment.{Environment}
use Rattle.line_keys.specs.Command.{Command, self_insert}
use Rattle.line_keys.specs.Count.{count_of, is_count_before}
use Rattle.line_keys.specs.Model.Draft.{Draft, in_group, out_of_group}
use Rattle.line_keys.specs.Item.{Item, key}
use Rattle.line_keys.specs.Redo.{becomes_change, is_typed_on}
use Rattle.line_keys.specs.Table.{KeyEntry, count_or_one}
use Rattle.line_keys.specs.declared.keys.KeyEvent.{KeyEvent}
use Rattle.line_keys.specs.declared.count.Count.{Count}
use Rattle.line_keys.specs.declared.refresher.InputMode.{InputMode}
use Rattle.line_keys.specs.declared.refresher.InputMode.TheVariants as modes
use Rattle.line_keys.specs.declared.tables.Grouping.{Grouping}
use Rattle.line_keys.specs.declared.tables.Grouping.TheVariants.{Begin, End, Stay}
use Rattle.line_input.specs.Input.{Input, in_mode}
use Rattle.line_input.specs.Keymap.{Keymap, Source, by_binding, by_phrase, by_reader, by_table, source_of}
use Rattle.line_input.specs.Read.{Lacks, Read, after_count, quiet_read, read_behind}
use Rattle.line_input.specs.Sequence.{Sequences, sequences_of}
use Rattle.line_input.specs.Tail.{Tailed}

-- the draft with its group of changes begun, or every open one ended, or as it is
abbrev pub with_group : Grouping → Draft → Draft
with_group Stay draft = draft
with_group Begin draft = in_group draft
with_group End draft = out_of_group draft

-- the last change after a command that is read in a mode: the command where it becomes that
abbrev pub changed_by : InputMode → Option Command → Command → Option Command
changed_by mode last command = if becomes_change mode last command then Some command else last

-- what is remembered of a command of the tables, whose key may enter a mode: in Emacs nothing; in Vi the mode, the change and the
-- search
abbrev pub remembered_behind : EditMode → Option InputMode → Input → Command → Option CharSearch → Input
remembered_behind Emacs enters input command search = input
remembered_behind Vi enters input command search = record {
  style = Vi;
  mode = unwrap_or enters input.mode;
  last_change = changed_by input.mode input.last_change command;
  last_search = search;
}

-- what a key of the tables leads to with what is read after it
abbrev pub listed : KeyEntry → Input → Read → Read
listed entry input read = record read {
  draft = with_group entry.group read.draft;
  input = remembered_behind input.style entry.enters input read.command read.input.last_search;
}

-- a command of the bindings or of the reader is the key's alone, and leaves the draft and the input; one of the tables is read with
-- its tail; a key that stands for one of command mode is no key of this mode
abbrev pub Answers : Sequences → Environment → Draft → Input → KeyEvent → Source → List Item → Read → Type 0
Answers sequences environment draft input last (by_binding by) tail read = (tail ≡ []) × (read ≡ quiet_read draft input [] by)
Answers sequences environment draft input last (by_reader by) tail read = (tail ≡ []) × (read ≡ quiet_read draft input [] by)
Answers sequences environment draft input last (by_phrase plain) tail read = ⊥
Answers sequences environment draft input last (by_table entry) tail read =
    (behind : Read) × Tailed sequences environment draft input last entry.meaning tail behind × (read ≡ listed entry input behind)

-- the items after a key, and what they lead to together
abbrev pub Keyed : Keymap → Environment → Draft → Input → Option Count → KeyEvent → List Item → Read → Type 0
Keyed keymap environment draft input typed last tail read =
    Answers (sequences_of keymap.bound draft input (count_or_one typed)) environment draft input last (source_of keymap draft input typed last) tail read

-- the count that keys write, where there are any
abbrev pub typed_count : List KeyEvent → Option Count
typed_count [] = None
typed_count (first ∷ more) = Some (count_of (first ∷ more))

-- The items are one phrase of their mode: an optional count, a key and its tail.
pub record Spelled (keymap : Keymap) (environment : Environment) (draft : Draft) (input : Input) (items : List Item) (read : Read) : Type 0 where
  pub typed : List KeyEvent
  pub last : KeyEvent
  pub tail : List Item
  pub cut : items ≡ map key typed ++ (key last ∷ tail)
  pub counted : is_count_before input.style input.mode typed last ≡ true
  pub behind : Read
  pub keyed : Keyed keymap environment (after_count environment typed draft) input (typed_count typed) last tail behind
  pub told : read ≡ read_behind typed behind

-- what a phrase of command mode leads to after Alt: its command goes through the rule of the mode that it is read from, too
abbrev pub behind_alt : Input → Read → Read
behind_alt input within =
    record within { input = record within.input { last_change = changed_by input.mode within.input.last_change within.command } }

-- The items are a key with Alt that stands for a plain one, and what is read after that in command mode. The groups of changes are
-- ended by the key.
pub record Nested (keymap : Keymap) (environment : Environment) (draft : Draft) (input : Input) (items : List Item) (read : Read) : Type 0 where
  pub first : KeyEvent
  pub plain : KeyEvent
  pub rest : List Item
  pub cut : items ≡ key first ∷ rest
  pub stands : source_of keymap draft input None first ≡ by_phrase plain
  pub within : Read
  pub spelled : Spelled keymap environment (out_of_group draft) (in_mode modes.Command input) (key plain ∷ rest) within
  pub told : read ≡ behind_alt input within

-- the items are one phrase
pub data Phrase (keymap : Keymap) (environment : Environment) (draft : Draft) (input : Input) (items : List Item) (read : Read) : Type 0 where
  of_mode : Spelled keymap environment draft input items read → Phrase keymap environment draft input items read
  behind_key : Nested keymap environment draft input items read → Phrase keymap environment draft input items read

-- a plain key inserts its character, and nothing is remembered of it
abbrev pub types_by : EditMode → InputMode → Option Command → Bool
types_by Emacs mode last = true
types_by Vi modes.Insert last = is_typed_on last
types_by Vi mode last = false

-- the same of an input
abbrev pub types_chars : Input → Bool
types_chars input = types_by input.style input.mode input.last_change

-- whatever the line, the key alone is the phrase that types the character, and the input stays
abbrev pub TypesChar : Keymap → Input → KeyEvent → ℕ → Type 0
TypesChar keymap input typed c = (environment : Environment) (draft : Draft)
    → Phrase keymap environment draft input (key typed ∷ []) (quiet_read draft input (key typed ∷ []) (self_insert 1 c))

-- the keys of the count in front of a phrase; after a key with Alt there is none in front
abbrev pub count_in_front : {keymap : Keymap} {environment : Environment} {draft : Draft} {input : Input} {items : List Item} {read : Read}
    → Phrase keymap environment draft input items read → List KeyEvent
count_in_front (of_mode spelled) = spelled.typed
count_in_front (behind_key nested) = []

-- the items are a proper beginning of a phrase
abbrev pub IsBeginning : Keymap → Environment → Draft → Input → List Item → Type 0
IsBeginning keymap environment draft input items = Lacks (Phrase keymap environment draft input) items

-- the draft after the first key of a phrase: a key that stands for one of command mode ends the groups of changes
abbrev pub entered_by : Source → Draft → Draft
entered_by (by_phrase plain) draft = out_of_group draft
entered_by _ draft = draft

-- the draft that the items of a phrase are read from, once its first key was read
abbrev pub entered : Keymap → Draft → Input → List Item → Draft
entered keymap draft input (key first ∷ _) = entered_by (source_of keymap draft input None first) draft
entered keymap draft input _ = draft
