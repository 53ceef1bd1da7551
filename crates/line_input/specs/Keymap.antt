-- Which command a key has before the tables are asked.
use Rattle.std.specs.Prelude.{◌≡◌, ℕ, true, List, [], ◌∷◌, Option, Some, None, option_and_then, option_map}
use Rattle.std.specs.Option.{option_or}
use Rattle.line_buffer.specs.Changes.{last_insert_of}
use Rattle.line_config.specs.declared.config.EditMode.{EditMode}
use Rattle.line_config.specs.declared.config.EditMode.TheVariants.{Emacs, Vi}
use Rattle.line_keys.specs.Command as commands
use Rattle.line_keys.specs.Command.{end_of_file}
use Rattle.line_keys.specs.Model.Draft.{Draft}
use Rattle.line_keys.specs.Redo.{bound_anew}
use Rattle.line_keys.specs.Table.{KeyEntry, count_or_one, row_of, stands_for}
use Rattle.line_keys.specs.declared.count.Count.{Count}
use Rattle.line_keys.specs.declared.refresher.InputMode.{InputMode}
use Rattle.line_keys.specs.declared.refresher.InputMode.TheVariants.{Insert, Replace}
use Rattle.line_keys.specs.declared.keys.KeyEvent.{KeyEvent}
use Rattle.line_input.specs.Binding.{Bound, Handler, LooksAtNoHint, answers, handler_of}
use Rattle.line_input.specs.Event.{Chord, each_key, keys}
use Rattle.line_input.specs.Input.{Input}
use Rattle.line_input.specs.Moment.{moment_in}

-- the bindings of the program, and the command that the reader itself has for each key
pub record Keymap : Type 0 where
  pub bound : Bound
  pub own : KeyEvent → Option commands.Command

-- no key has a binding
abbrev pub nothing_bound : Keymap
nothing_bound = record { bound = []; own = λ typed. None }

-- one event alone has a binding, which answers this
abbrev pub only_bound : Chord → Option commands.Command → Keymap
only_bound chord command = record { bound = (chord, answers command) ∷ []; own = λ typed. None }

-- what keys are read by: the bindings of the program, and the input value
pub record KeyState : Type 0 where
  pub bound : Bound
  pub input : Input

-- the keymap of a key state, with the commands that the reader itself has
abbrev pub keymap_of : KeyState → (KeyEvent → Option commands.Command) → Keymap
keymap_of state own = record { bound = state.bound; own = own }

-- the reader's end of input counts only on an empty line
abbrev pub on_line : List ℕ → Option commands.Command → Option commands.Command
on_line (_ ∷ _) (Some end_of_file) = None
on_line _ command = command

-- the binding of a key: its own, or else the one that is for every key
abbrev pub key_handler : Bound → KeyEvent → Option Handler
key_handler bound key = option_or (handler_of bound (keys (key ∷ []))) (handler_of bound each_key)

-- the binding of a key, if it has one, looks at no hint
abbrev pub KeyLooksAtNoHint : Bound → KeyEvent → Type 0
KeyLooksAtNoHint bound typed = (handler : Handler) → key_handler bound typed ≡ Some handler → LooksAtNoHint handler

-- the count that a key's binding is handed: 0 in Vi's insert and replace modes
abbrev pub handed : EditMode → InputMode → Option Count → Count
handed Vi Insert typed = record { n = 0; positive = true }
handed Vi Replace typed = record { n = 0; positive = true }
handed _ _ typed = count_or_one typed

-- the count that a bound command is done again with: in Emacs the one that was typed or else 1, in Vi none where none was typed
abbrev pub new_count : EditMode → Option Count → Option ℕ
new_count Emacs typed = Some (count_or_one typed).n
new_count Vi typed = option_map (λ count. count.n) typed

-- the command that a key's binding answers, done again where it can be
abbrev pub bound_command : Keymap → Draft → Input → Option Count → KeyEvent → Option commands.Command
bound_command keymap draft input typed key =
    option_map (bound_anew (new_count input.style typed) (last_insert_of draft.changes.entries))
    (option_and_then (λ handler. handler.answer (record { event = keys (key ∷ []); count = handed input.style input.mode typed; moment = moment_in draft input }))
    (key_handler keymap.bound key))

-- where a key's command comes from: the bindings of the program, the reader, command mode, whose key it stands for, or the tables
pub data Source : Type 0 where
  by_binding : commands.Command → Source
  by_reader : commands.Command → Source
  by_phrase : KeyEvent → Source
  by_table : KeyEntry → Source

-- where a command comes from: the binding's, or else the reader's, or else that of command mode, or else what the tables say
abbrev pub first_source : Option commands.Command → Option commands.Command → Option KeyEvent → KeyEntry → Source
first_source (Some command) _ _ entry = by_binding command
first_source None (Some command) _ entry = by_reader command
first_source None None (Some plain) entry = by_phrase plain
first_source None None None entry = by_table entry

-- where the command of a key comes from, under the count that was typed
abbrev pub source_of : Keymap → Draft → Input → Option Count → KeyEvent → Source
source_of keymap draft input typed key =
    first_source (bound_command keymap draft input typed key) (on_line draft.line.text (keymap.own key))
    (stands_for input.style input.mode key) ((row_of input.style input.mode key draft).entry typed)
