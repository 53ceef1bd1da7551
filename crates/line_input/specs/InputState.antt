-- What an input state remembers.
use Rattle.std.specs.Prelude.{if◌then◌else◌, Some, option_map}
use Rattle.line_keys.specs.Command.{Command, command_of}
use Rattle.line_input.specs.Binding.{bound_of}
use Rattle.line_input.specs.Input.{Input}
use Rattle.line_input.specs.Keymap.{KeyState}
use Rattle.line_input.specs.declared.binding.ConditionalEventHandler as handlers
use Rattle.line_input.specs.declared.input_state.InputState.{InputState}
use Rattle.line_input.specs.declared.input_state.phrases.Read.{Read}
use Rattle.line_input.specs.declared.input_state.remembered.Remembered.{Remembered}

-- the input value that is remembered
abbrev pub remembered_input : Remembered → Input
remembered_input remembered = record {
  style = remembered.mode;
  mode = remembered.input_mode;
  last_change = option_map command_of remembered.last_cmd;
  last_search = remembered.last_char_search;
}

-- the command of what was read
abbrev pub read_command : Read → Command
read_command read = command_of read.command

-- the input after what was read, by the input before
abbrev pub read_input : Read → Input → Input
read_input read input = record {
  style = input.style;
  mode = read.input_mode;
  last_change = if read.is_change then Some (read_command read) else input.last_change;
  last_search = read.last_char_search;
}

-- the input after what belongs to a key: the last search may change
abbrev pub behind_input : Read → Input → Input
behind_input read input = record input { last_search = read.last_char_search }

module _ {C : Type 0} where
  -- the input value that it keeps
  abbrev pub input_of : InputState C → Input
  input_of state = remembered_input state.remembered

  -- what keys are read by
  abbrev pub keys_of : handlers.Ghosts C → InputState C → KeyState
  keys_of g state = record { bound = bound_of g state.bindings.now; input = input_of state }
