-- Commands that are bound to keys.
use Rattle.std.specs.Prelude.{List, [], ◌∷◌, ◌++◌, Option, None, Some, map}
use Rattle.line_keys.specs.Command.{Command, command_of}
use Rattle.line_editor.specs.Binding.{Bound, answers}
use Rattle.line_editor.specs.Event.{Chord, each_key, keys, mouse}
use Rattle.line_input.specs.declared.binding.EventHandler.{EventHandler}
use Rattle.line_input.specs.declared.binding.EventHandler.TheVariants.{Conditional, Simple}
use Rattle.line_input.specs.declared.binding.NoHandler.{NoHandler}
use Rattle.line_input.specs.declared.bindings.Bindings.{Bindings}

-- events with their commands, of which the first one of an event counts; for one without a command the reader and the tables are asked
abbrev pub BoundCommands : Type 0
BoundCommands = List (Chord × Option Command)

-- commands as what handlers answer
abbrev pub bound : BoundCommands → Bound
bound commands = map (λ pair. (pair.0, answers pair.1)) commands

-- the command that an event is bound to
abbrev pub command_in : EventHandler NoHandler → Option Command
command_in (Simple command) = Some (command_of command)
command_in (Conditional handler) = None

-- the command of an event, where it has one
abbrev pub command_at : Chord → Option (EventHandler NoHandler) → BoundCommands
command_at chord None = []
command_at chord (Some handler) = (chord, command_in handler) ∷ []

-- the commands that bindings hold
abbrev pub bound_commands : Bindings NoHandler → BoundCommands
bound_commands bindings = command_at each_key bindings.any ++ command_at mouse bindings.mouse
    ++ map (λ entry. (keys entry.0, command_in entry.1)) bindings.sequences
