-- The bindings of the tests' reader.
use Rattle.std.specs.Prelude.{ℕ, ◌==◌, ◌&&◌, Option, Some, None, if◌then◌else◌}
use Rattle.line_keys.specs.Command.{Command, end_of_file, interrupt}
use Rattle.line_keys.specs.Key.{bits_of}
use Rattle.line_keys.specs.declared.keys.KeyCode.{KeyCode}
use Rattle.line_keys.specs.declared.keys.KeyCode.TheVariants.{Char}
use Rattle.line_keys.specs.declared.keys.KeyEvent.{KeyEvent}
use Rattle.line_keys.specs.declared.keys.TheConstants.Modifiers.{CTRL}

-- C-C interrupts and C-D ends the input
abbrev pub code_bound : KeyCode → ℕ → Option Command
code_bound (Char c) modifiers =
    if (c == 67) && (modifiers == bits_of CTRL) then Some interrupt
    else if (c == 68) && (modifiers == bits_of CTRL) then Some end_of_file
    else None
code_bound _ modifiers = None

-- what the reader binds a key to
abbrev pub typed_binding : KeyEvent → Option Command
typed_binding k = code_bound k.0 (bits_of k.1)
