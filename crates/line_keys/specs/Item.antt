-- What a reader returns.
use Rattle.std.specs.Prelude.{◌≡◌, [], List, ℕ}
use Rattle.line_config.specs.declared.error.ReadlineError.{ReadlineError}
use Rattle.line_config.specs.declared.error.ReadlineError.TheVariants.{Eof, Interrupted}
use Rattle.line_keys.specs.declared.keys.KeyEvent.{KeyEvent}

-- an item of the input: a key, or a pasted text as its bytes
pub data Item : Type 0 where
  key : KeyEvent → Item
  paste : List ℕ → Item

-- what a reader's error says of the items that are left: the end of the input is reported only where none is left, and an
-- interrupt never
abbrev pub ReadFault : ReadlineError → List Item → Type 0
ReadFault Eof rest = rest ≡ []
ReadFault Interrupted rest = ⊥
ReadFault _ rest = Unit {0}
