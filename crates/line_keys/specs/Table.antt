-- The tables of keys: for an edit mode and an input mode, what each key stands for.
use Rattle.std.specs.Prelude.{ℕ, ◌==◌, if◌then◌else◌, Option, Some, None}
use Rattle.std.specs.Option.{option_or}
use Rattle.line_config.specs.declared.config.EditMode.{EditMode}
use Rattle.line_config.specs.declared.config.EditMode.TheVariants.{Emacs, Vi}
use Rattle.line_keys.specs.CommonTable.{common_row}
use Rattle.line_keys.specs.Model.Draft.{Draft}
use Rattle.line_keys.specs.EmacsTable.{emacs_row}
use Rattle.line_keys.specs.Key.{bits_of, event}
use Rattle.line_keys.specs.ViTable.{vi_row}
use Rattle.line_keys.specs.declared.keys.KeyCode.{KeyCode}
use Rattle.line_keys.specs.declared.keys.KeyCode.TheVariants.{Char}
use Rattle.line_keys.specs.declared.keys.KeyEvent.{KeyEvent}
use Rattle.line_keys.specs.declared.keys.TheConstants.Modifiers.{ALT, NONE}
use Rattle.line_keys.specs.declared.refresher.InputMode.{InputMode}
pub use Rattle.line_keys.specs.EmacsTable.{second_at}
pub use Rattle.line_keys.specs.Meaning.{KeyEntry, Meaning, Row, again, count_or_one, gives, has_second, meaning_row, one, operates, pastes, replaces_char, searches, searches_again, stays, unlisted}

-- the row of a key; a key that no table has is unlisted
abbrev pub row_or_unlisted : Option Row → Row
row_or_unlisted (Some r) = r
row_or_unlisted None = meaning_row (λ _. unlisted)

-- the row of a key in the table of the edit mode alone
abbrev pub own_row : EditMode → InputMode → KeyEvent → Draft → Option Row
own_row Emacs mode key draft = emacs_row key.0 (bits_of key.1) draft
own_row Vi mode key draft = vi_row mode key.0 (bits_of key.1) draft

-- the row of a key, by the edit mode and its input mode: that of the edit mode's table, or else that of both edit modes
abbrev pub row_of : EditMode → InputMode → KeyEvent → Draft → Row
row_of style mode key draft = row_or_unlisted
    (option_or (own_row style mode key draft) (common_row style key.0 (bits_of key.1) draft))

-- the plain key of a character with Alt alone
abbrev pub without_alt : KeyCode → ℕ → Option KeyEvent
without_alt (Char c) mods = if mods == bits_of ALT then Some (event (Char c) NONE) else None
without_alt _ mods = None

-- the key of command mode that a key stands for: in Vi's insert and replace mode a character with Alt alone is the plain one
abbrev pub stands_for : EditMode → InputMode → KeyEvent → Option KeyEvent
stands_for Emacs mode key = None
stands_for Vi InputMode.Command key = None
stands_for Vi _ key = without_alt key.0 (bits_of key.1)
