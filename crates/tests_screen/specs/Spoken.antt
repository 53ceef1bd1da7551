-- How the examples of Vi's phrases are said.
use Rattle.std.specs.Prelude.{◌≡◌, ℕ, List, [], ◌∷◌, map, Option, Some, None}
use Rattle.line_buffer.specs.Changes.{Entry, inserted}
use Rattle.line_buffer.specs.declared.movement.CharSearch.{CharSearch}
use Rattle.line_config.specs.declared.config.EditMode.TheVariants.{Vi}
use Rattle.line_keys.specs.Command as Commands
use Rattle.line_keys.specs.Model.Draft.{Draft, empty_draft}
use Rattle.line_keys.specs.Item.{key}
use Rattle.line_keys.specs.Key.{event}
use Rattle.line_keys.specs.declared.keys.KeyCode.TheVariants.{Char}
use Rattle.line_keys.specs.declared.keys.KeyEvent.{KeyEvent}
use Rattle.line_keys.specs.declared.keys.TheConstants.Modifiers.{ALT, NONE}
use Rattle.line_keys.specs.declared.refresher.InputMode.{InputMode}
use Rattle.line_keys.specs.declared.refresher.InputMode.TheVariants.{Command, Insert}
use Rattle.line_parts.specs.Environment.{Environment}
use Rattle.line_editor.specs.Input.{Input}
use Rattle.line_editor.specs.Keymap.{Keymap, nothing_bound}
use Rattle.line_editor.specs.Phrase.{Phrase}
use Rattle.line_editor.specs.Read.{Read}

-- a character that is typed alone
abbrev pub plain : ℕ → KeyEvent
plain c = event (Char c) NONE

-- characters that are typed alone
abbrev pub typed : List ℕ → List KeyEvent
typed chars = map plain chars

-- a character that is typed with Alt
abbrev pub with_alt : ℕ → KeyEvent
with_alt c = event (Char c) ALT

-- Vi in a mode, with the last change and the last search, where there are any
abbrev pub vi : InputMode → Option Commands.Command → Option CharSearch → Input
vi mode change search = record { style = Vi; mode = mode; last_change = change; last_search = search }

-- command mode, with nothing remembered
abbrev pub commanding : Input
commanding = vi Command None None

-- insert mode, with nothing remembered
abbrev pub inserting : Input
inserting = vi Insert None None

-- an empty line without changes
abbrev pub blank : Draft
blank = empty_draft 0

-- an empty line with these changes
abbrev pub changed_by_entries : List Entry → Draft
changed_by_entries entries = record blank { changes = record { entries = entries; open_groups = 0 } }

-- the keys are a phrase: its command, and what is remembered after it
abbrev pub Comes : Keymap → Draft → Input → List KeyEvent → Commands.Command → Input → Type 0
Comes keymap draft input typed command left = (environment : Environment) → (read : Read)
    × Phrase keymap environment draft input (map key typed) read × (read.command ≡ command) × (read.input ≡ left)

-- the same on an empty line in command mode, where nothing is bound
abbrev pub InCommandMode : List KeyEvent → Commands.Command → Input → Type 0
InCommandMode = Comes nothing_bound blank commanding

-- the same in insert mode
abbrev pub InInsertMode : List KeyEvent → Commands.Command → Input → Type 0
InInsertMode = Comes nothing_bound blank inserting

-- what 2 and the dot lead to on an empty line, after this last change
abbrev pub TwiceAgain : Commands.Command → Commands.Command → Type 0
TwiceAgain change again = Comes nothing_bound blank (vi Command (Some change) None)
    (typed (50 ∷ 46 ∷ [])) again (vi Command (Some again) None)

-- what they lead to where this text came in last
abbrev pub TwiceAgainBehind : List ℕ → Commands.Command → Commands.Command → Type 0
TwiceAgainBehind text change again =
    Comes nothing_bound (changed_by_entries (inserted 0 text ∷ [])) (vi Command (Some change) None)
    (typed (50 ∷ 46 ∷ [])) again (vi Command (Some again) None)

-- the keys are a phrase: the draft that it leaves
abbrev pub LeavesDraft : Keymap → Draft → Input → List KeyEvent → Draft → Type 0
LeavesDraft keymap draft input typed left = (environment : Environment) → (read : Read)
    × Phrase keymap environment draft input (map key typed) read × (read.draft ≡ left)
