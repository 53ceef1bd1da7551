-- What items that are read lead to.
use Rattle.std.specs.Prelude.{◌≡◌, ◌≢◌, ℕ, List, [], ◌∷◌, ◌++◌, length, Option, Some, None}
use Rattle.line_buffer.specs.declared.movement.CharSearch.{CharSearch}
use Rattle.line_buffer.specs.declared.movement.Movement.{Movement}
use Rattle.line_buffer.specs.declared.movement.Movement.TheVariants.{ViCharSearch}
use Rattle.line_parts.specs.Environment.{Environment}
use Rattle.line_keys.specs.Command.{Command}
use Rattle.line_keys.specs.Model.Draft.{Draft, hinted}
use Rattle.line_keys.specs.Item.{Item}
use Rattle.line_keys.specs.declared.keys.KeyEvent.{KeyEvent}
use Rattle.line_input.specs.Input.{Input}
use Rattle.line_input.specs.ItemShown.{ItemShown, none_shown, shown_with}

-- what items lead to: a command, the draft and the input that they leave, and what is drawn after each of them
pub record Read : Type 0 where
  pub command : Command
  pub draft : Draft
  pub input : Input
  pub shown : List ItemShown

-- items lead to a command, and nothing is drawn after any of them
abbrev pub quiet_read : Draft → Input → List Item → Command → Read
quiet_read draft input items command = record { command = command; draft = draft; input = input; shown = none_shown items }

-- items lead to what is done by the n-th place of a search, which is kept; or to what is done without a search
abbrev pub searched_read : Draft → Input → List Item → (Option Movement → Command) → ℕ → Option CharSearch → Read
searched_read draft input items done n (Some search) =
    quiet_read draft (record input { last_search = Some search }) items (done (Some (ViCharSearch n search)))
searched_read draft input items done n None = quiet_read draft input items (done None)

-- the hint is asked again where a count was typed
abbrev pub after_count : Environment → List KeyEvent → Draft → Draft
after_count environment [] draft = draft
after_count environment (_ ∷ _) draft = hinted environment draft

-- what is read after the keys of a count, with what is drawn for them
abbrev pub read_behind : List KeyEvent → Read → Read
read_behind typed read = record read { shown = shown_with typed read.shown }

-- items that something begins with: with some after them, or with none, there is something that they lead to
pub record Begins (Comes : List Item → Read → Type 0) (items : List Item) : Type 0 where
  pub rest : List Item
  pub read : Read
  pub comes : Comes (items ++ rest) read

-- more items are to be read than these: with some after them there is something that they lead to. What is drawn after these is
-- the beginning of what is drawn.
pub record Lacks (Comes : List Item → Read → Type 0) (items : List Item) : Type 0 where
  pub rest : List Item
  pub read : Read
  pub proper : rest ≢ []
  pub comes : Comes (items ++ rest) read
  pub shown : List ItemShown
  pub later : List ItemShown
  pub drawn : read.shown ≡ shown ++ later
  pub each : length shown ≡ length items
