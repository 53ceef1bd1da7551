-- What an operator of Vi is done to: the motion after it.
use Rattle.std.specs.Prelude.{◌≡◌, ℕ, true, if◌then◌else◌, List, [], ◌∷◌, ◌++◌, map, Option, Some, None, option_map}
use Rattle.line_buffer.specs.declared.movement.CharSearch.{CharSearch}
use Rattle.line_buffer.specs.declared.movement.Movement.{Movement}
use Rattle.line_buffer.specs.declared.movement.Movement.TheVariants.{ViCharSearch, WholeLine}
use Rattle.line_config.specs.declared.config.EditMode.TheVariants.{Vi}
use Rattle.line_parts.specs.Environment.{Environment}
use Rattle.line_keys.specs.Command.{Command, unknown}
use Rattle.line_keys.specs.Count.{count_of, is_count_before}
use Rattle.line_keys.specs.Model.Draft.{Draft}
use Rattle.line_keys.specs.Item.{Item, key}
use Rattle.line_keys.specs.Motion.{Motion, covers, covers_bracket, covers_last, covers_search, is_own_key, motion_of, multiplied, no_motion, operated, operated_to_bracket, search_to}
use Rattle.line_keys.specs.declared.keys.KeyEvent.{KeyEvent}
use Rattle.line_keys.specs.declared.refresher.InputMode.TheVariants as modes
use Rattle.line_keys.specs.declared.tables.Operator.{Operator}
use Rattle.line_input.specs.Input.{Input}
use Rattle.line_input.specs.Read.{Read, after_count, quiet_read, read_behind, searched_read}

-- the command of an operator over a movement; without one it is Unknown
abbrev pub operated_if : Operator → Option Movement → Command
operated_if operator (Some movement) = operated operator movement
operated_if operator None = unknown

-- the motion of a key after an operator and the keys of a count: at once the operator's own key is the whole line; the two counts
-- are multiplied
abbrev pub motion_behind : Operator → ℕ → List KeyEvent → KeyEvent → Motion
motion_behind operator n [] last = if is_own_key operator last then covers WholeLine else motion_of operator last n
motion_behind operator n (first ∷ more) last = motion_of operator last (multiplied n (count_of (first ∷ more)).n)

-- the items after the key of a motion, and what they lead to
pub data Reaches (draft : Draft) (input : Input) (operator : Operator) : Motion → List Item → Read → Type 0 where
  -- none
  by_movement : (movement : Movement) → Reaches draft input operator (covers movement) [] (quiet_read draft input [] (operated operator movement))
  -- the key of the character to search for
  to_character : (n : ℕ) (by : ℕ → CharSearch) (second : KeyEvent)
      → Reaches draft input operator (covers_search n by) (key second ∷ [])
      (searched_read draft input (key second ∷ []) (λ movement. operated_if operator movement) n (search_to by second))
  -- none: the last search, if there is one
  to_last : (n : ℕ) (change : CharSearch → CharSearch)
      → Reaches draft input operator (covers_last n change) []
      (quiet_read draft input [] (operated_if operator (option_map (λ search. ViCharSearch n (change search)) input.last_search)))
  -- none
  to_match : Reaches draft input operator covers_bracket [] (quiet_read draft input [] (operated_to_bracket operator))
  -- none
  nowhere : Reaches draft input operator no_motion [] (quiet_read draft input [] unknown)

-- The items are the motion of an operator: an optional count, a key, and what belongs to it.
pub record Operated (environment : Environment) (draft : Draft) (input : Input) (operator : Operator) (n : ℕ) (items : List Item) (read : Read) : Type 0 where
  pub typed : List KeyEvent
  pub last : KeyEvent
  pub tail : List Item
  pub cut : items ≡ map key typed ++ (key last ∷ tail)
  pub counted : is_count_before Vi modes.Command typed last ≡ true
  pub behind : Read
  pub reaches : Reaches (after_count environment typed draft) input operator (motion_behind operator n typed last) tail behind
  pub told : read ≡ read_behind typed behind
