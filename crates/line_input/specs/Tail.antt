-- What is read after a key, by what the key means.
use Rattle.std.specs.Prelude.{◌≡◌, ℕ, Bool, true, false, List, [], ◌∷◌, map, Option, Some, None, option_map}
use Rattle.line_buffer.specs.Changes.{last_insert_of}
use Rattle.line_buffer.specs.declared.movement.CharSearch.{CharSearch}
use Rattle.line_buffer.specs.declared.movement.Movement.{Movement}
use Rattle.line_buffer.specs.declared.movement.Movement.TheVariants.{ViCharSearch}
use Rattle.line_parts.specs.Environment.{Environment}
use Rattle.line_keys.specs.Command.{Command, insert, move, noop, unknown}
use Rattle.line_keys.specs.Model.Draft.{Draft}
use Rattle.line_keys.specs.Item.{Item, key, paste}
use Rattle.line_keys.specs.Motion.{replaced_by, search_to}
use Rattle.line_keys.specs.Redo.{redone}
use Rattle.line_keys.specs.Table.{Meaning, again, gives, has_second, operates, pastes, replaces_char, searches, searches_again, unlisted}
use Rattle.line_keys.specs.declared.keys.KeyEvent.{KeyEvent}
use Rattle.line_keys.specs.declared.tables.Operator.{Operator}
use Rattle.line_input.specs.Input.{Input}
use Rattle.line_input.specs.Operation.{Operated}
use Rattle.line_input.specs.Read.{Read, quiet_read, searched_read}
use Rattle.line_input.specs.Sequence.{Sequenced, Sequences}

-- a move, or else this command
abbrev pub move_or : Command → Option Movement → Command
move_or other (Some movement) = move movement
move_or other None = other

-- the last change again, with a new count if there is one; the text that was inserted last is handed in; Noop without a change
abbrev pub changed_again : Option ℕ → Option (List ℕ) → Option Command → Command
changed_again new last (Some change) = redone true new last change
changed_again new last None = noop

-- what is read after a key of this meaning is a motion
abbrev pub is_operation : Meaning → Bool
is_operation (operates operator n) = true
is_operation meaning = false

-- after a key of this meaning the keys of bound sequences are read
abbrev pub begins_sequences : Meaning → Bool
begins_sequences (has_second by) = true
begins_sequences unlisted = true
begins_sequences meaning = false

-- the items that are read after a key of this meaning, and what they lead to
pub data Tailed (sequences : Sequences) (environment : Environment) (draft : Draft) (input : Input) (last : KeyEvent) : Meaning → List Item → Read → Type 0 where
  -- none
  alone : (command : Command) → Tailed sequences environment draft input last (gives command) [] (quiet_read draft input [] command)
  -- the key of the character to search for; another key stands for Unknown
  by_character : (n : ℕ) (by : ℕ → CharSearch) (second : KeyEvent)
      → Tailed sequences environment draft input last (searches n by) (key second ∷ [])
      (searched_read draft input (key second ∷ []) (move_or unknown) n (search_to by second))
  -- none: the last search, if there is one
  by_last_search : (n : ℕ) (change : CharSearch → CharSearch)
      → Tailed sequences environment draft input last (searches_again n change) []
      (quiet_read draft input [] (move_or noop (option_map (λ search. ViCharSearch n (change search)) input.last_search)))
  -- a pasted text, which is inserted once
  by_paste : (text : List ℕ) → Tailed sequences environment draft input last pastes (paste text ∷ []) (quiet_read draft input (paste text ∷ []) (insert 1 text))
  -- the key of the character that replaces others
  by_replacement : (n : ℕ) (second : KeyEvent)
      → Tailed sequences environment draft input last (replaces_char n) (key second ∷ []) (quiet_read draft input (key second ∷ []) (replaced_by n second))
  -- none: the last change
  by_last_change : (new : Option ℕ)
      → Tailed sequences environment draft input last (again new) []
      (quiet_read draft input [] (changed_again new (last_insert_of draft.changes.entries) input.last_change))
  -- the motion of an operator
  by_motion : (operator : Operator) (n : ℕ) (items : List Item) (read : Read)
      → Operated environment draft input operator n items read
      → Tailed sequences environment draft input last (operates operator n) items read
  -- the further keys of a bound sequence that has a command
  by_sequence : (meaning : Meaning) (more : List KeyEvent) (command : Command) → begins_sequences meaning ≡ true
      → Sequenced sequences last more (Some command)
      → Tailed sequences environment draft input last meaning (map key more) (quiet_read draft input (map key more) command)
  -- a second key, where no bound sequence begins with the first
  by_second_key : (by : KeyEvent → Command) (second : KeyEvent) → Sequenced sequences last [] None
      → Tailed sequences environment draft input last (has_second by) (key second ∷ []) (quiet_read draft input (key second ∷ []) (by second))
  -- keys that were read in vain for a bound sequence: the first of them is the second key
  by_second_in_vain : (by : KeyEvent → Command) (second : KeyEvent) (more : List KeyEvent)
      → Sequenced sequences last (second ∷ more) None
      → Tailed sequences environment draft input last (has_second by) (map key (second ∷ more)) (quiet_read draft input (map key (second ∷ more)) (by second))
  -- keys, or none, that were read in vain for a bound sequence after a key without a second one: they stand for nothing
  in_vain : (more : List KeyEvent) → Sequenced sequences last more None
      → Tailed sequences environment draft input last unlisted (map key more) (quiet_read draft input (map key more) unknown)
