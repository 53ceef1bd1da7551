-- What the calls leave that read a command, from a whole phrase down to what belongs to a key.
use Rattle.std.specs.Prelude.{◌≡◌, ℕ, [], ◌∷◌, List, Option, Result, OnErr}
use Rattle.line_config.specs.declared.error.ReadlineError.{ReadlineError}
use Rattle.line_keys.specs.Command.{Command}
use Rattle.line_keys.specs.Model.Draft.{Draft}
use Rattle.line_keys.specs.Item.{Item, key}
use Rattle.line_keys.specs.Table.{Meaning}
use Rattle.line_keys.specs.declared.count.Count.{Count}
use Rattle.line_keys.specs.declared.editor_state.EditorState as editors
use Rattle.line_keys.specs.declared.keys.KeyEvent.{KeyEvent}
use Rattle.line_keys.specs.declared.raw_reader.RawReader as readers
use Rattle.line_keys.specs.declared.refresher.InputMode.{InputMode}
use Rattle.line_keys.specs.declared.tables.Operator.{Operator}
use Rattle.line_input.specs.Input.{Input, in_mode}
use Rattle.line_input.specs.InputState.{behind_input, read_command, read_input}
use Rattle.line_input.specs.Keymap.{KeyState, keymap_of}
use Rattle.line_input.specs.Operation.{Operated}
use Rattle.line_input.specs.Phrase.{Keyed, Spelled, entered}
use Rattle.line_input.specs.Read.{Read}
use Rattle.line_input.specs.Reading.{EndsInSequence, EndsQuietly, FindsSequence, GivesQuietly, OnRead, PhraseHere, ReadsPart, StopsWithin}
use Rattle.line_input.specs.Sequence.{Sequences, sequences_of}
use Rattle.line_input.specs.Tail.{Tailed}
use Rattle.line_input.specs.declared.input_state.phrases.Read as read
use Rattle.line_input.specs.declared.input_state.sequences.Sequence.{Sequence}

module _ {X : Type 0} (e : editors.Ghosts X) where
  -- what the bindings say of sequences in a mode, under a count
  abbrev pub sequences_here : X → InputMode → Count → KeyState → Sequences
  sequences_here editor mode count keys = sequences_of keys.bound (e.draft editor) (in_mode mode keys.input) count

  -- the items that belong to a key of a mode, under a count, and what they lead to
  abbrev pub TailHere : X → InputMode → KeyEvent → Count → Meaning → KeyState → List Item → Read → Type 0
  TailHere editor mode last count meaning keys =
      Tailed (sequences_here editor mode count keys) (e.environment editor) (e.draft editor) (in_mode mode keys.input) last meaning

module _ {X Y : Type 0} (e : editors.Ghosts X) (r : readers.Ghosts Y) where
  -- these items are read, after those in front, from a draft
  abbrev pub ReadsRest : (List Item → Read → Type 0) → List Item → Draft → Result read.Read ReadlineError → X → Y → X → Y → KeyState → Type 0
  ReadsRest Comes front from result editor reader editor' reader' keys =
      ReadsPart e r Comes front from (λ command draft. draft)
      read_command (λ c. read_input c keys.input) result editor keys reader editor' reader'

  -- the rest of a phrase that began with a key
  abbrev pub ReadsPhrase : KeyEvent → Result read.Read ReadlineError → X → Y → X → Y → KeyState → Type 0
  ReadsPhrase first result editor reader editor' reader' keys =
      ReadsRest (PhraseHere e r editor keys reader) (key first ∷ [])
      (entered (keymap_of keys (r.own_binding (r.kept reader))) (e.draft editor) keys.input (key first ∷ []))
      result editor reader editor' reader' keys

  -- the rest of a phrase of a mode that began with a key
  abbrev pub ReadsSpelled : InputMode → KeyEvent → Result read.Read ReadlineError → X → Y → X → Y → KeyState → Type 0
  ReadsSpelled mode first result editor reader editor' reader' keys =
      ReadsRest (Spelled (keymap_of keys (r.own_binding (r.kept reader))) (e.environment editor) (e.draft editor) (in_mode mode keys.input))
      (key first ∷ []) (e.draft editor) result editor reader editor' reader' keys

  -- what comes after a key of a mode, in front of which a count may have been typed
  abbrev pub ReadsKeyed : InputMode → Option Count → KeyEvent → Result read.Read ReadlineError → X → Y → X → Y → KeyState → Type 0
  ReadsKeyed mode typed last result editor reader editor' reader' keys =
      ReadsRest (Keyed (keymap_of keys (r.own_binding (r.kept reader))) (e.environment editor) (e.draft editor) (in_mode mode keys.input) typed last)
      [] (e.draft editor) result editor reader editor' reader' keys

  -- what belongs to a key of a mode, under a count
  abbrev pub ReadsTail : InputMode → KeyEvent → Count → Meaning → Result read.Read ReadlineError → X → Y → X → Y → KeyState → Type 0
  ReadsTail mode last count meaning result editor reader editor' reader' keys =
      ReadsPart e r (TailHere e editor mode last count meaning keys) [] (e.draft editor) (λ command draft. draft)
      read_command (λ b. behind_input b (in_mode mode keys.input)) result editor keys reader editor' reader'

  -- the motion of an operator, after the items in front; of the input it looks at the last search alone
  abbrev pub ReadsMotion : Operator → ℕ → List Item → Result read.Read ReadlineError → X → Y → X → Y → KeyState → Type 0
  ReadsMotion operator n front result editor reader editor' reader' keys = (input : Input) → input.last_search ≡ keys.input.last_search
      → ReadsPart e r (Operated (e.environment editor) (e.draft editor) input operator n) front (e.draft editor) (λ command draft. draft)
      read_command (λ b. behind_input b input) result editor keys reader editor' reader'

  -- what belongs to a key of a mode is read with nothing drawn, or the items ran out inside of it
  abbrev pub FindsTail : {T : Type 0} → (T → Command) → (T → Input → Input) → InputMode → KeyEvent → Count → Meaning → Result T ReadlineError → X → Y → Y → KeyState → Type 0
  FindsTail command input mode last count meaning result editor reader reader' keys =
      OnRead result
      (λ x. GivesQuietly r (TailHere e editor mode last count meaning keys) (e.draft editor) (input x (in_mode mode keys.input)) (command x) reader reader')
      (EndsQuietly r (TailHere e editor mode last count meaning keys) reader reader')

  -- after an error the items that were taken are a prefix of what belongs to a key of a mode, or all of it
  abbrev pub StopsInTail : {T : Type 0} → InputMode → KeyEvent → Count → Meaning → Result T ReadlineError → X → Y → Y → KeyState → Type 0
  StopsInTail mode last count meaning result editor reader reader' keys =
      OnErr result (StopsWithin r (TailHere e editor mode last count meaning keys) [] reader reader')

  -- the keys of a bound sequence are read, or the items ran out inside of one
  abbrev pub ReadsSequence : InputMode → KeyEvent → Count → Result Sequence ReadlineError → X → Y → Y → KeyState → Type 0
  ReadsSequence mode first count result editor reader reader' keys =
      OnRead result (λ found. FindsSequence r reader reader' (sequences_here e editor mode count keys) first found)
      (EndsInSequence r reader reader' (sequences_here e editor mode count keys) first)
