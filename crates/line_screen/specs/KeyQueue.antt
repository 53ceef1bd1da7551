-- What a queue of keys and pasted texts holds.
use Rattle.std.specs.Prelude.{◌≡◌, ℕ, ◌+◌, ◌==◌, ◌&&◌, ◌++◌, min, Bool, true, List, [], ◌∷◌, Option, Some, None, Result, Ok, Err, IfOk, IfErr, OnOk, OnErr, if◌then◌else◌, string_bytes, map, chars}
use Rattle.line_config.specs.Error.{IoOnlyIf, MemoryOnly, is_io, max_count}
use Rattle.line_config.specs.Failures.{CountsFailures}
use Rattle.line_config.specs.declared.error.ReadlineError.{ReadlineError}
use Rattle.line_config.specs.declared.error.ReadlineError.TheVariants.{Eof}
use Rattle.line_keys.specs.Command.{Command, end_of_file, interrupt}
use Rattle.line_keys.specs.Item as input
use Rattle.line_keys.specs.Item.{ReadFault}
use Rattle.line_keys.specs.Key.{bits_of, event}
use Rattle.line_keys.specs.declared.keys.KeyCode.{KeyCode}
use Rattle.line_keys.specs.declared.keys.KeyCode.TheVariants.{Char, BracketedPasteStart}
use Rattle.line_keys.specs.declared.keys.KeyEvent.{KeyEvent}
use Rattle.line_keys.specs.declared.keys.TheConstants.Modifiers.{CTRL, NONE}
use Rattle.line_screen.specs.declared.key_queue.Item.{Item}
use Rattle.line_screen.specs.declared.key_queue.Item.TheVariants.{Key, Paste}

-- an item as the reader returns it
abbrev pub item_of : Item → input.Item
item_of (Key k) = input.key k
item_of (Paste text) = input.paste (string_bytes text)

-- what was read since the mark, what is left to read, how often an item of another kind was asked for, and whether the queue binds keys
pub record Queued : Type 0 where
  pub read : List input.Item
  pub rest : List input.Item
  pub failures : ℕ
  pub binds : Bool

-- all that stands in the queue: no call that reads changes it
abbrev pub standing : Queued → List input.Item
standing q = q.read ++ q.rest

-- what no call that reads changes: whether keys are bound, and all that stands in the queue
abbrev pub kept_by : Queued → Bool × List input.Item
kept_by q = (q.binds, standing q)

-- what a call reads that takes no memory: the item in front, where it is of the kind that is asked for; else it returns an error of
-- input or output, and the end of the input where nothing is left
pub record Reads {T : Type 0} (result : Result T ReadlineError) (as_item : T → input.Item) (rest : List input.Item) : Type 0 where
  pub reads : (t : T) (more : List input.Item) → rest ≡ as_item t ∷ more → result ≡ Ok t
  pub ends : rest ≡ [] → result ≡ Err Eof
  pub fails : (item : input.Item) (more : List input.Item) → rest ≡ item ∷ more → IfErr result (λ e. is_io e ≡ true)

-- the plain key of a character
abbrev pub plain_key : ℕ → input.Item
plain_key c = input.key (event (Char c) NONE)

-- the key before a pasted text
abbrev pub paste_start : KeyEvent
paste_start = event BracketedPasteStart NONE

-- C-C interrupts and C-D ends the input
abbrev pub code_binding : KeyCode → ℕ → Option Command
code_binding (Char c) modifiers =
    if (c == 67) && (modifiers == bits_of CTRL) then Some interrupt
    else if (c == 68) && (modifiers == bits_of CTRL) then Some end_of_file
    else None
code_binding _ modifiers = None

-- what a queue binds a key to, if it binds keys
abbrev pub queue_binding : Bool → KeyEvent → Option Command
queue_binding binds k = if binds then code_binding k.0 (bits_of k.1) else None

-- a key without modifiers was appended for each character of a text
pub record AppendsTyped (before after : List Item) (text : List ℕ) : Type 0 where
  pub added : List Item
  pub behind : after ≡ before ++ added
  pub keys : map item_of added ≡ map plain_key (chars text)

-- what a call leaves that appends items: all of them, or none where memory ran out, which is its only error
pub record Appends (result : Result (Unit {0}) ReadlineError) (items : List input.Item) (old new : Queued) : Type 0 where
  pub appended : OnOk result (new ≡ record old { rest = old.rest ++ items })
  pub refused : OnErr result (new ≡ old)
  pub memory : MemoryOnly result

-- what a call leaves that takes the next item, where it is of this kind; after an error none is taken; one of input or output is
-- counted once, the end comes only where nothing is left, an interrupt never; what stands in the queue, and what it binds, stay
pub record Takes {T : Type 0} (result : Result T ReadlineError) (as_item : T → input.Item) (old new : Queued) : Type 0 where
  pub took : IfOk result (λ t. old.rest ≡ as_item t ∷ new.rest)
  pub kept : OnErr result (new.rest ≡ old.rest)
  pub fault : IfErr result (λ error. ReadFault error old.rest)
  pub counts : CountsFailures result old.failures new.failures
  pub one : IoOnlyIf result (new.failures ≡ min max_count (old.failures + 1))
  pub stays : kept_by new ≡ kept_by old
