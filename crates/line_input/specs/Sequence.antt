-- Bound key sequences.
use Rattle.std.specs.Prelude.{◌≡◌, Bool, true, false, List, [], ◌∷◌, ◌++◌, Option, Some, None, option_and_then}
use Rattle.line_keys.specs.Command.{Command}
use Rattle.line_keys.specs.Model.Draft.{Draft}
use Rattle.line_keys.specs.declared.count.Count.{Count}
use Rattle.line_keys.specs.declared.keys.KeyEvent.{KeyEvent}
use Rattle.line_input.specs.Binding.{Bound, handler_of, leads_on}
use Rattle.line_input.specs.Event.{keys}
use Rattle.line_input.specs.Input.{Input}
use Rattle.line_input.specs.Moment.{moment_in}

-- what the bindings say of keys one after another: whether a bound sequence is them or begins with them, and which command
-- they have
pub record Sequences : Type 0 where
  pub leads : List KeyEvent → Bool
  pub command : List KeyEvent → Option Command

-- what the bindings of a map say of sequences, under a count
abbrev pub sequences_of : Bound → Draft → Input → Count → Sequences
sequences_of bound draft input count = record {
  leads = leads_on bound;
  command = λ sequence.
      option_and_then (λ handler. handler.answer (record { event = keys sequence; count = count; moment = moment_in draft input }))
      (handler_of bound (keys sequence));
}

-- the command of a key and more of them; one key alone is no sequence
abbrev pub sequence_command : Sequences → KeyEvent → List KeyEvent → Option Command
sequence_command sequences first [] = None
sequence_command sequences first (next ∷ more) = sequences.command (first ∷ next ∷ more)

-- each shorter beginning of the keys leads on, and has no command
abbrev pub IsReadOn : Sequences → KeyEvent → List KeyEvent → Type 0
IsReadOn sequences first more = (front back : List KeyEvent) (next : KeyEvent) → more ≡ front ++ (next ∷ back)
    → (sequences.leads (first ∷ front) ≡ true) × (sequence_command sequences first front ≡ None)

-- the keys have this command; or they have none, and do not lead on
abbrev pub EndsKeys : Sequences → KeyEvent → List KeyEvent → Option Command → Type 0
EndsKeys sequences first more (Some command) = sequence_command sequences first more ≡ Some command
EndsKeys sequences first more None = (sequence_command sequences first more ≡ None) × (sequences.leads (first ∷ more) ≡ false)

-- the keys are answered with a command, or were read in vain
pub record Sequenced (sequences : Sequences) (first : KeyEvent) (more : List KeyEvent) (found : Option Command) : Type 0 where
  pub read_on : IsReadOn sequences first more
  pub ends : EndsKeys sequences first more found
