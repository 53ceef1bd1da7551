-- Bindings of events.
use Rattle.std.specs.Prelude.{◌≡◌, if◌then◌else◌, ℕ, Bool, true, List, [], ◌∷◌, ◌++◌, map, find, Option, None, Some, is_some, option_map}
use Rattle.std.specs.List.{list_all, list_any}
use Rattle.line_keys.specs.Command.{Command, command_of}
use Rattle.line_keys.specs.declared.keys.KeyEvent.{KeyEvent}
use Rattle.line_input.specs.Asked.{Asked}
use Rattle.line_input.specs.Event.{Chord, begins_chord, each_key, event_keys, keys, mouse, same_chord}
use Rattle.line_input.specs.KeyTree.{beginning_count}
use Rattle.line_input.specs.declared.binding.ConditionalEventHandler as handlers
use Rattle.line_input.specs.declared.binding.EventHandler.{EventHandler}
use Rattle.line_input.specs.declared.binding.EventHandler.TheVariants.{Conditional, Simple}
use Rattle.line_input.specs.declared.bindings.Bindings.{Bindings}

-- what a handler answers, and whether no error of input or output comes from it
pub record Handler : Type 0 where
  pub answer : Asked → Option Command
  pub sure : Bool

-- a handler that answers the same at each time
abbrev pub answers : Option Command → Handler
answers command = record { answer = λ asked. command; sure = true }

-- a handler that answers the same whatever hint there is
abbrev pub LooksAtNoHint : Handler → Type 0
LooksAtNoHint handler = (asked : Asked) (has : Bool) (text : Option (List ℕ))
    → handler.answer (record asked { moment = record asked.moment { has_hint = has; hint_text = text } }) ≡ handler.answer asked

-- bindings: events with their handlers, of which the first one of an event counts
abbrev pub Bound : Type 0
Bound = List (Chord × Handler)

-- the handler of an event
abbrev pub handler_of : Bound → Chord → Option Handler
handler_of bound chord = option_map (λ binding. binding.1) (find (λ binding. same_chord binding.0 chord) bound)

-- some bound sequence is these keys, or begins with them
abbrev pub leads_on : Bound → List KeyEvent → Bool
leads_on bound front = list_any (λ binding. begins_chord front binding.0) bound

-- an event is bound, or is keys that a bound sequence begins with
abbrev pub begins : Bound → Chord → Bool
begins bound (keys front) = leads_on bound front
begins bound chord = is_some (handler_of bound chord)

-- the number of different beginnings of the bound key sequences, the empty one not counted
abbrev pub node_count : Bound → ℕ
node_count bound = beginning_count (map (λ binding. event_keys binding.0) bound)

-- no error of input or output comes from a handler
abbrev pub all_sure : Bound → Bool
all_sure bound = list_all (λ binding. binding.1.sure) bound

-- one event is bound to this handler, and each other one as before; where all handlers were sure and this one is, all are
pub record Rebinds (old new : Bound) (chord : Chord) (handler : Handler) : Type 0 where
  pub handlers : (other : Chord) → handler_of new other
      ≡ (if same_chord chord other then Some handler else handler_of old other)
  pub sure : all_sure old ≡ true → handler.sure ≡ true → all_sure new ≡ true

module _ {C : Type 0} where
  module _ (value : EventHandler C → Handler) where
    -- one event with its handler, where it has one
    abbrev pub bound_to : Chord → Option (EventHandler C) → Bound
    bound_to chord None = []
    bound_to chord (Some handler) = (chord, value handler) ∷ []

    -- the bindings that a map holds, of handlers with these values
    abbrev pub bound_by : Bindings C → Bound
    bound_by bindings = bound_to each_key bindings.any ++ bound_to mouse bindings.mouse
        ++ map (λ entry. (keys entry.0, value entry.1)) bindings.sequences

  module _ (g : handlers.Ghosts C) where
    -- a handler as a value: a command answers itself
    abbrev pub handled : EventHandler C → Handler
    handled (Simple command) = answers (Some (command_of command))
    handled (Conditional handler) = record { answer = g.answer handler; sure = g.sure handler }

    -- the bindings that a map holds
    abbrev pub bound_of : Bindings C → Bound
    bound_of bindings = bound_by handled bindings
