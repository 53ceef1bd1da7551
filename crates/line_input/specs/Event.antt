-- What a command can be bound to.
use Rattle.std.specs.Prelude.{Bool, true, false, List, [], map}
use Rattle.std.specs.Cmp.Lexicographic.{pointwise}
use Rattle.std.specs.List.{starts_with}
use Rattle.line_keys.specs.Key.{normalized}
use Rattle.line_keys.specs.contracts.keys.KeyEventPartialEq.TheImpl as key_event
use Rattle.line_keys.specs.declared.keys.KeyEvent.{KeyEvent}
use Rattle.line_input.specs.declared.binding.Event.{Event}
use Rattle.line_input.specs.declared.binding.Event.TheVariants.{Any, KeySeq, Mouse}

-- each key, keys one after another, or the mouse
pub data Chord : Type 0 where
  each_key : Chord
  keys : List KeyEvent → Chord
  mouse : Chord

-- an event as a value
abbrev pub chord_of : Event → Chord
chord_of Any = each_key
chord_of (KeySeq sequence) = keys sequence.items
chord_of Mouse = mouse

-- the keys of an event
abbrev pub event_keys : Chord → List KeyEvent
event_keys each_key = []
event_keys (keys sequence) = sequence
event_keys mouse = []

-- an event with each key in normal form
abbrev pub normal_chord : Chord → Chord
normal_chord each_key = each_key
normal_chord (keys sequence) = keys (map normalized sequence)
normal_chord mouse = mouse

-- whether two keys are the same
abbrev pub same_key : KeyEvent → KeyEvent → Bool
same_key = (key_event.ghosts).eq

-- whether two events are the same
abbrev pub same_chord : Chord → Chord → Bool
same_chord each_key each_key = true
same_chord (keys one) (keys other) = pointwise same_key one other
same_chord mouse mouse = true
same_chord _ _ = false

-- whether an event is keys that begin with these
abbrev pub begins_chord : List KeyEvent → Chord → Bool
begins_chord front (keys sequence) = starts_with same_key sequence front
begins_chord front _ = false
