-- What a binding is asked.
use Rattle.line_keys.specs.declared.count.Count.{Count}
use Rattle.line_input.specs.Event.{Chord}
use Rattle.line_input.specs.Moment.{Moment}

-- the event, its count, and the moment when it was read
pub record Asked : Type 0 where
  pub event : Chord
  pub count : Count
  pub moment : Moment
