-- A queue of keys, as a reader.
use Rattle.std.proofs.Common.{Bool, List}
use Rattle.line_keys.specs.Item.{Item}
use Rattle.line_keys.specs.declared.raw_reader.RawReader as readers
use Rattle.line_screen.specs.KeyQueue.{Queued, kept_by, queue_binding}

-- what contracts see of the queue
abbrev pub reader : readers.Ghosts Queued
reader = record {
  rest = λ q. q.rest;
  failures = λ q. q.failures;
  Kept = Bool × List Item;
  kept = kept_by;
  own_binding = λ kept. queue_binding kept.0;
}
