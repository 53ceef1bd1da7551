use Rattle.std.proofs.Common.{◌≡◌, ◌++◌, List, map}
use Rattle.line_screen.specs.KeyQueue.{item_of, plain_key}
use Rattle.line_screen.specs.declared.key_queue.Item.{Item}
use Rattle.line_screen.proofs.key_queue.push_typed.Given as goal

-- behind the items from before stands a key for each character so far
abbrev pub invariant-loop-c : goal.invariant-loop-c
invariant-loop-c l = (added : List Item) × (l.items.items ≡ l.fn.items.items ++ added) × (map item_of added ≡ map plain_key l.yielded)
