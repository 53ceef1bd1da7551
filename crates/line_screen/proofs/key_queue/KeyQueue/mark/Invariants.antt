use Rattle.std.proofs.Common.{◌≡◌, drop}
use Rattle.line_screen.proofs.key_queue.KeyQueue.mark.Given as goal

-- so many items were taken from the front
abbrev pub invariant-loop : goal.invariant-loop
invariant-loop l =
    (l.self-inside.items.items ≡ drop l.counter l.initial.self-inside.items.items)
    × (l.self-inside.failures ≡ l.initial.self-inside.failures) × (l.self-inside.binds ≡ l.initial.self-inside.binds)
