use Rattle.std.proofs.Common.{◌≡◌, ◌++◌, map}
use Rattle.std.proofs.Math.ListN.{drop, take}
use Rattle.line_keys.specs.Key.{normalized}
use Rattle.line_input.proofs.binding.normalize_each.Given as goal

abbrev pub invariant-loop-key : goal.invariant-loop-key
invariant-loop-key l = l.keys ≡ map normalized (take l.key-index l.fn.keys) ++ drop l.key-index l.fn.keys
