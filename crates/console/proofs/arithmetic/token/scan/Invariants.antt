use Rattle.std.proofs.Common.{◌-◌, ◌≤◌, length}
use Rattle.std.specs.Prelude.{All, IsCharBoundary}
use Rattle.console.specs.Tokens.{IsUnblankAt, SpellsOnlyUpTo, SpellsUpTo, symbols_of}
use Rattle.console.proofs.arithmetic.token.scan.Given as goal

abbrev pub invariant-loop-tokens : goal.invariant-loop-tokens
invariant-loop-tokens l = record {
  leads : SpellsUpTo l.text 0 (symbols_of l.tokens.items) l.at;
  only : SpellsOnlyUpTo l.text 0 (symbols_of l.tokens.items) l.at;
  unblank : IsUnblankAt l.text l.at;
  places : All (λ t. IsCharBoundary l.text t.place) l.tokens.items;
  short : length l.tokens.items ≤ l.at;
  boundary : IsCharBoundary l.text l.at;
}

abbrev pub decreases-loop-tokens : goal.decreases-loop-tokens
decreases-loop-tokens l = length l.text - l.at
