use Rattle.std.proofs.Common.{◌≡◌, ◌+◌, ◌++◌, None, drop, map}
use Rattle.line_input.specs.KeyTree.{branch, shape_of, values_of}
use Rattle.line_input.proofs.bindings.tree.branch.Given as goal

abbrev pub invariant-loop-key : goal.invariant-loop-key
invariant-loop-key g l = record {
  counted : l.child ≡ l.fn.first + l.key-index;
  shape : shape_of l.nodes.items ++ branch l.child (drop l.key-index l.keys) ≡ branch l.fn.first l.keys;
  values : values_of l.nodes.items ++ map (λ key. None) (drop l.key-index l.keys) ≡ map (λ key. None) l.keys;
}
