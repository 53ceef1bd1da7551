use Rattle.std.proofs.Common.{◌≡◌, take}
use Rattle.line_input.specs.KeyTree.{LeadsTo, shape_of}
use Rattle.line_input.proofs.bindings.tree.reach.Given as goal

abbrev pub invariant-loop-key : goal.invariant-loop-key
invariant-loop-key g l = record {
  counted : l.depth ≡ l.key-index;
  node : LeadsTo (shape_of l.nodes) (take l.key-index l.keys) l.node;
}
