use Rattle.std.proofs.Common.{◌≡◌, drop}
use Rattle.line_input.specs.KeyTree.{child_by}
use Rattle.line_input.proofs.bindings.tree.Node.child.Given as goal

abbrev pub invariant-loop-own : goal.invariant-loop-own
invariant-loop-own g l = child_by (drop l.own-index l.self.children.items) l.key ≡ child_by l.self.children.items l.key
