use Rattle.std.proofs.Common.{◌+◌, ap, refl, sym}
use Rattle.line_input.proofs.TreeNodeLemmas.{leads-to_child, root-leads}
use Rattle.line_input.proofs.bindings.tree.reach.Goals as goal

pub loop-key-init : goal.loop-key-init
loop-key-init g c = record { counted = refl; node = root-leads c.args.nodes.now c.requires.tree.tree c.requires.root }

pub loop-key-preserved : goal.loop-key-preserved
loop-key-preserved g c = record {
  counted = ap (λ n. n + 1) c.loop-key.invariant.counted;
  node = leads-to_child c.args.nodes.now c.requires.tree.tree c.args.keys.now c.loop-key.key-index c.loop-key.node c.in-Some.child _ c.index-nodes-node.result c.child.result
      c.loop-key-test.true (sym c.index-nodes-node.is) c.loop-key.invariant.node c.child.ensures c.in-Some.is;
}
