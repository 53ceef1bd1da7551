use Rattle.std.proofs.Common.{arith, ◌<◌, length}
use Rattle.line_input.specs.KeyTree.{shape_of}
use Rattle.line_input.proofs.TreeNodeLemmas.{never-past}
use Rattle.line_input.proofs.bindings.tree.find.Goals as goal

pub returns-else-depth-keys-clause-missing : goal.returns-else-depth-keys-clause-missing
returns-else-depth-keys-clause-missing g c =
    let short : c.reach-node.result.1 < length c.args.keys.now = omega (arith, c.reach-node.ensures.far) in
    never-past (shape_of c.args.nodes.now) c.requires.tree c.args.keys.now c.reach-node.result.1 c.reach-node.result.0 short c.reach-node.ensures.node c.reach-node.ensures.no_farther
