use Rattle.std.proofs.Common.{rules, ◌∙◌, ap, sym}
use Rattle.line_input.specs.KeyTree.{value_of}
use Rattle.line_input.proofs.TreeNodeLemmas.{looked-none, looked-value}
use Rattle.line_input.proofs.bindings.tree.KeyTree.get.Goals as goal

pub returns-in-Some : goal.returns-in-Some
returns-in-Some g c =
    let to = rw c.deref.ensures.value at c.in-Some.ensures.found in
    c.as_ref.ensures.value ∙ looked-value c.self.inside.nodes.items c.self.invariant.tree c.args.keys.now c.in-Some.node c.index.result.now to (search rules)
    ∙ ap (λ entries. value_of entries c.args.keys.now) c.self.view_is

pub returns-in-None : goal.returns-in-None
returns-in-None g c =
    let never = rw c.deref.ensures.value at c.in-None.ensures.missing in
    sym (looked-none c.self.inside.nodes.items c.self.invariant.tree c.args.keys.now never) ∙ ap (λ entries. value_of entries c.args.keys.now) c.self.view_is
