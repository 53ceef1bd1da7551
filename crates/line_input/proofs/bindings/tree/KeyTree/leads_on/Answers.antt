use Rattle.std.proofs.Common.{◌∙◌, ap}
use Rattle.std.specs.List.{list_any, starts_with}
use Rattle.line_input.specs.Event.{same_key}
use Rattle.line_input.proofs.TreeNodeLemmas.{looked-leads}
use Rattle.line_input.proofs.bindings.tree.KeyTree.leads_on.Goals as goal

pub returns : goal.returns
returns g c =
    let found = rw c.deref.ensures.value at c.find.ensures.found in
    let missing = rw c.deref.ensures.value at c.find.ensures.missing in
    c.is_some.ensures ∙ looked-leads c.self.inside.nodes.items c.self.invariant.tree c.self.invariant.leads c.args.front.now c.find.result found missing
    ∙ ap (list_any (λ entry. starts_with same_key entry.0 c.args.front.now)) c.self.view_is
