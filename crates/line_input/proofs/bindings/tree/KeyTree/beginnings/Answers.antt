use Rattle.std.proofs.Common.{rules, ◌≡◌, ◌-◌, ◌∙◌, ap, length, map, sym}
use Rattle.std.proofs.lemmas.List.{length-map}
use Rattle.line_input.specs.KeyTree.{beginning_count, shape_of, values_of}
use Rattle.line_input.proofs.TreeLookLemmas.{others-counted}
use Rattle.line_input.proofs.TreeNodeLemmas.{sizes}
use Rattle.line_input.proofs.bindings.tree.KeyTree.beginnings.Goals as goal

pub returns : goal.returns
returns g c =
    let nodes = c.self.inside.nodes.items in
    let many : c.len.result ≡ length (shape_of nodes) = c.len.ensures ∙ (search rules) ∙ sym (length-map nodes _) in
    c.saturating_sub.ensures ∙ ap (λ n. n - 1) many ∙ others-counted (shape_of nodes) c.self.invariant.tree (values_of nodes) (sizes nodes) c.self.invariant.leads
    ∙ ap (λ entries. beginning_count (map (λ entry. entry.0) entries)) c.self.view_is
