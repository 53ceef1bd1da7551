use Rattle.std.proofs.Common.{arith, rules, tests, ◌≡◌, ◌<◌, ◌+◌, ◌∙◌, ap, drop, length, refl, subst, sym}
use Rattle.std.proofs.lemmas.List.{take_rest}
use Rattle.line_input.specs.KeyTree.{IsTree, branch, shape_of, value_of, values_of}
use Rattle.line_input.proofs.TreeGrowthLemmas.{branch-holds, branch_values}
use Rattle.line_input.proofs.TreeNodeLemmas.{grafted, looked-none, looked-value, never-past, nodes-hold, puts-first, puts-from, revalued, same-leads, whole-leads}
use Rattle.line_input.proofs.bindings.tree.KeyTree.insert.Goals as goal

pub invariant_of-self : goal.invariant_of-self
invariant_of-self g c =
    let holds = nodes-hold c.in_ok-self-inside.field-0.items _ _ _ c.in_ok-self-inside.ensures.shape c.in_ok-self-inside.ensures.values (branch-holds c.args.keys.now c.args.value) in
    holds.keyed

pub returns-then-is_empty-clause-puts : goal.returns-then-is_empty-clause-puts
returns-then-is_empty-clause-puts g c =
    let holds = nodes-hold c.in_ok-self-inside.field-0.items _ _ _ c.in_ok-self-inside.ensures.shape c.in_ok-self-inside.ensures.values (branch-holds c.args.keys.now c.args.value) in
    puts-first c.self.inside.nodes.items c.in_ok-self-inside.field-0.items c.args.self.now c.args.keys.now c.args.value (search (rules, tests)) c.self.view_is holds.entries_are

pub invariant_of-self-then-depth-keys : goal.invariant_of-self-then-depth-keys
invariant_of-self-then-depth-keys g c =
    let node = rw c.deref.ensures.value at c.reach-node.ensures.node in
    let to = whole-leads (shape_of c.self.inside.nodes.items) c.args.keys.now c.reach-node.result.1 c.reach-node.result.0 c.if-depth-keys.true node in
    let done = revalued c.self.inside.nodes.items c.self.invariant.tree c.self.invariant.leads c.args.keys.now c.reach-node.result.0 (record { value = c.replace.new.self; children = c.index_mut.result.now.children })
    c.index_mut.result.now c.args.value (search rules) refl c.replace.ensures.after to in
    done.keyed

pub returns-then-depth-keys-clause-puts : goal.returns-then-depth-keys-clause-puts
returns-then-depth-keys-clause-puts g c =
    let node = rw c.deref.ensures.value at c.reach-node.ensures.node in
    let to = whole-leads (shape_of c.self.inside.nodes.items) c.args.keys.now c.reach-node.result.1 c.reach-node.result.0 c.if-depth-keys.true node in
    let done = revalued c.self.inside.nodes.items c.self.invariant.tree c.self.invariant.leads c.args.keys.now c.reach-node.result.0 (record { value = c.replace.new.self; children = c.index_mut.result.now.children })
    c.index_mut.result.now c.args.value (search rules) refl c.replace.ensures.after to in
    puts-from _ _ _ _ _ c.self.view_is done.puts

pub returns-then-depth-keys-clause-old : goal.returns-then-depth-keys-clause-old
returns-then-depth-keys-clause-old g c =
    let node = rw c.deref.ensures.value at c.reach-node.ensures.node in
    let to = whole-leads (shape_of c.self.inside.nodes.items) c.args.keys.now c.reach-node.result.1 c.reach-node.result.0 c.if-depth-keys.true node in
    c.replace.ensures.value ∙ looked-value c.self.inside.nodes.items c.self.invariant.tree c.args.keys.now c.reach-node.result.0 c.index_mut.result.now to (search rules)
    ∙ ap (λ entries. value_of entries c.args.keys.now) c.self.view_is

pub invariant_of-self-in_err-graft : goal.invariant_of-self-in_err-graft
invariant_of-self-in_err-graft g c = record {
  tree = subst (λ s. IsTree s) (sym c.in_err-graft.ensures.shape_kept) c.self.invariant.tree;
  leads = same-leads c.graft.new.nodes.items c.self.inside.nodes.items c.in_err-graft.ensures.shape_kept c.in_err-graft.ensures.values_kept c.self.invariant.leads;
}

pub invariant_of-self-2 : goal.invariant_of-self-2
invariant_of-self-2 g c =
    let node = rw c.deref.ensures.value at c.reach-node.ensures.node in
    let none = rw c.deref.ensures.value at c.reach-node.ensures.no_farther in
    let less : c.reach-node.result.1 < length c.args.keys.now = omega (arith, c.reach-node.ensures.far) in
    let many : c.len.result ≡ length c.self.inside.nodes.items = c.len.ensures ∙ (search rules) in
    let rest = take_rest c.args.keys.now (c.reach-node.result.1 + 1) in
    let shape : shape_of c.in_ok-branch.branch.items ≡ branch (length c.self.inside.nodes.items) (drop (c.reach-node.result.1 + 1) c.args.keys.now) =
    c.in_ok-branch.ensures.shape ∙ ap (branch c.len.result) rest ∙ ap (λ n. branch n (drop (c.reach-node.result.1 + 1) c.args.keys.now)) many in
    let values : values_of c.in_ok-branch.branch.items ≡ branch_values (drop (c.reach-node.result.1 + 1) c.args.keys.now) c.args.value =
    c.in_ok-branch.ensures.values ∙ ap (λ keys. branch_values keys c.args.value) rest in
    let done = grafted c.self.inside.nodes.items c.graft.new.nodes.items c.in_ok-branch.branch.items c.self.invariant.tree c.self.invariant.leads c.args.keys.now c.reach-node.result.1 c.reach-node.result.0 _ c.args.value
    less node none shape values c.in_ok-graft.ensures.shape c.in_ok-graft.ensures.values in
    done.keyed

pub returns-clause-puts : goal.returns-clause-puts
returns-clause-puts g c =
    let node = rw c.deref.ensures.value at c.reach-node.ensures.node in
    let none = rw c.deref.ensures.value at c.reach-node.ensures.no_farther in
    let less : c.reach-node.result.1 < length c.args.keys.now = omega (arith, c.reach-node.ensures.far) in
    let many : c.len.result ≡ length c.self.inside.nodes.items = c.len.ensures ∙ (search rules) in
    let rest = take_rest c.args.keys.now (c.reach-node.result.1 + 1) in
    let shape : shape_of c.in_ok-branch.branch.items ≡ branch (length c.self.inside.nodes.items) (drop (c.reach-node.result.1 + 1) c.args.keys.now) =
    c.in_ok-branch.ensures.shape ∙ ap (branch c.len.result) rest ∙ ap (λ n. branch n (drop (c.reach-node.result.1 + 1) c.args.keys.now)) many in
    let values : values_of c.in_ok-branch.branch.items ≡ branch_values (drop (c.reach-node.result.1 + 1) c.args.keys.now) c.args.value =
    c.in_ok-branch.ensures.values ∙ ap (λ keys. branch_values keys c.args.value) rest in
    let done = grafted c.self.inside.nodes.items c.graft.new.nodes.items c.in_ok-branch.branch.items c.self.invariant.tree c.self.invariant.leads c.args.keys.now c.reach-node.result.1 c.reach-node.result.0 _ c.args.value
    less node none shape values c.in_ok-graft.ensures.shape c.in_ok-graft.ensures.values in
    puts-from _ _ _ _ _ c.self.view_is done.puts

pub returns-clause-old : goal.returns-clause-old
returns-clause-old g c =
    let node = rw c.deref.ensures.value at c.reach-node.ensures.node in
    let none = rw c.deref.ensures.value at c.reach-node.ensures.no_farther in
    let less : c.reach-node.result.1 < length c.args.keys.now = omega (arith, c.reach-node.ensures.far) in
    sym (looked-none c.self.inside.nodes.items c.self.invariant.tree c.args.keys.now
    (never-past (shape_of c.self.inside.nodes.items) c.self.invariant.tree c.args.keys.now c.reach-node.result.1 c.reach-node.result.0 less node none))
    ∙ ap (λ entries. value_of entries c.args.keys.now) c.self.view_is
