use Rattle.std.proofs.Common.{rules, ◌≡◌, ◌∙◌, ap, refl}
use Rattle.line_input.specs.KeyTree.{shape_of, values_of}
use Rattle.line_input.proofs.TreeNodeLemmas.{any-err, grafted-shape, grafted-values, kept-shape, kept-values}
use Rattle.line_input.proofs.bindings.tree.graft.Goals as goal

pub returns-in_err-reserve-clause-shape_kept : goal.returns-in_err-reserve-clause-shape_kept
returns-in_err-reserve-clause-shape_kept g c =
    any-err _ _ (kept-shape c.args.nodes.now.items c.args.node (record { value = c.index_mut.result.now.value; children = c.reserve.new.self }) c.index_mut.result.now c.requires (search rules) c.reserve.ensures.items)

pub returns-in_err-reserve-clause-values_kept : goal.returns-in_err-reserve-clause-values_kept
returns-in_err-reserve-clause-values_kept g c =
    any-err _ _ (kept-values c.args.nodes.now.items c.args.node (record { value = c.index_mut.result.now.value; children = c.reserve.new.self }) c.index_mut.result.now c.requires (search rules) refl)

pub returns-in_err-append-clause-shape_kept : goal.returns-in_err-append-clause-shape_kept
returns-in_err-append-clause-shape_kept g c =
    any-err c.from_residual-in_err-append.result (shape_of c.append.new.self.items ≡ shape_of c.args.nodes.now.items)
    (ap shape_of c.in_err-append.ensures.items ∙ kept-shape c.args.nodes.now.items c.args.node (record { value = c.index_mut.result.now.value; children = c.reserve.new.self }) c.index_mut.result.now c.requires (search rules) c.reserve.ensures.items)

pub returns-in_err-append-clause-values_kept : goal.returns-in_err-append-clause-values_kept
returns-in_err-append-clause-values_kept g c =
    any-err c.from_residual-in_err-append.result (values_of c.append.new.self.items ≡ values_of c.args.nodes.now.items)
    (ap values_of c.in_err-append.ensures.items ∙ kept-values c.args.nodes.now.items c.args.node (record { value = c.index_mut.result.now.value; children = c.reserve.new.self }) c.index_mut.result.now c.requires (search rules) refl)

pub returns-clause-shape : goal.returns-clause-shape
returns-clause-shape g c =
    grafted-shape c.args.nodes.now.items c.args.branch.items c.append.new.self.items c.args.node c.index_mut.result.now (record { value = c.index_mut.result.now.value; children = c.reserve.new.self })
    c.index_mut-2.result.now (record { value = c.index_mut-2.result.now.value; children = c.push_reserved.new.self }) c.args.key c.len-first.result
    c.requires (search rules) c.reserve.ensures.items c.in_ok-append.ensures.items (search rules) c.push_reserved.ensures.items (search rules)

pub returns-clause-values : goal.returns-clause-values
returns-clause-values g c =
    grafted-values c.args.nodes.now.items c.args.branch.items c.append.new.self.items c.args.node c.index_mut.result.now (record { value = c.index_mut.result.now.value; children = c.reserve.new.self })
    c.index_mut-2.result.now (record { value = c.index_mut-2.result.now.value; children = c.push_reserved.new.self })
    c.requires (search rules) refl c.in_ok-append.ensures.items (search rules) refl
