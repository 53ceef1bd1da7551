use Rattle.std.proofs.Common.{◌≡◌, ◌+◌, ◌-◌, ◌≤◌, length, sym, ap, ◌∙◌, arith}
use Rattle.std.specs.List.{concat}
use Rattle.unicode_segmentation.specs.Iter.{graphemes_left}
use Rattle.line_buffer.specs.Word.{kind_of, edge_between, edge_behind}
use Rattle.line_buffer.proofs.WordLemmas.{read-next, read-past, read-found, read-end, read-fits}
use Rattle.line_buffer.proofs.word_edges.nth_edge.Goals as goal
use Rattle.line_buffer.proofs.word_edges.nth_edge.Goals.{then-is_behind+else-left-eq1, else-is_behind}

pub returns-then-left-eq1 : goal.returns-then-left-eq1
returns-then-left-eq1 c =
    read-found (kind_of c.args.word) (graphemes_left c.args.clusters) (edge_between c.args.edge) c.args.n (graphemes_left c.loop-cluster.rest) (graphemes_left c.next.new.self) c.in-Some.cluster.now
    c.loop-cluster.previous c.loop-cluster.before c.loop-cluster.place c.loop-cluster.left 0 c.loop-cluster.invariant.2 c.in-Some.ensures.steps
    (ap (edge_behind (edge_between c.args.edge) c.loop-cluster.previous) (sym c.kind_of-kind.ensures) ∙ sym c.is_behind.ensures ∙ c.if-is_behind.true)
    c.if-left-eq1.true

pub overflow_sub-place : goal.overflow_sub-place
overflow_sub-place c =
    let fits : length (concat (graphemes_left c.next.new.self)) ≤ length (concat (graphemes_left c.args.clusters)) =
    read-fits _ (graphemes_left c.args.clusters) (edge_between c.args.edge) c.args.n (graphemes_left c.loop-cluster.rest) (graphemes_left c.next.new.self) c.in-Some.cluster.now
    c.loop-cluster.previous c.loop-cluster.before c.loop-cluster.place c.loop-cluster.left c.loop-cluster.invariant.2 c.in-Some.ensures.steps in
    omega (arith, ap length c.as_str.ensures, ap length c.as_str-len.ensures)

pub loop-cluster-preserved : goal.loop-cluster-preserved
loop-cluster-preserved c =
    let f = kind_of c.args.word in
    let cs = graphemes_left c.args.clusters in
    let test = edge_between c.args.edge in
    let fits : length (concat (graphemes_left c.next.new.self)) ≤ length (concat cs) =
    read-fits _ cs test c.args.n (graphemes_left c.loop-cluster.rest) (graphemes_left c.next.new.self) c.in-Some.cluster.now
    c.loop-cluster.previous c.loop-cluster.before c.loop-cluster.place c.loop-cluster.left c.loop-cluster.invariant.2 c.in-Some.ensures.steps in
    let place : length c.as_str-len.result.now - length c.as_str.result.now + length (concat (graphemes_left c.next.new.self)) ≡ length (concat cs) =
    omega (arith, ap length c.as_str.ensures, ap length c.as_str-len.ensures) in
    let kind = ap (edge_behind test c.loop-cluster.previous) (sym c.kind_of-kind.ensures) ∙ sym c.is_behind.ensures in (
      tt,
      tt,
      rw c.kind_of-kind.ensures (elim c.if-is_behind.branch [
        | then-is_behind+else-left-eq1 w ↦ rw w.left-is (read-past f cs test c.args.n (graphemes_left c.loop-cluster.rest) (graphemes_left c.next.new.self) c.in-Some.cluster.now
            c.loop-cluster.previous c.loop-cluster.before c.loop-cluster.place c.loop-cluster.left _ c.loop-cluster.invariant.2 c.in-Some.ensures.steps
            (kind ∙ w.if-is_behind.true) w.if-left-eq1.false place)
        | else-is_behind w ↦ rw w.left-is (read-next f cs test c.args.n (graphemes_left c.loop-cluster.rest) (graphemes_left c.next.new.self) c.in-Some.cluster.now
            c.loop-cluster.previous c.loop-cluster.before c.loop-cluster.place c.loop-cluster.left _ c.loop-cluster.invariant.2 c.in-Some.ensures.steps
            (kind ∙ w.if-is_behind.false) place)
      ]),
    )

pub returns : goal.returns
returns c = read-end (kind_of c.args.word) _ (edge_between c.args.edge) c.args.n (graphemes_left c.loop-cluster.rest) _ _ _ _ c.loop-cluster.invariant.2 c.in_default.ensures.steps.0
