use Rattle.std.proofs.Common.{arith, ◌∙◌, true, sym, ap}
use Rattle.std.proofs.lemmas.List.{length-map}
use Rattle.std.proofs.lemmas.Str.{IsCharBoundary-start}
use Rattle.unicode_segmentation.proofs.SegmentsLemmas.{concat-segments}
use Rattle.unicode_segmentation.specs.Grapheme.{is_grapheme_break}
use Rattle.unicode_segmentation.specs.Iter.{graphemes_left}
use Rattle.std.proofs.lemmas.Grind.{common_steps}
use Rattle.line_buffer.specs.Cluster.{clusters}
use Rattle.line_buffer.specs.Word.{kind_of, kinds_of, begins_word, edge_before}
use Rattle.line_buffer.proofs.ClusterLemmas.{boundary-bytes_to}
use Rattle.line_buffer.proofs.WordBackLemmas.{back-start, back-next, back-past, back-found}
use Rattle.line_buffer.proofs.word_edges.nth_start_back.Goals as goal
use Rattle.line_buffer.proofs.word_edges.nth_start_back.Goals.{then-begins_before+else-left-eq1, else-begins_before}

pub loop-cluster-init : goal.loop-cluster-init
loop-cluster-init c =
    rw c.graphemes-rest.ensures.left
    (back-start (clusters c.args.text.now) (kinds_of c.args.word (clusters c.args.text.now)) begins_word c.args.n c.args.text.now c.requires
    (length-map (clusters c.args.text.now) (kind_of c.args.word)) (concat-segments (is_grapheme_break true) c.args.text.now c.utf8.text))

pub returns-then-left-eq1 : goal.returns-then-left-eq1
returns-then-left-eq1 c =
    record {
      place =
          back-found (kind_of c.args.word) (clusters c.args.text.now) begins_word c.args.n (graphemes_left c.loop-cluster.rest) (graphemes_left c.next_back.new.self) c.in-Some.cluster.now
          c.loop-cluster.next c.loop-cluster.place c.loop-cluster.left c.loop-cluster.invariant c.in-Some.ensures.steps
          (ap (λ k. edge_before begins_word k c.loop-cluster.next) (sym c.kind_of-kind.ensures) ∙ sym c.begins_before.ensures ∙ c.if-begins_before.true)
          c.if-left-eq1.true;
      boundary = rw c.loop-cluster.invariant.place_is (boundary-bytes_to c.args.text.now c.loop-cluster.invariant.j c.utf8.text);
    }

pub loop-cluster-preserved : goal.loop-cluster-preserved
loop-cluster-preserved c =
    let f = kind_of c.args.word in
    let cs = clusters c.args.text.now in
    let kind = ap (λ k. edge_before begins_word k c.loop-cluster.next) (sym c.kind_of-kind.ensures) ∙ sym c.begins_before.ensures in
    rw (c.kind_of-kind.ensures, c.as_str-place.ensures) (elim c.if-begins_before.branch [
      | then-begins_before+else-left-eq1 w ↦ rw w.left-is (back-past f cs begins_word c.args.n (graphemes_left c.loop-cluster.rest) (graphemes_left c.next_back.new.self) c.in-Some.cluster.now
          c.loop-cluster.next c.loop-cluster.place c.loop-cluster.left c.loop-cluster.invariant c.in-Some.ensures.steps
          (kind ∙ w.if-begins_before.true) w.if-left-eq1.false)
      | else-begins_before w ↦ rw w.left-is (back-next f cs begins_word c.args.n (graphemes_left c.loop-cluster.rest) (graphemes_left c.next_back.new.self) c.in-Some.cluster.now
          c.loop-cluster.next c.loop-cluster.place c.loop-cluster.left c.loop-cluster.invariant c.in-Some.ensures.steps
          (kind ∙ w.if-begins_before.false))
    ])

pub returns : goal.returns
returns c =
    record {
      place = grind (arith, common_steps);
      boundary = IsCharBoundary-start c.args.text.now c.utf8.text;
    }
