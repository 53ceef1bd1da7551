use Rattle.std.proofs.Common.{◌-◌, true, length, ap, arith}
use Rattle.unicode_segmentation.proofs.SegmentsLemmas.{concat-segments}
use Rattle.unicode_segmentation.specs.Grapheme.{is_grapheme_break}
use Rattle.unicode_segmentation.specs.Iter.{graphemes_left}
use Rattle.line_buffer.specs.Cluster.{clusters}
use Rattle.line_buffer.proofs.ClusterLemmas.{boundary-bytes_to}
use Rattle.line_buffer.proofs.ClusterStartLemmas.{passed-end, passed-fits, passed-found, passed-next}
use Rattle.line_buffer.proofs.clusters.cluster_start.Goals as goal

pub overflow_sub-end : goal.overflow_sub-end
overflow_sub-end c =
    let fits = passed-fits (clusters c.args.text.now) (graphemes_left c.loop-rest.rest) (graphemes_left c.next.new.self) c.in-Some.field-0.now c.args.place c.loop-rest.start
    c.loop-rest.invariant c.in-Some.ensures.steps in
    omega (arith, fits, ap length c.as_str.ensures, ap length (concat-segments (is_grapheme_break true) c.args.text.now c.utf8.text))

pub returns-then-place-end : goal.returns-then-place-end
returns-then-place-end c =
    let kept = c.loop-rest.invariant in
    let fits = passed-fits (clusters c.args.text.now) (graphemes_left c.loop-rest.rest) (graphemes_left c.next.new.self) c.in-Some.field-0.now c.args.place c.loop-rest.start
    kept c.in-Some.ensures.steps in
    record {
      place =
          passed-found (clusters c.args.text.now) (graphemes_left c.loop-rest.rest) (graphemes_left c.next.new.self) c.in-Some.field-0.now c.args.place c.loop-rest.start
          (length c.args.text.now - length c.as_str.result.now) kept c.in-Some.ensures.steps
          (omega (arith, fits, ap length c.as_str.ensures, ap length (concat-segments (is_grapheme_break true) c.args.text.now c.utf8.text))) c.if-place-end.true;
      boundary = rw kept.start_is (boundary-bytes_to c.args.text.now kept.k c.utf8.text);
    }

pub loop-rest-preserved : goal.loop-rest-preserved
loop-rest-preserved c =
    let fits = passed-fits (clusters c.args.text.now) (graphemes_left c.loop-rest.rest) (graphemes_left c.next.new.self) c.in-Some.field-0.now c.args.place c.loop-rest.start
    c.loop-rest.invariant c.in-Some.ensures.steps in
    passed-next (clusters c.args.text.now) (graphemes_left c.loop-rest.rest) (graphemes_left c.next.new.self) c.in-Some.field-0.now c.args.place c.loop-rest.start
    (length c.args.text.now - length c.as_str.result.now) c.loop-rest.invariant c.in-Some.ensures.steps
    (omega (arith, fits, ap length c.as_str.ensures, ap length (concat-segments (is_grapheme_break true) c.args.text.now c.utf8.text))) (omega (arith, c.if-place-end.false))

pub returns : goal.returns
returns c =
    let kept = c.loop-rest.invariant in
    record {
      place = passed-end (clusters c.args.text.now) (graphemes_left c.loop-rest.rest) c.args.place c.loop-rest.start kept c.in_default.ensures.steps.0;
      boundary = rw kept.start_is (boundary-bytes_to c.args.text.now kept.k c.utf8.text);
    }
