use Rattle.std.proofs.Common.{rules, ◌-◌, true, length, sym, ap, ◌∙◌, arith}
use Rattle.unicode_segmentation.proofs.SegmentsLemmas.{concat-segments}
use Rattle.unicode_segmentation.specs.Grapheme.{is_grapheme_break}
use Rattle.unicode_segmentation.specs.Iter.{graphemes_left}
use Rattle.line_buffer.specs.Character.{is_alphanumeric_cluster}
use Rattle.line_buffer.specs.Cluster.{clusters}
use Rattle.line_buffer.proofs.ClusterLemmas.{boundary-bytes_to}
use Rattle.line_buffer.proofs.SkipLemmas.{skipped-next, skipped-found, skipped-end, skipped-fits}
use Rattle.line_buffer.proofs.clusters.first_alphanumeric.Goals as goal

pub returns-then-is_alphanumeric_text : goal.returns-then-is_alphanumeric_text
returns-then-is_alphanumeric_text c =
    record {
      place =
          skipped-found is_alphanumeric_cluster (clusters c.args.text.now) (graphemes_left c.loop-cluster.rest) (graphemes_left c.next.new.self) c.in-Some.cluster.now c.loop-cluster.at
          c.loop-cluster.invariant c.in-Some.ensures.steps (sym c.is_alphanumeric_text.ensures ∙ c.if-is_alphanumeric_text.true);
      boundary = rw c.loop-cluster.invariant.at_is (boundary-bytes_to c.args.text.now c.loop-cluster.invariant.k c.utf8.text);
    }

pub overflow_sub-at : goal.overflow_sub-at
overflow_sub-at c =
    let fits = skipped-fits is_alphanumeric_cluster (clusters c.args.text.now) (graphemes_left c.loop-cluster.rest) (graphemes_left c.next.new.self) c.in-Some.cluster.now c.loop-cluster.at
    c.loop-cluster.invariant c.in-Some.ensures.steps in
    omega (arith, fits, ap length c.as_str.ensures, ap length (concat-segments (is_grapheme_break true) c.args.text.now c.utf8.text))

pub loop-cluster-preserved : goal.loop-cluster-preserved
loop-cluster-preserved c =
    let fits = skipped-fits is_alphanumeric_cluster (clusters c.args.text.now) (graphemes_left c.loop-cluster.rest) (graphemes_left c.next.new.self) c.in-Some.cluster.now c.loop-cluster.at
    c.loop-cluster.invariant c.in-Some.ensures.steps in
    skipped-next is_alphanumeric_cluster (clusters c.args.text.now) (graphemes_left c.loop-cluster.rest) (graphemes_left c.next.new.self) c.in-Some.cluster.now c.loop-cluster.at
    (length c.args.text.now - length c.as_str.result.now) c.loop-cluster.invariant c.in-Some.ensures.steps (sym c.is_alphanumeric_text.ensures ∙ c.if-is_alphanumeric_text.false)
    (omega (arith, fits, ap length c.as_str.ensures, ap length (concat-segments (is_grapheme_break true) c.args.text.now c.utf8.text)))

pub returns : goal.returns
returns c =
    record {
      place = skipped-end is_alphanumeric_cluster (clusters c.args.text.now) (graphemes_left c.loop-cluster.rest) c.loop-cluster.at c.loop-cluster.invariant c.in_default.ensures.steps.0;
      boundary = search rules;
    }
