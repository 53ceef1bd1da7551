use Rattle.std.proofs.Common.{rules, length, ap, ◌∙◌, arith}
use Rattle.std.proofs.lemmas.Str.{IsCharBoundary-start}
use Rattle.unicode_segmentation.specs.Iter.{graphemes_left}
use Rattle.line_buffer.specs.Width.{text_width}
use Rattle.line_buffer.proofs.ClusterLemmas.{boundary-bytes_to}
use Rattle.line_buffer.proofs.FittingLemmas.{column_left, columns-start, fitted-start, fitted-next, fitted-none, fitted-found, shorter}
use Rattle.line_buffer.proofs.line_buffer.lines.fitting.Goals as goal

pub loop-mode-init : goal.loop-mode-init
loop-mode-init c = (
  rw c.graphemes-rest.ensures.left (fitted-start c.args.layout.now c.args.start c.args.line.now c.args.column),
  columns-start c.args.layout.now c.args.line.now c.columns-columns.result (graphemes_left c.graphemes-rest.result) c.utf8.line c.graphemes-rest.ensures.left c.columns-columns.ensures,
)

pub returns-in_default : goal.returns-in_default
returns-in_default c =
    record {
      place =
          fitted-none c.args.layout.now c.args.start c.args.line.now c.args.column (graphemes_left c.loop-mode.rest) c.loop-mode.invariant.0 (search rules);
      boundary = IsCharBoundary-start c.args.line.now c.utf8.line;
    }

pub columns_to-columns-requires-clause-end : goal.columns_to-columns-requires-clause-end
columns_to-columns-requires-clause-end c =
    (shorter c.as_str-text.result.now c.as_str.result.now (graphemes_left c.loop-mode.rest) (graphemes_left c.next_back.new.self) c.in-Some.field-0.now
    c.as_str-text.utf8 c.as_str.utf8 c.as_str-text.ensures c.as_str.ensures c.in-Some.ensures.steps).0

pub loop-mode-preserved : goal.loop-mode-preserved
loop-mode-preserved c =
    let kept = c.loop-mode.invariant in
    let column =
    column_left c.args.layout.now c.args.start c.columns_before-before.result c.min.result c.loop-mode.columns (graphemes_left c.loop-mode.rest)
    c.columns_before-before.ensures c.min.ensures kept.1 in
    let front = (shorter c.as_str-text.result.now c.as_str.result.now (graphemes_left c.loop-mode.rest) (graphemes_left c.next_back.new.self) c.in-Some.field-0.now
    c.as_str-text.utf8 c.as_str.utf8 c.as_str-text.ensures c.as_str.ensures c.in-Some.ensures.steps).1 in (
      fitted-next c.args.layout.now c.args.start c.args.line.now c.args.column (graphemes_left c.loop-mode.rest) (graphemes_left c.next_back.new.self) c.in-Some.field-0.now
          kept.0 (omega (arith, column, c.loop-mode-test.true)) c.in-Some.ensures.steps,
      c.columns_to-columns.ensures ∙ ap (text_width c.args.layout.now.grapheme_cluster_mode) (front ∙ c.as_str.ensures),
    )

pub returns : goal.returns
returns c =
    let kept = c.loop-mode.invariant in
    let column =
    column_left c.args.layout.now c.args.start c.columns_before-before.result c.min.result c.loop-mode.columns (graphemes_left c.loop-mode.rest)
    c.columns_before-before.ensures c.min.ensures kept.1 in
    record {
      place =
          ap length c.as_str-2.ensures
          ∙ fitted-found c.args.layout.now c.args.start c.args.line.now c.args.column (graphemes_left c.loop-mode.rest) kept.0 (omega (arith, column, c.loop-mode-test.false));
      boundary = rw (ap length c.as_str-2.ensures, kept.0.rest_is) (boundary-bytes_to c.args.line.now kept.0.j c.utf8.line);
    }
