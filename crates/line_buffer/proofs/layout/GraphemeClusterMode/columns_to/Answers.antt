use Rattle.std.proofs.Common.{arith, ap}
use Rattle.line_buffer.specs.Width.{text_width}
use Rattle.line_buffer.proofs.PartLemmas.{parted_as}
use Rattle.line_buffer.proofs.layout.GraphemeClusterMode.columns_to.Goals as goal

pub overflow_sub-result-then-without-with : goal.overflow_sub-result-then-without-with
overflow_sub-result-then-without-with c =
    let mode = c.args.self.now in
    let sums = parted_as mode c.args.text.now c.range.result.now c.range_from.result.now c.args.end c.seam-place.result c.requires.end.0 c.range.ensures.value c.range_from.ensures.value c.seam-place.ensures in
    omega (arith, sums.0, c.requires.columns, c.columns-with.ensures, ap (text_width mode) c.range_from-2.ensures.value)

pub returns-then-without-with : goal.returns-then-without-with
returns-then-without-with c =
    let mode = c.args.self.now in
    let sums = parted_as mode c.args.text.now c.range.result.now c.range_from.result.now c.args.end c.seam-place.result c.requires.end.0 c.range.ensures.value c.range_from.ensures.value c.seam-place.ensures in
    omega (arith, sums.0, sums.1, c.requires.columns, c.columns-with.ensures, c.columns-without.ensures, ap (text_width mode) c.range_from-2.ensures.value, ap (text_width mode) c.range-2.ensures.value)
