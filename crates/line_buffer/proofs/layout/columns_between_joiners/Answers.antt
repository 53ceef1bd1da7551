use Rattle.std.proofs.Common.{arith}
use Rattle.line_buffer.proofs.WidthLemmas.{behind_is_text, fewer_bytes, fewer_columns, last_columns}
use Rattle.line_buffer.proofs.layout.columns_between_joiners.Goals as goal

pub loop-piece-preserved : goal.loop-piece-preserved
loop-piece-preserved c =
    let before = c.loop-piece.invariant in
    let columns = c.columns_of-columns.ensures in
    let cases = c.in-Some.ensures.cases in (
      behind_is_text c.loop-piece.rest.now c.in-Some.piece.now c.in-Some.behind.now before.0 cases,
      omega (arith, before.1, columns.columns, fewer_columns c.loop-piece.rest.now c.in-Some.piece.now c.in-Some.behind.now columns.text cases),
      omega (arith, before.2, columns.bound, fewer_bytes c.loop-piece.rest.now c.in-Some.piece.now c.in-Some.behind.now cases),
    )

pub returns : goal.returns
returns c =
    let before = c.loop-piece.invariant in
    let columns = c.columns_of.ensures in
    omega (arith, before.1, columns.columns, last_columns c.loop-piece.rest.now columns.text c.in_default.ensures.cases)
