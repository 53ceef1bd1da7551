use Rattle.std.proofs.Common.{sym}
use Rattle.std.proofs.lemmas.Result.{err_from_is_err_and}
use Rattle.line_input.proofs.CountedLemmas.{count_begins, count_ends, count_fails, counts_on, redraw_fails}
use Rattle.line_input.proofs.input_state.InputState.read_count.Goals as goal

pub keys-init : goal.keys-init
keys-init g c = count_begins _ _ _ _ _ _ _ c.new-typed.ensures

pub returns-then-not-continues_count : goal.returns-then-not-continues_count
returns-then-not-continues_count g c =
    count_ends _ _ _ _ _ _ _ _ _ c.keys.invariant _ _ _ c.in_ok-key.ensures _ _ (sym c.if-not-continues_count.ensures) c.count.ensures c.in_ok-refresh_line.ensures

pub keys-preserved : goal.keys-preserved
keys-preserved g c = counts_on _ _ _ _ _ _ _ _ _ c.keys.invariant _ _ _ c.in_ok-key.ensures _ (sym c.if-not-continues_count.ensures) c.push.ensures

pub returns-in_err-key : goal.returns-in_err-key
returns-in_err-key g c =
    let p = err_from_is_err_and c.from_residual.result c.from_residual.ensures.1 in
    rw (p.1, p.2) (count_fails _ _ _ _ _ _ _ _ _ c.keys.invariant _ _ _ c.in_err-key.ensures)

pub returns-in_err-refresh_line : goal.returns-in_err-refresh_line
returns-in_err-refresh_line g c =
    let p = err_from_is_err_and c.from_residual-in_err-refresh_line.result c.from_residual-in_err-refresh_line.ensures.1 in
    rw (p.1, p.2) (redraw_fails _ _ _ _ _ _ _ _ _ c.keys.invariant _ _ _ c.in_ok-key.ensures _ _ (sym c.if-not-continues_count.ensures) c.in_err-refresh_line.ensures)
