use Rattle.std.proofs.lemmas.Result.{err_from_is_err_and}
use Rattle.line_editor.proofs.HistoryMoveLemmas.{left_for, saving_fails}
use Rattle.line_editor.proofs.edit.State.leave_for.Goals as goal

pub returns : goal.returns
returns g c =
    let saved = c.in_ok-save_at_end.ensures in
    left_for _ _ c.args.self.now _ _ _ saved.undrawn saved.draft c.show_line.ensures

pub returns-in_err-save_at_end : goal.returns-in_err-save_at_end
returns-in_err-save_at_end g c =
    let p = err_from_is_err_and c.from_residual.result c.from_residual.ensures.1 in
    let saved = c.in_err-save_at_end.ensures in
    rw (p.1, p.2) (saving_fails _ _ c.args.self.now _ _ _ saved.err saved.undrawn saved.memory)
