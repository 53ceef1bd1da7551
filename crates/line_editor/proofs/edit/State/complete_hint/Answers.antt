use Rattle.std.proofs.lemmas.Result.{err_from_is_err_and}
use Rattle.std.proofs.Common.{rules}
use Rattle.line_editor.proofs.HistoryMoveLemmas.{completing_fails}
use Rattle.line_editor.proofs.edit.State.complete_hint.Goals as goal

pub returns-in_err-yank_hint : goal.returns-in_err-yank_hint
returns-in_err-yank_hint g c =
    let p = err_from_is_err_and c.from_residual.result c.from_residual.ensures.1 in
    let y = c.in_err-yank_hint.ensures in
    rw (p.1, p.2) (completing_fails _ _ c.args.self.now _ (search rules) y.fault y.drew y.frame y.fails)
