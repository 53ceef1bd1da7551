use Rattle.std.proofs.lemmas.Result.{err_from_is_err_and}
use Rattle.line_editor.proofs.run.advance.Goals as goal

pub returns-in_err-turned-clause-advances : goal.returns-in_err-turned-clause-advances
returns-in_err-turned-clause-advances g c =
    let p = err_from_is_err_and c.from_residual.result c.from_residual.ensures.1 in
    rw (p.1, p.2) c.in_err-turned.ensures.advances
