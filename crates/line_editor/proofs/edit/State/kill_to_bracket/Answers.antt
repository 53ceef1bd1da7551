use Rattle.std.proofs.lemmas.Result.{err_from_is_err_and}
use Rattle.std.proofs.Common.{refl}
use Rattle.line_editor.proofs.KillFaultLemmas.{bracket_goes, copy_fails}
use Rattle.line_editor.proofs.edit.State.kill_to_bracket.Goals as goal

pub returns-in_err-copy_to_bracket-clause-does : goal.returns-in_err-copy_to_bracket-clause-does
returns-in_err-copy_to_bracket-clause-does g c =
    let p = err_from_is_err_and c.from_residual.result c.from_residual.ensures.1 in
    rw (p.1, p.2) (copy_fails _ _ c.args.self.now _ _ _ _ _ _ _ c.in_err-copy_to_bracket.ensures.memory refl refl c.in_err-copy_to_bracket.ensures.does)

pub returns-clause-does : goal.returns-clause-does
returns-clause-does g c = bracket_goes _ _ _ c.args.self.now _ _ _ _ c.in_ok-copy_to_bracket.ensures.does c.remove_to_bracket.ensures
