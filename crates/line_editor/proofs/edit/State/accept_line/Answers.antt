use Rattle.std.proofs.lemmas.Result.{err_from_is_err_and}
use Rattle.std.proofs.Common.{refl}
use Rattle.line_keys.specs.Command.{accept_line}
use Rattle.line_editor.proofs.AcceptLemmas.{accepting_fails, accepts, drop_fails, frame_both, none_failed}
use Rattle.line_editor.proofs.CommandLemmas.{executed_ok}
use Rattle.line_editor.specs.declared.command.Status.TheVariants.{Submit}
use Rattle.line_editor.proofs.edit.State.accept_line.Goals as goal

pub returns : goal.returns
returns g c = λ input indent kills.
    let drop = c.in_ok-drop_hint.ensures in
    let asked = c.in_ok-validate.ensures in
    executed_ok _ _ _ _ _ _ _ _ Submit (accepts _ _ _ c.args.self.now _ _ drop.does drop.loses asked.does asked.no_hint input indent kills)
    (frame_both _ _ _ c.args.self.now _ _ drop.does drop.loses asked.does asked.no_hint) (none_failed _ _ _ c.args.self.now _ _ drop.does drop.loses asked.does asked.no_hint)

pub returns-in_err-drop_hint : goal.returns-in_err-drop_hint
returns-in_err-drop_hint g c = λ input indent kills.
    let p = err_from_is_err_and c.from_residual.result c.from_residual.ensures.1 in
    rw (p.1, p.2) (drop_fails _ _ c.args.self.now _ input indent kills accept_line _ refl refl c.in_err-drop_hint.ensures.does)

pub returns-in_err-validate : goal.returns-in_err-validate
returns-in_err-validate g c = λ input indent kills.
    let p = err_from_is_err_and c.from_residual-in_err-validate.result c.from_residual-in_err-validate.ensures.1 in
    rw (p.1, p.2) (accepting_fails _ _ _ c.args.self.now _ _ _ c.in_ok-drop_hint.ensures.does c.in_err-validate.ensures.does input indent kills)
