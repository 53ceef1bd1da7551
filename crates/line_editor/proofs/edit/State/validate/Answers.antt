use Rattle.std.proofs.lemmas.Result.{err_from_is_err_and}
use Rattle.line_parts.specs.Verdict.{verdict_of}
use Rattle.std.proofs.Common.{sym}
use Rattle.line_editor.proofs.AcceptLemmas.{asking_fails, drawing_fails, validates}
use Rattle.line_editor.proofs.edit.State.validate.Goals as goal

pub returns-clause-does : goal.returns-clause-does
returns-clause-does g c =
    let asked = c.in_ok-verdict.ensures in
    validates _ _ _ _ c.args.self.now _ _ (verdict_of c.in_ok-verdict.verdict) c.in_ok-verdict.corrected (sym c.if-not-has_validator.ensures) asked.verdict asked.corrected asked.does
    c.in_ok-show_verdict.ensures.does

pub returns-in_err-verdict-clause-does : goal.returns-in_err-verdict-clause-does
returns-in_err-verdict-clause-does g c =
    let p = err_from_is_err_and c.from_residual.result c.from_residual.ensures.1 in
    rw (p.1, p.2) (asking_fails _ _ c.args.self.now _ (sym c.if-not-has_validator.ensures) c.in_err-verdict.ensures.does)

pub returns-in_err-show_verdict-clause-does : goal.returns-in_err-show_verdict-clause-does
returns-in_err-show_verdict-clause-does g c =
    let p = err_from_is_err_and c.from_residual-in_err-show_verdict.result c.from_residual-in_err-show_verdict.ensures.1 in
    rw (p.1, p.2) (drawing_fails _ _ _ c.args.self.now _ _ (verdict_of c.in_ok-verdict.verdict) _ (sym c.if-not-has_validator.ensures) c.in_ok-verdict.ensures.does c.in_err-show_verdict.ensures.does)
