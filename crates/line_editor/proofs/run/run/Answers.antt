use Rattle.std.proofs.Common.{refl, ◌∙◌}
use Rattle.std.proofs.lemmas.Result.{err_from_is_err_and}
use Rattle.line_editor.proofs.UnderwayLemmas.{begins, begins_wrong, dries, ends_input, goes_wrong, interrupts, proceeds_on, submits}
use Rattle.line_editor.proofs.run.run.Goals as goal

pub turns-init : goal.turns-init
turns-init g c = (begins _ _ _ _ _ c.in_ok-refresh_line.ensures, refl)

pub turns-preserved : goal.turns-preserved
turns-preserved g c =
    let turn = rw c.in-Proceeds.is at c.in_ok-advance.ensures.advances in
    (proceeds_on _ _ _ _ _ c.turns.invariant.0 _ turn turn.turned, c.in_ok-advance.ensures.ring ∙ c.turns.invariant.1)

pub returns-in-Submitted-clause-runs : goal.returns-in-Submitted-clause-runs
returns-in-Submitted-clause-runs g c =
    let turn = rw c.in-Submitted.is at c.in_ok-advance.ensures.advances in
    submits _ _ _ _ _ c.turns.invariant.0 _ turn turn.turned

pub returns-in-Ended-clause-runs : goal.returns-in-Ended-clause-runs
returns-in-Ended-clause-runs g c =
    let turn = rw c.in-Ended.is at c.in_ok-advance.ensures.advances in
    ends_input _ _ _ _ _ c.turns.invariant.0 _ turn turn.turned

pub returns-in-NeedsMore-clause-runs : goal.returns-in-NeedsMore-clause-runs
returns-in-NeedsMore-clause-runs g c =
    let turn = rw c.in-NeedsMore.is at c.in_ok-advance.ensures.advances in
    dries _ _ _ _ _ c.turns.invariant.0 _ turn turn.turned

pub returns-in-Interrupted-clause-runs : goal.returns-in-Interrupted-clause-runs
returns-in-Interrupted-clause-runs g c =
    let turn = rw c.in-Interrupted.is at c.in_ok-advance.ensures.advances in
    interrupts _ _ _ _ _ c.turns.invariant.0 _ turn turn.turned

pub returns-in_err-refresh_line-clause-runs : goal.returns-in_err-refresh_line-clause-runs
returns-in_err-refresh_line-clause-runs g c =
    let p = err_from_is_err_and c.from_residual.result c.from_residual.ensures.1 in
    rw (p.1, p.2) (begins_wrong _ _ _ _ _ _ c.in_err-refresh_line.ensures)

pub returns-in_err-advance-clause-runs : goal.returns-in_err-advance-clause-runs
returns-in_err-advance-clause-runs g c =
    let p = err_from_is_err_and c.from_residual-in_err-advance.result c.from_residual-in_err-advance.ensures.1 in
    rw (p.1, p.2) (goes_wrong _ _ _ _ _ c.turns.invariant.0 _ _ c.in_err-advance.ensures.advances)
