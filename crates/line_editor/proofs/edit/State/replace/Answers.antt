use Rattle.std.proofs.lemmas.Result.{err_from_is_err_and}
use Rattle.std.proofs.Common.{option_map, refl}
use Rattle.line_editor.proofs.KillLemmas.{only_killed, replaced_movement}
use Rattle.line_editor.proofs.KillFaultLemmas.{movement_fails}
use Rattle.line_buffer.specs.Kill.{killed_range}
use Rattle.line_editor.proofs.edit.State.replace.Goals as goal

pub returns-in-Some-clause-does : goal.returns-in-Some-clause-does
returns-in-Some-clause-does g c =
    let kill = c.in_ok-edit_kill.ensures.does in
    rw c.in-Some.is (replaced_movement _ _ c.args.self.now _ _ _ _ c.args.movement.now (killed_range c.args.self.now.line.edited.line c.args.movement.now) c.in-Some.text.now kill _ c.edit_insert_text.ensures)

pub returns-in-None-clause-does : goal.returns-in-None-clause-does
returns-in-None-clause-does g c = rw c.in-None.is (only_killed _ _ _ c.args.self.now _ _ _ _ _ _ c.in_ok-edit_kill.ensures.does)

pub returns-in_err-edit_kill-clause-does : goal.returns-in_err-edit_kill-clause-does
returns-in_err-edit_kill-clause-does g c =
    let p = err_from_is_err_and c.from_residual.result c.from_residual.ensures.1 in
    rw (p.1, p.2)
    (movement_fails _ _ c.args.self.now _ _ _ c.args.movement.now (killed_range c.args.self.now.line.edited.line c.args.movement.now) _ (option_map (λ s. s.now) c.args.text) _ refl
    c.in_err-edit_kill.ensures.does)
