use Rattle.std.proofs.Common.{◌≡◌, ◌∙◌, ap, arith, rules}
use Rattle.std.proofs.lemmas.Grind.{common_steps}
use Rattle.std.proofs.lemmas.Result.{err_from_is_err_and}
use Rattle.line_buffer.specs.KillRing.{Ring, after_yank_pop, yank_popped}
use Rattle.line_editor.proofs.KillLemmas.{popped_by}
use Rattle.line_editor.proofs.KillFaultLemmas.{popped_size}
use Rattle.line_editor.proofs.edit.State.pop_killed.Goals as goal

pub returns-in_ok-edit_yank_pop-clause-does : goal.returns-in_ok-edit_yank_pop-clause-does
returns-in_ok-edit_yank_pop-clause-does g c =
    popped_by _ _ c.args.self.now _ c.args.kill_ring.now _ (yank_popped c.args.kill_ring.now) c.in-Some.size c.in-Some.text.now c.in-Some.ensures.answer (search rules)
    c.in_ok-edit_yank_pop.ensures

pub returns-in_default-clause-does : goal.returns-in_default-clause-does
returns-in_default-clause-does g c = grind (arith, common_steps)

pub returns-in_err-edit_yank_pop-clause-does : goal.returns-in_err-edit_yank_pop-clause-does
returns-in_err-edit_yank_pop-clause-does g c =
    let p = err_from_is_err_and c.from_residual.result c.from_residual.ensures.1 in
    rw (p.1, p.2)
    (popped_by _ _ c.args.self.now _ c.args.kill_ring.now _ (yank_popped c.args.kill_ring.now) c.in-Some.size c.in-Some.text.now c.in-Some.ensures.answer (search rules)
    c.in_err-edit_yank_pop.ensures)

pub returns-in_ok-edit_yank_pop-clause-ring : goal.returns-in_ok-edit_yank_pop-clause-ring
returns-in_ok-edit_yank_pop-clause-ring g c =
    let ring : c.yank_pop.follows.lender-at-none ≡ after_yank_pop c.args.kill_ring.now = search rules in
    ap (λ (r : Ring). r.size) ring ∙ popped_size c.args.kill_ring.now
