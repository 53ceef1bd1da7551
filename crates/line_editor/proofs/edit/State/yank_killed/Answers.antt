use Rattle.std.proofs.Common.{rules}
use Rattle.std.proofs.lemmas.Result.{err_from_is_err_and}
use Rattle.line_buffer.specs.KillRing.{yanked_text}
use Rattle.line_input.specs.InputState.{input_of}
use Rattle.line_editor.proofs.KillLemmas.{yanked_by}
use Rattle.line_editor.proofs.edit.State.yank_killed.Goals as goal

pub returns-in_ok-edit_yank-clause-does : goal.returns-in_ok-edit_yank-clause-does
returns-in_ok-edit_yank-clause-does g c =
    yanked_by _ _ c.args.self.now _ c.args.kill_ring.now _ (input_of c.args.input_state.now) c.args.anchor c.args.n (yanked_text c.args.kill_ring.now) c.in-Some.text.now c.in-Some.ensures.answer
    (search rules) c.in_ok-edit_yank.ensures

pub returns-in_err-edit_yank-clause-does : goal.returns-in_err-edit_yank-clause-does
returns-in_err-edit_yank-clause-does g c =
    let p = err_from_is_err_and c.from_residual.result c.from_residual.ensures.1 in
    rw (p.1, p.2)
    (yanked_by _ _ c.args.self.now _ c.args.kill_ring.now _ (input_of c.args.input_state.now) c.args.anchor c.args.n (yanked_text c.args.kill_ring.now) c.in-Some.text.now c.in-Some.ensures.answer
    (search rules) c.in_err-edit_yank.ensures)
