use Rattle.std.proofs.lemmas.Result.{err_from_is_err_and}
use Rattle.std.proofs.Common.{option_map, refl}
use Rattle.line_editor.proofs.KillLemmas.{bracket_as, only_killed, replaced}
use Rattle.line_editor.proofs.KillFaultLemmas.{kill_fails}
use Rattle.line_editor.proofs.edit.State.replace_to_bracket.Goals as goal

pub returns-in-Some-clause-does : goal.returns-in-Some-clause-does
returns-in-Some-clause-does g c =
    let kill = c.in_ok-kill_to_bracket.ensures.does in
    rw c.in-Some.is (replaced _ _ c.args.self.now _ _ _ _ _ _ (bracket_as c.args.self.now.line.edited.line) c.in-Some.text.now kill _ c.edit_insert_text.ensures)

pub returns-in-None-clause-does : goal.returns-in-None-clause-does
returns-in-None-clause-does g c = rw c.in-None.is (only_killed _ _ _ c.args.self.now _ _ _ _ _ _ c.in_ok-kill_to_bracket.ensures.does)

pub returns-in_err-kill_to_bracket-clause-does : goal.returns-in_err-kill_to_bracket-clause-does
returns-in_err-kill_to_bracket-clause-does g c =
    let p = err_from_is_err_and c.from_residual.result c.from_residual.ensures.1 in
    rw (p.1, p.2)
    (kill_fails _ _ c.args.self.now _ _ _ _ _ _ (bracket_as c.args.self.now.line.edited.line) (option_map (λ s. s.now) c.args.text) _ refl c.in_err-kill_to_bracket.ensures.does)
