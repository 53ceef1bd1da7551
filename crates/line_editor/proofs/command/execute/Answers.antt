use Rattle.std.proofs.lemmas.Result.{err_from_is_err_and}
use Rattle.std.proofs.Common.{option_map, refl}
use Rattle.std.specs.String.{string_bytes}
use Rattle.line_keys.specs.Command.{command_of}
use Rattle.line_input.specs.InputState.{input_of}
use Rattle.line_editor.proofs.CommandLemmas.{edits_else, edits_ok, edits_wrong, goes_wrong_by, proceeds_ok}
use Rattle.line_editor.proofs.KillLemmas.{bracket_replaced_as, replaced_as}
use Rattle.line_editor.proofs.command.execute.Goals as goal

pub returns-in-EndOfFile-clause-executes : goal.returns-in-EndOfFile-clause-executes
returns-in-EndOfFile-clause-executes g c = rw c.in-EndOfFile.is (c.end_of_file.ensures c.args.config.now.indent_size c.args.kill_ring.now)

pub returns-in-AcceptLine-clause-executes : goal.returns-in-AcceptLine-clause-executes
returns-in-AcceptLine-clause-executes g c = rw c.in-AcceptLine.is (c.accept_line.ensures (input_of c.args.input_state.now) c.args.config.now.indent_size c.args.kill_ring.now)

pub returns-in-AcceptOrInsertLine-clause-executes : goal.returns-in-AcceptOrInsertLine-clause-executes
returns-in-AcceptOrInsertLine-clause-executes g c =
    rw c.in-AcceptOrInsertLine.is (c.accept_or_insert_line.ensures (input_of c.args.input_state.now) c.args.config.now.indent_size c.args.kill_ring.now)

pub returns-in-Interrupt-clause-executes : goal.returns-in-Interrupt-clause-executes
returns-in-Interrupt-clause-executes g c = rw c.in-Interrupt.is (c.interrupt.ensures (input_of c.args.input_state.now) c.args.config.now.indent_size c.args.kill_ring.now)

pub returns-in-Kill-clause-executes : goal.returns-in-Kill-clause-executes
returns-in-Kill-clause-executes g c =
    rw c.in-Kill.is
    (proceeds_ok _ c.args.state.now _ (input_of c.args.input_state.now) c.args.config.now.indent_size _ _ _ _ _ _ refl refl _ c.in_ok-edit_kill-in-Kill.ensures.does)

pub returns-in-Replace-clause-executes : goal.returns-in-Replace-clause-executes
returns-in-Replace-clause-executes g c =
    rw c.in-Replace.is
    (proceeds_ok _ c.args.state.now _ (input_of c.args.input_state.now) c.args.config.now.indent_size _ _ _ c.in_ok-replace-in-Replace.field-0 _ _ refl refl _
    (replaced_as _ _ c.args.state.now _ _ _ c.in-Replace.movement _ _ (option_map string_bytes c.in-Replace.text) c.as_deref.ensures.value _
    c.in_ok-replace-in-Replace.ensures.does))

pub returns-in-KillToBracket-clause-executes : goal.returns-in-KillToBracket-clause-executes
returns-in-KillToBracket-clause-executes g c =
    rw c.in-KillToBracket.is
    (proceeds_ok _ c.args.state.now _ (input_of c.args.input_state.now) c.args.config.now.indent_size _ _ _ _ _ _ refl refl _ c.in_ok-kill_to_bracket-in-KillToBracket.ensures.does)

pub returns-in-ReplaceToBracket-clause-executes : goal.returns-in-ReplaceToBracket-clause-executes
returns-in-ReplaceToBracket-clause-executes g c =
    rw c.in-ReplaceToBracket.is
    (proceeds_ok _ c.args.state.now _ (input_of c.args.input_state.now) c.args.config.now.indent_size _ _ _ c.in_ok-replace_to_bracket-in-ReplaceToBracket.field-0 _ _ refl refl _
    (bracket_replaced_as _ _ c.args.state.now _ _ _ _ _ (option_map string_bytes c.in-ReplaceToBracket.text) c.as_deref-in-ReplaceToBracket.ensures.value _
    c.in_ok-replace_to_bracket-in-ReplaceToBracket.ensures.does))

pub returns-in-YankToBracket-clause-executes : goal.returns-in-YankToBracket-clause-executes
returns-in-YankToBracket-clause-executes g c =
    rw c.in-YankToBracket.is
    (proceeds_ok _ c.args.state.now _ (input_of c.args.input_state.now) c.args.config.now.indent_size _ _ _ _ _ _ refl refl _ c.in_ok-copy_to_bracket-in-YankToBracket.ensures.does)

pub returns-in-Yank-clause-executes : goal.returns-in-Yank-clause-executes
returns-in-Yank-clause-executes g c =
    rw c.in-Yank.is
    (proceeds_ok _ c.args.state.now _ (input_of c.args.input_state.now) c.args.config.now.indent_size _ _ _ _ _ _ refl refl _ c.in_ok-yank_killed-in-Yank.ensures.does)

pub returns-in-YankPop-clause-executes : goal.returns-in-YankPop-clause-executes
returns-in-YankPop-clause-executes g c =
    rw c.in-YankPop.is
    (proceeds_ok _ c.args.state.now _ (input_of c.args.input_state.now) c.args.config.now.indent_size _ _ _ _ _ _ refl refl _ c.in_ok-pop_killed-in-YankPop.ensures.does)

pub returns-in_default-clause-executes : goal.returns-in_default-clause-executes
returns-in_default-clause-executes g c =
    let other = c.in_default in
    edits_ok _ c.args.state.now _ (input_of c.args.input_state.now) c.args.config.now.indent_size _ _ (command_of c.args.cmd) c.in_ok-edit_by-in_default.field-0 _
    (edits_else c.args.cmd other.not-AcceptLine other.not-AcceptOrInsertLine other.not-EndOfFile other.not-Interrupt other.not-Kill other.not-Replace other.not-ViYankTo other.not-Yank other.not-YankPop
    other.not-KillToBracket other.not-ReplaceToBracket other.not-YankToBracket)
    refl _ (rw c.indent_size.ensures at c.in_ok-edit_by-in_default.ensures)

pub returns-in_err-edit_by-in_default-clause-executes : goal.returns-in_err-edit_by-in_default-clause-executes
returns-in_err-edit_by-in_default-clause-executes g c =
    let other = c.in_default in
    let p = err_from_is_err_and c.from_residual-in_err-edit_by-in_default.result c.from_residual-in_err-edit_by-in_default.ensures.1 in
    rw (p.1, p.2)
    (edits_wrong _ c.args.state.now _ (input_of c.args.input_state.now) c.args.config.now.indent_size _ _ (command_of c.args.cmd) _ _ _
    (edits_else c.args.cmd other.not-AcceptLine other.not-AcceptOrInsertLine other.not-EndOfFile other.not-Interrupt other.not-Kill other.not-Replace other.not-ViYankTo other.not-Yank other.not-YankPop
    other.not-KillToBracket other.not-ReplaceToBracket other.not-YankToBracket)
    refl (rw c.indent_size.ensures at c.in_err-edit_by-in_default.ensures))

pub returns-in_err-edit_kill-in-Kill-clause-executes : goal.returns-in_err-edit_kill-in-Kill-clause-executes
returns-in_err-edit_kill-in-Kill-clause-executes g c =
    let p = err_from_is_err_and c.from_residual.result c.from_residual.ensures.1 in
    goes_wrong_by _ c.args.state.now _ (input_of c.args.input_state.now) c.args.config.now.indent_size _ _ c.args.cmd _ _ _ _ _ _ _ _ c.in-Kill.is p.1 p.2
    c.in_err-edit_kill-in-Kill.ensures.does refl refl refl

pub returns-in_err-copy_to-in-ViYankTo-clause-executes : goal.returns-in_err-copy_to-in-ViYankTo-clause-executes
returns-in_err-copy_to-in-ViYankTo-clause-executes g c =
    let p = err_from_is_err_and c.from_residual-in_err-copy_to-in-ViYankTo.result c.from_residual-in_err-copy_to-in-ViYankTo.ensures.1 in
    goes_wrong_by _ c.args.state.now _ (input_of c.args.input_state.now) c.args.config.now.indent_size _ _ c.args.cmd _ _ _ _ _ _ _ _ c.in-ViYankTo.is p.1 p.2
    c.in_err-copy_to-in-ViYankTo.ensures.does refl refl refl

pub returns-in_err-kill_to_bracket-in-KillToBracket-clause-executes : goal.returns-in_err-kill_to_bracket-in-KillToBracket-clause-executes
returns-in_err-kill_to_bracket-in-KillToBracket-clause-executes g c =
    let p = err_from_is_err_and c.from_residual-in_err-kill_to_bracket-in-KillToBracket.result c.from_residual-in_err-kill_to_bracket-in-KillToBracket.ensures.1 in
    goes_wrong_by _ c.args.state.now _ (input_of c.args.input_state.now) c.args.config.now.indent_size _ _ c.args.cmd _ _ _ _ _ _ _ _ c.in-KillToBracket.is p.1 p.2
    c.in_err-kill_to_bracket-in-KillToBracket.ensures.does refl refl refl

pub returns-in_err-copy_to_bracket-in-YankToBracket-clause-executes : goal.returns-in_err-copy_to_bracket-in-YankToBracket-clause-executes
returns-in_err-copy_to_bracket-in-YankToBracket-clause-executes g c =
    let p = err_from_is_err_and c.from_residual-in_err-copy_to_bracket-in-YankToBracket.result c.from_residual-in_err-copy_to_bracket-in-YankToBracket.ensures.1 in
    goes_wrong_by _ c.args.state.now _ (input_of c.args.input_state.now) c.args.config.now.indent_size _ _ c.args.cmd _ _ _ _ _ _ _ _ c.in-YankToBracket.is p.1 p.2
    c.in_err-copy_to_bracket-in-YankToBracket.ensures.does refl refl refl

pub returns-in_err-yank_killed-in-Yank-clause-executes : goal.returns-in_err-yank_killed-in-Yank-clause-executes
returns-in_err-yank_killed-in-Yank-clause-executes g c =
    let p = err_from_is_err_and c.from_residual-in_err-yank_killed-in-Yank.result c.from_residual-in_err-yank_killed-in-Yank.ensures.1 in
    goes_wrong_by _ c.args.state.now _ (input_of c.args.input_state.now) c.args.config.now.indent_size _ _ c.args.cmd _ _ _ _ _ _ _ _ c.in-Yank.is p.1 p.2
    c.in_err-yank_killed-in-Yank.ensures.does refl refl refl

pub returns-in_err-pop_killed-in-YankPop-clause-executes : goal.returns-in_err-pop_killed-in-YankPop-clause-executes
returns-in_err-pop_killed-in-YankPop-clause-executes g c =
    let p = err_from_is_err_and c.from_residual-in_err-pop_killed-in-YankPop.result c.from_residual-in_err-pop_killed-in-YankPop.ensures.1 in
    goes_wrong_by _ c.args.state.now _ (input_of c.args.input_state.now) c.args.config.now.indent_size _ _ c.args.cmd _ _ _ _ _ _ _ _ c.in-YankPop.is p.1 p.2
    c.in_err-pop_killed-in-YankPop.ensures.does refl refl refl

pub returns-in_err-replace-in-Replace-clause-executes : goal.returns-in_err-replace-in-Replace-clause-executes
returns-in_err-replace-in-Replace-clause-executes g c =
    let p = err_from_is_err_and c.from_residual-in_err-replace-in-Replace.result c.from_residual-in_err-replace-in-Replace.ensures.1 in
    goes_wrong_by _ c.args.state.now _ (input_of c.args.input_state.now) c.args.config.now.indent_size _ _ c.args.cmd _ _ _ _ _ _ _ _ c.in-Replace.is p.1 p.2
    (replaced_as _ _ c.args.state.now _ _ _ c.in-Replace.movement _ _ (option_map string_bytes c.in-Replace.text) c.as_deref.ensures.value _
    c.in_err-replace-in-Replace.ensures.does) refl refl refl

pub returns-in_err-replace_to_bracket-in-ReplaceToBracket-clause-executes : goal.returns-in_err-replace_to_bracket-in-ReplaceToBracket-clause-executes
returns-in_err-replace_to_bracket-in-ReplaceToBracket-clause-executes g c =
    let p = err_from_is_err_and c.from_residual-in_err-replace_to_bracket-in-ReplaceToBracket.result c.from_residual-in_err-replace_to_bracket-in-ReplaceToBracket.ensures.1 in
    goes_wrong_by _ c.args.state.now _ (input_of c.args.input_state.now) c.args.config.now.indent_size _ _ c.args.cmd _ _ _ _ _ _ _ _ c.in-ReplaceToBracket.is p.1 p.2
    (bracket_replaced_as _ _ c.args.state.now _ _ _ _ _ (option_map string_bytes c.in-ReplaceToBracket.text) c.as_deref-in-ReplaceToBracket.ensures.value _
    c.in_err-replace_to_bracket-in-ReplaceToBracket.ensures.does) refl refl refl

pub returns-in-ViYankTo-clause-executes : goal.returns-in-ViYankTo-clause-executes
returns-in-ViYankTo-clause-executes g c =
    rw c.in-ViYankTo.is
    (proceeds_ok _ c.args.state.now _ (input_of c.args.input_state.now) c.args.config.now.indent_size _ _ _ _ _ _ refl refl _ c.in_ok-copy_to-in-ViYankTo.ensures.does)
