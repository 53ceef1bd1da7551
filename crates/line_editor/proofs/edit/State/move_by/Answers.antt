use Rattle.std.proofs.lemmas.Result.{err_from_is_err_and}
use Rattle.line_editor.proofs.MoveLemmas.{first_print_on, first_print_there, way_fails}
use Rattle.line_editor.proofs.edit.State.move_by.Goals as goal

pub returns-in_ok-edit_move_to_next_word-in-ViFirstPrint : goal.returns-in_ok-edit_move_to_next_word-in-ViFirstPrint
returns-in_ok-edit_move_to_next_word-in-ViFirstPrint g c =
    rw c.in-ViFirstPrint.is
    (first_print_on _ _ _ _ c.args.self.now _ _ _ c.in_ok-edit_move_home-in-ViFirstPrint.ensures c.if-begins_blank.ensures c.in_ok-edit_move_to_next_word-in-ViFirstPrint.ensures)

pub returns-else-begins_blank : goal.returns-else-begins_blank
returns-else-begins_blank g c =
    rw c.in-ViFirstPrint.is (first_print_there _ _ _ c.args.self.now _ _ c.in_ok-edit_move_home-in-ViFirstPrint.ensures c.if-begins_blank.ensures)

pub returns-in_err-edit_move_home-in-ViFirstPrint : goal.returns-in_err-edit_move_home-in-ViFirstPrint
returns-in_err-edit_move_home-in-ViFirstPrint g c =
    let p = err_from_is_err_and c.from_residual.result c.from_residual.ensures.1 in
    rw (c.in-ViFirstPrint.is, p.1, p.2) (way_fails _ _ c.args.self.now _ _ _ c.in_err-edit_move_home-in-ViFirstPrint.ensures)
