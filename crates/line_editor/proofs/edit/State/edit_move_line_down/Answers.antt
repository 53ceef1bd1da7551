use Rattle.std.proofs.Common.{arith, refl}
use Rattle.std.proofs.lemmas.Grind.{common_steps}
use Rattle.line_editor.proofs.DoneLemmas.{nothing_drawn}
use Rattle.line_editor.proofs.MoveLemmas.{move_drawn}
use Rattle.line_editor.proofs.edit.State.edit_move_line_down.Goals as goal

pub returns-clause-moves : goal.returns-clause-moves
returns-clause-moves g c =
    let line = rw (c.layout.ensures) at c.move_to_line_down.ensures.line in
    move_drawn _ _ _ c.args.self.now _ _ _ _ (nothing_drawn _ _ _ refl refl refl refl refl refl) refl line c.in_ok-move_cursor.ensures

pub returns-clause-stays : goal.returns-clause-stays
returns-clause-stays g c = grind (arith, common_steps)
