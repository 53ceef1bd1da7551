use Rattle.std.proofs.Common.{refl}
use Rattle.line_editor.proofs.DoneLemmas.{nothing_drawn}
use Rattle.line_editor.proofs.MoveLemmas.{followed}
use Rattle.line_editor.proofs.edit.State.follow.Goals as goal

pub returns : goal.returns
returns g c =
    let moved = c.if-not-move_by.ensures in
    followed _ c.args.self.now _ _ c.args.kind _ c.cursor_position_from-position.result c.move_by.new.self (nothing_drawn _ _ _ refl refl refl refl refl refl) refl
    (rw c.layout.ensures at moved.line) moved.text moved.first
    (rw (c.line-2.ensures, c.pos-from.ensures.value, c.line.ensures) at c.cursor_position_from-position.ensures) _ c.put_cursor.ensures
