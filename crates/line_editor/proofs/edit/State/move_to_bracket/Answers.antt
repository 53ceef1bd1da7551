use Rattle.std.proofs.Common.{refl}
use Rattle.line_editor.proofs.DoneLemmas.{nothing_drawn}
use Rattle.line_editor.proofs.MoveLemmas.{move_drawn}
use Rattle.line_editor.proofs.edit.State.move_to_bracket.Goals as goal

pub returns : goal.returns
returns g c =
    let line = c.if-not-move_to_bracket.ensures.line in
    move_drawn _ _ _ c.args.self.now _ _ _ _ (nothing_drawn _ _ _ refl refl refl refl refl refl) refl line c.in_ok-move_cursor.ensures
