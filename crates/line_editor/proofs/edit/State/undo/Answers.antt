use Rattle.std.proofs.Common.{refl, ap}
use Rattle.line_buffer.specs.Line.{Line}
use Rattle.line_editor.proofs.DoneLemmas.{line_done, nothing_drawn}
use Rattle.line_editor.proofs.edit.State.undo.Goals as goal

pub returns : goal.returns
returns g c =
    let edit = c.in_ok-undone.ensures in
    line_done _ _ c.args.self.now _ _ _ _ _ _ (nothing_drawn _ _ _ refl refl refl refl refl refl) refl edit.finds.edit.edited edit.finds.edit.first
    edit.finds.answer (λ no. ap (λ (l : Line). l.text) (edit.unreported no)) c.show_edit.ensures
