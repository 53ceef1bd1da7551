use Rattle.std.proofs.Common.{refl}
use Rattle.line_editor.proofs.DoneLemmas.{line_done, nothing_drawn}
use Rattle.line_editor.proofs.edit.State.edit_transpose_words.Goals as goal

pub returns : goal.returns
returns g c =
    let edit = c.in_ok-exchanged.ensures in
    line_done _ _ c.args.self.now _ _ _ _ _ _ (nothing_drawn _ _ _ refl refl refl refl refl refl) refl edit.reports.edit.edited edit.reports.edit.first
    edit.reports.answer edit.unreported c.show_edit.ensures
