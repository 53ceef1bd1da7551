use Rattle.std.proofs.Common.{refl}
use Rattle.line_editor.proofs.DoneLemmas.{line_drawn, nothing_drawn}
use Rattle.line_editor.proofs.edit.State.edit_yank_pop.Goals as goal

pub returns : goal.returns
returns g c =
    let edit = c.in_ok-popped.ensures in
    line_drawn _ _ c.args.self.now _ _ _ _ _ _ (nothing_drawn _ _ _ refl refl refl refl refl refl) refl edit.reports.edit.edited edit.reports.edit.first
    edit.reports.answer edit.unreported c.show_edit.ensures
