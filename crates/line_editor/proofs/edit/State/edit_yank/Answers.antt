use Rattle.std.proofs.Common.{refl, ap, ◌∙◌}
use Rattle.line_state.specs.Edited.{yanked_at}
use Rattle.line_editor.proofs.DoneLemmas.{line_drawn, nothing_drawn}
use Rattle.line_editor.proofs.edit.State.edit_yank.Goals as goal

pub returns : goal.returns
returns g c =
    let edit = c.in_ok-yanked.ensures in
    line_drawn _ _ c.args.self.now _ _ _ _ _ _ (nothing_drawn _ _ _ refl refl refl refl refl refl) refl
    (edit.reports.edit.edited ∙ ap (λ back. yanked_at c.args.anchor c.args.text.now c.args.n back c.args.self.now.line.edited) c.is_vi_cmd_mode-step_back.ensures) edit.reports.edit.first
    edit.reports.answer edit.unreported c.show_edit.ensures
