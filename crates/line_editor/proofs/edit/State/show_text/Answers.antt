use Rattle.std.proofs.Common.{refl, ap}
use Rattle.line_editor.proofs.DoneLemmas.{nothing_drawn}
use Rattle.line_editor.proofs.HistoryMoveLemmas.{shown_in_group}
use Rattle.line_editor.proofs.edit.State.show_text.Goals as goal

pub returns : goal.returns
returns g c =
    let edit = c.in_ok-update_in_group.ensures in
    shown_in_group _ _ c.args.self.now _ _ _ _ _ _ _
    (nothing_drawn _ _ _ c.set_history_index.ensures.environment (ap (λ l. (c.args.self.now.view.out.ghost_name, l)) c.set_history_index.ensures.loan) refl c.set_history_index.ensures.sure refl refl)
    refl c.set_history_index.ensures.index edit.edited edit.first c.refresh_line.ensures
