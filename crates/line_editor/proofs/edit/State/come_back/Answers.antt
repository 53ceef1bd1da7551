use Rattle.std.proofs.Common.{refl, ap, ◌∙◌, length}
use Rattle.line_editor.proofs.DoneLemmas.{nothing_drawn}
use Rattle.line_editor.proofs.HistoryMoveLemmas.{came_back}
use Rattle.line_parts.specs.Environment.{Environment}
use Rattle.line_editor.proofs.edit.State.come_back.Goals as goal

pub returns : goal.returns
returns g c =
    let back = c.in_ok-restore.ensures in
    let set = c.set_history_index.ensures in
    came_back _ _ c.args.self.now _ _ _ _ back.undrawn back.draft back.start
    (nothing_drawn _ _ _ set.environment (ap (λ l. (c.restore.new.self.view.out.ghost_name, l)) set.loan) refl set.sure refl refl) refl
    (set.index ∙ c.len-end.ensures ∙ ap length c.history.ensures.lines ∙ ap (λ (w : Environment). length w.lines) back.undrawn.frame.environment)
    c.refresh_line.ensures
