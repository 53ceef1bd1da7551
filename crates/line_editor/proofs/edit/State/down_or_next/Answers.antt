use Rattle.std.proofs.Common.{not}
use Rattle.line_parts.specs.declared.history.SearchDirection.TheVariants.{Forward}
use Rattle.line_editor.specs.HistoryMoves.{asked_on, next_shown, way_ends}
use Rattle.line_editor.proofs.MoveLemmas.{else_done}
use Rattle.line_editor.proofs.edit.State.down_or_next.Goals as goal

pub returns : goal.returns
returns g c =
    let line = c.in_ok-edit_move_line_down.ensures in
    else_done _ _ c.args.self.now _ _ _ _ _ (λ w d. d) next_shown _ (λ w d. not (way_ends w Forward d)) (λ w d. asked_on w d) line.answer c.if-branch.false (line.stays c.if-branch.false) line.moves.draft
    c.edit_history_next.ensures
