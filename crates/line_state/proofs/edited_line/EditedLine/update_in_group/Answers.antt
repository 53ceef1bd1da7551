use Rattle.line_state.proofs.EditedLemmas.{grouped}
use Rattle.line_state.specs.Edited.{with_update_to}
use Rattle.line_state.proofs.edited_line.EditedLine.update_in_group.Goals as goal

pub returns : goal.returns
returns c =
    grouped (with_update_to c.args.text.now c.args.pos)
    _ _ _ _ _ _ _ _ c.in_ok-begin_group.ensures.edit c.in_ok-update.ensures c.in_ok-end_groups.ensures.edit
