use Rattle.std.proofs.Common.{ap, ◌∙◌}
use Rattle.line_keys.specs.Model.Draft.{start_text}
use Rattle.line_editor.proofs.HistoryMoveLemmas.{always, first_there}
use Rattle.line_editor.proofs.edit.State.yank_hint.Goals as goal

pub returns-in_default-clause-start : goal.returns-in_default-clause-start
returns-in_default-clause-start g c =
    always _ (ap start_text c.beep.ensures.paints.draft ∙ first_there _ _ _ c.move_end.ensures.line)

pub returns-then-not-branch-clause-start : goal.returns-then-not-branch-clause-start
returns-then-not-branch-clause-start g c =
    always _ (ap start_text c.beep-then-not-branch.ensures.paints.draft ∙ c.in_ok-yank.ensures.edit.first ∙ first_there _ _ _ c.move_end.ensures.line)

pub returns-clause-start : goal.returns-clause-start
returns-clause-start g c = c.in_ok-yank.ensures.edit.first ∙ first_there _ _ _ c.move_end.ensures.line
