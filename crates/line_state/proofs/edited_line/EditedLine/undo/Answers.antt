use Rattle.line_buffer.specs.Undo.{newest_steps}
use Rattle.line_state.proofs.EditedLemmas.{unreported_undo}
use Rattle.line_state.proofs.edited_line.EditedLine.undo.Goals as goal

pub returns-clause-unreported : goal.returns-clause-unreported
returns-clause-unreported c =
    rw (← c.self.view_is)
    (unreported_undo c.undo.result (newest_steps c.args.n c.self.inside.changes.entries) c.self.inside.line c.undo.new.line
    c.undo.ensures.answer c.undo.ensures.edit.line)
