use Rattle.line_state.proofs.EditedLemmas.{edited_is, first_stays}
use Rattle.line_state.proofs.edited_line.EditedLine.kill.Goals as goal

pub returns-clause-edit : goal.returns-clause-edit
returns-clause-edit c = rw (← c.self.view_is)
    (record {
      edited = edited_is _ _ _ _ c.in_ok-cut.ensures.edit.line c.in_ok-cut.ensures.edit.changes;
      first = first_stays c.self.inside.changes c.cut.new.changes _ _ c.in_ok-cut.ensures.edit.told.tells c.self.invariant;
      err = tt;
    })
