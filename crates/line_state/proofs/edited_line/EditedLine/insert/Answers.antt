use Rattle.line_state.proofs.EditedLemmas.{edited_is, first_stays}
use Rattle.line_state.proofs.edited_line.EditedLine.insert.Goals as goal

pub returns : goal.returns
returns c =
    rw (← c.self.view_is)
    (record {
      edited = edited_is _ _ _ _ c.in_ok-insert.ensures.edit.line c.in_ok-insert.ensures.edit.changes;
      first = first_stays c.self.inside.changes c.insert.new.changes _ _ c.in_ok-insert.ensures.edit.told.tells c.self.invariant;
      err = tt;
    })
