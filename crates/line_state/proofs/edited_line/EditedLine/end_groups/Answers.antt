use Rattle.line_state.proofs.EditedLemmas.{edited_on, first_kept_anywhere}
use Rattle.line_state.proofs.edited_line.EditedLine.end_groups.Goals as goal

pub returns-clause-edit : goal.returns-clause-edit
returns-clause-edit c =
    rw (← c.self.view_is)
    (record {
      edited = edited_on _ _ _ _ c.end.ensures.changes;
      first = first_kept_anywhere _ _ _ _ c.end.ensures.told c.self.invariant;
      err = c.end.ensures.told.err;
    })
