use Rattle.line_state.proofs.EditedLemmas.{edited_on, first_kept_anywhere}
use Rattle.line_state.proofs.edited_line.EditedLine.begin_group.Goals as goal

pub returns-clause-edit : goal.returns-clause-edit
returns-clause-edit c =
    rw (← c.self.view_is)
    (record {
      edited = edited_on _ _ _ _ c.begin.ensures.changes;
      first = first_kept_anywhere _ _ _ _ c.begin.ensures.told c.self.invariant;
      err = c.begin.ensures.told.err;
    })
