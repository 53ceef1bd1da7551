use Rattle.std.proofs.Common.{Ok}
use Rattle.line_buffer.specs.KeptChanges.{entries_of}
use Rattle.line_buffer.specs.Undo.{steps_len}
use Rattle.line_buffer.proofs.GroupLemmas.{kept, undone_fits, undone_parts, undone_step_by_step}
use Rattle.line_buffer.proofs.UndoLemmas.{still-undone}
use Rattle.line_buffer.proofs.undo.Changeset.undo.Goals as goal

pub invariant_of-self : goal.invariant_of-self
invariant_of-self c =
    undone_fits (entries_of c.self.inside.changes.items) c.take_steps.new.changes.items c.self.inside.open_groups c.max.result c.in-Ok.ensures.changes c.self.invariant.fit

pub returns-in-Ok-clause-edit : goal.returns-in-Ok-clause-edit
returns-in-Ok-clause-edit c =
    let entries = entries_of c.self.inside.changes.items in
    let groups = c.self.inside.open_groups in
    let left = c.take_steps.new.changes.items in
    let parts = undone_parts entries left c.args.n c.max.result groups c.args.line.now c.take_steps.new.line c.max.ensures c.in-Ok.ensures.line c.in-Ok.ensures.changes in
    rw (← c.self.view_is) (record {
      cursor = c.in-Ok.ensures.cursor;
      line = parts.0;
      changes = parts.1;
      told =
          record {
            tells =
                still-undone (steps_len entries c.args.n) (kept c.self.inside.changes.items groups) (kept left groups) c.args.line.now c.take_steps.new.line parts.1 parts.0;
            err = tt;
          };
    })

pub returns-in-Ok-clause-steps : goal.returns-in-Ok-clause-steps
returns-in-Ok-clause-steps c =
    let entries = entries_of c.self.inside.changes.items in
    let groups = c.self.inside.open_groups in
    let left = c.take_steps.new.changes.items in
    let parts = undone_parts entries left c.args.n c.max.result groups c.args.line.now c.take_steps.new.line c.max.ensures c.in-Ok.ensures.line c.in-Ok.ensures.changes in
    rw (← c.self.view_is)
    (undone_step_by_step (Ok c.in-Ok.undone) c.args.n c.args.line.now c.take_steps.new.line (kept c.self.inside.changes.items groups) (kept left groups) c.self.invariant parts.0 parts.1)
