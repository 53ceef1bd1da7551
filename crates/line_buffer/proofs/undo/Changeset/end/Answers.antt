use Rattle.std.proofs.Common.{◌++◌, ap, ◌∙◌, replicate}
use Rattle.line_buffer.specs.Changes.{Changes, ends}
use Rattle.line_buffer.proofs.UndoLemmas.{still-ended}
use Rattle.line_buffer.proofs.undo.Changeset.end.Goals as goal

-- an end for each group that is left
abbrev shut : Changes → Changes
shut c = record { entries = replicate c.open_groups ends ++ c.entries; open_groups = 0 }

pub returns-in-Ok-clause-told : goal.returns-in-Ok-clause-told
returns-in-Ok-clause-told c =
    record {
      tells = record { of = still-ended c.args.self.now c.add_ends.new.self (c.in-Ok.ensures.changes ∙ ap shut c.take_newest_begins.ensures) };
      err = tt;
    }
