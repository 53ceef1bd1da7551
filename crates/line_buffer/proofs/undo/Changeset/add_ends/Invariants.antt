use Rattle.std.proofs.Common.{◌≡◌, ◌++◌, replicate}
use Rattle.line_buffer.specs.Changes.{ends}
use Rattle.line_buffer.specs.KeptChanges.{entries_of}
use Rattle.line_buffer.specs.Undo.{GroupsFit}
use Rattle.line_buffer.proofs.GroupLemmas.{kept}
use Rattle.line_buffer.proofs.undo.Changeset.add_ends.Given as goal

abbrev pub invariant-loop-self : goal.invariant-loop-self
invariant-loop-self l = record {
  same : replicate l.self-inside.open_groups ends ++ entries_of l.self-inside.changes.items ≡ replicate l.fn.self.open_groups ends ++ l.fn.self.entries;
  fits : GroupsFit (kept l.self-inside.changes.items l.self-inside.open_groups);
}

abbrev pub decreases-loop-self : goal.decreases-loop-self
decreases-loop-self l = l.self-inside.open_groups
