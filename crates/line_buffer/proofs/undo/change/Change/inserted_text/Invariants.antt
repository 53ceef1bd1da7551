use Rattle.std.proofs.Common.{◌≡◌, ◌≤◌, length}
use Rattle.line_buffer.specs.Changes.{last_insert_of}
use Rattle.line_buffer.specs.KeptChanges.{entries_of}
use Rattle.line_buffer.proofs.undo.change.Change.inserted_text.Given as goal

abbrev pub invariant-loop-left : goal.invariant-loop-left
invariant-loop-left l = record {
  same : last_insert_of (entries_of l.left) ≡ last_insert_of (entries_of l.fn.changes);
  within : length l.left ≤ length l.fn.changes;
}

abbrev pub decreases-loop-left : goal.decreases-loop-left
decreases-loop-left l = length l.left
