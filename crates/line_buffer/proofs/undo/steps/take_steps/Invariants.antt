use Rattle.std.proofs.Common.{◌≡◌, ◌-◌, ◌<◌}
use Rattle.std.specs.List.{slice_get}
use Rattle.std.specs.Str.{IsCharBoundary}
use Rattle.line_buffer.specs.KeptChanges.{entries_of}
use Rattle.line_buffer.specs.Word.{nth}
use Rattle.line_buffer.proofs.UndoLemmas.{Took, steps_from}
use Rattle.line_buffer.proofs.undo.steps.take_steps.Given as goal

abbrev pub invariant-loop : goal.invariant-loop
invariant-loop l = record {
  took : Took (entries_of l.fn.changes.items) l.fn.line l.counter (entries_of l.changes.items) l.line l.begins l.ends l.undone;
  cursor : IsCharBoundary l.line.text l.line.cursor;
  some : 0 < l.left;
  target : slice_get (steps_from (entries_of l.fn.changes.items) l.counter) (l.left - 1) ≡ nth (steps_from (entries_of l.fn.changes.items) 0) l.fn.n;
}
