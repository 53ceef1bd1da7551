use Rattle.std.proofs.Common.{◌≡◌, ◌-◌, length, drop}
use Rattle.std.specs.Str.{IsCharBoundary}
use Rattle.line_buffer.proofs.IndentLemmas.{Shifting}
use Rattle.line_buffer.specs.Indent.{indented, with_indents}
use Rattle.line_buffer.specs.Undo.{StillTells}
use Rattle.line_buffer.proofs.line_buffer.LineBuffer.shift_lines.Given as goal

abbrev pub invariant-loop-spaces : goal.invariant-loop-spaces
invariant-loop-spaces l = record {
  shifting : Shifting l.dedent l.amount (drop l.end l.fn.self.text) (indented l.dedent l.amount l.fn.self (l.start, l.end)) (with_indents l.dedent l.amount l.fn.self.text (l.start, l.end) l.fn.changes.entries) l.self l.changes.entries l.place;
  groups : l.changes.open_groups ≡ l.fn.changes.open_groups;
  tells : StillTells l.fn.changes.entries l.fn.self.text l.changes.entries l.self.text;
  boundary : IsCharBoundary l.self.text l.place;
}

abbrev pub decreases-loop-spaces : goal.decreases-loop-spaces
decreases-loop-spaces l = length l.self.text - l.place
