use Rattle.std.proofs.Common.{◌≡◌, ◌-◌, ◌≤◌}
use Rattle.std.specs.Str.{IsCharBoundary}
use Rattle.line_buffer.specs.Lines.{lines_above}
use Rattle.line_buffer.proofs.line_buffer.LineBuffer.start_above.Given as goal

abbrev pub invariant-loop : goal.invariant-loop
invariant-loop l = record {
  same : lines_above (l.n - l.counter) l.self.text l.place ≡ lines_above l.n l.self.text l.fn.start;
  bound : l.place ≤ l.fn.start;
  boundary : IsCharBoundary l.self.text l.place;
}
