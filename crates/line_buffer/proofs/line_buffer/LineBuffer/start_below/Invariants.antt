use Rattle.std.proofs.Common.{◌≡◌, ◌-◌, ◌≤◌}
use Rattle.std.specs.Str.{IsCharBoundary}
use Rattle.line_buffer.specs.Lines.{lines_below}
use Rattle.line_buffer.proofs.line_buffer.LineBuffer.start_below.Given as goal

abbrev pub invariant-loop : goal.invariant-loop
invariant-loop l = record {
  same : lines_below (l.n - l.counter) l.self.text l.place ≡ lines_below l.n l.self.text l.fn.start;
  bound : l.fn.start ≤ l.place;
  boundary : IsCharBoundary l.self.text l.place;
}
