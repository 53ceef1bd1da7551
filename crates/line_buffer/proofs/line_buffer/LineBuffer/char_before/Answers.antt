use Rattle.std.proofs.Common.{rules, sym, ap, arith, length}
use Rattle.line_buffer.proofs.BoundaryLemmas.{greatest_boundary}
use Rattle.line_buffer.proofs.line_buffer.LineBuffer.char_before.Goals as goal

pub returns : goal.returns
returns c =
    record {
      place =
          let fits = c.requires.0 in
          rw (← c.self.view_is, ← c.as_str.ensures.value, ← c.saturating_sub.ensures)
          (sym (greatest_boundary c.as_str.result.now c.saturating_sub.result c.floor_char_boundary.result (omega (arith, c.saturating_sub.ensures, ap length c.as_str.ensures.value, ap (λ l. length l.text) c.self.view_is))
          c.floor_char_boundary.ensures.bound c.floor_char_boundary.ensures.boundary c.floor_char_boundary.ensures.nearest));
      boundary = search rules;
    }
