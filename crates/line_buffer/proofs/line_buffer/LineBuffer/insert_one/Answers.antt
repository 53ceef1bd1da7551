use Rattle.std.proofs.Common.{rules, ap}
use Rattle.std.specs.Str.{IsCharBoundary}
use Rattle.line_buffer.specs.Changes.{Changes}
use Rattle.line_buffer.specs.Line.{Line}
use Rattle.line_buffer.proofs.TellsLemmas.{still-typed}
use Rattle.line_buffer.proofs.line_buffer.LineBuffer.insert_one.Goals as goal

pub returns-clause-edit : goal.returns-clause-edit
returns-clause-edit c =
    let entries = ap (λ (s : Changes). s.entries) c.in_ok-insert_char.ensures in
    let place = ap (λ (l : Line). l.cursor) c.self.view_is in
    let here : IsCharBoundary c.args.self.now.text c.args.self.now.cursor = rw (← c.self.view_is) c.self.invariant in
    let stop = ap (λ (l : Line). l.cursor) c.in_ok-at_end.ensures.line in
    record {
      line = search rules;
      changes = search rules;
      tells =
          rw (entries, place) (still-typed c.args.changes.now.entries c.args.self.now.text c.insert_char-2.new.self.text c.args.self.now.cursor c.args.c here.0
          (ap (λ (l : Line). l.text) c.in_ok-at_end.ensures.line) c.in_ok-at_end.ensures.front here
          (rw (← stop) c.in_ok-at_end.ensures.cursor));
      cursor = search rules;
    }
