use Rattle.std.proofs.Common.{rules, ap, ◌∙◌}
use Rattle.std.specs.List.{slice_range}
use Rattle.line_buffer.specs.Changes.{Changes}
use Rattle.line_buffer.specs.Line.{Line}
use Rattle.line_buffer.proofs.TellsLemmas.{still-deleted}
use Rattle.line_buffer.proofs.line_buffer.LineBuffer.delete_range.Goals as goal

pub returns : goal.returns
returns c =
    record {
      line = search rules;
      changes = search rules;
      tells =
          let entries = ap (λ (s : Changes). s.entries) c.in_ok-delete.ensures in
          let gone = c.range.ensures.value ∙ ap (λ t. slice_range t c.args.from c.args.to) (c.as_str.ensures.value ∙ ap (λ (l : Line). l.text) c.self.view_is) in
          rw entries (still-deleted c.args.changes.now.entries c.args.self.now.text c.remove_range.new.self.text c.range.result.now c.args.from c.args.to c.requires.ordered c.requires.end.0
          (ap (λ (l : Line). l.text) c.in_ok-remove_range.ensures.line) c.in_ok-remove_range.ensures.front c.requires.start gone);
      cursor = search rules;
    }
