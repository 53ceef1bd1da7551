use Rattle.std.proofs.Common.{rules, ap, ◌∙◌}
use Rattle.std.specs.List.{slice_range}
use Rattle.line_buffer.specs.Changes.{Changes}
use Rattle.line_buffer.specs.Line.{Line}
use Rattle.line_buffer.proofs.TellsLemmas.{still-replaced}
use Rattle.line_buffer.proofs.line_buffer.LineBuffer.try_replace.Goals as goal

pub returns : goal.returns
returns c =
    let entries = ap (λ (s : Changes). s.entries) c.in_ok-replace.ensures in
    let gone = c.range.ensures.value ∙ ap (λ t. slice_range t c.args.from c.args.to) (c.as_str.ensures.value ∙ ap (λ (l : Line). l.text) c.self.view_is) in
    let stop = ap (λ (l : Line). l.cursor) c.in_ok-put.ensures.line in
    record {
      line = search rules;
      changes = search rules;
      tells =
          rw (entries, gone) (still-replaced c.args.changes.now.entries c.args.self.now.text c.put.new.self.text c.args.text.now c.args.from c.args.to c.requires.ordered c.requires.end.0
          (ap (λ (l : Line). l.text) c.in_ok-put.ensures.line) c.in_ok-put.ensures.front c.requires.start (rw (← stop) c.in_ok-put.ensures.cursor));
      cursor = search rules;
    }
