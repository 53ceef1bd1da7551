use Rattle.std.proofs.Common.{arith, rules}
use Rattle.std.proofs.lemmas.Grind.{common_steps}
use Rattle.line_parts.proofs.SaveLemmas.{written_more, written_out}
use Rattle.line_parts.proofs.history.file.FileHistory.write_lines.Goals as goal
use Rattle.line_parts.proofs.history.file.FileHistory.write_lines.Goals.{then-len-ge-BUFFERED+in_ok-write_out, else-len-ge-BUFFERED}

pub loop-index-preserved : goal.loop-index-preserved
loop-index-preserved g c =
    let more = written_more c.args.escapes _ (g.T.Write.contents c.loop-index.out) c.loop-index.text.items c.push_escaped_line.new.text.items c.push.new.self.items c.entry.result.now
    c.args.self.now.lines c.args.first c.loop-index.index (omega arith) c.entry.ensures c.loop-index.invariant c.in_ok-push_escaped_line.ensures.text
    c.in_ok-push.ensures.items in
    elim c.if-len-ge-BUFFERED.branch [
      | then-len-ge-BUFFERED+in_ok-write_out w ↦ rw (w.text-is, w.out-is)
          (written_out c.args.escapes _ _ (g.T.Write.contents w.write_out.new.out) _ w.write_out.new.text.items _ _ _ more w.in_ok-write_out.ensures.text w.in_ok-write_out.ensures.empty)
      | else-len-ge-BUFFERED w ↦ rw (w.text-is, w.out-is) more
    ]

pub returns : goal.returns
returns g c =
    record {
      text = grind (arith, common_steps);
      kind = search rules;
      faults = search rules;
    }
