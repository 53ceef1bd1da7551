use Rattle.std.specs.Io.KnownBytes.{append_known}
use Rattle.line_parts.proofs.SaveLemmas.{Written}
use Rattle.line_parts.proofs.history.file.FileHistory.write_lines.Given as goal

abbrev pub invariant-loop-index : goal.invariant-loop-index
invariant-loop-index g l =
    Written l.escapes (append_known (g.T.Write.contents l.fn.out) l.fn.text.items)
    (append_known (g.T.Write.contents l.out) l.text.items) l.self.lines l.fn.first l.index
