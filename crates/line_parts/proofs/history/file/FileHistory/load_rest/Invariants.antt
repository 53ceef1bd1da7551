use Rattle.line_parts.proofs.LoadLemmas.{Loading}
use Rattle.line_parts.proofs.history.file.FileHistory.load_rest.Given as goal

abbrev pub invariant-loop : goal.invariant-loop
invariant-loop g l =
    Loading l.headed (g.B.Read.remaining l.fn.reader) (g.B.Read.remaining l.reader) l.fn.self l.self l.taken l.counter
