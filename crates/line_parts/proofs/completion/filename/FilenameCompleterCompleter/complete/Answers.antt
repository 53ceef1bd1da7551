use Rattle.std.proofs.Common.{take}
use Rattle.std.proofs.result.Match.{if_ok_then}
use Rattle.line_parts.specs.Completed.{lister_of, path_completion}
use Rattle.line_parts.proofs.OrderLemmas.{is_ordered}
use Rattle.line_parts.proofs.completion.filename.FilenameCompleterCompleter.complete.Goals as goal

pub returns-clause-answer : goal.returns-clause-answer
returns-clause-answer g c =
    if_ok_then c.complete_path.result _ _
    (λ r is. is_ordered (path_completion (g.L.Lister.listing (lister_of c.args.self.now)) (take c.args.pos c.args.line.now)) r.0 r.1.items is)
    c.complete_path.ensures.answer
