use Rattle.std.proofs.Common.{◌∙◌, ap}
use Rattle.line_parts.specs.Completed.{lister_of, path_completion}
use Rattle.line_parts.proofs.PathLemmas.{completes, range_from_start}
use Rattle.line_parts.proofs.completion.filename.FilenameCompleter.complete_path_unsorted.Goals as goal

pub returns-clause-answer : goal.returns-clause-answer
returns-clause-answer g c =
    let listing = g.L.Lister.listing (lister_of c.args.self.now) in
    completes listing c.range.result.now _ c.in_ok-start.start c.in_ok-start.quote _ c.as_str.utf8
    (c.in_ok-start.ensures.path.0, c.as_str.ensures.value ∙ c.in_ok-start.ensures.path.1, c.in_ok-start.ensures.path.2) c.in_ok-pairs.ensures.offers
    ∙ ap (path_completion listing) (c.range.ensures.value ∙ range_from_start c.args.line.now c.args.pos)
