use Rattle.std.proofs.Common.{◌∙◌, sym, ap}
use Rattle.line_parts.proofs.PlaceLemmas.{found_at_start, found_inside, not_at_start}
use Rattle.line_parts.specs.HistoryPlace.{place_of}
use Rattle.line_parts.proofs.history.search.Place.find.Goals as goal

pub returns-in-Inside : goal.returns-in-Inside
returns-in-Inside c =
    found_inside c.find.result c.args.term.now c.args.line.now c.find.ensures.cases
    ∙ sym (ap (λ place. place_of place c.args.term.now c.args.line.now) c.in-Inside.is)

pub returns-in-Start : goal.returns-in-Start
returns-in-Start c =
    found_at_start c.starts_with.result c.args.term.now c.args.line.now c.starts_with.ensures.cases c.if-starts_with.true
    ∙ sym (ap (λ place. place_of place c.args.term.now c.args.line.now) c.in-Start.is)

pub returns-in-Start-2 : goal.returns-in-Start-2
returns-in-Start-2 c =
    not_at_start c.starts_with.result c.args.term.now c.args.line.now c.starts_with.ensures.cases c.if-starts_with.false
    ∙ sym (ap (λ place. place_of place c.args.term.now c.args.line.now) c.in-Start.is)
