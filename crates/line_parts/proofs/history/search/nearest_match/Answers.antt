use Rattle.std.proofs.Common.{rules, map, string_bytes, sym, ap, ◌∙◌}
use Rattle.line_parts.proofs.HistoryLemmas.{found_away, found_nowhere, line_away, none_yet, not_here}
use Rattle.line_parts.specs.HistoryPlace.{place_of}
use Rattle.line_parts.proofs.history.search.nearest_match.Goals as goal

pub loop-distance-init : goal.loop-distance-init
loop-distance-init c =
    none_yet (place_of c.args.place) (map string_bytes c.args.entries.now.items) c.args.term.now c.args.start c.args.dir

pub returns-in-Some-clause-answer : goal.returns-in-Some-clause-answer
returns-in-Some-clause-answer c =
    let here = line_away c.args.entries.now.items c.args.start c.loop-distance.distance c.away-idx.result c.args.dir c.index.result.now
    c.as_str-entry.result.now c.away-idx.ensures.index (search rules) c.index.ensures c.as_str-entry.ensures.value in
    found_away (place_of c.args.place) c.args.entries.now.items c.args.term.now c.args.start c.args.dir c.count_on_side-count.result
    c.loop-distance.distance c.away-idx.result c.in-Some.pos c.as_str-entry.result.now (search rules) (search rules) (search rules)
    (search rules) c.loop-distance.invariant c.away-idx.ensures.index here (sym c.find.ensures ∙ c.in-Some.is)

pub loop-distance-preserved : goal.loop-distance-preserved
loop-distance-preserved c =
    let here = line_away c.args.entries.now.items c.args.start c.loop-distance.distance c.away-idx.result c.args.dir c.index.result.now
    c.as_str-entry.result.now c.away-idx.ensures.index (search rules) c.index.ensures c.as_str-entry.ensures.value in
    not_here (place_of c.args.place) (map string_bytes c.args.entries.now.items) c.args.term.now c.args.start c.args.dir c.loop-distance.distance
    c.loop-distance.invariant (ap (place_of c.args.place c.args.term.now) here ∙ sym c.find.ensures ∙ c.in_default.is)

pub returns-clause-answer : goal.returns-clause-answer
returns-clause-answer c =
    found_nowhere (place_of c.args.place) c.args.entries.now.items c.args.term.now c.args.start c.args.dir c.count_on_side-count.result
    c.loop-distance.distance (search rules) (search rules) c.loop-distance.invariant
