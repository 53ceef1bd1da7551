use Rattle.std.proofs.Common.{rules, ◌≡◌, [], true, ap, sym, ◌∙◌}
use Rattle.std.specs.List.{fold}
use Rattle.std.proofs.lemmas.List.{nil_from_length}
use Rattle.unicode_segmentation.specs.Grapheme.{graphemes}
use Rattle.line_screen.specs.Measure.{after_cluster}
use Rattle.line_screen.specs.MeasureLaws.{after-none}
use Rattle.line_screen.proofs.measure.after_parts.Goals as goal

pub returns : goal.returns
returns c =
    let none : c.loop-rest.rest.now ≡ [] = nil_from_length c.loop-rest.rest.now (search rules) in
    sym (ap (λ t. fold (after_cluster c.args.columns) c.loop-rest.place (graphemes true t)) none ∙ after-none c.args.columns c.loop-rest.place)
    ∙ c.loop-rest.invariant.1
