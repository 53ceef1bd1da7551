use Rattle.std.proofs.Common.{rules, ◌≡◌, ◌≤◌, ◌+◌, ◌-◌, ap, sym, ◌∙◌, arith}
use Rattle.line_screen.specs.Measure.{columns_after}
use Rattle.line_screen.specs.MeasureLaws.{columns_after-fitting}
use Rattle.line_screen.proofs.measure.after_printable.Goals as goal

pub loop-left-preserved : goal.loop-left-preserved
loop-left-preserved c =
    let columns = c.args.columns in
    let place = c.loop-left.place in
    let left = c.loop-left.left in
    let fitting = c.min-fitting.result in
    let within : fitting ≤ left = search rules in
    let fits : place.col + fitting ≤ columns = search rules in
    let split : fitting + (left - fitting) ≡ left = omega (arith, within) in
    sym (columns_after-fitting columns fitting (left - fitting) place fits)
    ∙ ap (λ n. columns_after columns n place) split ∙ c.loop-left.invariant
