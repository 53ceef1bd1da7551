use Rattle.std.proofs.Common.{rules, ◌≡◌, length, arith}
use Rattle.line_state.proofs.PlainTextLemmas.{converted}
use Rattle.line_screen.specs.Measure.{PlainTextEndsAt}
use Rattle.line_screen.specs.MeasureLaws.{EndsPlain-take}
use Rattle.line_screen.proofs.plain.Plain.end_of_first.Goals as goal

pub returns : goal.returns
returns g c =
    let self = c.args.self.now in
    let end = c.args.end in
    let text = c.as_str.result.now in
    let gone = c.in_ok-gone.ensures.cases in
    let plain = c.is_plain.ensures (search rules) in
    let known : PlainTextEndsAt self.columns text self.origin end = rw c.as_str.ensures.value (plain.0, plain.1, c.requires) in
    let columns : length c.in_ok-gone.gone.now ≡ c.in_ok-columns.columns =
    converted _ c.try_from.result _ _ c.try_from.ensures c.in_ok-columns.ensures.value in
    rw c.as_str.ensures.value at
    (EndsPlain-take self.columns c.args.kept c.in_ok-columns.columns text c.in_ok-gone.gone.now self.origin end known gone.0 (omega (arith, gone.1)) columns
    (search rules) (search rules))
