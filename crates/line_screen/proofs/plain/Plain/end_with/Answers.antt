use Rattle.std.proofs.Common.{◌≡◌, ◌==◌, ap, ap₂, sym, ◌∙◌, arith}
use Rattle.std.proofs.lemmas.Bool.{and_parts}
use Rattle.std.proofs.lemmas.Bool.Decides.{nat_tests}
use Rattle.line_screen.specs.Measure.{measured}
use Rattle.line_screen.specs.MeasureLaws.{EndsPlain-append}
use Rattle.line_screen.proofs.plain.Plain.end_with.Goals as goal

pub returns : goal.returns
returns g c =
    let self = c.args.self.now in
    let ends = EndsPlain-append self.columns _ c.args.more.now self.origin c.in_ok-end.end (self.ends _ c.in_ok-end.was) (sym c.if-not-is_printable_text.ensures) in
    (ends.0, ends.1, c.measured.ensures ∙ ends.2)

pub returns-then-eq : goal.returns-then-eq
returns-then-eq g c =
    let self = c.args.self.now in
    let end = c.in_ok-end.end in
    let ends = EndsPlain-append self.columns _ c.args.more.now self.origin end (self.ends _ c.in_ok-end.was) (sym c.if-not-is_printable_text.ensures) in
    let both = and_parts (end.row == self.place.row) (end.col == self.place.col) (sym c.eq.ensures ∙ c.if-eq.true) in
    let row : end.row ≡ self.place.row = grind (arith, nat_tests, both.0) in
    let col : end.col ≡ self.place.col = grind (arith, nat_tests, both.1) in
    let same : self.place ≡ end = sym (ap₂ (λ r k. record { row = r; col = k }) row col) in
    (ends.0, ends.1, c.requires ∙ ap (measured self.columns c.args.more.now) same ∙ ends.2)
