use Rattle.std.proofs.Common.{ap, sym, ◌∙◌}
use Rattle.line_screen.specs.Measure.{wrapped}
use Rattle.line_screen.specs.MeasureLaws.{measured-printable}
use Rattle.line_screen.proofs.measure.measured.Goals as goal

pub returns-then-is_printable_text : goal.returns-then-is_printable_text
returns-then-is_printable_text c =
    c.wrapped.ensures ∙ ap (wrapped c.args.columns) c.after_printable.ensures
    ∙ measured-printable c.args.columns c.args.origin c.args.text.now (sym c.is_printable_text.ensures ∙ c.if-is_printable_text.true)
