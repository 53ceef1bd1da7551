use Rattle.std.proofs.Common.{◌≡◌, true, sym, ◌∙◌}
use Rattle.std.specs.List.{list_all}
use Rattle.line_buffer.specs.Printable.{is_plain}
use Rattle.line_screen.specs.MeasureLaws.{after-plain}
use Rattle.line_screen.proofs.measure.after_line.Goals as goal

pub returns-then-is_plain : goal.returns-then-is_plain
returns-then-is_plain c =
    let text = c.args.line.now.text in
    let plain : list_all is_plain text ≡ true = sym c.is_plain.ensures ∙ c.if-is_plain.true in
    rw c.as_str.ensures.value at c.after_plain.ensures ∙ sym (after-plain c.args.columns c.args.place text plain)
