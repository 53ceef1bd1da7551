use Rattle.std.proofs.Common.{◌≡◌, true, sym, ◌∙◌}
use Rattle.std.specs.List.{list_all}
use Rattle.line_buffer.specs.Printable.{is_plain}
use Rattle.line_screen.specs.MeasureLaws.{after-plain}
use Rattle.line_screen.proofs.measure.after_text.Goals as goal

pub returns-then-is_plain_text : goal.returns-then-is_plain_text
returns-then-is_plain_text c =
    let plain : list_all is_plain c.args.text.now ≡ true = sym c.is_plain_text.ensures ∙ c.if-is_plain_text.true in
    let same = after-plain c.args.columns c.args.place c.args.text.now plain in
    cc
