use Rattle.std.proofs.Common.{sym, ◌∙◌}
use Rattle.line_buffer.proofs.LoneLemmas.{narrow, printable, wide}
use Rattle.line_buffer.proofs.lone.lone_width.Goals as goal

pub returns-then-is_printable : goal.returns-then-is_printable
returns-then-is_printable c = printable c.args.c (sym c.is_printable.ensures ∙ c.if-is_printable.true)

pub returns-then-is_wide : goal.returns-then-is_wide
returns-then-is_wide c = wide c.args.c (sym c.is_wide.ensures ∙ c.if-is_wide.true)

pub returns-then-is_narrow : goal.returns-then-is_narrow
returns-then-is_narrow c = narrow c.args.c (sym c.is_narrow.ensures ∙ c.if-is_narrow.true)
