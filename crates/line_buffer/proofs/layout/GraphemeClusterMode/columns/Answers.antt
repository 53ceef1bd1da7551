use Rattle.std.proofs.Common.{sym, ◌∙◌}
use Rattle.line_buffer.proofs.PrintableLemmas.{width-printable}
use Rattle.line_buffer.proofs.layout.GraphemeClusterMode.columns.Goals as goal

pub returns-then-is_printable_text : goal.returns-then-is_printable_text
returns-then-is_printable_text c =
    sym (width-printable c.args.self.now c.args.text.now (sym c.is_printable_text.ensures ∙ c.if-is_printable_text.true))
