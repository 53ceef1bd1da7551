use Rattle.std.proofs.Common.{◌∙◌}
use Rattle.line_buffer.proofs.ListLemmas.{repeat_one}
use Rattle.line_buffer.proofs.line_buffer.indents.spaces_before.Goals as goal

pub returns : goal.returns
returns c = rw c.if-dedent.false (c.in_ok-repeat.ensures.bytes ∙ repeat_one c.args.amount 32)
