use Rattle.std.proofs.Common.{rules, ◌∙◌}
use Rattle.line_buffer.proofs.PlainStepLemmas.{before_plain, boundary_plain}
use Rattle.line_buffer.proofs.clusters.before_plain.Goals as goal

pub range-requires-clause-end_boundary : goal.range-requires-clause-end_boundary
range-requires-clause-end_boundary c = boundary_plain c.args.text.now c.in_ok-end.end c.args.n c.utf8.text (search rules) (search rules) (search rules)

pub returns : goal.returns
returns c = c.range.ensures.value ∙ before_plain c.args.text.now c.in_ok-end.end c.args.n c.utf8.text (search rules) (search rules) (search rules)
