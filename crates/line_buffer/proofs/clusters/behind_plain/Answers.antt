use Rattle.std.proofs.Common.{rules, ◌∙◌}
use Rattle.line_buffer.proofs.PlainStepLemmas.{behind_plain}
use Rattle.line_buffer.proofs.clusters.behind_plain.Goals as goal

pub returns : goal.returns
returns c = c.range_from.ensures.value ∙ behind_plain c.args.text.now c.args.n c.utf8.text (search rules) (search rules)
