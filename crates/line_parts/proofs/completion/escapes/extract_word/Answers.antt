use Rattle.std.proofs.Common.{arith}
use Rattle.std.proofs.lemmas.Grind.{common_steps}
use Rattle.line_parts.proofs.completion.escapes.extract_word.Goals as goal

pub returns-clause-text : goal.returns-clause-text
returns-clause-text c = grind (arith, common_steps)

pub returns-clause-start : goal.returns-clause-start
returns-clause-start c = grind (arith, common_steps)
