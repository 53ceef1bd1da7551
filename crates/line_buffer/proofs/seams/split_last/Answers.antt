use Rattle.std.proofs.Common.{rules}
use Rattle.line_buffer.proofs.PartLemmas.{chars-pushed}
use Rattle.line_buffer.proofs.seams.split_last.Goals as goal

pub returns-clause-chars : goal.returns-clause-chars
returns-clause-chars c =
    let steps = c.in_ok-last.ensures.steps in
    chars-pushed c.args.text.now c.as_str.result.now c.in_ok-last.last c.utf8.text c.as_str.utf8 (search rules)
