use Rattle.std.proofs.Common.{arith, rules}
use Rattle.std.proofs.lemmas.Grind.{common_steps}
use Rattle.line_parts.proofs.history.file.FileHistoryHistory.add.Goals as goal

pub returns-then-taken : goal.returns-then-taken
returns-then-taken c =
    record {
      answer = grind (arith, common_steps);
      filed = grind (arith, common_steps);
      faults = search rules;
    }
