use Rattle.std.proofs.Common.{arith, rules}
use Rattle.std.proofs.lemmas.Grind.{common_steps}
use Rattle.line_parts.proofs.history.mem.MemHistoryHistory.add.Goals as goal

pub returns : goal.returns
returns c =
    record {
      answer = grind (arith, common_steps);
      lines = grind (arith, common_steps);
      rules = grind (arith, common_steps);
      sure = search rules;
      io = search rules;
      faults = search rules;
    }
