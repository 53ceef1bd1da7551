use Rattle.std.proofs.Common.{arith, rules}
use Rattle.std.proofs.lemmas.Grind.{common_steps}
use Rattle.line_input.proofs.bindings.tree.branch.Goals as goal

pub returns : goal.returns
returns g c =
    record {
      shape = grind (arith, common_steps);
      values = grind (arith, common_steps);
      memory = search rules;
    }

pub loop-key-preserved : goal.loop-key-preserved
loop-key-preserved g c =
    record {
      counted = search rules;
      shape = grind (arith, common_steps);
      values = grind (arith, common_steps);
    }
