use Rattle.std.proofs.Common.{arith, rules, ◌-◌}
use Rattle.std.proofs.lemmas.Grind.{common_steps}
use Rattle.line_buffer.proofs.FrontLemmas.{ends_line}
use Rattle.line_buffer.proofs.line_buffer.LineBuffer.indented_range.Goals as goal

pub returns-in-Some-clause-lines : goal.returns-in-Some-clause-lines
returns-in-Some-clause-lines c =
    record {
      ordered = search rules;
      within = search rules;
      boundary = grind (arith, common_steps);
      end = rw c.end_of_line_before.ensures.place (ends_line c.args.self.now.text (c.in-Some.to - 1));
    }

pub returns-in_default-clause-lines : goal.returns-in_default-clause-lines
returns-in_default-clause-lines c =
    record {
      ordered = search rules;
      within = search rules;
      boundary = grind (arith, common_steps);
      end = rw c.end_of_line.ensures.place (ends_line c.args.self.now.text c.args.self.now.cursor);
    }
