use Rattle.std.proofs.Common.{arith, rules}
use Rattle.std.proofs.lemmas.Grind.{common_steps}
use Rattle.line_state.proofs.EditedLemmas.{grouped}
use Rattle.line_buffer.specs.Yank.{line_yank_popped, with_yank_pop}
use Rattle.line_state.specs.Edited.{edited_to}
use Rattle.line_state.proofs.edited_line.EditedLine.yank_pop.Goals as goal

pub returns-clause-reports : goal.returns-clause-reports
returns-clause-reports c = record {
  answer = search rules;
  edit = grouped (λ e. edited_to (line_yank_popped e.line c.args.size c.args.text.now) (with_yank_pop e.line c.args.size c.args.text.now) e)
      _ _ _ _ _ _ _ _ c.in_ok-begin_group.ensures.edit c.in_ok-pop.ensures c.in_ok-end_groups.ensures.edit;
}

pub returns-clause-unreported : goal.returns-clause-unreported
returns-clause-unreported c = grind (arith, common_steps)
