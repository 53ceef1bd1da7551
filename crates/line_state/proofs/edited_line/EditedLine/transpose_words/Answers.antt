use Rattle.std.proofs.Common.{rules}
use Rattle.line_state.proofs.EditedLemmas.{grouped}
use Rattle.line_buffer.specs.Transpose.{with_words_exchanged, words_exchanged}
use Rattle.line_state.specs.Edited.{edited_to}
use Rattle.line_state.proofs.edited_line.EditedLine.transpose_words.Goals as goal

pub returns-clause-reports : goal.returns-clause-reports
returns-clause-reports c = record {
  answer = search rules;
  edit = grouped (λ e. edited_to (words_exchanged e.line c.args.n) (with_words_exchanged e.line c.args.n) e)
      _ _ _ _ _ _ _ _ c.in_ok-begin_group.ensures.edit c.in_ok-exchanged.ensures.edit c.in_ok-end_groups.ensures.edit;
}
