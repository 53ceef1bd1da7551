use Rattle.std.proofs.Common.{rules}
use Rattle.line_state.proofs.EditedLemmas.{grouped}
use Rattle.line_buffer.specs.Transpose.{with_word_cased, word_cased}
use Rattle.line_state.specs.Edited.{edited_to}
use Rattle.line_state.proofs.edited_line.EditedLine.edit_word.Goals as goal

pub returns : goal.returns
returns c = record {
  answer = search rules;
  edit = grouped (λ e. edited_to (word_cased c.args.action e.line) (with_word_cased c.args.action e.line) e)
      _ _ _ _ _ _ _ _ c.in_ok-begin_group.ensures.edit c.in_ok-changed.ensures.edit c.in_ok-end_groups.ensures.edit;
  unreported = search rules;
}
