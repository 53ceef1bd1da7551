use Rattle.std.proofs.Common.{rules}
use Rattle.line_state.proofs.EditedLemmas.{grouped}
use Rattle.line_buffer.specs.Transpose.{chars_exchanged, with_chars_exchanged}
use Rattle.line_state.specs.Edited.{edited_to}
use Rattle.line_state.proofs.edited_line.EditedLine.transpose_chars.Goals as goal

pub returns : goal.returns
returns c = record {
  answer = search rules;
  edit = grouped (λ e. edited_to (chars_exchanged e.line) (with_chars_exchanged e.line) e)
      _ _ _ _ _ _ _ _ c.in_ok-begin_group.ensures.edit c.in_ok-exchanged.ensures.edit c.in_ok-end_groups.ensures.edit;
  unreported = search rules;
}
