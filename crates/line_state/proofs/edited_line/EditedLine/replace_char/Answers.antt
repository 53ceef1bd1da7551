use Rattle.line_state.proofs.EditedLemmas.{grouped}
use Rattle.std.proofs.Common.{rules, length, min}
use Rattle.line_buffer.specs.Cluster.{clusters, place_on}
use Rattle.line_buffer.specs.Line.{after}
use Rattle.line_state.specs.Edited.{with_copies_to}
use Rattle.line_state.proofs.edited_line.EditedLine.replace_char.Goals as goal

pub returns : goal.returns
returns c = record {
  answer = search rules;
  edit = grouped (λ e. with_copies_to c.args.c (min c.args.n (length (clusters (after e.line)))) (place_on e.line c.args.n) e)
      _ _ _ _ _ _ _ _ c.in_ok-begin_group.ensures.edit c.in_ok-replaced.ensures.edit c.in_ok-end_groups.ensures.edit;
  unreported = search rules;
}
