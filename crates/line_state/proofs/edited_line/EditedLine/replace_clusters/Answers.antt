use Rattle.std.proofs.Common.{rules, true, sym, ◌∙◌}
use Rattle.line_state.proofs.EditedLemmas.{copies_for}
use Rattle.line_state.proofs.edited_line.EditedLine.replace_clusters.Goals as goal

pub returns : goal.returns
returns c = record {
  answer = search rules;
  edit = copies_for c.in_ok-delete.field-0 c.in_ok-insert.field-0 true c.args.c _ _ _ c.delete.new.self c.insert.new.self _
      (sym c.in_ok-delete.ensures.answer ∙ c.if-not-branch.false) c.in_ok-delete.ensures.edit
      (rw (← c.count_clusters-count.ensures) c.in_ok-insert.ensures) c.move_backward.ensures.line;
}
