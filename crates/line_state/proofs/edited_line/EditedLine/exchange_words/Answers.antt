use Rattle.std.proofs.Common.{rules}
use Rattle.line_state.proofs.EditedLemmas.{edits_both}
use Rattle.line_state.proofs.edited_line.EditedLine.exchange_words.Goals as goal

pub returns : goal.returns
returns c = record {
  answer = search rules;
  edit = rw (← c.self.view_is) (edits_both _ _ _ _ _ _ _ c.transpose_words.ensures.edit c.self.invariant);
}
