use Rattle.std.proofs.Common.{ap, ◌∙◌, length}
use Rattle.std.proofs.lemmas.Bool.{ne_eqb}
use Rattle.line_editor.proofs.HistoryMoveLemmas.{search_back, search_on}
use Rattle.line_editor.proofs.edit.State.edit_history_search.Goals as goal

pub returns-else-index-eq0 : goal.returns-else-index-eq0
returns-else-index-eq0 g c =
    search_back _ _ c.args.self.now _ _ _ c.in-Reverse.is c.place-index.ensures.value (ne_eqb _ _ c.if-index-eq0.false) c.search_from.ensures

pub returns-else-index-len : goal.returns-else-index-len
returns-else-index-len g c =
    search_on _ _ c.args.self.now _ _ _ _ c.in-Forward.is c.place-index.ensures.value (c.len.ensures ∙ ap length c.history.ensures.lines)
    (ne_eqb _ _ c.if-index-len.false) c.search_from-in-Forward.ensures
