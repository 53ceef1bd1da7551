use Rattle.std.proofs.Common.{refl, ap, sym, subst, ◌∙◌, option_map}
use Rattle.std.specs.Prelude.{IsCharBoundary, IsUtf8}
use Rattle.line_parts.specs.History.{found_of}
use Rattle.line_editor.proofs.DoneLemmas.{nothing_drawn}
use Rattle.line_editor.proofs.HistoryMoveLemmas.{asked_before, found_cut, same_search, search_fails, search_shows}
use Rattle.line_editor.proofs.edit.State.search_from.Goals as goal

pub returns-in_default : goal.returns-in_default
returns-in_default g c =
    let set = c.set_history_index.ensures in
    let beep = c.beep.ensures in
    let term = asked_before _ _ _ _ _ c.range-before.ensures.value c.as_str.ensures.value c.pos.ensures.value c.line-line.ensures in
    search_fails _ _ c.args.self.now _ _ _ _ _
    (same_search _ _ _ _ c.args.index c.args.dir (option_map found_of c.in_ok-found.field-0) (ap (option_map found_of) (sym c.in_default.is))
    c.in_ok-found.ensures.answer c.history.ensures.lines term)
    (nothing_drawn _ _ _ set.environment (ap (λ l. (c.args.self.now.view.out.ghost_name, l)) set.loan) refl set.sure refl refl) refl set.index beep.drew beep.paints

pub show_text-requires-clause-boundary : goal.show_text-requires-clause-boundary
show_text-requires-clause-boundary g c =
    let text = c.as_str-2.ensures.value in
    subst (λ t. IsCharBoundary t c.in-Some.found.pos) (sym text)
    (found_cut _ _ _ _ (found_of c.in-Some.found) c.range-before.utf8 (subst IsUtf8 text c.as_str-2.utf8)
    (ap (option_map found_of) (sym c.in-Some.is) ∙ c.in_ok-found.ensures.answer))

pub returns : goal.returns
returns g c =
    let text = c.as_str-2.ensures.value in
    let term = asked_before _ _ _ _ _ c.range-before.ensures.value c.as_str.ensures.value c.pos.ensures.value c.line-line.ensures in
    search_shows _ _ c.args.self.now _ _ (found_of c.in-Some.found) c.args.index
    (same_search _ _ _ _ c.args.index c.args.dir (option_map found_of c.in_ok-found.field-0) (ap (option_map found_of) (sym c.in-Some.is))
    c.in_ok-found.ensures.answer c.history.ensures.lines term)
    (rw text at c.show_text.ensures)
