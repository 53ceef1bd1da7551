use Rattle.std.proofs.Common.{◌∙◌, option_map, sym, ap, string_bytes}
use Rattle.line_parts.specs.History.{found_of, search_in}
use Rattle.line_session.specs.Searching.{next_place}
use Rattle.line_session.proofs.SearchingLemmas.{seeks_so}
use Rattle.line_session.proofs.searching.Searching.seek.Goals as goal

pub returns-in_default-2-clause-seeks : goal.returns-in_default-2-clause-seeks
returns-in_default-2-clause-seeks g c =
    seeks_so _ (string_bytes c.args.self.now.term) c.args.self.now.place _ c.args.start _ _ c.in_ok-found.field-0 c.in-Some.is
    (c.in_ok-found.ensures.answer ∙ ap (λ t. search_in (g.E.EditorState.environment c.args.state.now).lines t c.in-Some.start c.args.direction) c.as_str.ensures.value)
    (ap (λ f. next_place c.args.self.now.place (option_map found_of f)) (sym c.in_default-2.is))

pub returns-clause-seeks : goal.returns-clause-seeks
returns-clause-seeks g c =
    seeks_so _ (string_bytes c.args.self.now.term) c.args.self.now.place _ c.args.start _ _ c.in_ok-found.field-0 c.in-Some.is
    (c.in_ok-found.ensures.answer ∙ ap (λ t. search_in (g.E.EditorState.environment c.args.state.now).lines t c.in-Some.start c.args.direction) c.as_str.ensures.value)
    (ap (λ f. next_place c.args.self.now.place (option_map found_of f)) (sym c.in-Some-2.is))
