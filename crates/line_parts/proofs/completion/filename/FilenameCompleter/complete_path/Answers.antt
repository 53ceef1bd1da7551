use Rattle.std.proofs.Common.{List, rules, ap, map, subst}
use Rattle.std.proofs.lemmas.Fn.{always_returns_same}
use Rattle.line_parts.specs.Candidate.{Completion, Offer, pair_offer}
use Rattle.line_parts.specs.Completed.{InOrder}
use Rattle.line_parts.proofs.OrderLemmas.{pair_before, pairs_by_text, pairs_in_order}
use Rattle.line_parts.proofs.completion.filename.FilenameCompleter.complete_path.Goals as goal

pub returns-clause-answer : goal.returns-clause-answer
returns-clause-answer g c =
    let sorted = c.in_ok-sort_by.ensures.sorted pair_before pairs_by_text (always_returns_same _ _ _ (λ a r f k. search rules)) in
    let stable = c.in_ok-sort_by.ensures.stable pair_before pairs_by_text (always_returns_same _ _ _ (λ a r f k. search rules)) in
    let order = pairs_in_order _ _ c.in_ok-sort_by.ensures.permutation sorted stable in (
      ap (λ (done : Completion). done.start) c.in_ok-start.ensures.answer,
      subst (λ (offers : List Offer). InOrder offers (map pair_offer c.sort_by.new.self.items)) (ap (λ (done : Completion). done.offers) c.in_ok-start.ensures.answer) order,
    )
