use Rattle.std.proofs.Common.{◌≡◌, ◌∙◌, [], ap, arith, length, refl, sym}
use Rattle.line_session.proofs.CompletingLemmas.{begins_with, by_circle, by_list, by_none, by_some, map_ok}
use Rattle.line_session.proofs.completing.complete.Goals as goal

pub returns-then-is_nothing-clause-begins : goal.returns-then-is_nothing-clause-begins
returns-then-is_nothing-clause-begins g c =
    let none : c.in_ok-candidates.candidates.items ≡ [] = sym c.deref.ensures.value ∙ c.is_nothing.ensures.nothing c.if-is_nothing.true in
    begins_with _ _ _ _ _ c.in_ok-start.start c.in_ok-candidates.candidates _ c.in_ok-start.ensures.offered c.in_ok-start.ensures.start c.in_ok-candidates.ensures.pairs
    (by_none _ _ _ _ _ _ _ _ none (c.in_ok-beep.ensures.paints.draft, refl))

pub returns-in-List-clause-begins : goal.returns-in-List-clause-begins
returns-in-List-clause-begins g c =
    let some : c.in_ok-candidates.candidates.items ≡ [] → ⊥ = λ none. c.is_nothing.ensures.some c.if-is_nothing.false (c.deref.ensures.value ∙ none) in
    map_ok c.complete_in_common.result _ _
    (λ mode puts. begins_with _ _ _ _ mode c.in_ok-start.start c.in_ok-candidates.candidates _ c.in_ok-start.ensures.offered c.in_ok-start.ensures.start c.in_ok-candidates.ensures.pairs
    (by_some _ _ _ _ _ _ _ mode some (by_list _ _ _ _ _ _ _ mode (sym c.completion_type.ensures ∙ c.in-List.is) puts)))
    c.complete_in_common.ensures.puts

pub returns-clause-begins : goal.returns-clause-begins
returns-clause-begins g c =
    let some : c.in_ok-candidates.candidates.items ≡ [] → ⊥ = λ none. c.is_nothing.ensures.some c.if-is_nothing.false (c.deref.ensures.value ∙ none) in
    map_ok c.show.result _ _
    (λ mode goes. begins_with _ _ _ _ mode c.in_ok-start.start c.in_ok-candidates.candidates _ c.in_ok-start.ensures.offered c.in_ok-start.ensures.start c.in_ok-candidates.ensures.pairs
    (by_some _ _ _ _ _ _ _ mode some (by_circle _ _ _ _ _ _ _ _ mode (sym c.completion_type.ensures ∙ c.in-Circular.is)
    (omega (arith, c.len-shown.ensures, c.deref.ensures.len, ap (λ l. length l) c.deref.ensures.value)) goes)))
    c.show.ensures.goes
