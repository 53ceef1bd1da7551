use Rattle.std.proofs.Common.{◌∙◌, arith, ap, map, take_all}
use Rattle.line_parts.specs.Candidate.{offer_of, pair_offer}
use Rattle.line_session.proofs.CompletingLemmas.{pairs_more}
use Rattle.line_session.proofs.completing.pairs.Goals as goal

pub loop-candidate-init : goal.loop-candidate-init
loop-candidate-init g c = ap (λ l. map pair_offer l) c.new-pairs.ensures.items

pub loop-candidate-preserved : goal.loop-candidate-preserved
loop-candidate-preserved g c =
    pairs_more g.C.Candidate c.deref-candidate-items.result.now _ _ _ _ c.in_ok-pair.field-0 c.loop-candidate-test.true c.candidate-item.is c.loop-candidate.invariant
    c.in_ok-push.ensures.items c.in_ok-pair.ensures.pair

pub returns-clause-pairs : goal.returns-clause-pairs
returns-clause-pairs g c =
    c.loop-candidate.invariant
    ∙ ap (λ l. map (offer_of g.C.Candidate) l) (take_all _ _ (omega (arith, c.loop-candidate-test.false)) ∙ c.deref-candidate-items.ensures.value)
