use Rattle.std.proofs.Common.{◌≡◌, map, take}
use Rattle.line_parts.specs.Candidate.{offer_of, pair_offer}
use Rattle.line_session.proofs.completing.pairs.Given as goal

abbrev pub invariant-loop-candidate : goal.invariant-loop-candidate
invariant-loop-candidate g l = map pair_offer l.pairs.items ≡ map (offer_of g.C.Candidate) (take l.candidate-index l.candidate-items)
