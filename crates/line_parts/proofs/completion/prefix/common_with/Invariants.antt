use Rattle.std.proofs.Common.{◌∷◌, map, take}
use Rattle.line_parts.specs.Prefix.{IsLongestCommon}
use Rattle.line_parts.proofs.completion.prefix.common_with.Given as goal

abbrev pub invariant-loop-other : goal.invariant-loop-other
invariant-loop-other g l =
    IsLongestCommon (l.first ∷ map (λ c. g.C.Candidate.replacement_text c) (take l.other-index l.others)) l.common
