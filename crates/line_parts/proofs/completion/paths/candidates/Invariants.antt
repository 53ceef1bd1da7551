use Rattle.std.proofs.Common.{◌≡◌, Some, map}
use Rattle.line_parts.specs.Candidate.{pair_offer}
use Rattle.line_parts.specs.Completed.{listed_of, offered_for}
use Rattle.line_parts.proofs.completion.paths.candidates.Given as goal

abbrev pub invariant-loop-entry : goal.invariant-loop-entry
invariant-loop-entry l = map pair_offer l.pairs.items ≡ offered_for l.quote l.folder l.name (Some (map listed_of l.yielded))
