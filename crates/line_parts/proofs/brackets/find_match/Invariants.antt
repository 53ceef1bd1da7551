use Rattle.line_parts.proofs.MatchLemmas.{Counts}
use Rattle.line_parts.specs.BracketMatch.{led_away}
use Rattle.line_parts.proofs.brackets.find_match.Given as goal

abbrev pub invariant-loop-distance : goal.invariant-loop-distance
invariant-loop-distance l = Counts l.seen.bracket (led_away l.line l.seen.bracket l.seen.place) l.distance l.unmatched
