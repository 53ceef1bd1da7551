use Rattle.std.proofs.Common.{map, string_bytes}
use Rattle.line_parts.proofs.HistoryLemmas.{NoneNearer}
use Rattle.line_parts.specs.HistoryPlace.{place_of}
use Rattle.line_parts.proofs.history.search.nearest_match.Given as goal

abbrev pub invariant-loop-distance : goal.invariant-loop-distance
invariant-loop-distance l = NoneNearer (place_of l.place) (map string_bytes l.entries.items) l.term l.start l.dir l.distance
