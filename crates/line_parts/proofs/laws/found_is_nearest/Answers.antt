use Rattle.line_parts.proofs.HistoryLawLemmas.{found_is_nearest}
use Rattle.line_parts.proofs.laws.found_is_nearest.Goals as goal

pub returns : goal.returns
returns c = found_is_nearest
