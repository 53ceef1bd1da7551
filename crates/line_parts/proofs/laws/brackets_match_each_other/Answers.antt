use Rattle.line_parts.proofs.MatchLawLemmas.{match_is_mutual}
use Rattle.line_parts.proofs.laws.brackets_match_each_other.Goals as goal

pub returns : goal.returns
returns c = match_is_mutual
