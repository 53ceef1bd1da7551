use Rattle.line_session.proofs.OneSearchLaws.{one-search}
use Rattle.line_session.proofs.laws.a_search_is_one_change.Goals as goal

pub returns : goal.returns
returns c = one-search
