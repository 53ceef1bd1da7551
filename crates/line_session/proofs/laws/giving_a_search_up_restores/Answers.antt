use Rattle.line_session.proofs.OneSearchLaws.{giving-up-search}
use Rattle.line_session.proofs.laws.giving_a_search_up_restores.Goals as goal

pub returns : goal.returns
returns c = giving-up-search
