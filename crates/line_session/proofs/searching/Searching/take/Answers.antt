use Rattle.line_session.specs.Searching.{search_value}
use Rattle.line_session.proofs.SearchingLemmas.{goes_on}
use Rattle.line_session.proofs.searching.Searching.take.Goals as goal

pub returns-in_ok-lead-in_default-clause-takes : goal.returns-in_ok-lead-in_default-clause-takes
returns-in_ok-lead-in_default-clause-takes g c =
    goes_on _ c.args.command (search_value c.args.self) _ _ _ c.show.result c.in_default.not-GiveUp c.in_ok-lead-in_default.ensures.led c.show.ensures.shows
