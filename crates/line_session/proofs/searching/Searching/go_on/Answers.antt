use Rattle.line_session.specs.Searching.{search_value}
use Rattle.line_session.proofs.SearchingLemmas.{gone_on_so}
use Rattle.line_session.proofs.searching.Searching.go_on.Goals as goal

pub returns-clause-goes : goal.returns-clause-goes
returns-clause-goes g c =
    gone_on_so (g.E.EditorState.environment c.args.state.now) c.args.direction (search_value c.args.self.now) _ _ _
    c.history_len.ensures c.next_start-start.ensures c.in_ok-self.ensures.seeks
