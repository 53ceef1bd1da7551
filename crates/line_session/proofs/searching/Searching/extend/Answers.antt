use Rattle.line_session.specs.Searching.{search_value}
use Rattle.line_session.proofs.SearchingLemmas.{extended_so, newest_first}
use Rattle.line_session.proofs.searching.Searching.extend.Goals as goal

pub returns-clause-extended : goal.returns-clause-extended
returns-clause-extended g c =
    let old = c.args.self.now in
    extended_so (g.E.EditorState.environment c.args.state.now) c.args.c (search_value old) _ _ _ c.in_ok-push.ensures.bytes c.in_ok-self.ensures.seeks
    (newest_first old.shorter.items c.push-2.new.self.items old.place c.in_ok-push-2.ensures.items)
