use Rattle.std.proofs.Common.{refl}
use Rattle.line_session.proofs.SearchingLemmas.{shows_it}
use Rattle.line_session.proofs.searching.Searching.show.Goals as goal

pub returns-clause-shows : goal.returns-clause-shows
returns-clause-shows g c =
    shows_it _ _ _ c.args.self _ _ _ _ _ c.in_ok-self.field-0 c.in_ok-take_back.ensures.still.frame.environment c.in_ok-self.ensures.still.frame.environment
    c.in_ok-take_back.ensures.draft c.in_ok-self.ensures.draft c.in_ok-self.ensures.grown c.in_ok-draw.ensures.draft refl
