use Rattle.line_session.proofs.CompletingLemmas.{elects_so}
use Rattle.line_session.proofs.completing.elect.Goals as goal

pub returns-clause-elects : goal.returns-clause-elects
returns-clause-elects g c =
    elects_so _ _ _ _ _ _ _ _ c.in_ok-grown.ensures.comes c.in_ok-grown.ensures.unfit c.in_ok-grown.ensures.stays
    c.in_ok-grown.ensures.undrawn.frame.environment c.in_ok-refresh_line.ensures.draft
