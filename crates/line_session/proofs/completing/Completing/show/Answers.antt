use Rattle.std.proofs.Common.{◌∙◌, ap, slice_get}
use Rattle.line_session.proofs.CompletingLemmas.{goes_so, looked_up}
use Rattle.line_session.proofs.completing.Completing.show.Goals as goal

pub returns-clause-goes : goal.returns-clause-goes
returns-clause-goes g c =
    goes_so _ _ c.args.self c.args.index _ _ _ _ _ c.in_ok-take_back.ensures.frame.environment c.in_ok-take_back.ensures.draft
    (looked_up c.deref.result.now c.args.index c.get.result _ c.get.ensures.lookup.1 c.get.ensures.lookup.3 ∙ ap (λ l. slice_get l c.args.index) c.deref.ensures.value)
    c.in_ok-grown.ensures.shows
