use Rattle.std.proofs.Common.{◌≡◌, ◌∙◌, Some, option_map, sym, ap}
use Rattle.line_session.specs.Kept.{answers_of}
use Rattle.line_session.proofs.KeptLemmas.{answers_any, answers_back, lent_answers}
use Rattle.line_session.proofs.begun.Begun.resized.Goals as goal

pub returns-clause-answers : goal.returns-clause-answers
returns-clause-answers g c =
    let stays = c.resized-drawn.ensures.stays in
    let names = c.release-line.ensures.loan ∙ stays.loan ∙ c.leave_others-left.ensures.frame.loan ∙ c.resume-state.ensures.loan in
    let both : Some c.resume-arg-3-1.given ≡ Some c.unwrap-lent.result.ghost_name =
    sym (ap (λ p. p.1) names) ∙ ap (λ o. option_map (λ h. h.ghost_name) o) c.unwrap-lent.ensures in
    let back = c.helper-1.given.1 (cc) ∙ c.give_back.ensures.other in
    let after = answers_back _ _ _ g.H.Completer _ c.unwrap-lent.result _ _ _ _ c.unwrap-lent.ensures c.release-line.ensures.environment (stays.environment ∙ c.leave_others-left.ensures.frame.environment) c.resume-state.ensures.environment in
    answers_any g.H.Hinter.hint_at g.H.Validator.verdict_at g.H.Highlighter.lights g.H.Completer _ _ _
    (ap (λ h. answers_of g.H.Hinter.hint_at g.H.Validator.verdict_at g.H.Highlighter.lights g.H.Completer h (g.S.History.lines c.args.setup.now.history)) back
    ∙ sym after ∙ stays.environment ∙ c.leave_others-left.ensures.frame.environment ∙ c.resume-state.ensures.environment ∙ lent_answers _ _ _ g.H.Completer _ _)
