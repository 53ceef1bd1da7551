use Rattle.std.proofs.Common.{◌≡◌, ◌∙◌, Some, option_map, refl, sym, ap}
use Rattle.line_session.specs.Kept.{answers_of}
use Rattle.line_session.proofs.KeptLemmas.{answers_any, answers_back, lent_answers}
use Rattle.line_session.proofs.begun.begin.Goals as goal

pub returns-clause-answers : goal.returns-clause-answers
returns-clause-answers g c =
    let begins = c.state_of-state.ensures in
    let names = c.release-line.ensures.loan ∙ begins.loan in
    let both : Some c.state_of-arg-2-1.given ≡ Some c.unwrap-lent.result.ghost_name =
    sym (ap (λ p. p.1) names) ∙ ap (λ o. option_map (λ h. h.ghost_name) o) c.unwrap-lent.ensures in
    let back = c.helper-1.given.1 (cc) ∙ c.give_back.ensures.other in
    let after = answers_back _ _ _ g.H.Completer _ c.unwrap-lent.result _ _ _ _ c.unwrap-lent.ensures c.release-line.ensures.environment refl begins.environment in
    answers_any g.H.Hinter.hint_at g.H.Validator.verdict_at g.H.Highlighter.lights g.H.Completer _ _ _
    (ap (λ h. answers_of g.H.Hinter.hint_at g.H.Validator.verdict_at g.H.Highlighter.lights g.H.Completer h (g.S.History.lines c.args.setup.now.history)) back
    ∙ sym after ∙ begins.environment ∙ lent_answers _ _ _ g.H.Completer _ _)
