use Rattle.std.proofs.Common.{◌≡◌, ◌∙◌, true, Some, not, option_map, string_bytes, sym, ap}
use Rattle.line_buffer.specs.declared.layout.GraphemeClusterMode.TheVariants.{Unicode}
use Rattle.line_keys.specs.Model.Display.{Display}
use Rattle.line_screen.specs.Measure.{measured}
use Rattle.line_session.specs.Kept.{answers_of}
use Rattle.line_session.specs.Taken.{is_settled}
use Rattle.line_editor.specs.declared.run.Turned.TheVariants as turned
use Rattle.line_session.proofs.KeptLemmas.{answers_any, answers_back, comes_so, ended_so, fits_alike, lent_answers, rules_alike, stands_alike, starts_alike}
use Rattle.line_term.specs.Shown.{known_screen}
use Rattle.line_session.proofs.ModeLemmas.{shown_alike}
use Rattle.line_session.proofs.begun.Begun.go_on.Goals as goal

pub take_turns-turned-requires : goal.take_turns-turned-requires
take_turns-turned-requires g c = record {
  shown = λ off. let resumed = c.resume-state.ensures in
      shown_alike c.args.self.mode _ _ _ _ _ _ _ (resumed.environment ∙ lent_answers _ _ _ g.H.Completer _ _) resumed.display resumed.draft (c.requires.shown off);
}

pub returns-clause-answers : goal.returns-clause-answers
returns-clause-answers g c =
    let names = c.release-line.ensures.loan ∙ c.leave-turned.ensures.frame.loan ∙ c.take_turns-turned.ensures.keeps.frame.loan ∙ c.resume-state.ensures.loan in
    let both : Some c.resume-arg-3-1.given ≡ Some c.unwrap-lent.result.ghost_name =
    sym (ap (λ p. p.1) names) ∙ ap (λ o. option_map (λ h. h.ghost_name) o) c.unwrap-lent.ensures in
    let back = c.helper-1.given.1 (cc) ∙ c.give_back.ensures.other in
    let after = answers_back _ _ _ g.H.Completer _ c.unwrap-lent.result _ _ _ _ c.unwrap-lent.ensures c.release-line.ensures.environment (c.leave-turned.ensures.frame.environment ∙ c.take_turns-turned.ensures.keeps.frame.environment) c.resume-state.ensures.environment in
    answers_any g.H.Hinter.hint_at g.H.Validator.verdict_at g.H.Highlighter.lights g.H.Completer _ _ _
    (ap (λ h. answers_of g.H.Hinter.hint_at g.H.Validator.verdict_at g.H.Highlighter.lights g.H.Completer h (g.S.History.lines c.args.setup.now.history)) back
    ∙ sym after ∙ c.leave-turned.ensures.frame.environment ∙ c.take_turns-turned.ensures.keeps.frame.environment ∙ c.resume-state.ensures.environment ∙ lent_answers _ _ _ g.H.Completer _ _)

pub returns-clause-comes : goal.returns-clause-comes
returns-clause-comes g c =
    let asked = c.resume-state.ensures.environment ∙ lent_answers _ _ _ g.H.Completer _ _ in
    comes_so _ _ _ _ _ _ _ _ _ _ c.take_turns-turned.ensures.comes c.leave-turned.ensures.ended
    (rules_alike _ _ _ _ _ _ _ _ c.resume-input_state.ensures.bindings c.resume-state.ensures.display asked)
    (starts_alike c.args.self.draws _ _ _ _ _ _ c.args.self.mode c.args.keys.now.rest c.args.kill_ring.now c.resume-state.ensures.draft c.resume-input_state.ensures.input asked)
    (stands_alike _ _ _ _ _ _ _ (sym (c.release-line.ensures.draft ∙ c.leave-turned.ensures.draft)) (sym c.release-input.ensures))
    (λ short. ap (λ (d : Display). is_settled c.take_turns-turned.new.mode d.layout.default_prompt) (sym (c.leave-turned.ensures.display short)) ∙ sym (c.is_to_be_drawn-draws.ensures.prompt short))

pub returns-clause-fits : goal.returns-clause-fits
returns-clause-fits g c =
    let names = c.release-line.ensures.loan ∙ c.leave-turned.ensures.frame.loan ∙ c.take_turns-turned.ensures.keeps.frame.loan ∙ c.resume-state.ensures.loan in
    let both : Some c.resume-arg-3-1.given ≡ Some c.unwrap-lent.result.ghost_name =
    sym (ap (λ p. p.1) names) ∙ ap (λ o. option_map (λ h. h.ghost_name) o) c.unwrap-lent.ensures in
    let back = c.helper-1.given.1 (cc) ∙ c.give_back.ensures.other in
    let screen = c.screen-1.given.1 (sym (ap (λ p. p.0) names)) ∙ c.give_back.ensures.one in
    let after = answers_back _ _ _ g.H.Completer _ c.unwrap-lent.result _ _ _ _ c.unwrap-lent.ensures c.release-line.ensures.environment (c.leave-turned.ensures.frame.environment ∙ c.take_turns-turned.ensures.keeps.frame.environment) c.resume-state.ensures.environment in
    let prompt = ap (λ (d : Display). d.prompt) c.resume-state.ensures.display in
    fits_alike
    (λ a. record { measure = measured a.shown.columns; columns = a.shown.columns; rows = a.shown.rows; colors = a.colors; mode = Unicode })
    (λ a. known_screen a.shown.columns a.whole a.end (record { position = a.shown.place; prompt = string_bytes a.shown.prompt; text = string_bytes a.shown.text; origin = a.shown.origin; behind = option_map string_bytes a.shown.hint; known = true }))
    c.release-line.result.0 c.take_turns-turned.new.mode c.is_to_be_drawn-draws.result c.take_turns-turned.new.keys.rest _ _ _ _ _ _ screen
    (sym (c.leave-turned.ensures.frame.prompt ∙ c.take_turns-turned.ensures.keeps.frame.prompt ∙ prompt))
    (ap (λ h. answers_of g.H.Hinter.hint_at g.H.Validator.verdict_at g.H.Highlighter.lights g.H.Completer h (g.S.History.lines c.args.setup.now.history)) back ∙ sym after)
    (record {
      left = c.release-line.ensures.left;
      within = c.release-line.ensures.within;
      shown = λ off.
          let more = c.is_to_be_drawn-draws.ensures.more off in
          let drawn = ended_so _ _ _ turned.NeedsMore c.leave-turned.ensures.ended c.take_turns-turned.ensures.drawn more in
          let same = c.leave-turned.ensures.display more in
          let settled = ap (λ (d : Display). is_settled c.take_turns-turned.new.mode d.layout.default_prompt) (sym same) ∙ sym (c.is_to_be_drawn-draws.ensures.prompt more) ∙ ap (λ b. not b) off in
          shown_alike c.take_turns-turned.new.mode c.take_turns-turned.new.keys.rest _ _ _ _ _ _ c.leave-turned.ensures.frame.environment
          (sym c.release-line.ensures.display ∙ same) (c.release-line.ensures.draft ∙ c.leave-turned.ensures.draft) (drawn settled);
    })
