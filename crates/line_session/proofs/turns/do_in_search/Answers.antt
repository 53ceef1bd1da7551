use Rattle.std.proofs.Common.{◌∙◌, inr, refl, sym}
use Rattle.line_input.proofs.DrawnTwiceLemmas.{frame_then}
use Rattle.line_session.specs.Searching.{search_value}
use Rattle.line_session.proofs.TurnLemmas.{drawn_all, leaves_all, proceeds_out}
use Rattle.line_session.proofs.turns.do_in_search.Goals as goal

pub returns-in-Some-left-clause-does : goal.returns-in-Some-left-clause-does
returns-in-Some-left-clause-does g c = λ keymap.
    let done = c.in_ok-turned.ensures.does in
    proceeds_out _ c.args.config.now keymap (search_value c.args.searching) _ _ _ _ _ _ c.answer.new.state _ _ (sym c.by.ensures ∙ c.in_default.is) c.refresh_line.ensures.frame c.in_ok-refresh_line.ensures.draft c.in_ok-refresh_line.ensures.drew
    _ _ (rw c.in-Some-left.is at (rw c.in-Proceeds.is at done.tells)) done.frame.environment (rw c.in-Proceeds.is at done.comes) c.in_ok-next-in-Proceeds.ensures.answers

pub returns-in-Proceeds-clause-does : goal.returns-in-Proceeds-clause-does
returns-in-Proceeds-clause-does g c = λ keymap.
    let done = c.in_ok-turned.ensures.does in
    proceeds_out _ c.args.config.now keymap (search_value c.args.searching) _ _ _ _ _ _ c.do_turn.new.state _ _ (sym c.by.ensures ∙ c.in_default.is) c.refresh_line.ensures.frame c.in_ok-refresh_line.ensures.draft c.in_ok-refresh_line.ensures.drew
    _ _ (rw c.in_default-left.is at (rw c.in-Proceeds.is at done.tells)) done.frame.environment (rw c.in-Proceeds.is at done.comes) (refl, refl)

pub returns : goal.returns
returns g c =
    let done = c.in_ok-turned.ensures.does in
    let stops = c.in_default-turned.not-Proceeds in
    record {
      does = λ keymap.
          leaves_all _ c.args.config.now keymap (search_value c.args.searching) _ _ _ _ _ _ _ _ (sym c.by.ensures ∙ c.in_default.is) c.refresh_line.ensures.frame c.in_ok-refresh_line.ensures.draft c.in_ok-refresh_line.ensures.drew
          c.in_ok-turned.turned stops done.comes;
      drawn = λ items. drawn_all _ c.args.config.now _ _ _ _ _ _ _ items c.in_ok-refresh_line.ensures.drew c.in_ok-turned.turned stops done.comes;
      mode = inr refl;
      frame = frame_then _ _ _ _ c.refresh_line.ensures.frame done.frame;
      faults = tt;
      ring = c.in_ok-turned.ensures.ring;
    }
