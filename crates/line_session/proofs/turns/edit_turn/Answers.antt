use Rattle.std.proofs.Common.{None, Some, refl}
use Rattle.line_session.proofs.TurnLemmas.{proceeds_so, shown_on, shown_waiting, stops_drawn, stops_so}
use Rattle.line_session.proofs.turns.edit_turn.Goals as goal

pub answer-requires : goal.answer-requires
answer-requires g c =
    let turn = rw c.in-Proceeds.is at c.in_ok-turned.ensures.advances in
    shown_on _ _ c.args.config.now c.args.mode.now _ _ c.requires.reads c.requires.edits c.requires.shown turn

pub returns-in-Some-clause-takes : goal.returns-in-Some-clause-takes
returns-in-Some-clause-takes g c =
    let turn = rw c.in-Proceeds.is at c.in_ok-turned.ensures.advances in
    let tells = rw c.in-Proceeds.is at c.in_ok-turned.ensures.left in
    proceeds_so _ _ c.args.config.now c.args.mode.now _ _ c.requires.reads c.requires.edits c.requires.shown (Some c.in-Some.left) _ c.answer.new.state turn (rw c.in-Some.is at tells)
    (rw c.replace-was.ensures.value at c.in_ok-mode-in-Proceeds.ensures.answers)

pub returns-in_default-left-clause-takes : goal.returns-in_default-left-clause-takes
returns-in_default-left-clause-takes g c =
    let turn = rw c.in-Proceeds.is at c.in_ok-turned.ensures.advances in
    let tells = rw c.in-Proceeds.is at c.in_ok-turned.ensures.left in
    proceeds_so _ _ c.args.config.now c.args.mode.now _ _ c.requires.reads c.requires.edits c.requires.shown None _ c.take_turn.new.state turn (rw c.in_default-left.is at tells) (refl, refl)

pub returns-in_default-left-clause-drawn : goal.returns-in_default-left-clause-drawn
returns-in_default-left-clause-drawn g c =
    let turn = rw c.in-Proceeds.is at c.in_ok-turned.ensures.advances in
    shown_on _ _ c.args.config.now c.args.mode.now _ _ c.requires.reads c.requires.edits c.requires.shown turn

pub returns-in-NeedsMore-clause-drawn : goal.returns-in-NeedsMore-clause-drawn
returns-in-NeedsMore-clause-drawn g c =
    let turn = rw c.in-NeedsMore.is at c.in_ok-turned.ensures.advances in
    shown_waiting _ _ c.args.config.now c.args.mode.now _ _ c.requires.reads c.requires.edits c.requires.shown turn.stays.keeps.both.frame turn.turned

pub returns-in_default : goal.returns-in_default
returns-in_default g c =
    let end = c.in_default in
    let turn = c.in_ok-turned.ensures.advances in
    record {
      takes = stops_so _ _ c.args.config.now c.args.mode.now _ _ c.requires.reads c.requires.edits c.requires.shown c.in_ok-turned.turned end.not-Proceeds end.not-NeedsMore turn;
      drawn = stops_drawn _ _ c.args.config.now c.args.mode.now _ _ c.requires.reads c.requires.edits c.requires.shown c.in_ok-turned.turned end.not-Proceeds end.not-NeedsMore turn;
      fewer = λ goes. absurd (end.not-Proceeds goes);
      keeps = turn.stays.keeps;
      faults = tt;
      ring = c.in_ok-turned.ensures.ring;
    }
