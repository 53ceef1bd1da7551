use Rattle.std.proofs.Common.{refl, sym, ◌-◌, ◌∙◌, ap, length}
use Rattle.line_buffer.specs.Kill.{killed_range}
use Rattle.line_buffer.specs.Line.{Line}
use Rattle.line_editor.proofs.DoneLemmas.{nothing_drawn}
use Rattle.line_editor.proofs.PlainlyLemmas.{killed_full, killed_plainly}
use Rattle.line_editor.proofs.edit.State.edit_kill.Goals as goal

pub returns-then-not-plainly-clause-does : goal.returns-then-not-plainly-clause-does
returns-then-not-plainly-clause-does g c =
    let kill = c.in_ok-kill.ensures in
    killed_full _ _ c.args.self.now _ _ _ _ c.args.movement.now c.in-Some.from c.in-Some.to _ (nothing_drawn _ _ _ refl refl refl refl refl refl) refl
    (rw (← c.in-Some.ensures.range) at kill.edit.edited) kill.edit.first
    (killed_range c.args.self.now.line.edited.line c.args.movement.now) c.in-Some.ensures.range kill.ring (sym c.if-not-plainly.ensures.answer) c.refresh_line.ensures

pub returns-clause-does : goal.returns-clause-does
returns-clause-does g c =
    let kill = c.in_ok-kill.ensures in
    let counted = ap (λ n. n - c.in-Some.from) (c.len-len.ensures.value ∙ ap (λ (l : Line). length l.text) c.line.ensures) in
    killed_plainly _ _ c.args.self.now _ _ _ _ c.args.movement.now c.in-Some.from c.in-Some.to _ (nothing_drawn _ _ _ refl refl refl refl refl refl) refl
    (rw (← c.in-Some.ensures.range) at kill.edit.edited) kill.edit.first
    (killed_range c.args.self.now.line.edited.line c.args.movement.now) c.in-Some.ensures.range kill.ring c.in-Some.ensures.ordered (sym c.if-not-plainly.ensures.answer) _ counted
    c.show_killed.ensures.shows c.show_killed.ensures.right
