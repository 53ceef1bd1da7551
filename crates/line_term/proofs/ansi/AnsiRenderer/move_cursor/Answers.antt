use Rattle.std.proofs.Common.{rules, ◌≡◌, ◌∙◌, ◌++◌, true, ap}
use Rattle.line_keys.specs.Model.Display.{Surface}
use Rattle.line_term.specs.Escape.{move_bytes}
use Rattle.line_term.specs.Shown.{IsPlace}
use Rattle.line_term.proofs.KnownLemmas.{moved}
use Rattle.line_term.proofs.ansi.AnsiRenderer.move_cursor.Goals as goal

pub invariant_of-self-2-clause-told : goal.invariant_of-self-2-clause-told
invariant_of-self-2-clause-told g c =
    let sent = c.in_ok-send.ensures in
    let went = c.move_cursor.ensures in
    let bytes : c.as_bytes.result.now ≡ move_bytes c.args.old c.args.new =
    c.as_bytes.ensures.value ∙ c.in_ok-push_move.ensures.appends ∙ ap (λ b. b ++ move_bytes c.args.old c.args.new) c.clear.ensures.bytes in
    let from : IsPlace c.args.old = search rules in
    let to : IsPlace c.args.new = search rules in
    let stands : c.eq.result ≡ true → c.args.self.now.shown.place ≡ c.args.old = search rules in
    moved g.O.Write.contents _ _ c.args.self.now.whole c.eq.result _ _ c.args.old c.args.new _ _ _ _ c.args.self.now.shown.some_columns from to
    (ap (λ (s : Surface). s.columns) went.keeps.surface) went.screen sent.whole stands (rw bytes at sent.sends.written) c.args.self.now.told
