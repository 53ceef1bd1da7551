use Rattle.std.proofs.Common.{rules, ap, ◌≡◌, ◌∷◌, [], ◌∙◌, ◌++◌, drop}
use Rattle.line_parts.specs.HistoryText.{to_save, written}
use Rattle.line_parts.proofs.SaveLemmas.{saved_new, saved_text, saved_whole}
use Rattle.line_parts.proofs.history.file.FileHistory.save_by.Goals as goal
use Rattle.line_parts.proofs.history.file.FileHistory.save_by.Goals.{then-not-append+in_ok-extend_from_slice+in_ok-push, else-not-append}

pub returns : goal.returns
returns g c =
    let same = elim c.if-not-append.branch as (λ _. c.if-not-append.text.items ++ written c.args.escapes (drop c.if-not-append.first c.args.self.now.lines) ≡ to_save c.args.escapes c.args.append c.args.self.now) [
      | then-not-append+in_ok-extend_from_slice+in_ok-push w ↦ saved_whole c.args.escapes c.args.append c.args.self.now c.if-not-append.text.items c.if-not-append.first
          w.if-not-append.true (rw (w.text-is, w.in_ok-push.ensures.items, w.in_ok-extend_from_slice.ensures.items, c.new-text.ensures.items) (ap (λ h. h ++ 10 ∷ []) w.header_of.ensures)) w.first-is
      | else-not-append w ↦ saved_new c.args.escapes c.args.append c.args.self.now c.if-not-append.text.items c.if-not-append.first
          w.if-not-append.false (rw w.text-is c.new-text.ensures.items) (w.first-is ∙ c.first_new-first.ensures.value)
    ] in
    let text = saved_text (g.T.Write.contents c.args.out.now) (g.T.Write.contents c.write_lines.new.out) (g.T.Write.contents c.write_out.new.out)
    (g.T.Write.contents c.flush.new.self) c.if-not-append.text.items c.write_lines.new.text.items
    (written c.args.escapes (drop c.if-not-append.first c.args.self.now.lines)) (to_save c.args.escapes c.args.append c.args.self.now)
    c.in_ok-write_lines.ensures.text c.in_ok-write_out.ensures.text c.flush.ensures.bytes same in
    record { text = text; history = search rules; unchanged = search rules; kind = search rules; faults = search rules }
