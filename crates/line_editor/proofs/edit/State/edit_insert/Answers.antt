use Rattle.std.proofs.Common.{refl, sym}
use Rattle.line_editor.proofs.DoneLemmas.{nothing_drawn}
use Rattle.line_editor.proofs.PlainlyLemmas.{typed_done, typed_full}
use Rattle.line_editor.proofs.edit.State.edit_insert.Goals as goal

pub returns-then-not-plainly : goal.returns-then-not-plainly
returns-then-not-plainly g c =
    let inserted = c.in_ok-insert.ensures in
    typed_full _ _ c.args.self.now _ _ _ c.args.n c.args.c (nothing_drawn _ _ _ refl refl refl refl refl refl) refl inserted.edited inserted.first
    (sym c.if-not-plainly.ensures) c.refresh_line.ensures

pub returns : goal.returns
returns g c =
    let inserted = c.in_ok-insert.ensures in
    typed_done _ _ c.args.self.now _ _ _ c.args.n c.args.c (nothing_drawn _ _ _ refl refl refl refl refl refl) refl inserted.edited inserted.first
    (sym c.if-not-plainly.ensures) c.show_typed.ensures.shows c.show_typed.ensures.right
