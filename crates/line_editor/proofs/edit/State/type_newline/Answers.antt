use Rattle.std.proofs.lemmas.Result.{err_from_is_err_and}
use Rattle.std.proofs.Common.{refl}
use Rattle.line_editor.specs.DraftEdits.{typed_in}
use Rattle.line_editor.proofs.CommandLemmas.{drops_wrong, typed_behind}
use Rattle.line_editor.proofs.edit.State.type_newline.Goals as goal

pub returns : goal.returns
returns g c =
    let drop = c.in_ok-drop_hint.ensures.does in
    typed_behind _ _ _ _ _ _ (λ w d. typed_in w 1 10 d) _ drop.draft (record { line = refl; saved = refl; index = refl; changes = refl }) refl drop.start drop.drew drop.frame drop.fails.quiet c.edit_insert.ensures

pub returns-in_err-drop_hint : goal.returns-in_err-drop_hint
returns-in_err-drop_hint g c =
    let p = err_from_is_err_and c.from_residual.result c.from_residual.ensures.1 in
    rw (p.1, p.2) (drops_wrong _ _ c.args.self.now _ _ _ _ _ c.in_err-drop_hint.ensures.does)
