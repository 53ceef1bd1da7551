use Rattle.std.proofs.lemmas.Result.{err_from_is_err_and}
use Rattle.std.proofs.Common.{◌∙◌, refl}
use Rattle.line_keys.specs.Command.{accept_or_insert_line}
use Rattle.line_editor.proofs.AcceptLemmas.{drop_fails, frame_both, inserting_fails, line_stays_so, newline_comes, newline_fails, none_failed, submits_line}
use Rattle.line_editor.proofs.CommandLemmas.{executed_ok}
use Rattle.line_input.proofs.DrawnTwiceLemmas.{frame_then}
use Rattle.line_editor.specs.declared.command.Status.TheVariants.{Proceed, Submit}
use Rattle.line_editor.proofs.edit.State.accept_or_insert_line.Goals as goal

pub returns-in-Submits : goal.returns-in-Submits
returns-in-Submits g c = λ input indent kills.
    let drop = c.in_ok-drop_hint.ensures in
    let asked = c.in_ok-verdict.ensures in
    executed_ok _ _ _ _ _ _ _ _ Submit
    (submits_line _ _ _ c.args.self.now _ _ drop.does drop.loses asked.does asked.no_hint c.args.accept_in_the_middle _ _ asked.verdict c.is_end_of_input.ensures _ c.reply_for.ensures c.in-Submits.is input indent kills)
    (frame_both _ _ _ c.args.self.now _ _ drop.does drop.loses asked.does asked.no_hint) (none_failed _ _ _ c.args.self.now _ _ drop.does drop.loses asked.does asked.no_hint)

pub returns-in-Stays : goal.returns-in-Stays
returns-in-Stays g c = λ input indent kills.
    let drop = c.in_ok-drop_hint.ensures in
    let asked = c.in_ok-verdict.ensures in
    executed_ok _ _ _ _ _ _ _ _ Proceed
    (line_stays_so _ _ _ c.args.self.now _ _ drop.does drop.loses asked.does asked.no_hint c.args.accept_in_the_middle _ _ asked.verdict c.is_end_of_input.ensures _ c.reply_for.ensures c.in-Stays.is input indent kills)
    (frame_both _ _ _ c.args.self.now _ _ drop.does drop.loses asked.does asked.no_hint) (none_failed _ _ _ c.args.self.now _ _ drop.does drop.loses asked.does asked.no_hint)

pub returns : goal.returns
returns g c = λ input indent kills.
    let drop = c.in_ok-drop_hint.ensures in
    let asked = c.in_ok-verdict.ensures in
    let typed = c.in_ok-edit_insert-in-GoesOn.ensures in
    executed_ok _ _ _ _ _ _ _ _ Proceed
    (newline_comes _ _ _ c.args.self.now _ _ drop.does drop.loses asked.does asked.no_hint c.args.accept_in_the_middle _ _ asked.verdict c.is_end_of_input.ensures _ c.reply_for.ensures _ _ c.in-GoesOn.is typed input indent kills)
    (frame_then _ _ _ _ (frame_both _ _ _ c.args.self.now _ _ drop.does drop.loses asked.does asked.no_hint) typed.frame)
    (typed.fails.quiet ∙ none_failed _ _ _ c.args.self.now _ _ drop.does drop.loses asked.does asked.no_hint)

pub returns-in_err-edit_insert-in-GoesOn : goal.returns-in_err-edit_insert-in-GoesOn
returns-in_err-edit_insert-in-GoesOn g c = λ input indent kills.
    let drop = c.in_ok-drop_hint.ensures in
    let asked = c.in_ok-verdict.ensures in
    let p = err_from_is_err_and c.from_residual-in_err-edit_insert-in-GoesOn.result c.from_residual-in_err-edit_insert-in-GoesOn.ensures.1 in
    rw (p.1, p.2)
    (newline_fails _ _ _ c.args.self.now _ _ drop.does drop.loses asked.does asked.no_hint c.args.accept_in_the_middle _ _ asked.verdict c.is_end_of_input.ensures _ c.reply_for.ensures _ _ c.in-GoesOn.is
    c.in_err-edit_insert-in-GoesOn.ensures input indent kills)

pub returns-in_err-drop_hint : goal.returns-in_err-drop_hint
returns-in_err-drop_hint g c = λ input indent kills.
    let p = err_from_is_err_and c.from_residual.result c.from_residual.ensures.1 in
    rw (p.1, p.2) (drop_fails _ _ c.args.self.now _ input indent kills (accept_or_insert_line c.args.accept_in_the_middle) _ refl refl c.in_err-drop_hint.ensures.does)

pub returns-in_err-verdict : goal.returns-in_err-verdict
returns-in_err-verdict g c = λ input indent kills.
    let p = err_from_is_err_and c.from_residual-in_err-verdict.result c.from_residual-in_err-verdict.ensures.1 in
    rw (p.1, p.2) (inserting_fails _ _ _ c.args.self.now _ _ _ c.in_ok-drop_hint.ensures.does c.in_err-verdict.ensures.does c.args.accept_in_the_middle input indent kills)
