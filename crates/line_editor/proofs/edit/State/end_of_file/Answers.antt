use Rattle.std.proofs.lemmas.Result.{err_from_is_err_and}
use Rattle.std.proofs.Common.{rules, ◌≡◌, ◌∙◌, ◌==◌, length, refl, sym, ap}
use Rattle.line_config.specs.declared.config.EditMode.TheVariants.{Emacs}
use Rattle.line_keys.specs.Command.{end_of_file}
use Rattle.line_keys.specs.Model.Draft.{Draft}
use Rattle.line_input.specs.InputState.{input_of}
use Rattle.line_editor.specs.declared.command.Status.TheVariants.{Proceed, Submit}
use Rattle.line_editor.proofs.AcceptLemmas.{drop_fails, emacs_keeps, empty_ends, end_answers, end_ends, others_submit}
use Rattle.line_editor.proofs.edit.State.end_of_file.Goals as goal

pub returns-in_err-drop_hint : goal.returns-in_err-drop_hint
returns-in_err-drop_hint g c = λ indent kills.
    let p = err_from_is_err_and c.from_residual.result c.from_residual.ensures.1 in
    rw (p.1, p.2) (drop_fails _ _ c.args.self.now _ (input_of c.args.input_state.now) indent kills end_of_file _ refl refl c.in_err-drop_hint.ensures.does)

pub returns-then-is_empty : goal.returns-then-is_empty
returns-then-is_empty g c = λ indent kills.
    let drop = c.in_ok-drop_hint.ensures in
    let text = ap length c.line.ensures ∙ ap (λ (d : Draft). length d.line.text) drop.does.draft in
    end_ends _ _ c.args.self.now _ (input_of c.args.input_state.now) indent kills drop.does drop.loses
    (empty_ends _ _ (ap (λ n. n == 0) (sym text) ∙ sym c.is_empty.ensures ∙ c.if-is_empty.true))

pub returns-then-is_emacs_mode : goal.returns-then-is_emacs_mode
returns-then-is_emacs_mode g c = λ indent kills.
    let drop = c.in_ok-drop_hint.ensures in
    let text = ap length c.line.ensures ∙ ap (λ (d : Draft). length d.line.text) drop.does.draft in
    let full = ap (λ n. n == 0) (sym text) ∙ sym c.is_empty.ensures ∙ c.if-is_empty.false in
    let emacs : (input_of c.args.input_state.now).style ≡ Emacs = search rules in
    end_answers _ _ c.args.self.now _ (input_of c.args.input_state.now) indent kills Proceed drop.does
    (rw emacs (emacs_keeps _ full)) drop.does.keeps

pub returns-else-is_emacs_mode : goal.returns-else-is_emacs_mode
returns-else-is_emacs_mode g c = λ indent kills.
    let drop = c.in_ok-drop_hint.ensures in
    let text = ap length c.line.ensures ∙ ap (λ (d : Draft). length d.line.text) drop.does.draft in
    let full = ap (λ n. n == 0) (sym text) ∙ sym c.is_empty.ensures ∙ c.if-is_empty.false in
    let other : (input_of c.args.input_state.now).style ≡ Emacs → ⊥ = search rules in
    end_answers _ _ c.args.self.now _ (input_of c.args.input_state.now) indent kills Submit drop.does
    (others_submit _ _ other full) drop.loses
