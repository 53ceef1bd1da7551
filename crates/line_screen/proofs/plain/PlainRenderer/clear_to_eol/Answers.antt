use Rattle.std.proofs.Common.{drop, string_bytes, refl, sym, ap, ◌∙◌, ◌++◌}
use Rattle.std.proofs.lemmas.List.{take-append-drop}
use Rattle.line_screen.proofs.plain.PlainRenderer.clear_to_eol.Goals as goal

pub returns-then-is_char_boundary-clause-loses : goal.returns-then-is_char_boundary-clause-loses
returns-then-is_char_boundary-clause-loses g c =
    let text = string_bytes c.args.self.now.text in
    let kept = c.saturating_sub-kept.result in
    let left = drop kept text in
    record { gone = left; parts = sym (take-append-drop kept text) ∙ ap (λ s. s ++ left) (sym c.truncate.ensures.bytes); rest = refl }
