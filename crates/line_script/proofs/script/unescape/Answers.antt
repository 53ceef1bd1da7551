use Rattle.std.proofs.Common.{◌≡◌, ◌==◌, ◌||◌, true, not, [], ap, sym, ◌∙◌}
use Rattle.std.specs.Prelude.{string_bytes}
use Rattle.std.proofs.lemmas.List.Folds.{list_all_at}
use Rattle.line_parts.specs.declared.escaped_line.Escapes.TheVariants.{V2}
use Rattle.line_parts.proofs.EscapeLemmas.{undoes-start, undoes_all}
use Rattle.line_script.specs.Script.{lacks_escapes}
use Rattle.line_script.proofs.script.unescape.Goals as goal

-- a text without a backslash and a newline stands for itself
pub returns-then-lacks_escapes : goal.returns-then-lacks_escapes
returns-then-lacks_escapes c =
    let text = c.args.text.now in
    let lacks : lacks_escapes text ≡ true = rw c.as_bytes-bytes.ensures.value at (sym c.lacks_escapes.ensures ∙ c.if-lacks_escapes.true) in
    undoes_all V2 text [] text (string_bytes c.in_ok-from_str.field-0)
    (λ k low below hit. let has = list_all_at (λ b. not (b == 92 || b == 10)) text k 0 below (ap not hit) in absurd (cc)) (undoes-start V2 text) c.in_ok-from_str.ensures.ok
