use Rattle.std.proofs.Common.{◌∙◌, ◌++◌, ◌∷◌, [], ap, eqb, sym, arith}
use Rattle.std.proofs.lemmas.Str.Pattern.{starts_char}
use Rattle.std.specs.List.{starts_with}
use Rattle.line_parts.proofs.ArgumentLemmas.{argument, not_argument}
use Rattle.line_parts.proofs.completion.arguments.is_argument.Goals as goal

pub returns-in-Some : goal.returns-in-Some
returns-in-Some c =
    let command = c.args.command.now in
    let strips = c.in-Some.ensures.cases in
    argument command c.trim_start.result.now c.in-Some.rest.now c.starts_with.result (strips.1.1 ∙ ap (λ l. command ++ l) (sym strips.2))
    (starts_char 32 c.in-Some.rest.now c.starts_with.result c.starts_with.ensures.cases (omega arith) (omega arith))
    ∙ ap (λ text. starts_with eqb text (command ++ 32 ∷ [])) c.trim_start.ensures.trim

pub returns-in-None : goal.returns-in-None
returns-in-None c =
    not_argument c.args.command.now c.trim_start.result.now c.in-None.ensures.cases
    ∙ ap (λ text. starts_with eqb text (c.args.command.now ++ 32 ∷ [])) c.trim_start.ensures.trim
