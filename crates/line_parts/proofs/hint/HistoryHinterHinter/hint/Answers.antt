use Rattle.std.proofs.Common.{◌≡◌, ap, sym, ◌∙◌, option_map, string_bytes}
use Rattle.std.proofs.lemmas.Result.{IfOk-weaker}
use Rattle.line_parts.proofs.HintLemmas.{hint_of_found, suggested_rest}
use Rattle.line_parts.specs.Context.{shown_in}
use Rattle.line_parts.specs.Hint.{suggested, suggestion_of}
use Rattle.line_parts.specs.History.{found_of}
use Rattle.line_parts.specs.HistoryHint.{history_hint, rest_behind}
use Rattle.line_parts.specs.contracts.hint.StringHint.TheImpl as string_hint
use Rattle.line_parts.proofs.hint.HistoryHinterHinter.hint.Goals as goal

pub returns-in-Some-clause-answer : goal.returns-in-Some-clause-answer
returns-in-Some-clause-answer g c =
    let finds = rw (c.in-Some.is, c.history.ensures) at c.in_ok-found.ensures.answer in
    let shown = shown_in g.S.History c.args.ctx.now c.args.line.now c.args.pos in
    let found = hint_of_found shown c.start.result (found_of c.in-Some.found) (sym c.is_empty.ensures ∙ c.if-is_empty.false) c.if-pos-line.false c.start.ensures finds in
    IfOk-weaker c.rest_behind.result (λ rest. option_map string_bytes rest ≡ rest_behind c.args.line.now c.as_str.result.now)
    (λ rest. option_map (suggestion_of string_hint.ghosts) rest ≡ option_map suggested (history_hint shown))
    (λ rest is. suggested_rest rest (history_hint shown) (is ∙ ap (rest_behind c.args.line.now) c.as_str.ensures.value ∙ found)) c.rest_behind.ensures.answer
