use Rattle.std.proofs.Common.{rules, ◌≡◌, length, take, drop, ap, sym, ◌∙◌, arith}
use Rattle.std.proofs.lemmas.Bool.Decides.{nat_tests}
use Rattle.std.proofs.lemmas.List.{take-take, take_all}
use Rattle.line_screen.specs.Measure.{measured}
use Rattle.line_screen.specs.MeasureLaws.{measured-parts, measured-whole}
use Rattle.line_screen.proofs.measure.measured_line.Goals as goal

pub returns-then-is_cursor_at_end-clause-cursor : goal.returns-then-is_cursor_at_end-clause-cursor
returns-then-is_cursor_at_end-clause-cursor c =
    let line = c.args.line.now in
    let end : line.cursor ≡ length line.text = grind (arith, nat_tests, c.is_cursor_at_end.ensures, c.if-is_cursor_at_end.true) in
    measured-whole c.args.columns c.args.origin c.after_line.result c.wrapped-end.result line.text c.after_line.ensures c.wrapped-end.ensures
    ∙ ap (λ t. measured c.args.columns t c.args.origin) (sym (take_all line.cursor line.text (omega (arith, end))))

pub returns-then-is_cursor_at_end-clause-end : goal.returns-then-is_cursor_at_end-clause-end
returns-then-is_cursor_at_end-clause-end c =
    measured-whole c.args.columns c.args.origin c.after_line.result c.wrapped-end.result c.args.line.now.text c.after_line.ensures c.wrapped-end.ensures

pub returns-clause-cursor : goal.returns-clause-cursor
returns-clause-cursor c =
    let line = c.args.line.now in
    let parting = c.parting_before-parting.result in
    let told = c.parting_before-parting.ensures in
    let before = take line.cursor line.text in
    let front : c.range.result.now ≡ take parting line.text = search rules in
    let back : c.range_from.result.now ≡ drop parting before = search rules in
    measured-parts c.args.columns parting c.args.origin c.after_text-place.result c.after_text-cursor.result c.wrapped.result before _ _
    told.before (front ∙ sym (take-take parting line.cursor line.text told.within)) back c.after_text-place.ensures c.after_text-cursor.ensures c.wrapped.ensures

pub returns-clause-end : goal.returns-clause-end
returns-clause-end c =
    let line = c.args.line.now in
    let parting = c.parting_before-parting.result in
    let front : c.range.result.now ≡ take parting line.text = search rules in
    let back : c.range_from-2.result.now ≡ drop parting line.text = search rules in
    measured-parts c.args.columns parting c.args.origin c.after_text-place.result c.after_text-end.result c.wrapped-2.result line.text _ _
    c.parting_before-parting.ensures.parts front back c.after_text-place.ensures c.after_text-end.ensures c.wrapped-2.ensures
