use Rattle.std.proofs.Common.{◌≡◌, ◌-◌, length, take, drop, ap, sym, ◌∙◌, arith}
use Rattle.std.specs.List.{fold, list_all}
use Rattle.std.proofs.lemmas.List.{take-append-drop, take_rest}
use Rattle.line_buffer.specs.Printable.{is_plain}
use Rattle.line_state.proofs.PlainTextLemmas.{all_parts}
use Rattle.line_screen.specs.Measure.{columns_after, start_below}
use Rattle.line_screen.specs.MeasureLaws.{after_char, after-last, after-row, fold-printable}
use Rattle.line_screen.proofs.measure.after_plain.Goals as goal

pub loop-newline-preserved : goal.loop-newline-preserved
loop-newline-preserved c =
    let columns = c.args.columns in
    let rest = c.loop-newline.rest.now in
    let newline = c.in-Some.newline in
    let found = c.in-Some.ensures in
    let all = c.loop-newline.invariant.0 in
    let cut = c.split_at.result.1.now in
    let behind : take (length cut - 1) (drop 1 cut) ≡ drop 1 (drop newline rest) = take_rest cut 1 ∙ ap (drop 1) c.split_at.ensures.back in
    let place = c.start_below-place.ensures ∙ ap start_below (c.after_printable-in-Some.ensures ∙ ap (λ n. columns_after columns n c.loop-newline.place) c.split_at.ensures.front_len) in
    let plain = all_parts is_plain (take newline rest) (drop newline rest) (ap (list_all is_plain) (take-append-drop newline rest) ∙ all) in
    let last = all_parts is_plain (take 1 (drop newline rest)) (drop 1 (drop newline rest)) (ap (list_all is_plain) (take-append-drop 1 (drop newline rest)) ∙ plain.1) in (
      ap (list_all is_plain) behind ∙ last.1,
      ap (fold (after_char columns) c.start_below-place.result) behind
          ∙ ap (λ p. fold (after_char columns) p (drop 1 (drop newline rest))) place
          ∙ sym (after-row columns newline c.loop-newline.place rest all found.0.high found.1 (λ k below feed. found.0.before k (omega arith) below feed))
          ∙ c.loop-newline.invariant.1,
    )

pub returns : goal.returns
returns c =
    let none = c.in_default.ensures in
    c.after_printable-2.ensures
    ∙ sym (after-last c.args.columns c.loop-newline.place c.loop-newline.rest.now c.loop-newline.invariant.0 (λ k below feed. none k (omega arith) below feed))
    ∙ c.loop-newline.invariant.1

pub returns-then-is_printable_text : goal.returns-then-is_printable_text
returns-then-is_printable_text c =
    c.after_printable.ensures
    ∙ sym (fold-printable c.args.columns c.args.place c.args.text.now (sym c.is_printable_text.ensures ∙ c.if-is_printable_text.true))
