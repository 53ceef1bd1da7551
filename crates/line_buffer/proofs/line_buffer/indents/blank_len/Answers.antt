use Rattle.std.proofs.Common.{◌≡◌, ◌+◌, ◌-◌, suc, sym, ◌∙◌, ap, length, arith}
use Rattle.std.specs.Str.Iter.{chars_rest}
use Rattle.line_buffer.proofs.BlankLemmas.{blank-end, blank-none, blank-other, blanks-done, blanks-more}
use Rattle.line_buffer.proofs.line_buffer.indents.blank_len.Goals as goal

pub loop-preserved : goal.loop-preserved
loop-preserved c =
    let one : c.args.amount - c.loop.counter ≡ suc (c.args.amount - (c.loop.counter + 1)) = omega arith in
    let white = sym c.is_whitespace.ensures ∙ c.if-is_whitespace.true in
    rw (ap length c.as_str.ensures)
    (blanks-more c.args.amount c.args.text.now (chars_rest c.loop.rest) (chars_rest c.next.new.self) (c.args.amount - c.loop.counter) (c.args.amount - (c.loop.counter + 1)) c.loop.len c.in-Some.c c.loop.invariant
    one c.in-Some.ensures.steps.0 white)

pub returns-in_default : goal.returns-in_default
returns-in_default c =
    let other = sym c.is_whitespace.ensures ∙ c.if-is_whitespace.false in
    let none = blank-other (c.args.amount - c.loop.counter) (chars_rest c.loop.rest) (chars_rest c.next.new.self) c.in-Some.c c.loop.invariant.rest_is_text c.in-Some.ensures.steps.0 other in
    let all = blanks-done c.args.amount c.args.text.now (chars_rest c.loop.rest) (c.args.amount - c.loop.counter) c.loop.len c.loop.invariant none in
    record { len = all.len_is; boundary = all.boundary; bytes = all.bytes }

pub returns-in_default-2 : goal.returns-in_default-2
returns-in_default-2 c =
    let none = blank-end (c.args.amount - c.loop.counter) (chars_rest c.loop.rest) c.in_default.ensures.steps.0.0 in
    let all = blanks-done c.args.amount c.args.text.now (chars_rest c.loop.rest) (c.args.amount - c.loop.counter) c.loop.len c.loop.invariant none in
    record { len = all.len_is; boundary = all.boundary; bytes = all.bytes }

pub returns : goal.returns
returns c =
    let none = blank-none (c.args.amount - c.loop.counter) (chars_rest c.loop.rest) (omega arith) in
    let all = blanks-done c.args.amount c.args.text.now (chars_rest c.loop.rest) (c.args.amount - c.loop.counter) c.loop.len c.loop.invariant none in
    record { len = all.len_is; boundary = all.boundary; bytes = all.bytes }
