use Rattle.std.proofs.Common.{rules, ◌<◌, length, None, Some}
use Rattle.std.specs.Str.{IsUtf8}
use Rattle.line_parts.proofs.LoadLemmas.{adds_kept, no_text_kept, no_text_plain, stops_as}
use Rattle.line_parts.specs.LoadStop.{SaysNoText}
use Rattle.line_parts.proofs.history.file.FileHistory.load_line.Goals as goal

pub returns-in_default-clause-stops : goal.returns-in_default-clause-stops
returns-in_default-clause-stops c =
    rw c.in_default.is (stops_as c.add_bytes.result (¬ (IsUtf8 c.args.line.now)) ⊥ (SaysNoText None c.args.line.now) ⊥
    (no_text_plain c.args.line.now (search rules)) (λ none. none) c.add_bytes.ensures.stops)

pub returns-in-Ok-false-clause-adds : goal.returns-in-Ok-false-clause-adds
returns-in-Ok-false-clause-adds c =
    let some : 0 < length c.args.line.now = search rules in
    rw c.in-Some.is (adds_kept c.add_bytes-in-Ok-false.result c.in-Some.escapes c.args.line.now c.args.self.now c.add_bytes-in-Ok-false.new.self
    some (c.in-Ok-false.ensures.bad c.in-Ok-false.field-0-test) c.add_bytes-in-Ok-false.ensures.answer c.add_bytes-in-Ok-false.ensures.filed)

pub returns-in-Ok-false-clause-stops : goal.returns-in-Ok-false-clause-stops
returns-in-Ok-false-clause-stops c =
    rw c.in-Some.is (stops_as c.add_bytes-in-Ok-false.result (¬ (IsUtf8 c.args.line.now)) ⊥ (SaysNoText (Some c.in-Some.escapes) c.args.line.now) ⊥
    (no_text_kept c.in-Some.escapes c.args.line.now (search rules) (c.in-Ok-false.ensures.bad c.in-Ok-false.field-0-test))
    (λ none. none) c.add_bytes-in-Ok-false.ensures.stops)
