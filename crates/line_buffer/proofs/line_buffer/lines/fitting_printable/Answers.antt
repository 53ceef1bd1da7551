use Rattle.std.proofs.Common.{rules, ◌≡◌, ◌+◌, ◌-◌, min, nat_le, true, false, length, cond, ap, sym, ◌∙◌, arith}
use Rattle.std.proofs.lemmas.Bool.Decides.{nat_tests}
use Rattle.std.proofs.lemmas.Str.{IsCharBoundary-from_ascii}
use Rattle.line_buffer.proofs.PlainClusterLemmas.{IsAscii-plain}
use Rattle.line_buffer.proofs.PrintableLemmas.{fitting-printable, plain-printable}
use Rattle.line_buffer.specs.Lines.{columns_before}
use Rattle.line_buffer.proofs.line_buffer.lines.fitting_printable.Goals as goal

pub returns-then-before-min : goal.returns-then-before-min
returns-then-before-min c =
    let line = c.args.line.now in
    let fits = fitting-printable c.args.layout.now c.args.start line c.args.column c.requires in
    let whole : nat_le (columns_before c.args.layout.now c.args.start + min (length line) 65535) c.args.column ≡ true = search rules in
    record {
      place = sym (fits ∙ ap (λ b. cond b (length line) (c.args.column - columns_before c.args.layout.now c.args.start)) whole);
      boundary = search rules;
    }

pub returns-else-before-min : goal.returns-else-before-min
returns-else-before-min c =
    let line = c.args.line.now in
    let before = columns_before c.args.layout.now c.args.start in
    let fits = fitting-printable c.args.layout.now c.args.start line c.args.column c.requires in
    let past : nat_le (before + min (length line) 65535) c.args.column ≡ false = search rules in
    let left : c.saturating_sub.result ≡ c.args.column - before = search rules in
    record {
      place = left ∙ sym (fits ∙ ap (λ b. cond b (length line) (c.args.column - before)) past);
      boundary = IsCharBoundary-from_ascii line c.saturating_sub.result (IsAscii-plain line (plain-printable line c.requires)) (grind (arith, nat_tests, past, left));
    }
