use Rattle.std.proofs.Common.{rules, ◌≡◌, ◌<◌, ◌+◌, ℕ, List, Some, None, length, ◌∙◌, lit<, arith}
use Rattle.std.proofs.lemmas.Bool.Decides.{nat_tests}
use Rattle.std.proofs.lemmas.Str.{IsCharBoundary-after_ascii}
use Rattle.std.proofs.lemmas.Str.Pattern.{find_char}
use Rattle.std.specs.List.{prefix_len}
use Rattle.line_buffer.specs.Line.{is_no_newline}
use Rattle.line_buffer.specs.Lines.{next_line}
use Rattle.line_buffer.proofs.LineLemmas.{prefix_len-at, prefix_len-none}
use Rattle.line_buffer.proofs.clusters.next_line.Goals as goal

no_next : (text : List ℕ) → prefix_len is_no_newline text ≡ length text → None ≡ next_line text
no_next text e = grind (arith, nat_tests)

next_is : (text : List ℕ) (k : ℕ) → k < length text → prefix_len is_no_newline text ≡ k → Some (k + 1) ≡ next_line text
next_is text k within e = grind (arith, nat_tests)

pub returns-in_err-newline : goal.returns-in_err-newline
returns-in_err-newline c =
    record {
      place =
          c.from_residual.ensures ∙ no_next c.args.text.now (prefix_len-none c.args.text.now (find_char 10 c.args.text.now None c.in_err-newline.ensures.cases (lit< tt)));
      boundary = search rules;
    }

pub returns : goal.returns
returns c =
    let text = c.args.text.now in
    let newline = c.in_ok-newline.newline in
    let found = find_char 10 text (Some newline) c.in_ok-newline.ensures.cases (lit< tt) in
    record {
      place = next_is text newline found.0 (prefix_len-at text newline found.0 found.1 found.2);
      boundary = IsCharBoundary-after_ascii text newline c.utf8.text found.0 (omega (arith, found.1));
    }
