use Rattle.std.proofs.Common.{rules, ◌≡◌, ◌-◌, Some, None, length, lit<, arith}
use Rattle.std.proofs.lemmas.Str.{IsCharBoundary-start}
use Rattle.std.proofs.lemmas.Str.Pattern.{rfind_char}
use Rattle.std.specs.List.{suffix_len}
use Rattle.line_buffer.specs.Line.{is_no_newline}
use Rattle.line_buffer.proofs.LineLemmas.{suffix_len-at, suffix_len-none}
use Rattle.line_buffer.proofs.clusters.last_line_start.Goals as goal

pub returns-in-Some : goal.returns-in-Some
returns-in-Some c =
    record {
      place =
          let found = rfind_char 10 c.args.text.now (Some c.in-Some.newline) c.in-Some.ensures.cases (lit< tt) in
          let after : suffix_len is_no_newline c.args.text.now ≡ length c.args.text.now - 1 - c.in-Some.newline =
          suffix_len-at c.args.text.now c.in-Some.newline found.0 found.1 found.2 in
          omega (arith, found.0);
      boundary = search rules;
    }

pub returns-in-None : goal.returns-in-None
returns-in-None c =
    record {
      place =
          let all : suffix_len is_no_newline c.args.text.now ≡ length c.args.text.now =
          suffix_len-none c.args.text.now (rfind_char 10 c.args.text.now None c.in-None.ensures.cases (lit< tt)) in
          omega arith;
      boundary = IsCharBoundary-start c.args.text.now c.utf8.text;
    }
