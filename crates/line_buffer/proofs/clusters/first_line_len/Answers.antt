use Rattle.std.proofs.Common.{rules, ◌≤◌, ℕ, List, Option, Some, None, length, unwrap_or, sym, lit<, IsCharBoundary}
use Rattle.std.proofs.lemmas.Str.Pattern.{find_char}
use Rattle.std.specs.List.{prefix_len}
use Rattle.std.specs.Option.{MatchOption}
use Rattle.std.specs.Str.Pattern.{FindsChar}
use Rattle.line_buffer.specs.Line.{is_no_newline}
use Rattle.line_buffer.specs.Offset.{IsOffset}
use Rattle.line_buffer.proofs.LineLemmas.{prefix_len-at, prefix_len-none}
use Rattle.line_buffer.proofs.clusters.first_line_len.Goals as goal

ends_line : (text : List ℕ) (r : Option ℕ)
    → MatchOption r (FindsChar 10 text None) (λ i. (j : ℕ) × FindsChar 10 text (Some (i, j)) × (i ≤ j) × IsCharBoundary text i × IsCharBoundary text j)
    → IsOffset (unwrap_or r (length text)) text (prefix_len is_no_newline text)
ends_line text (Some k) cases =
    let found = find_char 10 text (Some k) cases (lit< tt) in
    record { place = sym (prefix_len-at text k found.0 found.1 found.2); boundary = search rules }
ends_line text None cases = record { place = sym (prefix_len-none text (find_char 10 text None cases (lit< tt))); boundary = search rules }

pub returns : goal.returns
returns c = rw c.unwrap_or.ensures (ends_line c.args.text.now c.find.result c.find.ensures.cases)
