use Rattle.std.proofs.Common.{rules}
use Rattle.line_parts.proofs.MatchLemmas.{small_match}
use Rattle.line_parts.proofs.highlight.MatchingBracketHighlighter.lit_place.Goals as goal

pub returns-in-Some-clause-bracket : goal.returns-in-Some-clause-bracket
returns-in-Some-clause-bracket c =
    small_match c.find_match.result c.in-Some.seen.bracket c.as_bytes.result.now c.args.line.now c.as_bytes.ensures.value (search rules) c.find_match.ensures.partner
