use Rattle.std.proofs.Common.{length, string_bytes}
use Rattle.std.specs.Str.Iter.{chars_rest}
use Rattle.line_parts.proofs.WordLemmas.{UnescapesTo}
use Rattle.line_parts.proofs.completion.escapes.unescape_chars.Given as goal

abbrev pub invariant-loop-c : goal.invariant-loop-c
invariant-loop-c l = UnescapesTo l.esc_char l.input (string_bytes l.text) (chars_rest l.rest)

abbrev pub decreases-loop-c : goal.decreases-loop-c
decreases-loop-c l = length (chars_rest l.rest)
