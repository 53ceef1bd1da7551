use Rattle.std.proofs.Common.{◌∙◌}
use Rattle.line_parts.proofs.PrefixLemmas.{alike_more, longest_here, start_boundary, start_range}
use Rattle.line_parts.proofs.WordLemmas.{shorter_by}
use Rattle.line_parts.proofs.completion.prefix.common_start.Goals as goal

pub loop-behind-smaller : goal.loop-behind-smaller
loop-behind-smaller c = shorter_by c.in-Some.ensures.same.0 _ _ c.in-Some.ensures.same.1

pub loop-behind-preserved : goal.loop-behind-preserved
loop-behind-preserved c =
    alike_more c.in-Some.ensures.same.0 _ _ _ _ _ _ c.loop-behind.invariant c.in-Some.ensures.same.1 c.in-Some.ensures.same.2
    c.in-Some.ensures.utf8.0 c.in-Some.ensures.utf8.1

pub range-requires-clause-end_boundary : goal.range-requires-clause-end_boundary
range-requires-clause-end_boundary c = start_boundary _ _ _ _ c.loop-behind.invariant

pub returns : goal.returns
returns c = longest_here _ _ _ _ _ c.loop-behind.invariant c.in_default.ensures.same
    (c.range.ensures.value ∙ start_range _ _ _ _ c.loop-behind.invariant)
