use Rattle.line_parts.proofs.EscapeLemmas.{pushed_hit, pushed_none}
use Rattle.line_parts.proofs.escaped_line.push_escaped_line.Goals as goal

pub loop-at-preserved : goal.loop-at-preserved
loop-at-preserved c =
    pushed_hit c.args.escapes _ _ _ _ c.loop-at.rest.now c.in-Some.at c.in-Some.ensures.within c.in-Some.ensures.plain
    c.loop-at.invariant c.in_ok-extend_from_slice.ensures.items c.in_ok-push_escaped.ensures.text

pub returns-clause-text : goal.returns-clause-text
returns-clause-text c =
    pushed_none c.args.escapes c.args.text.now.items c.args.line.now c.loop-at.text.items c.extend_from_slice-2.new.self.items
    c.loop-at.rest.now c.in_default.ensures.plain c.loop-at.invariant c.in_ok-extend_from_slice-2.ensures.items
