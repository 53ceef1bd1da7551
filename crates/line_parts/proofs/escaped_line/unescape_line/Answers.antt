use Rattle.std.proofs.Common.{arith}
use Rattle.std.proofs.lemmas.Grind.{common_steps}
use Rattle.line_parts.proofs.EscapeLemmas.{undoes-start, undoes_more, undoes_bad, undoes_all}
use Rattle.line_parts.proofs.escaped_line.unescape_line.Goals as goal

pub loop-at-init : goal.loop-at-init
loop-at-init c = rw c.clear.ensures.items (undoes-start c.args.escapes c.args.line.now)

pub returns-in_default-read_escape-clause-bad : goal.returns-in_default-read_escape-clause-bad
returns-in_default-read_escape-clause-bad c =
    λ _. undoes_bad c.args.escapes c.args.line.now c.loop-at.text.items c.loop-at.rest.now c.in-Some.at c.in-Some.ensures.0 c.in-Some.ensures.1
    c.loop-at.invariant c.in_default-read_escape.ensures

pub loop-at-preserved : goal.loop-at-preserved
loop-at-preserved c =
    undoes_more c.args.escapes c.args.line.now c.loop-at.text.items c.loop-at.rest.now c.in-Some.at c.in-Some.ensures.0 c.in-Some.ensures.1
    c.loop-at.invariant c.extend_from_slice.new.self.items c.push.new.self.items c.in-Some-read_escape.byte
    c.in_ok-extend_from_slice.ensures.items c.in_ok-push.ensures.items c.in-Some-read_escape.ensures

pub returns-clause-good : goal.returns-clause-good
returns-clause-good c =
    λ _. undoes_all c.args.escapes c.args.line.now c.loop-at.text.items c.loop-at.rest.now c.extend_from_slice-2.new.self.items
    c.in_default.ensures c.loop-at.invariant c.in_ok-extend_from_slice-2.ensures.items

pub returns-in_default-read_escape-clause-good : goal.returns-in_default-read_escape-clause-good
returns-in_default-read_escape-clause-good c = grind (arith, common_steps)

pub returns-clause-bad : goal.returns-clause-bad
returns-clause-bad c = grind (arith, common_steps)

pub loop-at-smaller : goal.loop-at-smaller
loop-at-smaller c = grind (arith, common_steps)
