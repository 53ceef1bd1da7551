use Rattle.std.proofs.Common.{rules, ◌-◌}
use Rattle.line_buffer.proofs.PlainClusterLemmas.{clusters-part, clusters-whole}
use Rattle.line_buffer.proofs.partings.first_parting.Goals as goal

pub returns-then-place-gt1-clause-parts : goal.returns-then-place-gt1-clause-parts
returns-then-place-gt1-clause-parts c = clusters-part c.args.text.now c.loop-place.place c.utf8.text (search rules) (search rules) (search rules)

pub returns-then-not-meets-clause-parts : goal.returns-then-not-meets-clause-parts
returns-then-not-meets-clause-parts c =
    let before = c.loop-place.invariant c.if-in_front.true in
    clusters-part c.args.text.now (c.loop-place.place - 1) c.utf8.text (search rules) (search rules) before.1

pub returns-clause-parts : goal.returns-clause-parts
returns-clause-parts c = clusters-whole c.args.text.now
