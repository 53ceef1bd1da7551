use Rattle.std.proofs.Common.{rules, ◌-◌}
use Rattle.std.proofs.lemmas.Str.{IsCharBoundary-start}
use Rattle.line_buffer.proofs.PlainClusterLemmas.{boundary-part, clusters-none, clusters-part, clusters-part_before}
use Rattle.line_buffer.proofs.partings.last_parting.Goals as goal

pub returns-then-meet_plain-clause-place : goal.returns-then-meet_plain-clause-place
returns-then-meet_plain-clause-place c = boundary-part c.args.text.now (c.loop-place.place - 1) c.utf8.text (search rules) (search rules)

pub returns-then-meet_plain-clause-parts : goal.returns-then-meet_plain-clause-parts
returns-then-meet_plain-clause-parts c =
    clusters-part c.args.text.now (c.loop-place.place - 1) c.utf8.text (search rules) (search rules) (search rules)

pub returns-then-meet_plain-clause-before : goal.returns-then-meet_plain-clause-before
returns-then-meet_plain-clause-before c =
    clusters-part_before c.args.text.now c.args.end (c.loop-place.place - 1) c.utf8.text c.requires (search rules) (search rules) (search rules)

pub returns-clause-place : goal.returns-clause-place
returns-clause-place c = IsCharBoundary-start c.args.text.now c.utf8.text

pub returns-clause-parts : goal.returns-clause-parts
returns-clause-parts c = clusters-none c.args.text.now

pub returns-clause-before : goal.returns-clause-before
returns-clause-before c = clusters-none _
