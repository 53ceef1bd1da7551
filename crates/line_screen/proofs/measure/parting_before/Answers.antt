use Rattle.std.proofs.Common.{rules, ◌≡◌, length, take, subst}
use Rattle.line_buffer.proofs.PlainClusterLemmas.{clusters-whole}
use Rattle.line_buffer.specs.Cluster.{PartsClusters}
use Rattle.line_screen.specs.MeasureLaws.{parts-plain}
use Rattle.line_screen.proofs.measure.parting_before.Goals as goal

pub returns-then-is_plain-clause-parts : goal.returns-then-is_plain-clause-parts
returns-then-is_plain-clause-parts c = parts-plain c.args.line.now.text c.pos.result (search rules)

pub returns-then-is_plain-clause-before : goal.returns-then-is_plain-clause-before
returns-then-is_plain-clause-before c =
    let before = take c.args.line.now.cursor c.args.line.now.text in
    let all : length before ≡ c.pos.result = search rules in
    subst (PartsClusters before) all (clusters-whole before)
