use Rattle.std.proofs.Common.{◌≡◌}
use Rattle.line_buffer.specs.Changes.{without_begins}
use Rattle.line_buffer.proofs.undo.Changeset.take_newest_begins.Given as goal

abbrev pub invariant-loop-self : goal.invariant-loop-self
invariant-loop-self l = without_begins l.self ≡ without_begins l.fn.self

abbrev pub decreases-loop-self : goal.decreases-loop-self
decreases-loop-self l = l.self.open_groups
