use Rattle.std.proofs.Common.{refl}
use Rattle.line_buffer.proofs.GroupLemmas.{added_fits}
use Rattle.line_buffer.proofs.undo.Changeset.add_replace.Goals as goal

pub invariant_of-self-2 : goal.invariant_of-self-2
invariant_of-self-2 c = added_fits c.self.inside.changes.items _ c.self.inside.open_groups _ c.in_ok-push.ensures.items refl c.self.invariant
