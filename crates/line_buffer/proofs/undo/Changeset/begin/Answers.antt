use Rattle.std.proofs.Common.{refl, arith}
use Rattle.line_buffer.proofs.GroupLemmas.{begun_fits}
use Rattle.line_buffer.proofs.undo.Changeset.begin.Goals as goal

pub invariant_of-self : goal.invariant_of-self
invariant_of-self c =
    begun_fits c.self.inside.changes.items c.push.new.self.items c.self.inside.open_groups c.saturating_add-self-inside.result _ c.in-Ok.ensures.items refl
    (omega (arith, c.saturating_add-self-inside.ensures, c.in-Ok.ensures.len)) c.self.invariant
