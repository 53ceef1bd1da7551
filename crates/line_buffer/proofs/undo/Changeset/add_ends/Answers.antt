use Rattle.std.proofs.Common.{◌<◌, ◌∙◌, refl, arith}
use Rattle.line_buffer.proofs.GroupLemmas.{end_added, end_fits}
use Rattle.line_buffer.proofs.undo.Changeset.add_ends.Goals as goal

pub loop-self-preserved : goal.loop-self-preserved
loop-self-preserved c =
    let changes = c.loop-self.self-inside.changes.items in
    let groups = c.loop-self.self-inside.open_groups in
    let some : 0 < groups = omega arith in
    record {
      same = end_added changes c.push.new.self.items groups _ c.in_ok-push.ensures.items refl some ∙ c.loop-self.invariant.same;
      fits = end_fits changes c.push.new.self.items groups _ c.in_ok-push.ensures.items refl some c.loop-self.invariant.fits;
    }
