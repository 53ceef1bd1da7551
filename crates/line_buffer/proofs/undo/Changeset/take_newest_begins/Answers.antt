use Rattle.std.proofs.Common.{◌≡◌, ◌<◌, true, sym, ap, ◌∙◌, arith}
use Rattle.line_buffer.specs.Changes.{Changes, newest_begins}
use Rattle.line_buffer.specs.KeptChanges.{entries_of}
use Rattle.line_buffer.proofs.ChangeLemmas.{newest_taken, without_begins-one}
use Rattle.line_buffer.proofs.GroupLemmas.{begin_fits}
use Rattle.line_buffer.proofs.undo.Changeset.take_newest_begins.Goals as goal

pub loop-self-preserved : goal.loop-self-preserved
loop-self-preserved c =
    let entries = ap (λ (s : Changes). s.entries) c.self.view_is in
    let groups = ap (λ (s : Changes). s.open_groups) c.self.view_is in
    let begun : newest_begins (entries_of c.self.inside.changes.items) ≡ true = ap newest_begins entries ∙ sym c.newest_begins.ensures ∙ c.if-newest_begins.true in
    let taken = newest_taken c.self.inside.changes.items c.pop.new.self.items c.in-Some.field-0 c.in-Some.ensures.items begun in
    let before = sym entries ∙ taken in
    let some : 0 < c.self.inside.open_groups = omega arith in
    rw (← c.loop-self.invariant, ← groups) (sym (without_begins-one c.self.inside.open_groups c.loop-self.self.entries _ some before))

pub invariant_of-self-in-loop-self : goal.invariant_of-self-in-loop-self
invariant_of-self-in-loop-self c =
    let entries = ap (λ (s : Changes). s.entries) c.self.view_is in
    let begun : newest_begins (entries_of c.self.inside.changes.items) ≡ true = ap newest_begins entries ∙ sym c.newest_begins.ensures ∙ c.if-newest_begins.true in
    let taken = newest_taken c.self.inside.changes.items c.pop.new.self.items c.in-Some.field-0 c.in-Some.ensures.items begun in
    begin_fits (entries_of c.self.inside.changes.items) c.pop.new.self.items c.self.inside.open_groups taken (omega arith) c.self.invariant.fit
