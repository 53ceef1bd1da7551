use Rattle.std.proofs.Common.{vec_len, ◌-◌, refl, arith}
use Rattle.std.proofs.lemmas.Result.{IfOk-equal}
use Rattle.line_buffer.specs.Changes.{replaced, with_replace}
use Rattle.line_buffer.proofs.ChangeLemmas.{newest_joined, newest_stays, none_newest}
use Rattle.line_buffer.proofs.GroupLemmas.{edited_fits}
use Rattle.line_buffer.proofs.undo.Changeset.replace.Goals as goal
use Rattle.line_buffer.proofs.undo.Changeset.replace.Goals.{in-Some+in_ok-join_replace+else-branch, in_default}

pub returns-then-branch : goal.returns-then-branch
returns-then-branch c =
    newest_joined _ c.self.inside.changes.items (vec_len c.self.inside.changes - 1) _ c.in-Some.newest.now c.join_replace.new.self
    (with_replace c.args.place c.args.old.now c.args.new.now) (replaced c.args.place c.args.old.now c.args.new.now) _
    (omega (arith, c.in-Some.ensures.variant.0 refl)) c.in-Some.ensures.value c.self.view_is c.in_ok-join_replace.ensures.joins c.if-branch.true

pub returns : goal.returns
returns c =
    let changes = c.self.inside.changes in
    let add = (with_replace c.args.place c.args.old.now c.args.new.now) in
    let other = (replaced c.args.place c.args.old.now c.args.new.now) in
    IfOk-equal c.add_replace.result _ _ _ c.add_replace.ensures (elim c.match-last_mut.branch [
      | in-Some+in_ok-join_replace+else-branch w ↦
          rw w.self-inside-is
          (newest_stays _ changes.items (vec_len changes - 1) _ w.in-Some.newest.now w.join_replace.new.self add other _
          (omega (arith, w.in-Some.ensures.variant.0 refl)) w.in-Some.ensures.value c.self.view_is w.in_ok-join_replace.ensures.joins w.if-branch.false)
      | in_default w ↦
          rw w.self-inside-is (none_newest changes.items _ add other _ w.in_default.ensures.item.0 c.self.view_is refl)
    ])

pub invariant_of-self : goal.invariant_of-self
invariant_of-self c =
    edited_fits c.self.inside.changes.items (vec_len c.self.inside.changes - 1) c.self.inside.open_groups c.in-Some.newest.now c.join_replace.new.self
    (omega (arith, c.in-Some.ensures.variant.0 refl)) c.in-Some.ensures.value c.join_replace.ensures.kind c.self.invariant

pub invariant_of-self-then-branch : goal.invariant_of-self-then-branch
invariant_of-self-then-branch c =
    edited_fits c.self.inside.changes.items (vec_len c.self.inside.changes - 1) c.self.inside.open_groups c.in-Some.newest.now c.join_replace.new.self
    (omega (arith, c.in-Some.ensures.variant.0 refl)) c.in-Some.ensures.value c.join_replace.ensures.kind c.self.invariant

pub invariant_of-self-2 : goal.invariant_of-self-2
invariant_of-self-2 c =
    elim c.match-last_mut.branch [
      | in-Some+in_ok-join_replace+else-branch w ↦
          rw w.self-inside-is
          (edited_fits c.self.inside.changes.items (vec_len c.self.inside.changes - 1) c.self.inside.open_groups w.in-Some.newest.now w.join_replace.new.self
          (omega (arith, w.in-Some.ensures.variant.0 refl)) w.in-Some.ensures.value w.join_replace.ensures.kind c.self.invariant)
      | in_default w ↦ rw w.self-inside-is c.self.invariant
    ]
