use Rattle.std.specs.Prelude.{encode_utf8}
use Rattle.std.proofs.Common.{vec_len, ◌-◌, refl, arith}
use Rattle.std.proofs.lemmas.Result.{IfOk-equal}
use Rattle.line_buffer.specs.Changes.{inserted, with_joined_insert}
use Rattle.line_buffer.proofs.ChangeLemmas.{newest_joined, newest_stays, none_newest}
use Rattle.line_buffer.proofs.GroupLemmas.{edited_fits}
use Rattle.line_buffer.proofs.undo.Changeset.insert_joined.Goals as goal
use Rattle.line_buffer.proofs.undo.Changeset.insert_joined.Goals.{in-Some+in_ok-join_insert+else-branch, in_default}

pub returns-then-branch : goal.returns-then-branch
returns-then-branch c =
    newest_joined _ c.self.inside.changes.items (vec_len c.self.inside.changes - 1) _ c.in-Some.newest.now c.join_insert.new.self
    (with_joined_insert c.args.place (encode_utf8 c.args.c)) (inserted c.args.place (encode_utf8 c.args.c)) _
    (omega (arith, c.in-Some.ensures.variant.0 refl)) c.in-Some.ensures.value c.self.view_is c.in_ok-join_insert.ensures.joins c.if-branch.true

pub returns : goal.returns
returns c =
    let changes = c.self.inside.changes in
    let add = (with_joined_insert c.args.place (encode_utf8 c.args.c)) in
    let other = (inserted c.args.place (encode_utf8 c.args.c)) in
    IfOk-equal c.add_insert.result _ _ _ (rw c.encode_utf8.ensures.value at c.add_insert.ensures) (elim c.match-last_mut.branch [
      | in-Some+in_ok-join_insert+else-branch w ↦
          rw w.self-inside-is
          (newest_stays _ changes.items (vec_len changes - 1) _ w.in-Some.newest.now w.join_insert.new.self add other _
          (omega (arith, w.in-Some.ensures.variant.0 refl)) w.in-Some.ensures.value c.self.view_is w.in_ok-join_insert.ensures.joins w.if-branch.false)
      | in_default w ↦
          rw w.self-inside-is (none_newest changes.items _ add other _ w.in_default.ensures.item.0 c.self.view_is refl)
    ])

pub invariant_of-self : goal.invariant_of-self
invariant_of-self c =
    edited_fits c.self.inside.changes.items (vec_len c.self.inside.changes - 1) c.self.inside.open_groups c.in-Some.newest.now c.join_insert.new.self
    (omega (arith, c.in-Some.ensures.variant.0 refl)) c.in-Some.ensures.value c.join_insert.ensures.kind c.self.invariant

pub invariant_of-self-then-branch : goal.invariant_of-self-then-branch
invariant_of-self-then-branch c =
    edited_fits c.self.inside.changes.items (vec_len c.self.inside.changes - 1) c.self.inside.open_groups c.in-Some.newest.now c.join_insert.new.self
    (omega (arith, c.in-Some.ensures.variant.0 refl)) c.in-Some.ensures.value c.join_insert.ensures.kind c.self.invariant

pub invariant_of-self-2 : goal.invariant_of-self-2
invariant_of-self-2 c =
    elim c.match-last_mut.branch [
      | in-Some+in_ok-join_insert+else-branch w ↦
          rw w.self-inside-is
          (edited_fits c.self.inside.changes.items (vec_len c.self.inside.changes - 1) c.self.inside.open_groups w.in-Some.newest.now w.join_insert.new.self
          (omega (arith, w.in-Some.ensures.variant.0 refl)) w.in-Some.ensures.value w.join_insert.ensures.kind c.self.invariant)
      | in_default w ↦ rw w.self-inside-is c.self.invariant
    ]
