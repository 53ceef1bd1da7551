use Rattle.std.proofs.Common.{◌<◌, ◌∙◌, length, refl, ap, arith}
use Rattle.std.proofs.lemmas.List.{length-map}
use Rattle.std.specs.String.{string_bytes}
use Rattle.line_buffer.specs.KillRing.{Ring}
use Rattle.line_buffer.proofs.RingLemmas.{joined_slot, kept_slot, on_err}
use Rattle.line_buffer.specs.contracts.kill_ring.KillRing.{the_view}
use Rattle.line_buffer.proofs.kill_ring.KillRing.join.Goals as goal

pub returns-clause-ring : goal.returns-clause-ring
returns-clause-ring c =
    let slots = c.self.inside.slots.items in
    let some : 0 < length slots =
    omega (arith, c.requires, ap (λ (r : Ring). length r.slots) c.self.view_is, length-map slots string_bytes) in
    rw (← c.self.view_is)
    (joined_slot (the_view c.self.inside) slots c.args.mode c.args.text.now c.index_mut-slot.result.now c.join_text.new.text refl
    (c.self.invariant.1 some) c.index_mut-slot.ensures.value c.in_ok-join_text.ensures.text)

pub returns-in_err-join_text-clause-err : goal.returns-in_err-join_text-clause-err
returns-in_err-join_text-clause-err c =
    let slots = c.self.inside.slots.items in
    let some : 0 < length slots =
    omega (arith, c.requires, ap (λ (r : Ring). length r.slots) c.self.view_is, length-map slots string_bytes) in
    on_err c.from_residual.result _
    (kept_slot (the_view c.self.inside) slots c.index_mut-slot.result.now c.join_text.new.text refl (c.self.invariant.1 some) c.index_mut-slot.ensures.value
    c.in_err-join_text.ensures.err
    ∙ c.self.view_is)
