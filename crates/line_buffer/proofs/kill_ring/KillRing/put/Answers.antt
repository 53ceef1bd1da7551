use Rattle.std.proofs.Common.{refl, arith}
use Rattle.line_buffer.proofs.RingLemmas.{put_held}
use Rattle.line_buffer.specs.contracts.kill_ring.KillRing.{the_view}
use Rattle.line_buffer.proofs.kill_ring.KillRing.put.Goals as goal

pub returns-clause-ring : goal.returns-clause-ring
returns-clause-ring c =
    rw (← c.self.view_is)
    (put_held (the_view c.self.inside) c.self.inside.slots.items c.args.slot c.args.text refl
    (λ same. c.if-slot-len.false (omega (arith, c.self.inside.slots.ok.0))))
