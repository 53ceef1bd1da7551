use Rattle.std.proofs.Common.{refl}
use Rattle.line_term.proofs.ReleaseLemmas.{one_released, taken}
use Rattle.line_term.proofs.decoder.release.Goals as goal

pub loop-key-preserved : goal.loop-key-preserved
loop-key-preserved c =
    let popped = c.pop_front.ensures in
    one_released c.args.held.now.items c.loop-key.held.items c.pop_front.new.self.items c.args.keys.now c.loop-key.keys c.press.new.self c.in-Some.key.now
    (taken c.loop-key.held.items c.pop_front.new.self.items c.pop_front.result c.in-Some.key.now popped.items
    (popped.value c.in-Some.key.now (c.in-Some.ensures.variant.0 refl)) c.in-Some.ensures.lookup)
    c.in_ok-press.ensures.appended c.loop-key.invariant
