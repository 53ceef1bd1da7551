use Rattle.std.proofs.Common.{◌≡◌, ◌∙◌, [], drop, map, arith, ap, ap₂}
use Rattle.line_screen.specs.KeyQueue.{Queued, item_of}
use Rattle.line_screen.proofs.key_queue.KeyQueue.mark.Goals as goal

pub returns : goal.returns
returns c =
    let left = c.loop.invariant in
    let was = c.self.view_is in
    let all : c.loop.counter ≡ c.self.inside.read = omega (arith, c.loop-test.false, c.loop.auto.counter-end) in
    let rest = ap (map item_of) (left.0 ∙ ap (λ n. drop n c.self.inside.items.items) all) ∙ ap (λ (q : Queued). q.rest) was in
    let failures = left.1 ∙ ap (λ (q : Queued). q.failures) was in
    let binds = left.2 ∙ ap (λ (q : Queued). q.binds) was in
    ap₂ (λ r f. record { read = []; rest = r; failures = f; binds = c.loop.self-inside.binds }) rest failures
    ∙ ap (λ b. record { read = []; rest = c.args.self.now.rest; failures = c.args.self.now.failures; binds = b }) binds
