use Rattle.std.proofs.Common.{◌∙◌, sym}
use Rattle.line_input.specs.Binding.{handled}
use Rattle.line_input.proofs.BoundLemmas.{each-handler, mouse-handler, shown}
use Rattle.line_input.proofs.bindings.Bindings.get.Goals as goal

pub returns-in-Any : goal.returns-in-Any
returns-in-Any g c = rw c.in-Any.is (shown (handled g.C.ConditionalEventHandler) c.as_ref.result _ c.as_ref.ensures.value ∙ sym (each-handler (handled g.C.ConditionalEventHandler) c.args.self.now.any c.args.self.now.mouse c.args.self.now.sequences))

pub returns-in-Mouse : goal.returns-in-Mouse
returns-in-Mouse g c = rw c.in-Mouse.is (shown (handled g.C.ConditionalEventHandler) c.as_ref-in-Mouse.result _ c.as_ref-in-Mouse.ensures.value ∙ sym (mouse-handler (handled g.C.ConditionalEventHandler) c.args.self.now.any c.args.self.now.mouse c.args.self.now.sequences))
