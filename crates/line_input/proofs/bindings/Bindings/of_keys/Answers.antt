use Rattle.std.proofs.Common.{◌∙◌, sym}
use Rattle.line_input.specs.Binding.{handled}
use Rattle.line_input.proofs.BoundLemmas.{keys-handler, shown}
use Rattle.line_input.proofs.bindings.Bindings.of_keys.Goals as goal

pub returns : goal.returns
returns g c = shown (handled g.C.ConditionalEventHandler) c.get.result _ c.get.ensures ∙ sym (keys-handler (handled g.C.ConditionalEventHandler) c.args.self.now.any c.args.self.now.mouse c.args.self.now.sequences c.args.sequence.now)
