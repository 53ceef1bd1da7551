use Rattle.std.proofs.Common.{◌∙◌, sym}
use Rattle.line_input.specs.Binding.{handled}
use Rattle.line_input.proofs.BoundLemmas.{fronts-counted}
use Rattle.line_input.proofs.bindings.Bindings.nodes.Goals as goal

pub returns : goal.returns
returns g c = c.beginnings.ensures ∙ sym (fronts-counted (handled g.C.ConditionalEventHandler) c.args.self.now.any c.args.self.now.mouse c.args.self.now.sequences)
