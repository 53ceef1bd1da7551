use Rattle.std.proofs.Common.{◌∙◌, sym}
use Rattle.line_input.specs.Binding.{handled}
use Rattle.line_input.proofs.BoundLemmas.{fronts}
use Rattle.line_input.proofs.bindings.Bindings.leads_on.Goals as goal

pub returns : goal.returns
returns g c = c.leads_on.ensures ∙ sym (fronts (handled g.C.ConditionalEventHandler) c.args.self.now.any c.args.self.now.mouse c.args.self.now.sequences c.args.front.now)
