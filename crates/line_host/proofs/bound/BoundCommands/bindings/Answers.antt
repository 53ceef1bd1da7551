use Rattle.std.proofs.Common.{ap, refl, ◌∙◌}
use Rattle.line_host.specs.Bound.{bound}
use Rattle.line_host.proofs.BoundLemmas.{commands_bound}
use Rattle.line_host.proofs.bound.BoundCommands.bindings.Goals as goal

pub returns : goal.returns
returns c = commands_bound _ (λ handler. refl) c.self.inside.bindings ∙ ap bound c.self.view_is
