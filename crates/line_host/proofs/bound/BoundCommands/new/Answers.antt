use Rattle.std.proofs.Common.{refl, sym, ◌∙◌}
use Rattle.line_host.proofs.BoundLemmas.{commands_bound, none_bound}
use Rattle.line_host.proofs.bound.BoundCommands.new.Goals as goal

pub returns : goal.returns
returns c = none_bound _ (sym (commands_bound _ (λ handler. refl) c.of_handlers.result) ∙ c.of_handlers.ensures)
