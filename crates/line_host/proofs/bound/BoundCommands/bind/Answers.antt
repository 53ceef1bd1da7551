use Rattle.std.proofs.Common.{ap, refl}
use Rattle.line_editor.specs.Binding.{handled}
use Rattle.line_editor.specs.Event.{chord_of}
use Rattle.line_keys.specs.Command.{command_of}
use Rattle.line_host.proofs.BoundLemmas.{rebinds_commands}
use Rattle.line_host.proofs.bound.BoundCommands.bind.Goals as goal

pub returns-clause-bound : goal.returns-clause-bound
returns-clause-bound c =
    rebinds_commands _ (λ handler. refl) c.self.inside.bindings c.insert.new.self c.args.self.now (chord_of c.args.event) c.from.result (command_of c.args.command)
    c.self.view_is (ap (handled _) c.from.ensures) c.in_ok-insert.ensures.bound
