use Rattle.std.proofs.Common.{◌∙◌, ap, sym}
use Rattle.line_keys.specs.Command.{command_of}
use Rattle.line_editor.specs.Event.{chord_of}
use Rattle.line_host.specs.Names.{command_named}
use Rattle.line_host.proofs.HostedLemmas.{binds_done, binds_not}
use Rattle.line_host.proofs.session.Session.bind.Goals as goal
use Rattle.line_host.proofs.session.Session.bind.Goals.{in-Ok, in-Err-bind}

pub returns : goal.returns
returns c =
    elim c.match-bind.branch [
      | in-Ok w ↦
          binds_done _ _ _ c.args.self.now c.bind.new.self c.match-bind.result (chord_of c.in-Ok-Some.event) (command_of c.in-Some.command)
          c.in-Ok-Ok.ensures.cases.1 c.in-Ok-Ok.ensures'.cases.1 w.result-is c.self.view_is (sym (ap command_named c.in-Ok-Ok.ensures'.cases.0) ∙ sym c.in-Some.ensures) w.in-Ok.ensures.bound
      | in-Err-bind w ↦
          binds_not _ _ _ c.args.self.now c.bind.new.self c.match-bind.result c.in-Ok-Ok.ensures.cases.1 c.in-Ok-Ok.ensures'.cases.1
          (w.result-is ∙ w.of_error-in-Err-bind.ensures.memory w.in-Err-bind.ensures.memory) c.self.view_is w.in-Err-bind.ensures.kept
    ]
