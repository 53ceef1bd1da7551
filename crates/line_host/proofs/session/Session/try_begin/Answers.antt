use Rattle.std.proofs.Common.{ap, ◌∙◌}
use Rattle.line_host.specs.Bound.{bound}
use Rattle.line_host.specs.Helped.{answers_by}
use Rattle.line_host.proofs.HostedLemmas.{began_alike}
use Rattle.line_host.proofs.session.Session.try_begin.Goals as goal

pub returns-clause-begins : goal.returns-clause-begins
returns-clause-begins c =
    began_alike answers_by _ _ _ _ _ c.self.inside.editor _ c.begin_with.new.self c.begin_with.result (c.bindings-bindings.ensures ∙ ap (λ s. bound s.commands) c.self.view_is)
    (ap (λ s. s.editor) c.self.view_is) c.begin_with.ensures
