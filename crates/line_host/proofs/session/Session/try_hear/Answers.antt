use Rattle.std.proofs.Common.{ap, ◌∙◌}
use Rattle.line_host.specs.Bound.{bound}
use Rattle.line_host.specs.Helped.{answers_by}
use Rattle.line_host.proofs.HostedLemmas.{feeds_alike}
use Rattle.line_host.proofs.session.Session.try_hear.Goals as goal

pub returns-clause-feeds : goal.returns-clause-feeds
returns-clause-feeds c =
    feeds_alike answers_by _ _ c.args.heard c.self.inside.editor _ c.hear.new.self c.hear.result (c.bindings-bindings.ensures ∙ ap (λ s. bound s.commands) c.self.view_is)
    (ap (λ s. s.editor) c.self.view_is) c.hear.ensures
