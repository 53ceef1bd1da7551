use Rattle.std.proofs.Common.{ap, ◌∙◌}
use Rattle.line_session.specs.Heard.{turn_of}
use Rattle.line_session.specs.Sitting.{LosesNothing}
use Rattle.line_host.specs.Bound.{bound}
use Rattle.line_host.specs.Helped.{answers_by}
use Rattle.line_host.specs.Hosted.{AdvancesLine}
use Rattle.line_host.proofs.HostedLemmas.{both, not_none, tells_came}
use Rattle.line_host.proofs.session.Session.hear.Goals as goal

pub tell-requires : goal.tell-requires
tell-requires c = c.try_hear-fed.ensures.feeds.faults

pub returns : goal.returns
returns c =
    let session = c.args.self.now in
    let feeds = c.try_hear-fed.ensures.feeds in
    record {
      no_line = λ none. absurd (not_none _ _ _ _ c.line.ensures c.if-is_none.ensures (ap (λ s. s.editor.line) c.self.view_is ∙ none));
      comes = λ begun line.
          tells_came answers_by (λ editor. AdvancesLine answers_by (bound session.commands) (turn_of c.args.heard session.editor.decoder) session.editor begun editor) (λ editor. LosesNothing session.editor editor) session
          c.try_hear-fed.new.self c.tell.new.self c.try_hear-fed.result c.tell.result
          (both _ _ c.try_hear-fed.result (feeds.came begun line) feeds.keeps) c.try_hear-fed.ensures.stays feeds.left c.tell.ensures;
    }
