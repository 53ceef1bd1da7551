use Rattle.line_session.specs.Sitting.{BeginsOrStays}
use Rattle.line_host.specs.Bound.{bound}
use Rattle.line_host.specs.Helped.{answers_by}
use Rattle.line_host.specs.Hosted.{BeginsAfterPrompt}
use Rattle.line_host.proofs.HostedLemmas.{begins_alike, both, tells_came}
use Rattle.line_host.proofs.session.Session.begin.Goals as goal

pub tell-requires : goal.tell-requires
tell-requires c = c.try_begin-fed.ensures.begins.faults

pub returns : goal.returns
returns c =
    let session = c.args.self.now in
    let prompt = c.in-Ok-Ok.ensures.cases in
    let styled = c.in-Ok-Ok.ensures'.cases in
    let left = c.in-Ok-Ok-2.ensures.cases in
    let right = c.in-Ok-Ok-2.ensures'.cases in
    let begins = begins_alike answers_by (bound session.commands) _ _ _ _ _ _ session.editor c.try_begin-fed.new.self.editor _ prompt.0 left.0 right.0 c.try_begin-fed.ensures.begins in
    record {
      begins = λ texts.
          tells_came answers_by (λ editor. BeginsAfterPrompt answers_by (bound session.commands) c.args.prompt.now c.args.left.now c.args.right.now session.editor editor)
          (λ editor. BeginsOrStays answers_by c.args.prompt.now c.args.left.now c.args.right.now session.editor editor) session
          c.try_begin-fed.new.self c.tell.new.self c.try_begin-fed.result c.tell.result
          (both _ _ c.try_begin-fed.result begins.came begins.keeps) c.try_begin-fed.ensures.stays begins.left_so c.tell.ensures;
      no_text = λ wrong. absurd (wrong (prompt.1, styled.1, left.1, right.1));
    }
