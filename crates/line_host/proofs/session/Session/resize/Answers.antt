use Rattle.std.proofs.Common.{ap, subst, ◌∙◌}
use Rattle.line_host.specs.Helped.{Helped, answers_by}
use Rattle.line_host.specs.Hosted.{with_editor}
use Rattle.line_session.specs.Sitting.{Keeps, Sitting, written_so_far}
use Rattle.line_host.proofs.HostedLemmas.{done_or_fault}
use Rattle.line_host.proofs.session.Session.resize.Goals as goal

pub returns : goal.returns
returns c =
    let same = ap (λ s. s.editor) c.self.view_is in
    record {
      none = λ zero. absurd (c.if-columns-eq0.false zero);
      answered = λ positive. done_or_fault c.resize-drawn.result c.of.result c.of.ensures.done c.of.ensures.fault;
      stays = ap (with_editor c.resize-drawn.new.self) c.self.view_is;
      line = c.resize-drawn.ensures.written ∙ ap written_so_far same;
      lines = c.resize-drawn.ensures.lines ∙ ap (λ s. s.lines) same;
      kills = c.resize-drawn.ensures.kills ∙ ap (λ s. s.kills) same;
      items = c.resize-drawn.ensures.items ∙ ap (λ s. s.items) same;
      keeps = λ positive.
          subst (λ (s : Sitting Helped). Keeps answers_by (record s { columns = c.args.columns; rows = c.args.rows }) c.resize-drawn.new.self) same
          c.resize-drawn.ensures.keeps;
    }
