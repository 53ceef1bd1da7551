use Rattle.std.proofs.Common.{◌≡◌, ◌∙◌, ◌++◌, ap, sym}
use Rattle.line_keys.specs.Model.Display.{Surface}
use Rattle.line_term.proofs.KnownLemmas.{redrawn}
use Rattle.line_term.proofs.ansi.AnsiRenderer.refresh_line.Goals as goal

pub invariant_of-self-2-clause-told : goal.invariant_of-self-2-clause-told
invariant_of-self-2-clause-told g c =
    let ok = sym c.counted.ensures.same ∙ c.in_ok-counted.was in
    let drawn = rw ok at c.push_redraw-drawn.ensures.draws in
    let sent = c.in_ok-send.ensures in
    let went = c.in_ok-refresh_line.ensures in
    let bytes : c.as_bytes.result.now ≡ drawn.bytes =
    c.as_bytes.ensures.value ∙ drawn.appended ∙ ap (λ b. b ++ drawn.bytes) c.clear.ensures.bytes in
    let texts = rw ok at c.push_redraw-drawn.ensures.texts in
    let cursor = rw ok at c.push_redraw-drawn.ensures.cursor in
    let before = rw ok at c.push_redraw-drawn.ensures.before in
    redrawn g.P.Prompt g.H.Highlighter g.O.Write.contents _ _ _ _ _ drawn.bytes c.args.self.now.out _ _ c.args.self.now.shown.some_columns
    (ap (λ (s : Surface). s.columns) went.tries.surface) went.shown drawn.holds texts cursor before (rw bytes at sent.sends.written)
