use Rattle.std.proofs.Common.{string_bytes}
use Rattle.line_term.proofs.PaintedLemmas.{draws}
use Rattle.line_term.proofs.redraw.push_drawing.Goals as goal

pub returns-clause-draws : goal.returns-clause-draws
returns-clause-draws g c =
    draws g.P.Prompt g.H.Highlighter _ _ _ (string_bytes c.push_prompt.new.bytes) (string_bytes c.push_wrap.new.bytes)
    (string_bytes c.push_line.new.bytes) (string_bytes c.push_wrap-2.new.bytes) (string_bytes c.push_behind.new.bytes)
    (string_bytes c.push_wrap_behind.new.bytes) _ c.in_ok-push_prompt.ensures.appends
    (rw c.raw.ensures at c.in_ok-push_wrap.ensures.appends)
    c.in_ok-push_line.ensures.appends
    (rw (c.line_end-end.ensures, c.as_str-text.ensures.value) at c.in_ok-push_wrap-2.ensures.appends)
    c.in_ok-push_behind.ensures.appends
    (rw (c.line_end-end.ensures, c.as_str-text.ensures.value) at c.in_ok-push_wrap_behind.ensures.appends)
    c.in_ok-push_move.ensures.appends
