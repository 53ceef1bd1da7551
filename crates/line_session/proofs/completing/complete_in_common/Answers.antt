use Rattle.std.proofs.Common.{◌∙◌, ap, arith, length, sym}
use Rattle.line_session.proofs.CompletingLemmas.{agree_for, lists_at_once, map_ok}
use Rattle.line_session.proofs.completing.complete_in_common.Goals as goal

pub returns-then-completion_show_all_if_ambiguous-clause-puts : goal.returns-then-completion_show_all_if_ambiguous-clause-puts
returns-then-completion_show_all_if_ambiguous-clause-puts g c =
    map_ok c.list.result _ _
    (λ mode lists. lists_at_once _ _ _ _ c.args.candidates _ _ _ _ mode (agree_for _ _ _ _ _ _ c.deref.ensures.value c.in_ok-agree.ensures.agree)
    (λ one. c.if-len-eq1.false (omega (arith, c.len.ensures, c.deref.ensures.len, ap (λ l. length l) c.deref.ensures.value, one))) (sym c.if-completion_show_all_if_ambiguous.ensures)
    c.in_ok-beep.ensures.paints.draft (c.in_ok-beep.ensures.paints.frame.environment ∙ c.in_ok-agree.ensures.frame.environment) lists)
    c.list.ensures.lists
