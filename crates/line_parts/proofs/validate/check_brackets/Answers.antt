use Rattle.std.proofs.Common.{arith, sym, ◌∙◌}
use Rattle.line_parts.proofs.BracketLemmas.{closed_at, close_small, kept_small, leaves_none, opened_at, passed_at, unclosed_at, unfinished_at, unpaired_at}
use Rattle.line_parts.proofs.validate.check_brackets.Goals as goal
use Rattle.line_parts.proofs.validate.check_brackets.Goals.{then-is_open+in_ok-push, else-is_open+then-is_close+in-Some, else-is_open+else-is_close}

pub loop-byte-init : goal.loop-byte-init
loop-byte-init c = rw c.new-open.ensures.items leaves_none

pub unclosed-requires : goal.unclosed-requires
unclosed-requires c = kept_small c.loop-byte.open.items c.pop.new.self.items _ c.in-Some.last c.in-Some.ensures.items c.loop-byte.invariant

pub returns-in-Some-2-clause-verdict : goal.returns-in-Some-2-clause-verdict
returns-in-Some-2-clause-verdict c =
    unclosed_at c.args.text.now c.as_bytes-byte-items.result.now c.loop-byte.open.items c.pop.new.self.items _ c.loop-byte.byte-index c.in-Some.last
    c.as_bytes-byte-items.ensures.value c.loop-byte-test.true c.loop-byte.invariant c.in-Some.ensures.items (sym c.is_close.ensures ∙ c.if-is_close.true)
    (λ e. c.if-partner-byte.false (c.partner.ensures ∙ e)) c.in_ok-unclosed-in-Some-2.ensures.text

pub unpaired-requires : goal.unpaired-requires
unpaired-requires c = close_small _ (sym c.is_close.ensures ∙ c.if-is_close.true)

pub returns-in-None-clause-verdict : goal.returns-in-None-clause-verdict
returns-in-None-clause-verdict c =
    unpaired_at c.args.text.now c.as_bytes-byte-items.result.now c.loop-byte.open.items _ c.loop-byte.byte-index c.as_bytes-byte-items.ensures.value
    c.loop-byte-test.true c.loop-byte.invariant (omega (arith, c.in-None.ensures.cases.0, c.loop-byte.open.ok.0)) (sym c.is_close.ensures ∙ c.if-is_close.true)
    c.in_ok-unpaired-in-None.ensures.text

pub loop-byte-preserved : goal.loop-byte-preserved
loop-byte-preserved c = elim c.if-is_open.branch [
  | then-is_open+in_ok-push w ↦
      rw w.open-is (opened_at c.as_bytes-byte-items.result.now c.loop-byte.open.items w.push.new.self.items c.loop-byte.byte-index c.loop-byte-test.true
      c.loop-byte.invariant (sym c.is_open.ensures ∙ w.if-is_open.true) w.in_ok-push.ensures.items)
  | else-is_open+then-is_close+in-Some w ↦
      rw w.open-is (closed_at c.as_bytes-byte-items.result.now c.loop-byte.open.items w.pop.new.self.items c.loop-byte.byte-index w.in-Some.last
      c.loop-byte-test.true c.loop-byte.invariant w.in-Some.ensures.items (sym w.partner.ensures ∙ w.if-partner-byte.true))
  | else-is_open+else-is_close w ↦
      rw w.open-is (passed_at c.as_bytes-byte-items.result.now c.loop-byte.open.items c.loop-byte.byte-index c.loop-byte-test.true c.loop-byte.invariant
      (sym c.is_open.ensures ∙ w.if-is_open.false) (sym w.is_close.ensures ∙ w.if-is_close.false))
]

pub returns-clause-verdict : goal.returns-clause-verdict
returns-clause-verdict c =
    unfinished_at c.args.text.now c.as_bytes-byte-items.result.now c.loop-byte.open.items c.loop-byte.byte-index _ c.as_bytes-byte-items.ensures.value
    c.loop-byte-test.false c.loop-byte.invariant (omega (arith, c.loop-byte.open.ok.0)) (sym c.is_empty.ensures ∙ c.if-is_empty.false)
