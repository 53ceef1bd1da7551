use Rattle.std.proofs.Common.{inr, refl}
use Rattle.line_session.proofs.ReadingLemmas.{after_fault, answers_line, fails_at_end, goes_on_over, reads_begun, reads_on}
use Rattle.line_session.proofs.editor.Editor.readline_with_initial.Goals as goal

pub loop-init : goal.loop-init
loop-init g c = reads_begun _ _ _ _ _ _ _ _ _ _ c.in_ok-fed.ensures.came c.in_ok-fed.ensures.keeps

pub loop-preserved : goal.loop-preserved
loop-preserved g c =
    let reads = rw (c.if-not-awaits_more.ensures.yes refl) at c.loop.invariant in
    let over = goes_on_over _ _ _ _ _ _ _ _ _ _ _ reads in
    reads_on _ _ _ _ _ _ _ _ _ _ _ reads _ _ _ _ (c.in_ok-fed-2.ensures.hears over.0.left over.0.line)

pub returns-in_err-fed-2-clause-left : goal.returns-in_err-fed-2-clause-left
returns-in_err-fed-2-clause-left g c = after_fault _ (inr (record {
  at = _;
  goes_on = _;
  before = _;
  reads = rw (c.if-not-awaits_more.ensures.yes refl) at c.loop.invariant;
  left_so = c.in_err-fed-2.ensures.left;
}))

pub returns-then-awaits_more-clause-left : goal.returns-then-awaits_more-clause-left
returns-then-awaits_more-clause-left g c = λ _. inr (record {
  at = _;
  goes_on = _;
  before = _;
  reads = rw (c.if-awaits_more.ensures.yes refl) at c.loop.invariant;
  left_so = record { line = refl; lines = refl };
})

pub returns-clause-reads : goal.returns-clause-reads
returns-clause-reads g c =
    answers_line _ _ _ _ _ _ _ _ _ _ _ _ _ _ c.loop.invariant (λ more. c.if-awaits_more.ensures.no refl more) c.answered.ensures.told

pub returns-clause-left : goal.returns-clause-left
returns-clause-left g c = fails_at_end _ _ _ _ _ _ _ _ _ _ _ _ _ _ c.loop.invariant c.answered.ensures.left
