use Rattle.std.proofs.Common.{◌≡◌, ◌+◌, ◌<◌, ◌||◌, true, false, length, sym, ap, ◌∙◌, arith}
use Rattle.std.proofs.lemmas.Bool.Decides.{nat_tests}
use Rattle.line_buffer.specs.KeptChanges.{entries_of}
use Rattle.line_buffer.specs.Undo.{is_step, steps_len}
use Rattle.line_buffer.proofs.ChangeLemmas.{entries_of-length}
use Rattle.line_buffer.proofs.UndoLemmas.{took-next, took-none, took-step, steps-no, steps-past, steps-found, steps_len-is}
use Rattle.line_buffer.proofs.undo.steps.take_steps.Goals as goal
use Rattle.line_buffer.proofs.undo.steps.take_steps.Goals.{then-ends-begins+else-left-eq1, else-ends-begins}

pub returns-in_default-clause-answer : goal.returns-in_default-clause-answer
returns-in_default-clause-answer c =
    absurd (omega (
      arith,
      took-none (entries_of c.args.changes.now.items) c.args.line.now c.loop.counter (entries_of c.loop.changes.items) c.loop.line c.loop.begins c.loop.ends c.loop.undone
          c.loop.invariant.took (sym c.in_default.is ∙ c.in_ok-taken.ensures.taken),
      entries_of-length c.args.changes.now.items,
    ))

pub returns-in_default-clause-line : goal.returns-in_default-clause-line
returns-in_default-clause-line c =
    absurd (omega (
      arith,
      took-none (entries_of c.args.changes.now.items) c.args.line.now c.loop.counter (entries_of c.loop.changes.items) c.loop.line c.loop.begins c.loop.ends c.loop.undone
          c.loop.invariant.took (sym c.in_default.is ∙ c.in_ok-taken.ensures.taken),
      entries_of-length c.args.changes.now.items,
    ))

pub returns-in_default-clause-changes : goal.returns-in_default-clause-changes
returns-in_default-clause-changes c =
    absurd (omega (
      arith,
      took-none (entries_of c.args.changes.now.items) c.args.line.now c.loop.counter (entries_of c.loop.changes.items) c.loop.line c.loop.begins c.loop.ends c.loop.undone
          c.loop.invariant.took (sym c.in_default.is ∙ c.in_ok-taken.ensures.taken),
      entries_of-length c.args.changes.now.items,
    ))

pub returns-then-left-eq1-clause-answer : goal.returns-then-left-eq1-clause-answer
returns-then-left-eq1-clause-answer c =
    let took =
    took-next (entries_of c.args.changes.now.items) c.args.line.now c.loop.counter (entries_of c.loop.changes.items) c.loop.line c.loop.begins c.loop.ends c.loop.undone c.in-Some.taken c.take_newest.new.line _ _ _
    c.loop.invariant.took (sym c.in-Some.is ∙ c.in_ok-taken.ensures.taken) c.in_ok-taken.ensures.line
    (ap (λ v. c.loop.begins + v) c.begins-begins.ensures) (ap (λ v. c.loop.ends + v) c.ends-ends.ensures) (ap (λ v. c.loop.undone || v) c.is_change-undone.ensures) in
    let step : is_step (entries_of c.args.changes.now.items) (c.loop.counter + 1) ≡ true = took-step _ _ _ _ _ _ _ _ true took (grind (arith, nat_tests)) in
    let len : steps_len (entries_of c.args.changes.now.items) c.args.n ≡ c.loop.counter + 1 =
    steps_len-is (entries_of c.args.changes.now.items) c.args.n (c.loop.counter + 1) c.requires.count
    (steps-found (entries_of c.args.changes.now.items) c.args.n c.loop.counter c.loop.left (omega arith) c.if-left-eq1.true c.loop.invariant.target step) in
    rw len took.undone_is

pub returns-then-left-eq1-clause-line : goal.returns-then-left-eq1-clause-line
returns-then-left-eq1-clause-line c =
    let took =
    took-next (entries_of c.args.changes.now.items) c.args.line.now c.loop.counter (entries_of c.loop.changes.items) c.loop.line c.loop.begins c.loop.ends c.loop.undone c.in-Some.taken c.take_newest.new.line _ _ _
    c.loop.invariant.took (sym c.in-Some.is ∙ c.in_ok-taken.ensures.taken) c.in_ok-taken.ensures.line
    (ap (λ v. c.loop.begins + v) c.begins-begins.ensures) (ap (λ v. c.loop.ends + v) c.ends-ends.ensures) (ap (λ v. c.loop.undone || v) c.is_change-undone.ensures) in
    let step : is_step (entries_of c.args.changes.now.items) (c.loop.counter + 1) ≡ true = took-step _ _ _ _ _ _ _ _ true took (grind (arith, nat_tests)) in
    let len : steps_len (entries_of c.args.changes.now.items) c.args.n ≡ c.loop.counter + 1 =
    steps_len-is (entries_of c.args.changes.now.items) c.args.n (c.loop.counter + 1) c.requires.count
    (steps-found (entries_of c.args.changes.now.items) c.args.n c.loop.counter c.loop.left (omega arith) c.if-left-eq1.true c.loop.invariant.target step) in
    rw len took.line_is

pub returns-then-left-eq1-clause-changes : goal.returns-then-left-eq1-clause-changes
returns-then-left-eq1-clause-changes c =
    let took =
    took-next (entries_of c.args.changes.now.items) c.args.line.now c.loop.counter (entries_of c.loop.changes.items) c.loop.line c.loop.begins c.loop.ends c.loop.undone c.in-Some.taken c.take_newest.new.line _ _ _
    c.loop.invariant.took (sym c.in-Some.is ∙ c.in_ok-taken.ensures.taken) c.in_ok-taken.ensures.line
    (ap (λ v. c.loop.begins + v) c.begins-begins.ensures) (ap (λ v. c.loop.ends + v) c.ends-ends.ensures) (ap (λ v. c.loop.undone || v) c.is_change-undone.ensures) in
    let step : is_step (entries_of c.args.changes.now.items) (c.loop.counter + 1) ≡ true = took-step _ _ _ _ _ _ _ _ true took (grind (arith, nat_tests)) in
    let len : steps_len (entries_of c.args.changes.now.items) c.args.n ≡ c.loop.counter + 1 =
    steps_len-is (entries_of c.args.changes.now.items) c.args.n (c.loop.counter + 1) c.requires.count
    (steps-found (entries_of c.args.changes.now.items) c.args.n c.loop.counter c.loop.left (omega arith) c.if-left-eq1.true c.loop.invariant.target step) in
    rw len (c.in_ok-taken.ensures.changes ∙ took.left_is)

pub loop-preserved : goal.loop-preserved
loop-preserved c =
    let took =
    took-next (entries_of c.args.changes.now.items) c.args.line.now c.loop.counter (entries_of c.loop.changes.items) c.loop.line c.loop.begins c.loop.ends c.loop.undone c.in-Some.taken c.take_newest.new.line _ _ _
    c.loop.invariant.took (sym c.in-Some.is ∙ c.in_ok-taken.ensures.taken) c.in_ok-taken.ensures.line
    (ap (λ v. c.loop.begins + v) c.begins-begins.ensures) (ap (λ v. c.loop.ends + v) c.ends-ends.ensures) (ap (λ v. c.loop.undone || v) c.is_change-undone.ensures) in
    let entries = c.in_ok-taken.ensures.changes in
    let all = (entries_of c.args.changes.now.items) in
    let k = c.loop.counter in
    let within : k < length all = omega arith in
    let left = c.loop.left in
    let target = c.loop.invariant.target in
    record {
      took = rw entries took;
      cursor = c.in_ok-taken.ensures.cursor;
      some = elim c.if-ends-begins.branch [
        | then-ends-begins+else-left-eq1 w ↦ let some = c.loop.invariant.some in let other = w.if-left-eq1.false in rw w.left-is (omega arith)
        | else-ends-begins w ↦ rw w.left-is c.loop.invariant.some
      ];
      target = elim c.if-ends-begins.branch [
        | then-ends-begins+else-left-eq1 w ↦
            let step : is_step all (k + 1) ≡ true = took-step _ _ _ _ _ _ _ _ true took (grind (arith, nat_tests, w.if-ends-begins.true)) in
            rw w.left-is (steps-past all c.args.n k left within c.loop.invariant.some w.if-left-eq1.false target step)
        | else-ends-begins w ↦
            let step : is_step all (k + 1) ≡ false = took-step _ _ _ _ _ _ _ _ false took (grind (arith, nat_tests, w.if-ends-begins.false)) in
            rw w.left-is (steps-no all c.args.n k left within target step)
      ];
    }
