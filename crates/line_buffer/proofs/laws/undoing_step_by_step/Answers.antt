use Rattle.std.proofs.Common.{zero, suc, arith}
use Rattle.line_buffer.proofs.StepLemmas.{step_by_step}
use Rattle.line_buffer.proofs.laws.undoing_step_by_step.Goals as goal

pub returns : goal.returns
returns c entries l zero h some = absurd (omega arith)
returns c entries l (suc n) h some = step_by_step n entries l h
