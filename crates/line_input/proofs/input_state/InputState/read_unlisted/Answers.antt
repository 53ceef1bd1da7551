use Rattle.std.proofs.Common.{refl}
use Rattle.std.proofs.lemmas.Result.{err_from_is_err_and}
use Rattle.line_input.specs.Binding.{bound_of}
use Rattle.line_input.specs.Input.{in_mode}
use Rattle.line_input.specs.InputState.{input_of}
use Rattle.line_input.proofs.ReadingLemmas.{on_err}
use Rattle.line_input.proofs.TailLemmas.{answered_read, sequence_ends, unlisted_read, unlisted_stops}
use Rattle.line_input.proofs.input_state.InputState.read_unlisted.Goals as goal

pub returns-in_err-command-clause-reads : goal.returns-in_err-command-clause-reads
returns-in_err-command-clause-reads g c =
    let p = err_from_is_err_and c.from_residual.result c.from_residual.ensures.1 in
    rw (p.1, p.2) (λ no.
    let cut = c.in_err-command.ensures.reads no in
    (cut.0, sequence_ends _ (bound_of g.C.ConditionalEventHandler c.args.self.now.bindings.now) (g.W.EditorState.environment c.args.wrt.now) (g.W.EditorState.draft c.args.wrt.now) (in_mode c.args.mode (input_of c.args.self.now)) c.args.count _ _ _ cut.1))

pub returns-in-Command-clause-reads : goal.returns-in-Command-clause-reads
returns-in-Command-clause-reads g c = answered_read _ _ _ _ _ _ _ _ _ _ refl (rw c.in-Command.is at c.in_ok-command.ensures.reads)

pub returns-in-InVain-clause-reads : goal.returns-in-InVain-clause-reads
returns-in-InVain-clause-reads g c = unlisted_read _ _ _ _ _ _ _ _ _ (rw c.in-InVain.is at c.in_ok-command.ensures.reads)

pub returns-in_err-command-clause-within : goal.returns-in_err-command-clause-within
returns-in_err-command-clause-within g c = on_err c.from_residual.result (unlisted_stops _ (bound_of g.C.ConditionalEventHandler c.args.self.now.bindings.now) (g.W.EditorState.environment c.args.wrt.now) (g.W.EditorState.draft c.args.wrt.now) (in_mode c.args.mode (input_of c.args.self.now)) c.args.count _ _ _ c.in_err-command.ensures.within)
