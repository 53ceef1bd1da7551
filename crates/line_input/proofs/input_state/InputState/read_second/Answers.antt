use Rattle.std.proofs.Common.{refl}
use Rattle.std.proofs.lemmas.Result.{err_from_is_err_and}
use Rattle.line_input.specs.Binding.{bound_of}
use Rattle.line_input.specs.Input.{in_mode}
use Rattle.line_input.specs.InputState.{input_of}
use Rattle.line_input.proofs.ReadingLemmas.{fault_dry, on_err}
use Rattle.line_input.proofs.TailLemmas.{answered_read, second_ends, second_read, second_stops, seconds_end, seconds_stop, vain_read}
use Rattle.line_input.proofs.input_state.InputState.read_second.Goals as goal

pub returns-in_err-command-clause-reads : goal.returns-in_err-command-clause-reads
returns-in_err-command-clause-reads g c =
    let p = err_from_is_err_and c.from_residual.result c.from_residual.ensures.1 in
    rw (p.1, p.2) (λ no.
    let cut = c.in_err-command.ensures.reads no in
    (cut.0, seconds_end _ (bound_of g.C.ConditionalEventHandler c.args.self.now.bindings.now) (g.W.EditorState.environment c.args.wrt.now) (g.W.EditorState.draft c.args.wrt.now) (in_mode c.args.mode (input_of c.args.self.now)) c.args.count _ _ _ cut.1 _))

pub returns-in_err-next_key-in-InVain-None-clause-reads : goal.returns-in_err-next_key-in-InVain-None-clause-reads
returns-in_err-next_key-in-InVain-None-clause-reads g c =
    let p = err_from_is_err_and c.from_residual-in_err-next_key-in-InVain-None.result c.from_residual-in_err-next_key-in-InVain-None.ensures.1 in
    rw (p.1, p.2) (λ no.
    let dry = fault_dry _ _ c.in_err-next_key-in-InVain-None.ensures.fault no in
    let found = c.in_ok-command.ensures.reads in
    let vain = rw c.in-InVain-None.field-0-is at (rw c.in-InVain-None.is at found) in
    (dry.0, second_ends _ _ _ _ _ _ _ _ _ _ vain dry.1 c.in_err-next_key-in-InVain-None.ensures.kept))

pub returns-in_ok-next_key-in-InVain-None-clause-reads : goal.returns-in_ok-next_key-in-InVain-None-clause-reads
returns-in_ok-next_key-in-InVain-None-clause-reads g c =
    let found = c.in_ok-command.ensures.reads in
    let vain = rw c.in-InVain-None.field-0-is at (rw c.in-InVain-None.is at found) in
    second_read _ _ _ _ _ _ _ _ _ _ vain _ _ c.in_ok-next_key-in-InVain-None.ensures.took c.second_key-in-InVain-None.ensures

pub returns-in-Command-clause-reads : goal.returns-in-Command-clause-reads
returns-in-Command-clause-reads g c = answered_read _ _ _ _ _ _ _ _ _ _ refl (rw c.in-Command.is at c.in_ok-command.ensures.reads)

pub returns-in-InVain-Some-clause-reads : goal.returns-in-InVain-Some-clause-reads
returns-in-InVain-Some-clause-reads g c =
    let found = c.in_ok-command.ensures.reads in
    let vain = rw c.in-InVain-Some.field-0-is at (rw c.in-InVain-Some.is at found) in
    vain_read _ _ _ _ _ _ _ _ _ _ _ vain c.second_key.ensures

pub returns-in_err-command-clause-within : goal.returns-in_err-command-clause-within
returns-in_err-command-clause-within g c = on_err c.from_residual.result (seconds_stop _ (bound_of g.C.ConditionalEventHandler c.args.self.now.bindings.now) (g.W.EditorState.environment c.args.wrt.now) (g.W.EditorState.draft c.args.wrt.now) (in_mode c.args.mode (input_of c.args.self.now)) c.args.count _ _ _ _ c.in_err-command.ensures.within)

pub returns-in_err-next_key-in-InVain-None-clause-within : goal.returns-in_err-next_key-in-InVain-None-clause-within
returns-in_err-next_key-in-InVain-None-clause-within g c =
    let found = c.in_ok-command.ensures.reads in
    let vain = rw c.in-InVain-None.field-0-is at (rw c.in-InVain-None.is at found) in
    on_err c.from_residual-in_err-next_key-in-InVain-None.result (second_stops _ _ _ _ _ _ _ _ _ _ vain c.in_err-next_key-in-InVain-None.ensures.kept)
