use Rattle.std.proofs.lemmas.Result.{err_from_is_err_and}
use Rattle.line_input.specs.InputState.{keys_of}
use Rattle.line_input.proofs.OperationReadLemmas.{motion_none, motion_part}
use Rattle.line_input.proofs.input_state.InputState.read_motion.Goals as goal

pub returns : goal.returns
returns g c = λ i same.
    let first = c.in_ok-first.ensures in
    motion_part _ _ c.args.wrt.now (keys_of g.C.ConditionalEventHandler c.args.self.now) c.args.rdr.now i _ _ _ _ _ _ _ first.took first.stays first.counts.stays (c.read_motion_from.ensures i same)

pub returns-in_err-first : goal.returns-in_err-first
returns-in_err-first g c = λ i same.
    let first = c.in_err-first.ensures in
    let p = err_from_is_err_and c.from_residual.result c.from_residual.ensures.1 in
    rw (p.1, p.2) (motion_none _ _ c.args.wrt.now (keys_of g.C.ConditionalEventHandler c.args.self.now) c.args.rdr.now i _ _ _ _ first.fault first.kept first.stays first.counts)
