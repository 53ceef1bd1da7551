use Rattle.std.proofs.Common.{sym}
use Rattle.std.proofs.lemmas.Result.{err_from_is_err_and}
use Rattle.line_input.specs.InputState.{keys_of}
use Rattle.line_input.proofs.OperationReadLemmas.{motion_count, motion_counted, motion_plain}
use Rattle.line_input.proofs.input_state.InputState.read_motion_from.Goals as goal

pub returns-then-not-begins_count : goal.returns-then-not-begins_count
returns-then-not-begins_count g c = λ i same.
    motion_plain _ _ c.args.wrt.now (keys_of g.C.ConditionalEventHandler c.args.self.now) c.args.rdr.now i _ _ c.args.first _ _ _ (sym c.if-not-begins_count.ensures) c.motion_at_once.ensures
    (c.reach.ensures.reads _ i same) c.reach.ensures.items c.reach.ensures.kept

pub returns : goal.returns
returns g c = λ i same.
    motion_counted _ _ c.args.wrt.now (keys_of g.C.ConditionalEventHandler c.args.self.now) c.args.rdr.now i _ _ c.args.first _ _ _ _ c.in_ok-count.ensures (sym c.if-not-begins_count.ensures)
    _ _ _ _ c.multiplied.ensures c.motion_of_key-motion.ensures (c.reach-2.ensures.reads _ i same) c.reach-2.ensures.items c.reach-2.ensures.kept

pub returns-in_err-count : goal.returns-in_err-count
returns-in_err-count g c = λ i same.
    let p = err_from_is_err_and c.from_residual.result c.from_residual.ensures.1 in
    rw (p.1, p.2) (motion_count _ _ c.args.wrt.now (keys_of g.C.ConditionalEventHandler c.args.self.now) c.args.rdr.now i _ _ c.args.first _ _ _ (sym c.if-not-begins_count.ensures) c.in_err-count.ensures)
