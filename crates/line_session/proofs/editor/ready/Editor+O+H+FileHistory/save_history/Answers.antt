use Rattle.std.proofs.Common.{refl, ap}
use Rattle.std.proofs.lemmas.Result.{err_from_is_err_and}
use Rattle.line_session.proofs.editor.ready.Editor+O+H+FileHistory.save_history.Goals as goal

pub returns-in_err-save_v3_to-clause-saves : goal.returns-in_err-save_v3_to-clause-saves
returns-in_err-save_v3_to-clause-saves g c = λ none.
    let left = c.in_err-save_v3_to.ensures in
    let p = err_from_is_err_and c.from_residual.result c.from_residual.ensures.1 in
    record {
      had = c.self.inside.setup.history;
      has = c.save_v3_to.new.self;
      changes = rw (p.1, p.2) (record { text = tt; history = tt; unchanged = left.unchanged; kind = left.kind; faults = left.faults });
      lines = ap (λ s. s.lines) c.self.view_is;
      takes = ap (λ s. s.takes) c.self.view_is;
      left = rw (← c.self.view_is) refl;
    }
