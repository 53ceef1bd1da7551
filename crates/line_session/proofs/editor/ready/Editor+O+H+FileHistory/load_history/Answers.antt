use Rattle.std.proofs.Common.{refl, ap}
use Rattle.std.proofs.lemmas.Result.{err_from_is_err_and}
use Rattle.line_session.proofs.editor.ready.Editor+O+H+FileHistory.load_history.Goals as goal

pub returns-in_err-taken-clause-loads : goal.returns-in_err-taken-clause-loads
returns-in_err-taken-clause-loads g c = λ none.
    let p = err_from_is_err_and c.from_residual.result c.from_residual.ensures.1 in
    record {
      had = c.self.inside.setup.history;
      has = c.load_from.new.self;
      changes = rw p.1 (c.in_err-taken.ensures.beginning, c.in_err-taken.ensures.adds);
      lines = ap (λ s. s.lines) c.self.view_is;
      takes = ap (λ s. s.takes) c.self.view_is;
      left = rw (← c.self.view_is) refl;
    }
