use Rattle.line_screen.specs.MeasureLaws.{EndsPlain-nil}
use Rattle.line_screen.proofs.plain.Plain.clear.Goals as goal

pub invariant_of-self-clause-ends : goal.invariant_of-self-clause-ends
invariant_of-self-clause-ends g c = λ e is.
    EndsPlain-nil c.args.self.now.columns _ _ e c.clear.ensures.bytes c.args.self.now.some_columns (cc)
