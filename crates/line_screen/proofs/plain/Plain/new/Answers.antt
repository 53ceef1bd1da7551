use Rattle.line_screen.specs.MeasureLaws.{EndsPlain-nil}
use Rattle.line_screen.proofs.plain.Plain.new.Goals as goal

pub invariant_of-result-clause-ends : goal.invariant_of-result-clause-ends
invariant_of-result-clause-ends g c = λ e is.
    EndsPlain-nil c.args.columns _ _ e c.new.ensures.bytes c.requires (cc)
