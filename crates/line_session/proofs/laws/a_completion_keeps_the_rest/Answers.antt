use Rattle.line_session.proofs.OneChangeLaws.{keeps-rest}
use Rattle.line_session.proofs.laws.a_completion_keeps_the_rest.Goals as goal

pub returns : goal.returns
returns c = keeps-rest
