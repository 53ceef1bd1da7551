use Rattle.line_session.proofs.OneChangeLaws.{one-change}
use Rattle.line_session.proofs.laws.a_completion_is_one_change.Goals as goal

pub returns : goal.returns
returns c = one-change
