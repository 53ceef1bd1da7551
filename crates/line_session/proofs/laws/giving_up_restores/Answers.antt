use Rattle.line_session.proofs.OneChangeLaws.{giving-up}
use Rattle.line_session.proofs.laws.giving_up_restores.Goals as goal

pub returns : goal.returns
returns c = giving-up
