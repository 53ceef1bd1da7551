use Rattle.line_session.proofs.SessionRunLaws.{session-is-run}
use Rattle.line_session.proofs.laws.a_session_is_a_run.Goals as goal

pub returns : goal.returns
returns c = session-is-run
