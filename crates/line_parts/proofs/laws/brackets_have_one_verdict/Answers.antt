use Rattle.line_parts.proofs.BracketLemmas.{struck_out, verdict_is_one}
use Rattle.line_parts.proofs.laws.brackets_have_one_verdict.Goals as goal

pub returns-clause-some : goal.returns-clause-some
returns-clause-some c = struck_out

pub returns-clause-one : goal.returns-clause-one
returns-clause-one c = verdict_is_one
