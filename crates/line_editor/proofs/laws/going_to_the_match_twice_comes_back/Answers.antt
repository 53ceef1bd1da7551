use Rattle.line_editor.proofs.MatchWayLaws.{going_twice}
use Rattle.line_editor.proofs.laws.going_to_the_match_twice_comes_back.Goals as goal

pub returns : goal.returns
returns c = going_twice
