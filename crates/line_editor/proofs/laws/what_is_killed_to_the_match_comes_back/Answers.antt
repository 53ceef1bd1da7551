use Rattle.line_editor.proofs.MatchWayLaws.{killed_comes_back}
use Rattle.line_editor.proofs.laws.what_is_killed_to_the_match_comes_back.Goals as goal

pub returns : goal.returns
returns c = killed_comes_back
