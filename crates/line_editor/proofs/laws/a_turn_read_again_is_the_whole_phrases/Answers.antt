use Rattle.line_editor.proofs.AgainLaws.{read-again}
use Rattle.line_editor.proofs.laws.a_turn_read_again_is_the_whole_phrases.Goals as goal

pub returns : goal.returns
returns c = read-again
