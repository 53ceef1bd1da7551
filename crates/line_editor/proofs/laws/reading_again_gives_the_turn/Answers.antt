use Rattle.line_editor.proofs.AgainLaws.{reading-again}
use Rattle.line_editor.proofs.laws.reading_again_gives_the_turn.Goals as goal

pub returns : goal.returns
returns c = reading-again
