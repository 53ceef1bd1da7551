use Rattle.console.proofs.ReadingLemmas.{only_blanks, unblank_behind}
use Rattle.console.proofs.arithmetic.token.skip_blanks.Goals as goal

pub returns-clause-only : goal.returns-clause-only
returns-clause-only c = only_blanks c.args.text.now c.args.at c.run_end.result c.run_end.ensures.end

pub returns-clause-stops : goal.returns-clause-stops
returns-clause-stops c = unblank_behind c.args.text.now c.args.at c.run_end.result c.requires.0 c.run_end.ensures.end
