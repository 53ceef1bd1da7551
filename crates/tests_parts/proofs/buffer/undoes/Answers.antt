use Rattle.line_buffer.proofs.ChangeLemmas.{on_any}
use Rattle.line_buffer.specs.Undo.{Tells}
use Rattle.tests_parts.proofs.buffer.undoes.Goals as goal

pub returns-in_ok-end-in-end : goal.returns-in_ok-end-in-end
returns-in_ok-end-in-end c =
    let still = c.in_ok-end-in-end.ensures.told.tells.of c.args.line.now.text in
    on_any {P = Tells c.end.new.self.entries c.args.line.now.text} _
    (record { start = c.requires.start; told = still.tells c.requires.start c.requires.told })
