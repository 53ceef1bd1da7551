use Rattle.line_buffer.proofs.ChangeLemmas.{on_any}
use Rattle.line_buffer.specs.Undo.{Tells}
use Rattle.tests_parts.proofs.buffer.groups.Goals as goal

-- the changes tell of the line after the begin, after the insert, and after the end
pub returns : goal.returns
returns c =
    let begun = c.in_ok-begin.ensures.told.tells.of c.args.line.now.text in
    let typed = c.in_ok-insert.ensures.edit.told.tells in
    let ended = c.in_ok-end.ensures.told.tells.of c.insert.new.self.text in
    let start = c.requires.start in
    on_any {P = Tells c.end.new.self.entries c.insert.new.self.text} _
    (record { start = start; told = ended.tells start (typed.tells start (begun.tells start c.requires.told)) })
