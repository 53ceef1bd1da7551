use Rattle.line_editor.specs.Binding.{bound_of}
use Rattle.line_session.specs.Heard.{turn_of}
use Rattle.line_session.specs.Kept.{answers_of}
use Rattle.line_session.proofs.CameLemmas.{feeds_so}
use Rattle.line_session.proofs.editor.Editor.hear.Goals as goal

pub returns : goal.returns
returns g c =
    let asked = answers_of g.H.Hinter.hint_at g.H.Validator.verdict_at g.H.Highlighter.lights g.H.Completer in
    let bound = bound_of g.C.ConditionalEventHandler c.args.bindings.now in
    let turns = c.take_turns.ensures in
    feeds_so asked bound c.args.self.now _ _ (turn_of c.args.heard c.args.self.now.decoder) _ c.in_ok-read.ensures.reads turns.came turns.keeps turns.idle turns.left turns.faults
