use Rattle.line_editor.specs.Binding.{bound_of}
use Rattle.line_session.specs.Kept.{answers_of}
use Rattle.line_session.specs.Reading.{ReadsInput}
use Rattle.line_session.proofs.editor.Editor.readline_with_initial.Given as goal

abbrev pub invariant-loop : goal.invariant-loop
invariant-loop g l =
    let asked = answers_of g.H.Hinter.hint_at g.H.Validator.verdict_at g.H.Highlighter.lights g.H.Completer in
    let bound = bound_of g.C.ConditionalEventHandler l.fn.bindings in
    ReadsInput asked bound l.fn.pauses (g.R.Read.remaining l.fn.input) (g.R.Read.remaining l.input) l.goes_on (g.P.Prompt.raw_text l.fn.prompt)
    l.fn.initial.0.now l.fn.initial.1.now l.fn.self l.self l.fed
