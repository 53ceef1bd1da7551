use Rattle.std.proofs.Common.{◌∙◌, length, option_map, refl, ap, string_bytes}
use Rattle.line_keys.specs.Model.Draft.{empty_draft}
use Rattle.line_keys.specs.Model.Display.{Surface}
use Rattle.line_state.specs.Edited.{Edited}
use Rattle.line_editor.specs.InputState.{remembered_input}
use Rattle.line_session.specs.Kept.{answers_of}
use Rattle.line_session.specs.Sitting.{BegunLine, Sitting}
use Rattle.line_session.proofs.CameLemmas.{starts_so}
use Rattle.line_session.proofs.editor.Editor.start.Goals as goal

pub returns-clause-starts : goal.returns-clause-starts
returns-clause-starts g c =
    let asked = answers_of g.H.Hinter.hint_at g.H.Validator.verdict_at g.H.Highlighter.lights g.H.Completer in
    let made = c.begin-begun in
    let begun : BegunLine = record { kept = made.result.line; input = remembered_input made.result.input; mode = made.result.mode; draws = made.result.draws } in
    let columns = ap (λ (s : Surface). s.columns) made.ensures.surface in
    let rows = ap (λ (s : Surface). s.rows) made.ensures.surface in
    let mid : Sitting g.row.H.Denot = record {
      line = option_map (λ b. record { kept = b.line; input = remembered_input b.input; mode = b.mode; draws = b.draws }) c.self-2.inside.line;
      prompt = string_bytes c.self-2.inside.setup.prompt.0;
      lines = g.S.History.lines c.self-2.inside.setup.history;
      takes = g.S.History.rules c.self-2.inside.setup.history;
      kills = c.self-2.inside.kill_ring;
      items = c.self-2.inside.keys.rest;
      binds = c.self-2.inside.keys.binds;
      decoder = c.self-2.inside.decoder;
      helper = c.self-2.inside.helper;
      settings = c.self-2.inside.setup.config;
      columns = c.self-2.inside.screen.shown.columns;
      rows = c.self-2.inside.screen.shown.rows;
    } in
    starts_so asked _ _ _ _ _ mid _ begun (c.self-2.view_is ∙ c.in_ok-mark_pastes.ensures.stays) refl (made.ensures.draft ∙ ap (λ (e : Edited). record (empty_draft (length (g.S.History.lines c.self-2.inside.setup.history))) { line = e.line; changes = e.changes }) c.in_ok-edited.ensures.line) made.ensures.input made.ensures.mode made.ensures.draws made.ensures.prompt
    c.in_ok-prompt.ensures.raw refl refl c.reset.ensures columns rows made.ensures.answers

pub invariant_of-self : goal.invariant_of-self
invariant_of-self g c = c.begin-begun.ensures.fits c.self-2.inside.keys.rest
