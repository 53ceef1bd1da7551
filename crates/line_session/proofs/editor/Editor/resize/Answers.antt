use Rattle.std.proofs.Common.{Some, option_map, refl, subst, string_bytes}
use Rattle.line_editor.specs.InputState.{remembered_input}
use Rattle.line_session.specs.Kept.{answers_of}
use Rattle.line_session.specs.Sitting.{Keeps, Sitting}
use Rattle.line_session.proofs.editor.Editor.resize.Goals as goal

pub returns-clause-keeps : goal.returns-clause-keeps
returns-clause-keeps g c =
    let asked = answers_of g.H.Hinter.hint_at g.H.Validator.verdict_at g.H.Highlighter.lights g.H.Completer in
    let resized = c.resized-begun in
    let old : Sitting g.row.H.Denot = record {
      line = option_map (λ b. record { kept = b.line; input = remembered_input b.input; mode = b.mode; draws = b.draws }) c.self.inside.line;
      prompt = string_bytes c.self.inside.setup.prompt.0;
      lines = g.S.History.lines c.self.inside.setup.history;
      takes = g.S.History.rules c.self.inside.setup.history;
      kills = c.self.inside.kill_ring;
      items = c.self.inside.keys.rest;
      binds = c.self.inside.keys.binds;
      decoder = c.self.inside.decoder;
      helper = c.self.inside.helper;
      settings = c.self.inside.setup.config;
      columns = c.self.inside.screen.shown.columns;
      rows = c.self.inside.screen.shown.rows;
    } in
    let new : Sitting g.row.H.Denot = record old {
      line = Some (record { kept = resized.result.0.line; input = remembered_input resized.result.0.input; mode = resized.result.0.mode; draws = resized.result.0.draws });
      helper = resized.new.helper;
      columns = resized.new.screen.shown.columns;
      rows = resized.new.screen.shown.rows;
    } in
    subst (λ o. Keeps asked (record o { columns = c.args.columns; rows = c.args.rows }) new) c.self.view_is
    (record { prompt = refl; answers_alike = resized.ensures.answers; takes = refl; own = refl; decoder = refl; settings = refl; columns = resized.ensures.columns; rows = resized.ensures.rows })

pub invariant_of-self-2 : goal.invariant_of-self-2
invariant_of-self-2 g c = c.resized-begun.ensures.fits c.self.inside.keys.rest
