use Rattle.std.proofs.Common.{option_map, refl, string_bytes, subst}
use Rattle.line_editor.specs.InputState.{remembered_input}
use Rattle.line_session.specs.Kept.{answers_of}
use Rattle.line_session.specs.OnTerminal.{ShowsBegun}
use Rattle.line_session.specs.Sitting.{Sitting}
use Rattle.line_session.proofs.ShowingLemmas.{shows_begun}
use Rattle.line_session.proofs.editor.Editor.replace_out.Goals as goal

pub returns-clause-shown : goal.returns-clause-shown
returns-clause-shown g c =
    let asked = answers_of g.H.Hinter.hint_at g.H.Validator.verdict_at g.H.Highlighter.lights g.H.Completer in
    let old : Sitting g.row.H.Denot = record {
      line = option_map (λ b. record { kept = b.line; input = remembered_input b.input; mode = b.mode; draws = b.draws }) c.self.inside.line;
      prompt = string_bytes c.self.inside.setup.prompt.0;
      lines = g.S.History.lines c.self.inside.setup.history;
      takes = g.S.History.rules c.self.inside.setup.history;
      kills = c.self.inside.kill_ring;
      items = c.self.inside.keys.rest;
      binds = c.self.inside.keys.binds;
      decoder = c.self.inside.decoder;
      helper = c.self.inside.helper;
      settings = c.self.inside.setup.config;
      columns = c.self.inside.screen.shown.columns;
      rows = c.self.inside.screen.shown.rows;
    } in
    subst (λ o. ShowsBegun g.O.Write.contents asked o c.replace_out.result) c.self.view_is
    (shows_begun g.O.Write.contents asked c.replace_out.result c.self.inside.line (λ b. record { kept = b.line; input = remembered_input b.input; mode = b.mode; draws = b.draws })
    old _ _ refl refl c.self.invariant c.replace_out.ensures.shown)
