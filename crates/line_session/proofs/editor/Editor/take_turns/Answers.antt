use Rattle.std.proofs.Common.{rules, ◌≡◌, Some, option_map, refl, ap, subst, string_bytes}
use Rattle.std.specs.Prelude.{IfOk}
use Rattle.line_keys.specs.Model.Display.{Surface}
use Rattle.line_editor.specs.Binding.{bound_of}
use Rattle.line_editor.specs.InputState.{remembered_input}
use Rattle.line_session.specs.Kept.{answers_of}
use Rattle.line_session.specs.Sitting.{BegunLine, Came, Keeps, Sitting}
use Rattle.line_session.proofs.CameLemmas.{came_so, keeps_so}
use Rattle.line_session.proofs.editor.Editor.take_turns.Goals as goal

pub returns-clause-came : goal.returns-clause-came
returns-clause-came g c =
    let asked = answers_of g.H.Hinter.hint_at g.H.Validator.verdict_at g.H.Highlighter.lights g.H.Completer in
    let bound = bound_of g.C.ConditionalEventHandler c.args.bindings.now in
    let old : Sitting g.row.H.Denot = record {
      line = option_map (λ b. record { kept = b.line; input = remembered_input b.input; mode = b.mode; draws = b.draws }) c.self.inside.line;
      prompt = string_bytes c.self.inside.setup.prompt.0;
      lines = g.S.History.lines c.self.inside.setup.history;
      takes = g.S.History.rules c.self.inside.setup.history;
      kills = c.self.inside.kill_ring;
      items = c.self.inside.keys.rest;
      binds = c.self.inside.keys.binds;
      decoder = c.self.inside.decoder;
      helper = c.self.inside.helper;
      settings = c.self.inside.setup.config;
      columns = c.self.inside.screen.shown.columns;
      rows = c.self.inside.screen.shown.rows;
    } in
    subst (λ o. (begun : BegunLine) → o.line ≡ Some begun → IfOk c.end.result (Came asked bound o begun c.end.new.self)) c.self.view_is
    (λ begun line.
    let taken : BegunLine = record { kept = c.in-Some.begun.line; input = remembered_input c.in-Some.begun.input; mode = c.in-Some.begun.mode; draws = c.in-Some.begun.draws } in
    let kept : BegunLine = record { kept = c.go_on-begun.result.0.line; input = remembered_input c.go_on-begun.result.0.input; mode = c.go_on-begun.result.0.mode; draws = c.go_on-begun.result.0.draws } in
    let same : Some taken ≡ Some begun = search rules in
    let is : taken ≡ begun = (cc) in
    subst (λ b. IfOk c.end.result (Came asked bound old b c.end.new.self)) is
    (came_so asked bound old _ _ taken kept c.go_on-begun.result.1 _ c.end.ensures.ends refl c.go_on-begun.ensures.prompt refl refl refl c.go_on-begun.ensures.comes))

pub returns-clause-keeps : goal.returns-clause-keeps
returns-clause-keeps g c =
    let asked = answers_of g.H.Hinter.hint_at g.H.Validator.verdict_at g.H.Highlighter.lights g.H.Completer in
    let columns = ap (λ (s : Surface). s.columns) c.go_on-begun.ensures.surface in
    let rows = ap (λ (s : Surface). s.rows) c.go_on-begun.ensures.surface in
    let old : Sitting g.row.H.Denot = record {
      line = option_map (λ b. record { kept = b.line; input = remembered_input b.input; mode = b.mode; draws = b.draws }) c.self.inside.line;
      prompt = string_bytes c.self.inside.setup.prompt.0;
      lines = g.S.History.lines c.self.inside.setup.history;
      takes = g.S.History.rules c.self.inside.setup.history;
      kills = c.self.inside.kill_ring;
      items = c.self.inside.keys.rest;
      binds = c.self.inside.keys.binds;
      decoder = c.self.inside.decoder;
      helper = c.self.inside.helper;
      settings = c.self.inside.setup.config;
      columns = c.self.inside.screen.shown.columns;
      rows = c.self.inside.screen.shown.rows;
    } in
    let mid : Sitting g.row.H.Denot = record old {
      kills = c.go_on-begun.new.kill_ring;
      items = c.go_on-begun.new.keys.rest;
      binds = c.go_on-begun.new.keys.binds;
      helper = c.go_on-begun.new.helper;
      columns = c.go_on-begun.new.screen.shown.columns;
      rows = c.go_on-begun.new.screen.shown.rows;
    } in
    subst (λ o. Keeps asked o c.end.new.self) c.self.view_is
    (keeps_so asked old mid _ c.end.ensures.stays refl c.go_on-begun.ensures.answers refl c.go_on-begun.ensures.own refl refl columns rows)
