use Rattle.std.proofs.Common.{◌≡◌, option_map, refl, subst, string_bytes}
use Rattle.std.specs.Prelude.{OnOk}
use Rattle.line_session.specs.Heard.{turn_of}
use Rattle.line_editor.specs.InputState.{remembered_input}
use Rattle.line_session.specs.Sitting.{Sitting, with_turn}
use Rattle.line_session.proofs.CameLemmas.{turn_so}
use Rattle.line_session.proofs.KeptLemmas.{either_way, none_left, still_fits}
use Rattle.line_session.proofs.editor.Editor.read.Goals as goal

pub returns-clause-reads : goal.returns-clause-reads
returns-clause-reads g c =
    let old : Sitting g.row.H.Denot = record {
      line = option_map (λ b. record { kept = b.line; input = remembered_input b.input; mode = b.mode; draws = b.draws }) c.self.inside.line;
      prompt = string_bytes c.self.inside.setup.prompt.0;
      lines = g.S.History.lines c.self.inside.setup.history;
      takes = g.S.History.rules c.self.inside.setup.history;
      kills = c.self.inside.kill_ring;
      items = c.self.inside.keys.rest;
      binds = c.self.inside.keys.binds;
      decoder = c.self.inside.decoder;
      helper = c.self.inside.helper;
      settings = c.self.inside.setup.config;
      columns = c.self.inside.screen.shown.columns;
      rows = c.self.inside.screen.shown.rows;
    } in
    let mid : Sitting g.row.H.Denot = record old { items = c.decode.new.keys.rest; binds = c.decode.new.keys.binds; decoder = c.decode.new.decoder } in
    subst (λ o. OnOk c.decode.result (mid ≡ with_turn (turn_of c.args.heard o.decoder) o)) c.self.view_is
    (turn_so old mid (turn_of c.args.heard old.decoder) c.decode.new.decoder c.self.inside.keys c.decode.new.keys c.decode.result c.decode.ensures.gives refl refl refl)

pub invariant_of-self : goal.invariant_of-self
invariant_of-self g c =
    still_fits c.self.inside.line (λ b. b.line) (λ b. b.mode) (λ b. b.draws) _ _ _ _ _ _
    (either_way c.decode.result _ _ c.decode.ensures.gives c.decode.ensures.left (λ gives. none_left _ _ _ gives.items) (λ adds. none_left _ _ _ adds.items))
    c.self.invariant
