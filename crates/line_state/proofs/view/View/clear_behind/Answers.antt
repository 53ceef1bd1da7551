use Rattle.std.proofs.Common.{rules, subst, ◌∙◌, ◌<◌, refl, arith}
use Rattle.line_buffer.specs.declared.layout.Position.{Position}
use Rattle.line_keys.specs.Model.Display.{corner}
use Rattle.line_state.proofs.DrawnPartLemmas.{cleared_right, cleared_shown}
use Rattle.line_state.proofs.view.View.clear_behind.Goals as goal

pub invariant_of-self-2 : goal.invariant_of-self-2
invariant_of-self-2 g c =
    let self = c.args.self.now in
    let out = self.out.now in
    let cleared = c.in_ok-clear_to_eol.ensures in
    let some : 0 < (g.W.ScreenState.surface out).columns = omega (arith, c.get_columns-columns.ensures.positive, c.get_columns-columns.ensures.value) in
    record {
      measured = rw cleared.part.tries.surface self.measured;
      placed = λ at. cleared.position ∙ self.placed at;
      known = λ k.
          rw (cleared.part.tries.surface, c.saturating_sub-self.ensures)
          (cleared_shown (g.W.ScreenState.surface out) (g.W.ScreenState.screen out) (g.W.ScreenState.screen c.clear_to_eol.new.self) self.drawn.layout self.drawn.printable_at_end
          c.args.count (g.met.W.Renderer.one_column out) some (c.knows_end-known.ensures k) c.requires.fits c.requires.placed (λ kept gone text print behind. cleared.cleared kept gone text print behind));
    }

pub returns : goal.returns
returns g c =
    let self = c.args.self.now in
    let out = self.out.now in
    let cleared = c.in_ok-clear_to_eol.ensures in
    let some : 0 < (g.W.ScreenState.surface out).columns = omega (arith, c.get_columns-columns.ensures.positive, c.get_columns-columns.ensures.value) in
    let below = subst (λ (p : Position). p.col < (g.W.ScreenState.surface out).columns) self.measured (g.met.W.Renderer.column_below out (g.P.Prompt.raw_text self.prompt.now) corner some) in
    record {
      layout = rw (← c.requires.placed) refl;
      right = λ front gone plain print is bare shows.
          cleared_right _ _ front gone c.args.count (g.met.W.Renderer.one_column out) below c.requires.fits c.requires.placed (λ kept gone text print behind. cleared.cleared kept gone text print behind) refl
          cleared.part.tries.surface refl refl plain print is bare shows;
      kept = tt;
      beside = search rules;
      part = search rules;
    }
