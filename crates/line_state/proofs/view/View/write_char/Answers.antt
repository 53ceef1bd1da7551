use Rattle.std.proofs.Common.{rules, subst, ◌≡◌, ◌+◌, ◌≤◌, ◌<◌, true, [], ◌∷◌, ◌∙◌, refl, arith}
use Rattle.std.proofs.lemmas.Bool.Decides.{nat_tests}
use Rattle.std.proofs.lemmas.Str.{encode_ascii}
use Rattle.line_buffer.specs.Printable.{is_printable}
use Rattle.line_buffer.specs.declared.layout.Position.{Position}
use Rattle.line_keys.specs.Model.Display.{corner}
use Rattle.line_state.proofs.DrawnPartLemmas.{written_place, written_right, written_shown}
use Rattle.line_state.proofs.view.View.write_char.Goals as goal

pub invariant_of-self-2 : goal.invariant_of-self-2
invariant_of-self-2 g c =
    let self = c.args.self.now in
    let out = self.out.now in
    let written = c.in_ok-write_and_flush.ensures in
    let print : is_printable c.args.c ≡ true = c.requires.printable in
    let below : c.args.c < 128 = grind (arith, nat_tests, print) in
    let text : c.encode_utf8.result.now ≡ c.args.c ∷ [] = c.encode_utf8.ensures.value ∙ encode_ascii c.args.c below in
    let free : self.drawn.layout.cursor.col + 1 < (g.W.ScreenState.surface out).columns = grind (arith, nat_tests, c.requires.free) in
    let some : 0 < (g.W.ScreenState.surface out).columns = omega (arith, free) in
    let more : c.saturating_add-self.result ≤ self.drawn.printable_at_end + 1 = omega (arith, c.saturating_add-self.ensures) in
    record {
      measured = rw written.part.tries.surface self.measured;
      placed = λ k. written_place (g.W.ScreenState.surface out) (g.W.ScreenState.screen out) (g.W.ScreenState.screen c.write_and_flush.new.self) self.drawn.layout self.drawn.printable_at_end
          c.saturating_add-self.result c.args.c (g.met.W.Renderer.one_column out) (c.stands_at_end-known.ensures k) some print free (written.shown c.args.c text print) more;
      known = λ k.
          rw written.part.tries.surface
          (written_shown (g.W.ScreenState.surface out) (g.W.ScreenState.screen out) (g.W.ScreenState.screen c.write_and_flush.new.self) self.drawn.layout self.drawn.printable_at_end
          c.saturating_add-self.result c.args.c (g.met.W.Renderer.one_column out) (c.stands_at_end-known.ensures k) some print free (written.shown c.args.c text print) more);
    }

pub returns : goal.returns
returns g c =
    let self = c.args.self.now in
    let out = self.out.now in
    let written = c.in_ok-write_and_flush.ensures in
    let print : is_printable c.args.c ≡ true = c.requires.printable in
    let below : c.args.c < 128 = grind (arith, nat_tests, print) in
    let text : c.encode_utf8.result.now ≡ c.args.c ∷ [] = c.encode_utf8.ensures.value ∙ encode_ascii c.args.c below in
    let free : self.drawn.layout.cursor.col + 1 < (g.W.ScreenState.surface out).columns = grind (arith, nat_tests, c.requires.free) in
    let some : 0 < (g.W.ScreenState.surface out).columns = omega (arith, free) in
    let below_there = subst (λ (p : Position). p.col < (g.W.ScreenState.surface out).columns) self.measured (g.met.W.Renderer.column_below out (g.P.Prompt.raw_text self.prompt.now) corner some) in
    record {
      layout = refl;
      right = λ line end plain bare right.
          written_right line _ _ c.args.c (g.met.W.Renderer.one_column out) end plain print free below_there bare (written.shown c.args.c text print) refl written.part.tries.surface refl refl right;
      kept = tt;
      beside = search rules;
      part = search rules;
    }
