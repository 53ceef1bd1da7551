use Rattle.std.proofs.Common.{subst, List, ap₂, ◌≡◌, ◌≤◌, ◌<◌, ℕ, length, ◌∙◌, sym, ap, arith}
use Rattle.std.specs.List.{slice_range}
use Rattle.line_buffer.specs.declared.layout.Position.{Position}
use Rattle.line_keys.specs.Model.Display.{columns_back, corner}
use Rattle.line_state.proofs.DrawnPartLemmas.{back_between}
use Rattle.line_state.proofs.PlainTextLemmas.{converted}
use Rattle.line_state.proofs.view.View.position_back.Goals as goal

pub returns : goal.returns
returns g c =
    let self = c.args.self.now in
    let out = self.out.now in
    let some : 0 < (g.W.ScreenState.surface out).columns = omega (arith, c.get_columns-columns.ensures.positive, c.get_columns-columns.ensures.value) in
    let below = subst (λ (p : Position). p.col < (g.W.ScreenState.surface out).columns) self.measured (g.met.W.Renderer.column_below out (g.P.Prompt.raw_text self.prompt.now) corner some) in
    let text = c.as_str.ensures.value in
    let pos = c.pos.ensures.value in
    let between = c.in_ok-between.ensures.cases in
    let fits = c.try_from.ensures in
    let is = c.in_ok-columns.ensures in
    let columns : length c.in_ok-between.between.now ≡ c.in_ok-columns.columns = converted _ c.try_from.result _ _ fits is.value in
    let within : length c.in_ok-between.between.now ≤ self.drawn.layout.cursor.col = omega (arith, columns, c.if-self-columns.false) in
    λ there.
    ap (λ (n : ℕ). columns_back n self.drawn.layout.cursor) (sym columns)
    ∙ back_between (g.W.ScreenState.surface out) self.drawn.prompt_size c.args.line.now.text c.in_ok-between.between.now c.args.line.now.cursor c.args.from (g.met.W.Renderer.one_column out) below (omega (arith, between.1, pos))
    (between.0 ∙ ap₂ (λ (s : List ℕ) (n : ℕ). slice_range s n c.args.from) text pos) (omega (arith, between.1, pos)) c.requires (sym c.if-not-is_printable_text.ensures) self.drawn.layout.cursor there within
