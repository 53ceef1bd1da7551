use Rattle.std.proofs.Common.{subst, List, ap₂, ◌≡◌, ◌+◌, ◌<◌, ℕ, length, ◌∙◌, sym, ap, arith}
use Rattle.std.specs.List.{slice_range}
use Rattle.line_buffer.specs.declared.layout.Position.{Position}
use Rattle.line_keys.specs.Model.Display.{corner}
use Rattle.line_state.proofs.DrawnPartLemmas.{on_between}
use Rattle.line_state.proofs.PlainTextLemmas.{converted}
use Rattle.line_state.proofs.view.View.position_on.Goals as goal

abbrev at_column : ℕ → Position → Position
at_column n position = record { row = position.row; col = n }

pub returns : goal.returns
returns g c =
    let self = c.args.self.now in
    let out = self.out.now in
    let some : 0 < (g.W.ScreenState.surface out).columns = omega (arith, c.get_columns.ensures.positive, c.get_columns.ensures.value) in
    let below = subst (λ (p : Position). p.col < (g.W.ScreenState.surface out).columns) self.measured (g.met.W.Renderer.column_below out (g.P.Prompt.raw_text self.prompt.now) corner some) in
    let text = c.as_str.ensures.value in
    let pos = c.pos.ensures.value in
    let between = c.in_ok-between.ensures.cases in
    let fits = c.try_from.ensures in
    let is = c.in_ok-columns.ensures in
    let columns : length c.in_ok-between.between.now ≡ c.in_ok-columns.columns = converted _ c.try_from.result _ _ fits is.value in
    let col : self.drawn.layout.cursor.col + length c.in_ok-between.between.now ≡ c.in_ok-col.col = omega (arith, columns, c.in_ok-col.ensures.1) in
    let within : self.drawn.layout.cursor.col + length c.in_ok-between.between.now < (g.W.ScreenState.surface out).columns = omega (arith, col, c.if-get_columns-col.false, c.get_columns.ensures.value) in
    λ there.
    ap (λ (n : ℕ). at_column n self.drawn.layout.cursor) (sym col)
    ∙ on_between (g.W.ScreenState.surface out) self.drawn.prompt_size c.args.line.now.text c.in_ok-between.between.now c.args.from c.args.line.now.cursor (g.met.W.Renderer.one_column out) below (omega (arith, between.1, pos))
    (between.0 ∙ ap₂ (λ (s : List ℕ) (n : ℕ). slice_range s c.args.from n) text pos) (omega (arith, between.1, pos)) c.requires (sym c.if-not-is_printable_text.ensures) self.drawn.layout.cursor there within
