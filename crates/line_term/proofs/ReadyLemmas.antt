-- A terminal that is ready stays so, whatever is written to it.
use Rattle.std.proofs.Common.{◌≡◌, ◌<◌, ℕ, ◌+◌, ◌-◌, ◌^◌, ◌==◌, min, Bool, true, false, cond, List, [], ◌∷◌, ◌++◌, Option, Some, None, option_map, refl, subst, sym, arith}
use Rattle.std.specs.Prelude.{IsUtf8}
use Rattle.std.specs.Option.{IfSome}
use Rattle.std.proofs.lemmas.List.Sums.{fold-append}
use Rattle.line_buffer.specs.declared.layout.Layout.{Layout}
use Rattle.line_buffer.specs.declared.layout.Position.{Position}
use Rattle.line_config.specs.declared.prompt.Prompt as prompts
use Rattle.line_keys.specs.Model.Display.{Measure, corner}
use Rattle.line_parts.specs.declared.highlight.Highlighter as highlighters
use Rattle.line_term.specs.Drawn.{cleaned}
use Rattle.line_term.specs.Escape.{bell, clear_below, clear_from, clear_row, columns_bytes, hold, move_bytes, row_break, paste_marked, paste_typed, release, return, rows_bytes, steps}
use Rattle.line_term.specs.Laws.{KeepsReady, TerminalsStayReady}
use Rattle.line_term.specs.Page.{Page, at}
use Rattle.line_term.specs.Painted.{Handed, PaintsBehind, RedrawsInFull, at_once, clear_drawn, line_end, wrap_behind, wrap_ending}
use Rattle.line_term.specs.Shown.{AreTexts, IsPlace}
use Rattle.line_term.specs.Terminal.{IsReady, ShowsPage, Terminal, TurnsPage, put, seen, sent, showing_page, without_rest, without_row}
use Rattle.line_term.proofs.GoesLemmas.{coming}
use Rattle.line_term.proofs.MoveLemmas.{bell-turns, below-sent, hold-turns, marked-turns, release-turns, return-sent, row-sent, steps-sent, turned, typed-turns}
use Rattle.line_term.proofs.PrintLemmas.{prints-cleaned}
use Rattle.line_term.proofs.RedrawLemmas.{text-prints}

-- what a ready terminal shows
shows-seen : (columns : ℕ) (t : Terminal) → IsReady t → ShowsPage columns t (seen columns t)
shows-seen columns t ready = record { shown = refl; ready = ready }

turns-ready : (f : Page → Page) (bytes : List ℕ) → TurnsPage f bytes → KeepsReady bytes
turns-ready f bytes turns = λ columns t ready. (turns columns t (seen columns t) (shows-seen columns t ready)).ready

none-ready : KeepsReady []
none-ready = λ columns t ready. ready

then-ready : (first more : List ℕ) → KeepsReady first → KeepsReady more → KeepsReady (first ++ more)
then-ready first more one other = λ columns t ready.
    subst IsReady (sym (fold-append (put columns) t first more)) (other columns (sent columns t first) (one columns t ready))

if-ready : (wanted : Bool) (bytes : List ℕ) → KeepsReady bytes → KeepsReady (cond wanted bytes [])
if-ready true bytes ready = ready
if-ready false bytes ready = none-ready

steps-ready : (n : ℕ) → n < 2 ^ 64 → KeepsReady (steps n 65) × KeepsReady (steps n 66) × KeepsReady (steps n 67)
steps-ready n small = (
  λ columns t ready. (steps-sent columns n 65 t (seen columns t) refl small (shows-seen columns t ready)).ready,
  λ columns t ready. (steps-sent columns n 66 t (seen columns t) refl small (shows-seen columns t ready)).ready,
  λ columns t ready. (steps-sent columns n 67 t (seen columns t) refl small (shows-seen columns t ready)).ready,
)

return-ready : KeepsReady return
return-ready = λ columns t ready. (return-sent columns t (seen columns t) (shows-seen columns t ready)).ready

below-ready : KeepsReady clear_below
below-ready = λ columns t ready.
    (turned columns t (seen columns t) (let p = seen columns (coming t.page t.text) in without_rest (at p.row (min p.col (columns - 1)) p)) clear_below
    (shows-seen columns t ready) (λ _. below-sent columns t.page t.text)).ready

row-ready : KeepsReady clear_row
row-ready = λ columns t ready.
    (turned columns t (seen columns t) (let p = seen columns (coming t.page t.text) in without_row (at p.row (min p.col (columns - 1)) p)) clear_row
    (shows-seen columns t ready) (λ _. row-sent columns t.page t.text)).ready

line-sent : (columns : ℕ) (page : Page) (cs : List ℕ)
    → sent columns (coming page cs) row_break ≡ showing_page (let p = seen columns (showing_page (let q = seen columns (coming page cs) in at q.row 0 q)) in at (p.row + 1) p.col p)
unfolding put seen
line-sent columns page cs = refl

line-ready : KeepsReady row_break
line-ready = λ columns t ready.
    (turned columns t (seen columns t) (let p = seen columns (showing_page (let q = seen columns (coming t.page t.text) in at q.row 0 q)) in at (p.row + 1) p.col p) row_break
    (shows-seen columns t ready) (λ _. line-sent columns t.page t.text)).ready

abbrev home : List ℕ
home = 27 ∷ 91 ∷ 72 ∷ []

home-sent : (columns : ℕ) (page : Page) (cs : List ℕ) → sent columns (coming page cs) home ≡ showing_page (at 0 0 (seen columns (coming page cs)))
unfolding put seen
home-sent columns page cs = refl

home-ready : KeepsReady home
home-ready = λ columns t ready.
    (turned columns t (seen columns t) (at 0 0 (seen columns (coming t.page t.text))) home (shows-seen columns t ready) (λ _. home-sent columns t.page t.text)).ready

move-ready : (old new : Position) → IsPlace old → IsPlace new → KeepsReady (move_bytes old new)
move-ready old new from to =
    then-ready (rows_bytes old.row new.row) (columns_bytes old.col new.col)
    (then-ready (steps (old.row - new.row) 65) (steps (new.row - old.row) 66)
    (steps-ready (old.row - new.row) (omega (arith, from.0))).0 (steps-ready (new.row - old.row) (omega (arith, to.0))).1)
    (by_column (old.col == new.col))
  where
    by_column : (b : Bool) → KeepsReady (cond b [] (return ++ steps new.col 67))
    by_column true = none-ready
    by_column false = then-ready return (steps new.col 67) return-ready (steps-ready new.col (omega (arith, to.1))).2

clear-ready : (cursor : Position) → IsPlace cursor → KeepsReady (clear_from cursor)
clear-ready cursor place =
    then-ready (steps cursor.row 65 ++ return) clear_below (then-ready (steps cursor.row 65) return (steps-ready cursor.row (omega (arith, place.0))).0 return-ready) below-ready

wrap-ready : (measure : Measure) (text : List ℕ) (origin end : Position) → KeepsReady (wrap_ending measure text origin end)
wrap-ready measure text origin end = if-ready _ row_break line-ready

text-ready : (measure : Measure) (text : List ℕ) (origin end : Position) → IsUtf8 text → KeepsReady (cleaned text ++ wrap_ending measure text origin end)
text-ready measure text origin end utf8 =
    then-ready (cleaned text) (wrap_ending measure text origin end) (λ columns t ready. (prints-cleaned columns t text ready utf8).ready) (wrap-ready measure text origin end)

drawn-ready : (old : Option Layout) → IfSome old (λ l. IsPlace l.cursor) → KeepsReady (clear_drawn old)
drawn-ready None place = clear-ready corner (omega arith, omega arith)
drawn-ready (Some old) place = clear-ready old.cursor place

behind-ready : (behind : Option (List ℕ)) (bytes : List ℕ) (own : Option (List ℕ → List ℕ)) → IfSome behind IsUtf8 → PaintsBehind own behind bytes → KeepsReady bytes
behind-ready None bytes own utf8 painted = subst KeepsReady (sym painted) none-ready
behind-ready (Some text) bytes own utf8 painted = λ columns t ready. (text-prints columns t text bytes (option_map (λ o. o text) own) ready utf8 painted).ready

wrap-behind-ready : (measure : Measure) (behind : Option (List ℕ)) (origin end : Position) → KeepsReady (wrap_behind measure behind origin end)
wrap-behind-ready measure None origin end = none-ready
wrap-behind-ready measure (Some text) origin end = wrap-ready measure text origin end

module _ {P H : Type 0} (p : prompts.Ghosts P) (h : highlighters.Ghosts H) where
  redraw-ready : (measure : Measure) (wanted : Bool) (old : Option Layout) (handed : Handed P H) (bytes : List ℕ) → RedrawsInFull p h measure wanted old handed bytes
      → AreTexts (p.raw_text handed.prompt) handed.line.text handed.behind → IsPlace handed.layout.end → IsPlace handed.layout.cursor
      → IfSome old (λ l. IsPlace l.cursor) → KeepsReady bytes
  redraw-ready measure wanted old handed bytes redraws texts end cursor before =
      subst KeepsReady (sym redraws.whole) (once wanted)
    where
      drawn : KeepsReady redraws.drawn
      drawn =
          let painted = redraws.draws.painted in
          let layout = handed.layout in
          let raw = p.raw_text handed.prompt in
          let text = handed.line.text in
          let ends = line_end measure text handed.behind layout in
          subst KeepsReady (sym redraws.draws.whole)
          (then-ready (painted.prompt ++ wrap_ending measure raw corner layout.prompt_size ++ painted.line ++ wrap_ending measure text layout.prompt_size ends ++ painted.behind ++ wrap_behind measure handed.behind ends layout.end) _
          (then-ready (painted.prompt ++ wrap_ending measure raw corner layout.prompt_size ++ painted.line ++ wrap_ending measure text layout.prompt_size ends ++ painted.behind) _
          (then-ready (painted.prompt ++ wrap_ending measure raw corner layout.prompt_size ++ painted.line ++ wrap_ending measure text layout.prompt_size ends) _
          (then-ready (painted.prompt ++ wrap_ending measure raw corner layout.prompt_size ++ painted.line) _
          (then-ready (painted.prompt ++ wrap_ending measure raw corner layout.prompt_size) _
          (then-ready painted.prompt _
          (λ columns t ready. (text-prints columns t raw painted.prompt (option_map (λ o. h.highlighted_prompt o (p.styled_text handed.prompt) layout.default_prompt) handed.highlighter) ready texts.0 redraws.draws.prompt).ready)
          (wrap-ready measure raw corner layout.prompt_size))
          (λ columns t ready. (text-prints columns t text painted.line (option_map (λ o. h.highlighted o text handed.line.cursor) handed.highlighter) ready texts.1 redraws.draws.line).ready))
          (wrap-ready measure text layout.prompt_size ends))
          (behind-ready handed.behind painted.behind (option_map h.highlighted_hint handed.highlighter) texts.2 redraws.draws.behind))
          (wrap-behind-ready measure handed.behind ends layout.end))
          (move-ready layout.end layout.cursor end cursor))

      cleared : KeepsReady (clear_drawn old ++ redraws.drawn)
      cleared = then-ready (clear_drawn old) redraws.drawn (drawn-ready old before) drawn

      once : (wanted : Bool) → KeepsReady (at_once wanted (clear_drawn old ++ redraws.drawn))
      once true =
          then-ready (hold ++ (clear_drawn old ++ redraws.drawn)) release
          (then-ready hold (clear_drawn old ++ redraws.drawn) (turns-ready (λ page. page) hold hold-turns) cleared)
          (turns-ready (λ page. page) release release-turns)
      once false = then-ready (clear_drawn old ++ redraws.drawn) [] cleared none-ready

  pub terminals-stay-ready : TerminalsStayReady p h
  terminals-stay-ready = record {
    moves = move-ready;
    texts = text-ready;
    redraws = redraw-ready;
    rows = clear-ready;
    row = row-ready;
    screen = then-ready home clear_below home-ready below-ready;
    line = line-ready;
    bell = turns-ready (λ page. page) bell bell-turns;
    hold = turns-ready (λ page. page) hold hold-turns;
    release = turns-ready (λ page. page) release release-turns;
    marked = turns-ready (λ page. page) paste_marked marked-turns;
    typed = turns-ready (λ page. page) paste_typed typed-turns;
  }
