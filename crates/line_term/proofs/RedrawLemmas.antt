-- A full redraw that is read by a terminal.
use Rattle.std.proofs.Common.{◌≡◌, subst, ◌<◌, ◌≤◌, ℕ, ◌+◌, ◌-◌, ◌==◌, ◌||◌, ◌&&◌, nat_le, nat_lt, Bool, true, false, cond, not, List, [], ◌++◌, Option, Some, None, refl, sym, ap, ap₂, ◌∙◌, arith, option_map}
use Rattle.std.specs.Option.{IfSome}
use Rattle.std.specs.Prelude.{IsUtf8, chars}
use Rattle.std.specs.List.{fold}
use Rattle.std.specs.Str.{bytes_eq}
use Rattle.std.proofs.lemmas.Bool.Decides.{nat_tests}
use Rattle.std.proofs.lemmas.List.{append-nil}
use Rattle.std.proofs.lemmas.List.Sums.{fold-append}
use Rattle.std.proofs.lemmas.Slice.Eq.{bytes_eq-Decides}
use Rattle.unicode_segmentation.specs.Grapheme.{graphemes}
use Rattle.line_buffer.specs.declared.layout.Layout.{Layout}
use Rattle.line_buffer.specs.declared.layout.Position.{Position}
use Rattle.line_config.specs.declared.prompt.Prompt as prompts
use Rattle.line_keys.specs.Model.Display.{Measure, corner, shown_end}
use Rattle.line_parts.specs.declared.highlight.Highlighter as highlighters
use Rattle.line_screen.specs.Measure.{after_cluster, measured}
use Rattle.line_screen.specs.MeasureLaws.{measured-below}
use Rattle.line_term.specs.Drawn.{cleaned, colored, uncolored}
use Rattle.line_term.specs.Escape.{hold, move_bytes, release}
use Rattle.line_term.specs.Laws.{RedrawsShow, TextsArrive}
use Rattle.line_term.specs.Page.{IsAt, Page, at, blank, blank_page, picture, put_behind, put_text}
use Rattle.line_term.specs.Painted.{Draws, Handed, Painted, PaintsText, PaintsBehind, at_once, clear_drawn, drawing, is_coloring, shown_as, wrap, wrap_ending}
use Rattle.line_term.specs.Shown.{IsMeasured, IsPlace, IsShown, first_row, within}
use Rattle.line_term.specs.Terminal.{IsReady, ShowsPage, Terminal, put, seen, sent, without_rest}
use Rattle.line_term.proofs.AlikeLemmas.{Alike, alike-picture}
use Rattle.line_term.proofs.MoveLemmas.{clear-turns, hold-turns, move-turns, release-turns}
use Rattle.line_term.proofs.CellLemmas.{before, stays-text}
use Rattle.line_term.proofs.PrintLemmas.{Prints, clusters-last, earlier, prints-cleaned, prints-colored, text-at, text-down, wrapped-row}

-- ---- a text, plain or as a highlighter shows it

-- what is shown for a text is that text, or it is one with colors
shown-prints : (columns : ℕ) (t : Terminal) (text shown bytes : List ℕ) → IsReady t → IsUtf8 text → bytes ≡ shown_as text shown
    → Prints columns t text (sent columns t bytes)
shown-prints columns t text shown bytes ready utf8 is =
    subst (λ b. Prints columns t text (sent columns t b)) (sym is) (by_test (not (bytes_eq shown text)) (is_coloring shown text) refl)
  where
    by_test : (b c : Bool) → is_coloring shown text ≡ c → Prints columns t text (sent columns t (cond (b && c) (colored shown) (cleaned text)))
    by_test false c e = prints-cleaned columns t text ready utf8
    by_test true false e = prints-cleaned columns t text ready utf8
    by_test true true e = prints-colored columns t text shown ready utf8 ((bytes_eq-Decides (uncolored shown) (chars text)).0 e)

pub text-prints : (columns : ℕ) (t : Terminal) (text bytes : List ℕ) (own : Option (List ℕ)) → IsReady t → IsUtf8 text
    → PaintsText own text bytes → Prints columns t text (sent columns t bytes)
text-prints columns t text bytes None ready utf8 painted =
    subst (λ b. Prints columns t text (sent columns t b)) (sym painted) (prints-cleaned columns t text ready utf8)
text-prints columns t text bytes (Some shown) ready utf8 painted = shown-prints columns t text shown bytes ready utf8 painted

-- ---- the parts one after another

-- a text and the new row behind it, from a place of a page that is shown
pub record ArrivesAt (columns base : ℕ) (place : Position) (page : Page) (t : Terminal) : Type 0 where
  pub shows : ShowsPage columns t page
  pub at : IsAt base place page

text-arrives : (columns base : ℕ) (origin : Position) (page : Page) (t t' : Terminal) (text : List ℕ) → IsUtf8 text → origin.col < columns
    → (measured columns text origin).row < 65535 → ArrivesAt columns base origin page t → Prints columns t text t'
    → ArrivesAt columns base (measured columns text origin) (put_text columns page text) (sent columns t' (wrap (measured columns) text origin))
text-arrives columns base origin page t t' text utf8 room last from prints =
    let there : IsAt base origin (seen columns t) = subst (IsAt base origin) (sym from.shows.shown) from.at in
    let down = text-down columns base origin t t' text utf8 (omega (arith, room)) there last prints in
    record {
      shows = record { shown = down.shown ∙ ap (λ p. put_text columns p text) from.shows.shown; ready = down.ready };
      at = text-at columns base origin page text from.at last;
    }

pub texts-arrive : TextsArrive
texts-arrive columns base origin text t page utf8 room last there shows =
    let done = text-arrives columns base origin page t (sent columns t (cleaned text)) text utf8 room last (record { shows = shows; at = there })
    (prints-cleaned columns t text shows.ready utf8) in (
      subst (λ s. ShowsPage columns s (put_text columns page text)) (sym (fold-append (put columns) t (cleaned text) (wrap (measured columns) text origin))) done.shows,
      done.at,
    )

-- where what is shown ends, from where the line does
abbrev pub behind_end : ℕ → Position → Option (List ℕ) → Position
behind_end columns place None = place
behind_end columns place (Some text) = measured columns text place

-- the new row behind what is measured behind the line
abbrev wrap_more : Measure → Option (List ℕ) → Position → List ℕ
wrap_more measure None place = []
wrap_more measure (Some text) place = wrap measure text place

behind-arrives : (columns base : ℕ) (place : Position) (page : Page) (t : Terminal) (behind : Option (List ℕ)) (bytes : List ℕ) (own : Option (List ℕ → List ℕ))
    → IfSome behind IsUtf8 → place.col < columns → (behind_end columns place behind).row < 65535 → PaintsBehind own behind bytes
    → ArrivesAt columns base place page t
    → ArrivesAt columns base (behind_end columns place behind) (put_behind columns page behind) (sent columns (sent columns t bytes) (wrap_more (measured columns) behind place))
behind-arrives columns base place page t None bytes own utf8 room last painted from =
    subst (λ b. ArrivesAt columns base place page (sent columns t b)) (sym painted) from
behind-arrives columns base place page t (Some text) bytes own utf8 room last painted from =
    text-arrives columns base place page t (sent columns t bytes) text utf8 room last from
    (text-prints columns t text bytes (option_map (λ o. o text) own) from.shows.ready utf8 painted)

behind-below : (columns : ℕ) (place : Position) (behind : Option (List ℕ)) → place.col < columns → (behind_end columns place behind).col < columns
behind-below columns place None room = room
behind-below columns place (Some text) room = measured-below columns text place room

above-before : (page : Page) (r k : ℕ) → r < page.row → before page r k ≡ true
above-before page r k above = grind (arith, nat_tests)

behind-above : (columns : ℕ) (page : Page) (behind : Option (List ℕ)) (r k : ℕ) → before page r k ≡ true → (put_behind columns page behind).cells r k ≡ page.cells r k
behind-above columns page None r k is = refl
behind-above columns page (Some text) r k is = (stays-text columns page text r k is).same

-- where all that is shown ends
shown-end : (columns : ℕ) (place : Position) (text : List ℕ) (behind : Option (List ℕ))
    → shown_end (measured columns) place text behind ≡ behind_end columns (measured columns text place) behind
shown-end columns place text None = refl
shown-end columns place text (Some more) = refl

-- a text ends above the last row only where it begins there
pub measured-row : (columns : ℕ) (place : Position) (text : List ℕ) → (measured columns text place).row < 65535 → place.row < 65535
unfolding measured
measured-row columns place text last =
    let q = fold (after_cluster columns) place (graphemes true text) in
    earlier place.row q.row (clusters-last columns place (graphemes true text)) (wrapped-row columns q last)

line-row : (columns : ℕ) (place : Position) (behind : Option (List ℕ)) → (behind_end columns place behind).row < 65535 → place.row < 65535
line-row columns place None last = last
line-row columns place (Some text) last = measured-row columns place text last

-- by a layout whose places are as they are measured, the new rows of a drawing are those behind the measured texts
drawing-of : (columns : ℕ) (raw text : List ℕ) (behind : Option (List ℕ)) (layout : Layout) (painted : Painted)
    → layout.prompt_size ≡ measured columns raw corner → layout.end ≡ shown_end (measured columns) layout.prompt_size text behind
    → drawing (measured columns) raw text behind layout painted
    ≡ painted.prompt ++ wrap (measured columns) raw corner ++ painted.line ++ wrap (measured columns) text layout.prompt_size
    ++ painted.behind ++ wrap_more (measured columns) behind (measured columns text layout.prompt_size) ++ move_bytes layout.end layout.cursor
drawing-of columns raw text None layout painted first ends =
    let measure = measured columns in
    ap₂ (λ (e₁ e₂ : Position). painted.prompt ++ wrap_ending measure raw corner e₁ ++ painted.line ++ wrap_ending measure text layout.prompt_size e₂
    ++ painted.behind ++ [] ++ move_bytes layout.end layout.cursor) first ends
drawing-of columns raw text (Some more) layout painted first ends =
    let measure = measured columns in
    let place = measure text layout.prompt_size in
    ap₂ (λ (e₁ e₂ : Position). painted.prompt ++ wrap_ending measure raw corner e₁ ++ painted.line ++ wrap measure text layout.prompt_size
    ++ painted.behind ++ wrap_ending measure more place e₂ ++ move_bytes layout.end layout.cursor) first ends

-- the parts are read one after another
parts-sent : (columns : ℕ) (t : Terminal) (a b c d e f m : List ℕ)
    → sent columns t (a ++ b ++ c ++ d ++ e ++ f ++ m)
    ≡ sent columns (sent columns (sent columns (sent columns (sent columns (sent columns (sent columns t a) b) c) d) e) f) m
parts-sent columns t a b c d e f m =
    fold-append (put columns) t (a ++ b ++ c ++ d ++ e ++ f) m ∙ ap (λ s. sent columns s m)
    (fold-append (put columns) t (a ++ b ++ c ++ d ++ e) f ∙ ap (λ s. sent columns s f)
    (fold-append (put columns) t (a ++ b ++ c ++ d) e ∙ ap (λ s. sent columns s e)
    (fold-append (put columns) t (a ++ b ++ c) d ∙ ap (λ s. sent columns s d)
    (fold-append (put columns) t (a ++ b) c ∙ ap (λ s. sent columns s c) (fold-append (put columns) t a b)))))

-- what is read between being held back and shown, where that is wanted
once-shows : (columns : ℕ) (t : Terminal) (page : Page) (wanted : Bool) (bytes : List ℕ) (P : Terminal → Type 0) → ShowsPage columns t page
    → ((u : Terminal) → ShowsPage columns u page → (end : Page) × ShowsPage columns (sent columns u bytes) end × ((v : Terminal) → ShowsPage columns v end → P v))
    → P (sent columns t (at_once wanted bytes))
once-shows columns t page true bytes P shows goes =
    let u = sent columns t hold in
    let ends = goes u (hold-turns columns t page shows) in
    subst P (sym (fold-append (put columns) t (hold ++ bytes) release ∙ ap (λ s. sent columns s release) (fold-append (put columns) t hold bytes)))
    (ends.2 (sent columns (sent columns u bytes) release) (release-turns columns (sent columns u bytes) ends.0 ends.1))
once-shows columns t page false bytes P shows goes =
    let ends = goes t shows in
    subst P (sym (ap (sent columns t) (append-nil bytes))) (ends.2 (sent columns t bytes) ends.1)

-- where a full redraw begins, nothing is shown from its first row on
cleared-alike : (base : ℕ) (page : Page) → Alike base (without_rest (at base 0 page)) (blank_page base)
cleared-alike base page = record { row = refl; col = refl; cells = λ r k from. ap (λ b. cond b blank (page.cells r k)) (behind r k from) } where
  behind : (r k : ℕ) → base ≤ r → (nat_lt base r || ((r == base) && nat_le 0 k)) ≡ true
  behind r k from = grind (arith, nat_tests)

cleared-above : (base : ℕ) (page : Page) (row col : ℕ) → row < base → (without_rest (at base 0 page)).cells row col ≡ page.cells row col
cleared-above base page row col less =
    let not_behind : (nat_lt base row || ((row == base) && nat_le 0 col)) ≡ false = grind (arith, nat_tests) in
    ap (λ b. cond b blank (page.cells row col)) not_behind

-- a cursor in a row goes where its place is
pub in-row : (columns base : ℕ) (place : Position) (page : Page) → place.col < columns → IsAt base place page → IsAt base (within columns place) page
in-row columns base place page room there = record { row = there.row; col = omega (arith, room, there.col) }

begin-at : (base : ℕ) (page : Page) → Alike base page (blank_page base) → IsAt base corner page
begin-at base page alike = record { row = alike.row ∙ omega arith; col = alike.col }

module _ {P H : Type 0} (p : prompts.Ghosts P) (h : highlighters.Ghosts H) where
  -- a drawing, from the start of a row
  drawing-arrives : (columns base : ℕ) (handed : Handed P H) (bytes : List ℕ) (t : Terminal) (page : Page) → Draws p h (measured columns) handed bytes
      → IsMeasured columns (p.raw_text handed.prompt) handed.line.text handed.behind handed.layout
      → ArrivesAt columns base corner page t
      → (let end = picture columns page (p.raw_text handed.prompt) handed.line.text handed.behind in
      ShowsPage columns (sent columns t bytes) (at (base + handed.layout.cursor.row) (within columns handed.layout.cursor).col end))
  drawing-arrives columns base handed bytes t page draws is from =
      let layout = handed.layout in
      let behind = handed.behind in
      let highlighter = handed.highlighter in
      let raw = p.raw_text handed.prompt in
      let text = handed.line.text in
      let measure = measured columns in
      let painted = draws.painted in
      let p₁ = layout.prompt_size in
      let p₂ = measure text p₁ in
      let p₃ = behind_end columns p₂ behind in
      let some = is.some in
      let ends : layout.end ≡ p₃ = is.ends ∙ shown-end columns p₁ text behind in
      let last : p₃.row < 65535 = omega (arith, is.last_row, ap (λ (q : Position). q.row) ends) in
      let second : p₂.row < 65535 = line-row columns p₂ behind last in
      let first : p₁.row < 65535 = measured-row columns p₁ text second in
      let first_at : (measure raw corner).row < 65535 = omega (arith, first, ap (λ (q : Position). q.row) is.prompt_end) in
      let col₁ : p₁.col < columns = omega (arith, measured-below columns raw corner some, ap (λ (q : Position). q.col) is.prompt_end) in
      let col₂ = measured-below columns text p₁ col₁ in
      let col₃ : layout.end.col < columns = omega (arith, behind-below columns p₂ behind col₂, ap (λ (q : Position). q.col) ends) in
      let front = subst (λ q. ArrivesAt columns base q (put_text columns page raw) (sent columns (sent columns t painted.prompt) (wrap measure raw corner))) (sym is.prompt_end)
      (text-arrives columns base corner page t (sent columns t painted.prompt) raw is.texts.0 some first_at from
      (text-prints columns t raw painted.prompt (option_map (λ o. h.highlighted_prompt o (p.styled_text handed.prompt) layout.default_prompt) highlighter)
      from.shows.ready is.texts.0 draws.prompt)) in
      let t₁ = sent columns (sent columns t painted.prompt) (wrap measure raw corner) in
      let middle = text-arrives columns base p₁ (put_text columns page raw) t₁ (sent columns t₁ painted.line) text is.texts.1 col₁ second front
      (text-prints columns t₁ text painted.line (option_map (λ o. h.highlighted o text handed.line.cursor) highlighter) front.shows.ready is.texts.1 draws.line) in
      let t₂ = sent columns (sent columns t₁ painted.line) (wrap measure text p₁) in
      let back = behind-arrives columns base p₂ (put_text columns (put_text columns page raw) text) t₂ behind painted.behind (option_map h.highlighted_hint highlighter) is.texts.2 col₂ last
      draws.behind middle in
      let t₃ = sent columns (sent columns t₂ painted.behind) (wrap_more measure behind p₂) in
      let end = picture columns page raw text behind in
      subst (λ s. ShowsPage columns s (at (base + layout.cursor.row) (within columns layout.cursor).col end))
      (sym (ap (sent columns t) (draws.whole ∙ drawing-of columns raw text behind layout painted is.prompt_end is.ends)
      ∙ parts-sent columns t painted.prompt (wrap measure raw corner) painted.line (wrap measure text p₁) painted.behind (wrap_more measure behind p₂)
      (move_bytes layout.end layout.cursor)))
      (move-turns columns base layout.end layout.cursor t₃ end some (in-row columns base layout.end end col₃ (subst (λ q. IsAt base q end) (sym ends) back.at))
      (omega (arith, is.last_row)) (omega (arith, is.cursor.0)) (omega (arith, is.cursor.1)) back.shows)

  -- from where it begins, on a page that is like a blank one
  drawing-shows : (columns base : ℕ) (handed : Handed P H) (bytes : List ℕ) (t : Terminal) (page : Page) → Draws p h (measured columns) handed bytes
      → IsMeasured columns (p.raw_text handed.prompt) handed.line.text handed.behind handed.layout → Alike base page (blank_page base) → ShowsPage columns t page
      → (let end = picture columns page (p.raw_text handed.prompt) handed.line.text handed.behind in
      ShowsPage columns (sent columns t bytes) (at (base + handed.layout.cursor.row) (within columns handed.layout.cursor).col end))
  drawing-shows columns base handed bytes t page draws is alike shows =
      drawing-arrives columns base handed bytes t page draws is (record { shows = shows; at = begin-at base page alike })

  -- a picture changes no row above it
  picture-above : (columns : ℕ) (page : Page) (prompt text : List ℕ) (behind : Option (List ℕ)) (r k : ℕ) → r < page.row
      → (picture columns page prompt text behind).cells r k ≡ page.cells r k
  picture-above columns page prompt text behind r k above =
      let first = stays-text columns page prompt r k (above-before page r k above) in
      let then = stays-text columns (put_text columns page prompt) text r k first.before in
      behind-above columns (put_text columns (put_text columns page prompt) text) behind r k then.before ∙ then.same ∙ first.same

  -- what is shown then, and what stays
  abbrev Redrawn : ℕ → ℕ → Handed P H → Page → Terminal → Type 0
  Redrawn columns base handed page t =
      (shown : IsShown columns base (p.raw_text handed.prompt) handed.line.text handed.behind handed.layout.cursor t)
      × ((row col : ℕ) → row < base → shown.page.cells row col ≡ page.cells row col)

  shown-then : (columns base : ℕ) (handed : Handed P H) (old page : Page) (t : Terminal) → Alike base page (blank_page base)
      → ((row col : ℕ) → row < base → page.cells row col ≡ old.cells row col)
      → (let end = picture columns page (p.raw_text handed.prompt) handed.line.text handed.behind in
      ShowsPage columns t (at (base + handed.layout.cursor.row) (within columns handed.layout.cursor).col end))
      → Redrawn columns base handed old t
  shown-then columns base handed old page t alike above shows =
      let raw = p.raw_text handed.prompt in
      let end = picture columns page raw handed.line.text handed.behind in (
        record {
          page = at (base + handed.layout.cursor.row) (within columns handed.layout.cursor).col end;
          shows = shows;
          at = record { row = refl; col = refl };
          cells = (alike-picture columns base page (blank_page base) raw handed.line.text handed.behind alike).cells;
        },
        λ row col less. picture-above columns page raw handed.line.text handed.behind row col (omega (arith, less, alike.row)) ∙ above row col less,
      )

  -- the rows that were drawn before are cleared, if there are any, and those above stay
  begun-from : (columns : ℕ) (old : Option Layout) (t : Terminal) (page : Page) → 0 < columns → IfSome old (λ l. IsPlace l.cursor) → ShowsPage columns t page
      → (let base = first_row old page in
      (begun_page : Page) × ShowsPage columns (sent columns t (clear_drawn old)) begun_page × Alike base begun_page (blank_page base)
      × ((row col : ℕ) → row < base → begun_page.cells row col ≡ page.cells row col))
  begun-from columns None t page some place shows =
      let own : page.row - 0 ≡ page.row = omega arith in (
        without_rest (at page.row 0 page),
        subst (λ r. ShowsPage columns (sent columns t (clear_drawn None)) (without_rest (at r 0 page))) own (clear-turns columns corner t page (omega arith) some shows),
        cleared-alike page.row page,
        cleared-above page.row page,
      )
  begun-from columns (Some old) t page some place shows =
      let base = page.row - old.cursor.row in (
        without_rest (at base 0 page),
        clear-turns columns old.cursor t page (omega (arith, place.0)) some shows,
        cleared-alike base page,
        cleared-above base page,
      )

  pub redraws-show : RedrawsShow p h
  redraws-show columns wanted old handed bytes t page redraws is place shows =
      let base = first_row old page in
      subst (λ b. Redrawn columns base handed page (sent columns t b)) (sym redraws.whole)
      (once-shows columns t page wanted (clear_drawn old ++ redraws.drawn) (Redrawn columns base handed page) shows
      (λ u held.
      let from = begun-from columns old u page is.some place held in
      let end = at (base + handed.layout.cursor.row) (within columns handed.layout.cursor).col (picture columns from.0 (p.raw_text handed.prompt) handed.line.text handed.behind) in (
        end,
        subst (λ s. ShowsPage columns s end) (sym (fold-append (put columns) u (clear_drawn old) redraws.drawn))
            (drawing-shows columns base handed redraws.drawn (sent columns u (clear_drawn old)) from.0 redraws.draws is from.2 from.1),
        λ v shown. shown-then columns base handed page from.0 v from.2 from.3 shown,
      )))
