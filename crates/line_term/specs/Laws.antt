-- Laws of what a terminal shows of what is written.
use Rattle.std.specs.Prelude.{◌≡◌, false, true, ◌<◌, ℕ, ◌+◌, ◌++◌, Bool, List, [], ◌∷◌, Option, None, IfSome, IsUtf8, chars, encode_utf8_all, map}
use Rattle.std.specs.List.{fold, list_all}
use Rattle.unicode_segmentation.specs.Grapheme.{graphemes}
use Rattle.line_buffer.specs.Printable.{is_printable}
use Rattle.line_buffer.specs.declared.layout.Layout.{Layout}
use Rattle.line_buffer.specs.declared.layout.Position.{Position}
use Rattle.line_config.specs.declared.prompt.Prompt as prompts
use Rattle.line_keys.specs.Model.Display.{Measure, corner}
use Rattle.line_parts.specs.declared.highlight.Highlighter as highlighters
use Rattle.line_screen.specs.Measure.{after_cluster, columns_of, ends_row, measured}
use Rattle.line_term.specs.Drawn.{cleaned, visible_char}
use Rattle.line_term.specs.Escape as bytes
use Rattle.line_term.specs.Escape.{clear_row, move_bytes}
use Rattle.line_term.specs.Page.{IsAt, Page, at, begun, continued, put_text}
use Rattle.line_term.specs.Painted.{Handed, RedrawsInFull, wrap, wrap_ending}
use Rattle.line_term.specs.Shown.{AreTexts, IsMeasured, IsPlace, IsShown, first_cell, first_row, is_cell_before, within}
use Rattle.line_term.specs.Terminal.{IsReady, ShowsPage, Terminal, TurnsPage, TurnsInRow, sent, without_rest, without_row}

-- the bytes of a move take the cursor from the one place to the other, wherever the rows begin, and change no cell
abbrev pub MovesArrive : Type 0
MovesArrive = (columns base : ℕ) (old new : Position) (t : Terminal) (page : Page) → 0 < columns → IsPlace old → IsPlace new
    → IsAt base (within columns old) page → ShowsPage columns t page
    → ShowsPage columns (sent columns t (move_bytes old new)) (at (base + new.row) (within columns new).col page)

-- what is written for a text puts its clusters down, and takes the cursor where the text is measured to end and out of the wait at a
-- row's end; above the last row that a measure knows
abbrev pub TextsArrive : Type 0
TextsArrive = (columns base : ℕ) (origin : Position) (text : List ℕ) (t : Terminal) (page : Page) → IsUtf8 text → origin.col < columns
    → (measured columns text origin).row < 65535 → IsAt base origin page → ShowsPage columns t page
    → ShowsPage columns (sent columns t (cleaned text ++ wrap (measured columns) text origin)) (put_text columns page text)
    × IsAt base (measured columns text origin) (put_text columns page text)

-- a bell and what is asked of a terminal change nothing that is shown; what clears a row's rest, or all below, leaves the cursor where it is
pub record OthersStay : Type 0 where
  pub bell : TurnsPage (λ page. page) bytes.bell
  pub row : TurnsInRow without_row bytes.clear_row
  pub below : TurnsInRow without_rest bytes.clear_below
  pub hold : TurnsPage (λ page. page) bytes.hold
  pub release : TurnsPage (λ page. page) bytes.release
  pub marked : TurnsPage (λ page. page) bytes.paste_marked
  pub typed : TurnsPage (λ page. page) bytes.paste_typed

-- where a cluster of a text that is put down begins, and how it is shown
abbrev pub ShowsCluster : ℕ → ℕ → Position → List ℕ → Page → Type 0
ShowsCluster columns base before cluster page =
    let width = columns_of columns cluster in
    let place = first_cell columns width before in
    (page.cells (base + place.row) place.col ≡ begun (encode_utf8_all (map visible_char (chars cluster))))
    × ((k : ℕ) → place.col < k → k < place.col + width → page.cells (base + place.row) k ≡ continued)

-- a text that is put down shows each cluster that has columns where the clusters before it are measured to end; what stands before its
-- start and from its end on is shown as before
pub record TextsAreShown : Type 0 where
  pub clusters : (columns base : ℕ) (origin : Position) (page : Page) (text : List ℕ) (front : List (List ℕ)) (cluster : List ℕ) (back : List (List ℕ))
      → graphemes true text ≡ front ++ cluster ∷ back → ends_row cluster ≡ false → 0 < columns_of columns cluster
      → (measured columns text origin).row < 65535 → IsAt base origin page
      → ShowsCluster columns base (fold (after_cluster columns) origin front) cluster (put_text columns page text)
  pub front : (columns base : ℕ) (origin : Position) (page : Page) (text : List ℕ) (row col : ℕ) → IsAt base origin page
      → is_cell_before base origin row col ≡ true → (put_text columns page text).cells row col ≡ page.cells row col
  pub rest : (columns base : ℕ) (origin : Position) (page : Page) (text : List ℕ) (row col : ℕ) → (measured columns text origin).row < 65535
      → IsAt base origin page → is_cell_before base (measured columns text origin) row col ≡ false
      → (put_text columns page text).cells row col ≡ page.cells row col

module _ {P H : Type 0} (p : prompts.Ghosts P) (h : highlighters.Ghosts H) where
  -- after a full redraw the prompt, the line and what stands after it are shown, on rows that begin where those of the drawing before
  -- did, and else in the cursor's row; the rows above stay
  abbrev pub RedrawsShow : Type 0
  RedrawsShow = (columns : ℕ) (wanted : Bool) (old : Option Layout) (handed : Handed P H) (bytes : List ℕ) (t : Terminal) (page : Page)
      → RedrawsInFull p h (measured columns) wanted old handed bytes
      → IsMeasured columns (p.raw_text handed.prompt) handed.line.text handed.behind handed.layout
      → IfSome old (λ l. IsPlace l.cursor) → ShowsPage columns t page
      → (shown : IsShown columns (first_row old page) (p.raw_text handed.prompt) handed.line.text handed.behind handed.layout.cursor (sent columns t bytes))
      × ((row col : ℕ) → row < first_row old page → shown.page.cells row col ≡ page.cells row col)

-- so they are after each call that draws a part
pub record PartsShow : Type 0 where
  -- a move of the cursor
  pub moves : (columns base : ℕ) (prompt text : List ℕ) (behind : Option (List ℕ)) (old new : Position) (t : Terminal)
      → 0 < columns → IsPlace old → IsPlace new → IsShown columns base prompt text behind old t
      → IsShown columns base prompt text behind new (sent columns t (move_bytes old new))
  -- a printable character that is written at the line's end, and is a cluster of its own there
  pub writes : (columns base c : ℕ) (prompt text : List ℕ) (end : Position) (t : Terminal) → IsUtf8 text → is_printable c ≡ true
      → graphemes true (text ++ c ∷ []) ≡ graphemes true text ++ (c ∷ []) ∷ []
      → end ≡ measured columns text (measured columns prompt corner) → end.col < columns → (measured columns (c ∷ []) end).row < 65535
      → IsShown columns base prompt text None end t
      → IsShown columns base prompt (text ++ c ∷ []) None (measured columns (c ∷ []) end)
      (sent columns t (cleaned (c ∷ []) ++ wrap (measured columns) (c ∷ []) end))
  -- a clearing of the rest of the row, where the printable text after the cursor ends there
  pub clears : (columns base : ℕ) (prompt kept gone : List ℕ) (cursor : Position) (t : Terminal)
      → list_all is_printable gone ≡ true → graphemes true (kept ++ gone) ≡ graphemes true kept ++ graphemes true gone
      → cursor ≡ measured columns kept (measured columns prompt corner)
      → (measured columns (kept ++ gone) (measured columns prompt corner)).row ≡ cursor.row → cursor.row < 65535 → cursor.col < columns
      → IsShown columns base prompt (kept ++ gone) None cursor t
      → IsShown columns base prompt kept None cursor (sent columns t clear_row)

-- bytes leave a terminal ready that was ready for them, on any number of columns
abbrev pub KeepsReady : List ℕ → Type 0
KeepsReady bytes = (columns : ℕ) (t : Terminal) → IsReady t → IsReady (sent columns t bytes)

module _ {P H : Type 0} (p : prompts.Ghosts P) (h : highlighters.Ghosts H) where
  -- so do all bytes that a call writes, whatever was measured and by whatever layout
  pub record TerminalsStayReady : Type 0 where
    pub moves : (old new : Position) → IsPlace old → IsPlace new → KeepsReady (move_bytes old new)
    pub texts : (measure : Measure) (text : List ℕ) (origin end : Position) → IsUtf8 text → KeepsReady (cleaned text ++ wrap_ending measure text origin end)
    pub redraws : (measure : Measure) (wanted : Bool) (old : Option Layout) (handed : Handed P H) (bytes : List ℕ) → RedrawsInFull p h measure wanted old handed bytes
        → AreTexts (p.raw_text handed.prompt) handed.line.text handed.behind → IsPlace handed.layout.end → IsPlace handed.layout.cursor
        → IfSome old (λ l. IsPlace l.cursor) → KeepsReady bytes
    pub rows : (cursor : Position) → IsPlace cursor → KeepsReady (bytes.clear_from cursor)
    pub row : KeepsReady bytes.clear_row
    pub screen : KeepsReady bytes.clear_all
    pub line : KeepsReady bytes.row_break
    pub bell : KeepsReady bytes.bell
    pub hold : KeepsReady bytes.hold
    pub release : KeepsReady bytes.release
    pub marked : KeepsReady bytes.paste_marked
    pub typed : KeepsReady bytes.paste_typed
