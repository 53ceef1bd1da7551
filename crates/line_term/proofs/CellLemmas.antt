-- Which cells a text changes that is put down: those from the old cursor to the new one.
use Rattle.std.proofs.Common.{◌≡◌, ℕ, ◌+◌, ◌==◌, ◌||◌, ◌&&◌, nat_le, nat_lt, Bool, true, false, cond, List, [], ◌∷◌, map, refl, ap, ap₂, ◌∙◌, arith}
use Rattle.std.specs.Prelude.{chars, encode_utf8_all}
use Rattle.std.specs.List.{fold}
use Rattle.std.proofs.lemmas.Bool.Decides.{nat_tests}
use Rattle.unicode_segmentation.specs.Grapheme.{graphemes}
use Rattle.line_buffer.specs.declared.layout.Position.{Position}
use Rattle.line_screen.specs.Measure.{columns_of, ends_row}
use Rattle.line_term.specs.Drawn.{visible_char}
use Rattle.line_term.specs.Page.{IsAt, Page, begun, below, continued, put_down, put_text, unwaiting, cluster_shown}
use Rattle.line_term.specs.Shown.{is_cell_before}

-- a cell stands before the cursor of a page
abbrev pub before : Page → ℕ → ℕ → Bool
before page r k = nat_lt r page.row || ((r == page.row) && nat_lt k page.col)

-- ---- what is put down changes the cells from the old cursor to the new one

abbrev pub covers : Page → ℕ → ℕ → ℕ → Bool
covers page width r k = (r == page.row) && (nat_le page.col k && nat_lt k (page.col + width))

pub shown-cell : (width : ℕ) (shown : List ℕ) (page : Page) (r k : ℕ) → covers page width r k ≡ false → (cluster_shown width shown page).cells r k ≡ page.cells r k
shown-cell width shown page r k no_cover = ap (λ b. cond b (cond (k == page.col) (begun shown) continued) (page.cells r k)) no_cover

-- a cell before the cursor stays, and stands before it
pub record Stays (page next : Page) (r k : ℕ) : Type 0 where
  pub same : next.cells r k ≡ page.cells r k
  pub before : before next r k ≡ true

stays-below : (page : Page) (r k : ℕ) → before page r k ≡ true → Stays page (below page) r k
stays-below page r k is = record { same = refl; before = grind (arith, nat_tests) }

stays-shown : (width : ℕ) (shown : List ℕ) (page : Page) (r k : ℕ) → before page r k ≡ true → Stays page (cluster_shown width shown page) r k
stays-shown width shown page r k is =
    let no_cover : covers page width r k ≡ false = grind (arith, nat_tests) in
    record { same = shown-cell width shown page r k no_cover; before = grind (arith, nat_tests) }

stays-down : (columns : ℕ) (page : Page) (piece : List ℕ) (r k : ℕ) → before page r k ≡ true → Stays page (put_down columns page piece) r k
stays-down columns page piece r k is = by_cases (ends_row piece) (nat_le (page.col + columns_of columns piece) columns) where
  width : ℕ
  width = columns_of columns piece

  shown : List ℕ
  shown = encode_utf8_all (map visible_char (chars piece))

  by_cases : (e b : Bool) → Stays page (cond e (below page) (cluster_shown width shown (cond b page (below page)))) r k
  by_cases true b = stays-below page r k is
  by_cases false true = stays-shown width shown page r k is
  by_cases false false =
      let first = stays-below page r k is in
      let then = stays-shown width shown (below page) r k first.before in
      record { same = then.same ∙ first.same; before = then.before }

pub stays-pieces : (columns : ℕ) (page : Page) (pieces : List (List ℕ)) (r k : ℕ) → before page r k ≡ true → Stays page (fold (put_down columns) page pieces) r k
stays-pieces columns page [] r k is = record { same = refl; before = is }
stays-pieces columns page (piece ∷ pieces) r k is =
    let first = stays-down columns page piece r k is in
    let then = stays-pieces columns (put_down columns page piece) pieces r k first.before in
    record { same = then.same ∙ first.same; before = then.before }

-- so does one that is not before the new cursor, and it was not before the old one
pub record Untouched (page next : Page) (r k : ℕ) : Type 0 where
  pub same : next.cells r k ≡ page.cells r k
  pub behind : before page r k ≡ false

untouched-below : (page : Page) (r k : ℕ) → before (below page) r k ≡ false → Untouched page (below page) r k
untouched-below page r k is = record { same = refl; behind = grind (arith, nat_tests) }

untouched-shown : (width : ℕ) (shown : List ℕ) (page : Page) (r k : ℕ) → before (cluster_shown width shown page) r k ≡ false → Untouched page (cluster_shown width shown page) r k
untouched-shown width shown page r k is =
    let no_cover : covers page width r k ≡ false = grind (arith, nat_tests) in
    record { same = shown-cell width shown page r k no_cover; behind = grind (arith, nat_tests) }

untouched-down : (columns : ℕ) (page : Page) (piece : List ℕ) (r k : ℕ) → before (put_down columns page piece) r k ≡ false → Untouched page (put_down columns page piece) r k
untouched-down columns page piece r k is = by_cases (ends_row piece) (nat_le (page.col + columns_of columns piece) columns) is where
  width : ℕ
  width = columns_of columns piece

  shown : List ℕ
  shown = encode_utf8_all (map visible_char (chars piece))

  by_cases : (e b : Bool) → before (cond e (below page) (cluster_shown width shown (cond b page (below page)))) r k ≡ false
      → Untouched page (cond e (below page) (cluster_shown width shown (cond b page (below page)))) r k
  by_cases true b is = untouched-below page r k is
  by_cases false true is = untouched-shown width shown page r k is
  by_cases false false is =
      let last = untouched-shown width shown (below page) r k is in
      let first = untouched-below page r k last.behind in
      record { same = last.same ∙ first.same; behind = first.behind }

untouched-pieces : (columns : ℕ) (page : Page) (pieces : List (List ℕ)) (r k : ℕ) → before (fold (put_down columns) page pieces) r k ≡ false
    → Untouched page (fold (put_down columns) page pieces) r k
untouched-pieces columns page [] r k is = record { same = refl; behind = is }
untouched-pieces columns page (piece ∷ pieces) r k is =
    let last = untouched-pieces columns (put_down columns page piece) pieces r k is in
    let first = untouched-down columns page piece r k last.behind in
    record { same = last.same ∙ first.same; behind = first.behind }

untouched-unwaiting : (columns : ℕ) (page : Page) (r k : ℕ) → before (unwaiting columns page) r k ≡ false → Untouched page (unwaiting columns page) r k
untouched-unwaiting columns page r k is = by_full (page.col == columns) is where
  by_full : (full : Bool) → before (cond full (below page) page) r k ≡ false → Untouched page (cond full (below page) page) r k
  by_full true is = untouched-below page r k is
  by_full false is = record { same = refl; behind = is }

pub untouched-text : (columns : ℕ) (page : Page) (text : List ℕ) (r k : ℕ) → before (put_text columns page text) r k ≡ false → Untouched page (put_text columns page text) r k
unfolding put_text
untouched-text columns page text r k is =
    let last = untouched-unwaiting columns (fold (put_down columns) page (graphemes true text)) r k is in
    let first = untouched-pieces columns page (graphemes true text) r k last.behind in
    record { same = last.same ∙ first.same; behind = first.behind }

-- a cell before the place at which the cursor is
pub before-at : (base : ℕ) (place : Position) (page : Page) (r k : ℕ) → IsAt base place page → before page r k ≡ is_cell_before base place r k
before-at base place page r k there = ap₂ (λ row col. nat_lt r row || ((r == row) && nat_lt k col)) there.row there.col

-- a cell before the cursor stays, and is before it then
pub stays-text : (columns : ℕ) (page : Page) (text : List ℕ) (r k : ℕ) → before page r k ≡ true → Stays page (put_text columns page text) r k
unfolding put_text
stays-text columns page text r k is =
    let first = stays-pieces columns page (graphemes true text) r k is in
    by_full ((fold (put_down columns) page (graphemes true text)).col == columns) first
  where
    by_full : (full : Bool) → Stays page (fold (put_down columns) page (graphemes true text)) r k
        → Stays page (cond full (below (fold (put_down columns) page (graphemes true text))) (fold (put_down columns) page (graphemes true text))) r k
    by_full true first =
        let then = stays-below (fold (put_down columns) page (graphemes true text)) r k first.before in
        record { same = then.same ∙ first.same; before = then.before }
    by_full false first = first
