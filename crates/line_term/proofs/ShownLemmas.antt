-- Where the clusters of a text are shown, and what a terminal shows after a part was drawn.
use Rattle.std.proofs.Common.{◌≡◌, ◌<◌, ◌≤◌, ℕ, ◌+◌, min, ◌==◌, ◌&&◌, nat_le, Bool, true, false, cond, List, [], ◌∷◌, ◌++◌, map, Option, None, refl, subst, sym, ap, ap₂, ◌∙◌, arith}
use Rattle.std.specs.Prelude.{IsUtf8, chars, encode_utf8_all}
use Rattle.std.specs.List.{fold, list_all}
use Rattle.std.proofs.lemmas.Bool.{and_parts}
use Rattle.std.proofs.lemmas.Bool.Decides.{nat_tests}
use Rattle.std.proofs.lemmas.List.Sums.{fold-append}
use Rattle.std.proofs.lemmas.Str.{IsUtf8-from_ascii, chars-IsAscii}
use Rattle.std.proofs.lemmas.Str.Ascii.{IsAscii-cons, IsAscii-nil}
use Rattle.unicode_segmentation.specs.Grapheme.{graphemes}
use Rattle.unicode_width.specs.Width.{str_width}
use Rattle.unicode_width.proofs.Rules.{str_width-printable}
use Rattle.line_buffer.specs.Printable.{is_printable}
use Rattle.line_buffer.specs.declared.layout.Position.{Position}
use Rattle.line_buffer.proofs.PlainClusterLemmas.{clusters-plain}
use Rattle.line_keys.specs.Model.Display.{corner}
use Rattle.line_screen.specs.MeasureLaws.{measured-below}
use Rattle.line_screen.specs.Measure.{advanced, after_cluster, columns_of, ends_row, measured, start_below}
use Rattle.line_state.proofs.PlainTextLemmas.{plain_text}
use Rattle.line_term.specs.Drawn.{cleaned, visible_char}
use Rattle.line_term.specs.Escape.{clear_row, move_bytes}
use Rattle.line_term.specs.Laws.{PartsShow, ShowsCluster, TextsAreShown}
use Rattle.line_term.specs.Page.{IsAt, Page, at, begun, below, blank, blank_page, continued, picture, put_cluster, put_down, put_text, unwaiting, cluster_shown}
use Rattle.line_term.specs.Painted.{wrap}
use Rattle.line_term.specs.Shown.{IsPlace, IsShown, first_cell, is_cell_before, within}
use Rattle.line_term.specs.Terminal.{Terminal, sent, without_row}
use Rattle.line_term.proofs.AlikeLemmas.{Alike, alike-text}
use Rattle.line_term.proofs.CellLemmas.{before, before-at, covers, stays-pieces, stays-text, untouched-text}
use Rattle.line_term.proofs.MoveLemmas.{move-turns, row-turns}
use Rattle.line_term.proofs.PrintLemmas.{cluster-last, clusters-at, clusters-last, earlier, text-at, wrapped-row}
use Rattle.line_term.proofs.RedrawLemmas.{in-row, measured-row, texts-arrive}

text-front : (columns base : ℕ) (origin : Position) (page : Page) (text : List ℕ) (row col : ℕ) → IsAt base origin page → is_cell_before base origin row col ≡ true
    → (put_text columns page text).cells row col ≡ page.cells row col
text-front columns base origin page text row col there is = (stays-text columns page text row col (before-at base origin page row col there ∙ is)).same

-- the rest of what is shown stays
text-rest : (columns base : ℕ) (origin : Position) (page : Page) (text : List ℕ) (row col : ℕ) → (measured columns text origin).row < 65535
    → IsAt base origin page → is_cell_before base (measured columns text origin) row col ≡ false → (put_text columns page text).cells row col ≡ page.cells row col
text-rest columns base origin page text row col last there behind =
    (untouched-text columns page text row col (before-at base (measured columns text origin) (put_text columns page text) row col (text-at columns base origin page text there last) ∙ behind)).same

-- ---- a cluster is shown in its cells

-- the cells of waiting pages
unwaiting-cells : (columns : ℕ) (page : Page) (r k : ℕ) → (unwaiting columns page).cells r k ≡ page.cells r k
unwaiting-cells columns page r k = by_full (page.col == columns) where
  by_full : (full : Bool) → (cond full (below page) page).cells r k ≡ page.cells r k
  by_full true = refl
  by_full false = refl

-- where it is put down
abbrev from_page : ℕ → Page → ℕ → Page
from_page columns page width = cond (nat_le (page.col + width) columns) page (below page)

from-at : (columns base width : ℕ) (p : Position) (page : Page) → IsAt base p page → (first_cell columns width p).row < 65535
    → IsAt base (first_cell columns width p) (from_page columns page width)
from-at columns base width p page there last = by_room (nat_le (page.col + width) columns) (nat_le (p.col + width) columns) (ap (λ (c : ℕ). nat_le (c + width) columns) there.col) last where
  by_room : (x y : Bool) → x ≡ y → (cond y p (start_below p)).row < 65535 → IsAt base (cond y p (start_below p)) (cond x page (below page))
  by_room true true same last = there
  by_room false false same last = record { row = omega (arith, last, there.row); col = refl }
  by_room true false same last = absurd (cc)
  by_room false true same last = absurd (cc)

shown-begun : (width : ℕ) (shown : List ℕ) (page : Page) → 0 < width → (cluster_shown width shown page).cells page.row page.col ≡ begun shown
shown-begun width shown page some =
    let cover : covers page width page.row page.col ≡ true = grind (arith, nat_tests) in
    let first : (page.col == page.col) ≡ true = grind (arith, nat_tests) in
    ap (λ b. cond b (cond (page.col == page.col) (begun shown) continued) (page.cells page.row page.col)) cover ∙ ap (λ b. cond b (begun shown) continued) first

shown-continued : (width k : ℕ) (shown : List ℕ) (page : Page) → page.col < k → k < page.col + width → (cluster_shown width shown page).cells page.row k ≡ continued
shown-continued width k shown page from to =
    let cover : covers page width page.row k ≡ true = grind (arith, nat_tests) in
    let other : (k == page.col) ≡ false = grind (arith, nat_tests) in
    ap (λ b. cond b (cond (k == page.col) (begun shown) continued) (page.cells page.row k)) cover ∙ ap (λ b. cond b (begun shown) continued) other

shown-before : (width k : ℕ) (shown : List ℕ) (page : Page) → k < page.col + width → before (cluster_shown width shown page) page.row k ≡ true
shown-before width k shown page to = grind (arith, nat_tests)

-- a cluster begins above the last row where it ends there
first-row : (columns width : ℕ) (p : Position) (piece : List ℕ) → ends_row piece ≡ false → (cond (ends_row piece) (start_below p) (advanced columns width p)).row < 65535
    → (first_cell columns width p).row < 65535
first-row columns width p piece in_row last =
    by_room (nat_le (p.col + width) columns) (subst (λ b. (cond b (start_below p) (advanced columns width p)).row < 65535) in_row last)
  where
    by_room : (b : Bool) → (cond b (record p { col = p.col + width }) (record (start_below p) { col = width })).row < 65535 → (cond b p (start_below p)).row < 65535
    by_room true last = last
    by_room false last = last

-- a cluster that is put down is shown
cluster-shown : (columns base : ℕ) (p : Position) (page : Page) (piece : List ℕ) → ends_row piece ≡ false → 0 < columns_of columns piece
    → (after_cluster columns p piece).row < 65535 → IsAt base p page → ShowsCluster columns base p piece (put_down columns page piece)
cluster-shown columns base p page piece in_row some last there =
    let width = columns_of columns piece in
    let shown = encode_utf8_all (map visible_char (chars piece)) in
    let from = from_page columns page width in
    let done : put_down columns page piece ≡ cluster_shown width shown from = ap (λ b. cond b (below page) (put_cluster columns page width shown)) in_row in
    let at_first = from-at columns base width p page there (first-row columns width p piece in_row last) in
    subst (ShowsCluster columns base p piece) (sym done) (
      ap₂ (λ r k. (cluster_shown width shown from).cells r k) (sym at_first.row) (sym at_first.col) ∙ shown-begun width shown from some,
      λ k after within. ap (λ r. (cluster_shown width shown from).cells r k) (sym at_first.row)
          ∙ shown-continued width k shown from (omega (arith, at_first.col, after)) (omega (arith, at_first.col, within)),
    )

-- and stays so, whatever comes behind it
cluster-kept : (columns base : ℕ) (p : Position) (page next : Page) (piece : List ℕ) → ends_row piece ≡ false → (after_cluster columns p piece).row < 65535
    → IsAt base p page → ((r k : ℕ) → before (put_down columns page piece) r k ≡ true → next.cells r k ≡ (put_down columns page piece).cells r k)
    → 0 < columns_of columns piece → ShowsCluster columns base p piece (put_down columns page piece) → ShowsCluster columns base p piece next
cluster-kept columns base p page next piece in_row last there keeps some shows =
    let width = columns_of columns piece in
    let shown = encode_utf8_all (map visible_char (chars piece)) in
    let from = from_page columns page width in
    let place = first_cell columns width p in
    let done : put_down columns page piece ≡ cluster_shown width shown from = ap (λ b. cond b (below page) (put_cluster columns page width shown)) in_row in
    let at_first = from-at columns base width p page there (first-row columns width p piece in_row last) in
    let is_kept : (k : ℕ) → k < place.col + width → before (put_down columns page piece) (base + place.row) k ≡ true =
    λ k within. ap₂ (λ q r. before q r k) done (sym at_first.row) ∙ shown-before width k shown from (omega (arith, at_first.col, within)) in (
      keeps (base + place.row) place.col (is_kept place.col (omega (arith, some))) ∙ shows.0,
      λ k after within. keeps (base + place.row) k (is_kept k within) ∙ shows.1 k after within,
    )

text-cluster : (columns base : ℕ) (origin : Position) (page : Page) (text : List ℕ) (front : List (List ℕ)) (piece : List ℕ) (back : List (List ℕ))
    → graphemes true text ≡ front ++ piece ∷ back → ends_row piece ≡ false → 0 < columns_of columns piece
    → (measured columns text origin).row < 65535 → IsAt base origin page
    → ShowsCluster columns base (fold (after_cluster columns) origin front) piece (put_text columns page text)
unfolding measured put_text
text-cluster columns base origin page text front piece back parts in_row some last there =
    let p = fold (after_cluster columns) origin front in
    let q = after_cluster columns p piece in
    let first = fold (put_down columns) page front in
    let whole = wrapped-row columns (fold (after_cluster columns) origin (graphemes true text)) last in
    let split : fold (after_cluster columns) origin (graphemes true text) ≡ fold (after_cluster columns) q back =
    ap (fold (after_cluster columns) origin) parts ∙ fold-append (after_cluster columns) origin front (piece ∷ back) in
    let ends : (fold (after_cluster columns) q back).row < 65535 = omega (arith, whole, ap (λ (r : Position). r.row) split) in
    let last_q : q.row < 65535 = earlier q.row (fold (after_cluster columns) q back).row (clusters-last columns q back) ends in
    let last_p : p.row < 65535 = earlier p.row q.row (cluster-last columns p piece) last_q in
    let at_p = clusters-at columns base origin page front there last_p in
    let put : fold (put_down columns) page (graphemes true text) ≡ fold (put_down columns) (put_down columns first piece) back =
    ap (fold (put_down columns) page) parts ∙ fold-append (put_down columns) page front (piece ∷ back) in
    cluster-kept columns base p first (put_text columns page text) piece in_row last_q at_p
    (λ r k is. unwaiting-cells columns (fold (put_down columns) page (graphemes true text)) r k ∙ ap (λ (s : Page). s.cells r k) put
    ∙ (stays-pieces columns (put_down columns first piece) back r k is).same)
    some (cluster-shown columns base p first piece in_row some last_q at_p)

pub texts-are-shown : TextsAreShown
texts-are-shown = record { clusters = text-cluster; front = text-front; rest = text-rest }

-- ---- after a part was drawn

moves : (columns base : ℕ) (prompt text : List ℕ) (behind : Option (List ℕ)) (old new : Position) (t : Terminal)
    → 0 < columns → IsPlace old → IsPlace new → IsShown columns base prompt text behind old t
    → IsShown columns base prompt text behind new (sent columns t (move_bytes old new))
moves columns base prompt text behind old new t some from to shown = record {
  page = at (base + new.row) (within columns new).col shown.page;
  shows = move-turns columns base old new t shown.page some shown.at (omega (arith, from.0)) (omega (arith, to.0)) (omega (arith, to.1)) shown.shows;
  at = record { row = refl; col = refl };
  cells = shown.cells;
}

-- a cursor whose place is in a row stands there
stands-at : (columns base : ℕ) (place : Position) (page : Page) → place.col < columns → IsAt base (within columns place) page → IsAt base place page
stands-at columns base place page room there = record { row = there.row; col = omega (arith, room, there.col) }

-- a printable character is a cluster of one column
one-cluster : (c : ℕ) → is_printable c ≡ true → graphemes true (c ∷ []) ≡ (c ∷ []) ∷ []
one-cluster c print = clusters-plain (c ∷ []) (plain_text (c ∷ []) (ap (λ b. b && true) print))

one-column : (columns c : ℕ) → is_printable c ≡ true → columns_of columns (c ∷ []) ≡ min 1 columns
one-column columns c print =
    let low : c < 128 = grind (arith, nat_tests) in
    ap (λ n. min n columns) (ap (str_width false) (chars-IsAscii (c ∷ []) (IsAscii-cons c [] low IsAscii-nil)) ∙ str_width-printable false (c ∷ []) (ap (λ b. b && true) print))

one-in-row : (c : ℕ) → is_printable c ≡ true → ends_row (c ∷ []) ≡ false
one-in-row c print = grind (arith, nat_tests)

-- it comes to the same cell, whether the cursor waits or has gone to the next row
unwaiting-put : (columns c : ℕ) (page : Page) → is_printable c ≡ true → 0 < columns
    → put_down columns (unwaiting columns page) (c ∷ []) ≡ put_down columns page (c ∷ [])
unwaiting-put columns c page print some = by_full (page.col == columns) refl where
  shown : List ℕ
  shown = encode_utf8_all (map visible_char (chars (c ∷ [])))

  down : (p : Page) → put_down columns p (c ∷ []) ≡ cluster_shown (min 1 columns) shown (cond (nat_le (p.col + min 1 columns) columns) p (below p))
  down p = ap (λ b. cond b (below p) (put_cluster columns p (columns_of columns (c ∷ [])) shown)) (one-in-row c print) ∙ ap (λ n. put_cluster columns p n shown) (one-column columns c print)

  by_full : (full : Bool) → (page.col == columns) ≡ full → put_down columns (cond full (below page) page) (c ∷ []) ≡ put_down columns page (c ∷ [])
  by_full false is = refl
  by_full true is =
      let fits : nat_le (0 + min 1 columns) columns ≡ true = grind (arith, nat_tests) in
      let full : nat_le (page.col + min 1 columns) columns ≡ false = grind (arith, nat_tests) in
      down (below page) ∙ ap (λ b. cluster_shown (min 1 columns) shown (cond b (below page) (below (below page)))) fits
      ∙ sym (down page ∙ ap (λ b. cluster_shown (min 1 columns) shown (cond b page (below page))) full)

-- a text with one more such cluster at its end
put-more : (columns c : ℕ) (page : Page) (text : List ℕ) → is_printable c ≡ true → 0 < columns → graphemes true (text ++ c ∷ []) ≡ graphemes true text ++ (c ∷ []) ∷ []
    → put_text columns (put_text columns page text) (c ∷ []) ≡ put_text columns page (text ++ c ∷ [])
unfolding put_text
put-more columns c page text print some parts =
    ap (λ ps. unwaiting columns (fold (put_down columns) (unwaiting columns (fold (put_down columns) page (graphemes true text))) ps)) (one-cluster c print)
    ∙ ap (unwaiting columns) (unwaiting-put columns c (fold (put_down columns) page (graphemes true text)) print some)
    ∙ sym (ap (λ ps. unwaiting columns (fold (put_down columns) page ps)) parts
    ∙ ap (unwaiting columns) (fold-append (put_down columns) page (graphemes true text) ((c ∷ []) ∷ [])))

-- where prompt and line are measured to end, their picture has its cursor
prompt-at : (columns base : ℕ) (prompt : List ℕ) → (measured columns prompt corner).row < 65535
    → IsAt base (measured columns prompt corner) (put_text columns (blank_page base) prompt)
prompt-at columns base prompt last = text-at columns base corner (blank_page base) prompt (record { row = omega arith; col = refl }) last

line-at : (columns base : ℕ) (prompt text : List ℕ) → (measured columns text (measured columns prompt corner)).row < 65535
    → IsAt base (measured columns text (measured columns prompt corner)) (picture columns (blank_page base) prompt text None)
line-at columns base prompt text last =
    text-at columns base (measured columns prompt corner) (put_text columns (blank_page base) prompt) text
    (prompt-at columns base prompt (measured-row columns (measured columns prompt corner) text last)) last

writes : (columns base c : ℕ) (prompt text : List ℕ) (end : Position) (t : Terminal) → IsUtf8 text → is_printable c ≡ true
    → graphemes true (text ++ c ∷ []) ≡ graphemes true text ++ (c ∷ []) ∷ []
    → end ≡ measured columns text (measured columns prompt corner) → end.col < columns → (measured columns (c ∷ []) end).row < 65535
    → IsShown columns base prompt text None end t
    → IsShown columns base prompt (text ++ c ∷ []) None (measured columns (c ∷ []) end) (sent columns t (cleaned (c ∷ []) ++ wrap (measured columns) (c ∷ []) end))
writes columns base c prompt text end t utf8 print parts is room last shown =
    let last_end = measured-row columns end (c ∷ []) last in
    let drawn = picture columns (blank_page base) prompt text None in
    let there : IsAt base end drawn = subst (λ q. IsAt base q drawn) (sym is) (line-at columns base prompt text (omega (arith, last_end, ap (λ (q : Position). q.row) is))) in
    let stands = stands-at columns base end shown.page room shown.at in
    let alike : Alike base shown.page drawn = record { row = stands.row ∙ sym there.row; col = stands.col ∙ sym there.col; cells = shown.cells } in
    let done = texts-arrive columns base end (c ∷ []) t shown.page (one-utf8 c print) room last stands shown.shows in
    record {
      page = put_text columns shown.page (c ∷ []);
      shows = done.0;
      at = in-row columns base (measured columns (c ∷ []) end) (put_text columns shown.page (c ∷ [])) (measured-below columns (c ∷ []) end room) done.1;
      cells = λ row col from. (alike-text columns base shown.page drawn (c ∷ []) alike).cells row col from
          ∙ ap (λ (p : Page). p.cells row col) (put-more columns c (put_text columns (blank_page base) prompt) text print (omega (arith, room)) parts);
    }
  where
    one-utf8 : (c : ℕ) → is_printable c ≡ true → IsUtf8 (c ∷ [])
    one-utf8 c print = let low : c < 128 = grind (arith, nat_tests) in IsUtf8-from_ascii (c ∷ []) (IsAscii-cons c [] low IsAscii-nil)

-- nothing is shown behind a picture
blank-behind : (columns base : ℕ) (prompt text : List ℕ) (r k : ℕ) → before (picture columns (blank_page base) prompt text None) r k ≡ false
    → (picture columns (blank_page base) prompt text None).cells r k ≡ blank
blank-behind columns base prompt text r k is =
    let line = untouched-text columns (put_text columns (blank_page base) prompt) text r k is in
    line.same ∙ (untouched-text columns (blank_page base) prompt r k line.behind).same

-- printable characters are put down in the same cells, whether the cursor waits or has gone to the next row
waiting-cells : (columns : ℕ) (page : Page) (gone : List ℕ) (r k : ℕ) → list_all is_printable gone ≡ true → 0 < columns
    → (fold (put_down columns) (unwaiting columns page) (graphemes true gone)).cells r k ≡ (fold (put_down columns) page (graphemes true gone)).cells r k
waiting-cells columns page gone r k print some =
    let singles = clusters-plain gone (plain_text gone print) in
    ap (λ ps. (fold (put_down columns) (unwaiting columns page) ps).cells r k) singles ∙ each gone print
    ∙ sym (ap (λ ps. (fold (put_down columns) page ps).cells r k) singles)
  where
    each : (gone : List ℕ) → list_all is_printable gone ≡ true
        → (fold (put_down columns) (unwaiting columns page) (map (λ c. c ∷ []) gone)).cells r k ≡ (fold (put_down columns) page (map (λ c. c ∷ []) gone)).cells r k
    each [] print = unwaiting-cells columns page r k
    each (c ∷ cs) print = ap (λ p. (fold (put_down columns) p (map (λ c. c ∷ []) cs)).cells r k) (unwaiting-put columns c page (and_parts _ _ print).0 some)

-- a text before another one is shown as it is without that
front-cells : (columns : ℕ) (page : Page) (kept gone : List ℕ) (r k : ℕ) → list_all is_printable gone ≡ true → 0 < columns
    → graphemes true (kept ++ gone) ≡ graphemes true kept ++ graphemes true gone → before (put_text columns page kept) r k ≡ true
    → (put_text columns page (kept ++ gone)).cells r k ≡ (put_text columns page kept).cells r k
unfolding put_text
front-cells columns page kept gone r k print some parts is =
    let first = fold (put_down columns) page (graphemes true kept) in
    unwaiting-cells columns (fold (put_down columns) page (graphemes true (kept ++ gone))) r k
    ∙ ap (λ (p : Page). p.cells r k) (ap (fold (put_down columns) page) parts ∙ fold-append (put_down columns) page (graphemes true kept) (graphemes true gone))
    ∙ sym (waiting-cells columns first gone r k print some)
    ∙ (stays-pieces columns (unwaiting columns first) (graphemes true gone) r k is).same

clears : (columns base : ℕ) (prompt kept gone : List ℕ) (cursor : Position) (t : Terminal) → list_all is_printable gone ≡ true
    → graphemes true (kept ++ gone) ≡ graphemes true kept ++ graphemes true gone
    → cursor ≡ measured columns kept (measured columns prompt corner)
    → (measured columns (kept ++ gone) (measured columns prompt corner)).row ≡ cursor.row → cursor.row < 65535 → cursor.col < columns
    → IsShown columns base prompt (kept ++ gone) None cursor t → IsShown columns base prompt kept None cursor (sent columns t clear_row)
clears columns base prompt kept gone cursor t print parts is same_row last room shown =
    record {
      page = without_row shown.page;
      shows = row-turns columns t shown.page (omega (arith, stands.col, room)) shown.shows;
      at = record { row = shown.at.row; col = shown.at.col };
      cells = λ r k from. by_cases r k from (before left r k) ((r == shown.page.row) && nat_le shown.page.col k) refl refl;
    }
  where
    stands : IsAt base cursor shown.page
    stands = stands-at columns base cursor shown.page room shown.at

    whole : Page
    whole = picture columns (blank_page base) prompt (kept ++ gone) None

    left : Page
    left = picture columns (blank_page base) prompt kept None

    left-at : IsAt base cursor left
    left-at = subst (λ q. IsAt base q left) (sym is) (line-at columns base prompt kept (omega (arith, last, ap (λ (q : Position). q.row) is)))

    whole-at : IsAt base (measured columns (kept ++ gone) (measured columns prompt corner)) whole
    whole-at = line-at columns base prompt (kept ++ gone) (omega (arith, last, same_row))

    not-before : (r k : ℕ) → before left r k ≡ true → ((r == shown.page.row) && nat_le shown.page.col k) ≡ false
    not-before r k is = let row = stands.row ∙ sym left-at.row in let col = stands.col ∙ sym left-at.col in grind (arith, nat_tests)

    far-behind : (r k : ℕ) → before left r k ≡ false → ((r == shown.page.row) && nat_le shown.page.col k) ≡ false → before whole r k ≡ false
    far-behind r k is not_here =
        let row = stands.row ∙ sym left-at.row in let col = stands.col ∙ sym left-at.col in
        let end : whole.row ≡ left.row = whole-at.row ∙ ap (λ n. base + n) same_row ∙ sym left-at.row in
        grind (arith, nat_tests)

    by_cases : (r k : ℕ) → base ≤ r → (b c : Bool) → before left r k ≡ b → ((r == shown.page.row) && nat_le shown.page.col k) ≡ c
        → (without_row shown.page).cells r k ≡ left.cells r k
    by_cases r k from true c eb ec =
        ap (λ x. cond x blank (shown.page.cells r k)) (not-before r k eb) ∙ shown.cells r k from
        ∙ front-cells columns (put_text columns (blank_page base) prompt) kept gone r k print (omega (arith, room)) parts eb
    by_cases r k from false true eb ec = ap (λ x. cond x blank (shown.page.cells r k)) ec ∙ sym (blank-behind columns base prompt kept r k eb)
    by_cases r k from false false eb ec =
        ap (λ x. cond x blank (shown.page.cells r k)) ec ∙ shown.cells r k from
        ∙ blank-behind columns base prompt (kept ++ gone) r k (far-behind r k eb ec) ∙ sym (blank-behind columns base prompt kept r k eb)

pub parts-show : PartsShow
parts-show = record { moves = moves; writes = writes; clears = clears }
