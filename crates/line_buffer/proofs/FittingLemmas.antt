-- Going back from a line's end to the place that fits.
use Rattle.std.proofs.Common.{ap₂, min, ◌+◌, ◌≡◌, ℕ, ◌-◌, ◌<◌, ◌≤◌, zero, suc, nat_le, Bool, true, false, List, [], ◌∷◌, ◌++◌, length, take, refl, sym, ap, ◌∙◌, subst, arith, length-append}
use Rattle.std.proofs.Math.Seq.{take-append_seam}
use Rattle.std.proofs.lemmas.Str.{IsCharBoundary-from_take}
use Rattle.std.specs.Str.{IsCharBoundary, IsUtf8}
use Rattle.std.proofs.lemmas.Bool.Decides.{nat_tests}
use Rattle.std.proofs.lemmas.List.{length-take, take_all}
use Rattle.std.specs.List.{concat}
use Rattle.line_buffer.proofs.ListLemmas.{concat-append, take_one_less}
use Rattle.line_buffer.specs.Cluster.{clusters}
use Rattle.line_buffer.specs.Lines.{column_in, columns_before, fitting, last_fitting}
use Rattle.unicode_segmentation.proofs.SegmentsLemmas.{concat-segments}
use Rattle.unicode_segmentation.specs.Grapheme.{is_grapheme_break}
use Rattle.line_buffer.specs.Width.{text_width}
use Rattle.line_buffer.specs.Word.{bytes_to}
use Rattle.line_buffer.specs.declared.layout.Layout.{Layout}

-- whether the first i clusters of the line fit
abbrev pub fits : Layout → ℕ → List ℕ → ℕ → ℕ → Bool
fits layout start line column i = nat_le (column_in layout start (concat (take i (clusters line)))) column

-- all clusters of the line but the first j were passed, and none of those places fitted
pub record Fitted (layout : Layout) (start : ℕ) (line : List ℕ) (column : ℕ) (rest : List (List ℕ)) : Type 0 where
  pub j : ℕ
  pub within : j ≤ length (clusters line)
  pub rest_is : rest ≡ take j (clusters line)
  pub same : last_fitting (fits layout start line column) (length (clusters line)) ≡ last_fitting (fits layout start line column) j

pub fitted-start : (layout : Layout) (start : ℕ) (line : List ℕ) (column : ℕ) → Fitted layout start line column (clusters line)
fitted-start layout start line column = record {
  j = length (clusters line);
  within = omega arith;
  rest_is = sym (take_all (length (clusters line)) (clusters line) (omega arith));
  same = refl;
}

pub le_test : (a b : ℕ) → a ≤ b → nat_le a b ≡ true
le_test a b h = grind (arith, nat_tests)

pub lt_test : (a b : ℕ) → b < a → nat_le a b ≡ false
lt_test a b h = grind (arith, nat_tests)

pub last_fitting-yes : (p : ℕ → Bool) (m : ℕ) → p m ≡ true → last_fitting p m ≡ m
last_fitting-yes p zero h = refl
last_fitting-yes p (suc m) h = rw h refl

pub last_fitting-no : (p : ℕ → Bool) (m : ℕ) → p (suc m) ≡ false → last_fitting p (suc m) ≡ last_fitting p m
last_fitting-no p m h = rw h refl

pub fitted-found : (layout : Layout) (start : ℕ) (line : List ℕ) (column : ℕ) (rest : List (List ℕ)) → Fitted layout start line column rest
    → column_in layout start (concat rest) ≤ column → length (concat rest) ≡ fitting layout start line column
fitted-found layout start line column rest f h =
    let same : column_in layout start (concat (take f.j (clusters line))) ≡ column_in layout start (concat rest) = ap (λ ps. column_in layout start (concat ps)) (sym f.rest_is) in
    let fit : fits layout start line column f.j ≡ true = le_test _ _ (rw same h) in
    ap (λ ps. length (concat ps)) f.rest_is ∙ ap (bytes_to (clusters line)) (sym (f.same ∙ last_fitting-yes (fits layout start line column) f.j fit))

last_fitted : {A : Type 0} (j : ℕ) (xs ys : List A) (x : A) → take j xs ≡ ys ++ x ∷ [] → 0 < j
last_fitted zero xs ys x e = absurd (omega (arith, ap length e, length-append ys (x ∷ [])))
last_fitted (suc j) xs ys x e = omega arith

pub fitted-next : (layout : Layout) (start : ℕ) (line : List ℕ) (column : ℕ) (rest rest' : List (List ℕ)) (cluster : List ℕ) → Fitted layout start line column rest
    → column < column_in layout start (concat rest) → rest ≡ rest' ++ cluster ∷ [] → Fitted layout start line column rest'
fitted-next layout start line column rest rest' cluster f h e =
    let cs = clusters line in
    let taken : take f.j cs ≡ rest' ++ cluster ∷ [] = sym f.rest_is ∙ e in
    let within = f.within in
    let some : 0 < f.j = last_fitted f.j cs rest' cluster taken in
    let one : f.j ≡ suc (f.j - 1) = omega arith in
    let same : column_in layout start (concat (take f.j cs)) ≡ column_in layout start (concat rest) = ap (λ ps. column_in layout start (concat ps)) (sym f.rest_is) in
    let past : fits layout start line column f.j ≡ false = lt_test _ _ (rw same h) in
    record {
      j = f.j - 1;
      within = omega arith;
      rest_is = sym (take_one_less f.j cs rest' cluster taken within);
      same = f.same ∙ ap (last_fitting (fits layout start line column)) one
          ∙ last_fitting-no (fits layout start line column) (f.j - 1) (sym (ap (fits layout start line column) one) ∙ past);
    }

last_fitting-below : (p : ℕ → Bool) (m : ℕ) → m ≡ 0 → last_fitting p m ≡ 0
last_fitting-below p m h = rw h refl

pub fitted-none : (layout : Layout) (start : ℕ) (line : List ℕ) (column : ℕ) (rest : List (List ℕ)) → Fitted layout start line column rest → rest ≡ []
    → 0 ≡ fitting layout start line column
fitted-none layout start line column rest f e =
    let within = f.within in
    let none : f.j ≡ 0 = omega (arith, ap length (sym f.rest_is ∙ e), length-take f.j (clusters line)) in
    sym (ap (bytes_to (clusters line)) (f.same ∙ last_fitting-below (fits layout start line column) f.j none))

-- the text without its last cluster is a text of it
pub shorter : (text front : List ℕ) (rest rest' : List (List ℕ)) (cluster : List ℕ) → IsUtf8 text → IsUtf8 front
    → text ≡ concat rest → front ≡ concat rest' → rest ≡ rest' ++ cluster ∷ [] → IsCharBoundary text (length front) × (take (length front) text ≡ front)
shorter text front rest rest' cluster u v e f g =
    let cut : text ≡ front ++ concat (cluster ∷ []) = e ∙ ap concat g ∙ concat-append rest' (cluster ∷ []) ∙ ap (λ xs. xs ++ concat (cluster ∷ [])) (sym f) in
    let first : take (length front) text ≡ front = ap (take (length front)) cut ∙ take-append_seam front (concat (cluster ∷ [])) in
    let within : length front ≤ length text = omega (arith, ap length cut, length-append front (concat (cluster ∷ []))) in
    (IsCharBoundary-from_take text (length front) u within (subst IsUtf8 (sym first) v), first)

-- the column that is compared is that of the clusters that are left
pub column_left : (layout : Layout) (start before capped columns : ℕ) (rest : List (List ℕ)) → before ≡ columns_before layout start → capped ≡ min columns 65535
    → columns ≡ text_width layout.grapheme_cluster_mode (concat rest) → before + capped ≡ column_in layout start (concat rest)
column_left layout start before capped columns rest b m e = ap₂ (λ x y. x + y) b (m ∙ ap (λ n. min n 65535) e)

pub columns-start : (layout : Layout) (line : List ℕ) (columns : ℕ) (rest : List (List ℕ)) → IsUtf8 line → rest ≡ clusters line
    → columns ≡ text_width layout.grapheme_cluster_mode line → columns ≡ text_width layout.grapheme_cluster_mode (concat rest)
columns-start layout line columns rest u e h = h ∙ ap (text_width layout.grapheme_cluster_mode) (sym (ap concat e ∙ concat-segments (is_grapheme_break true) line u))
