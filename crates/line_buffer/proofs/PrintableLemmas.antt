-- The columns of printable ASCII, and the places in a line of it that fit.
use Rattle.std.proofs.Common.{◌≡◌, ℕ, zero, suc, ◌+◌, ◌-◌, ◌≤◌, min, nat_le, Bool, true, false, cond, if◌then◌else◌, ◌&&◌, List, [], ◌∷◌, length, take, refl, ap, ap₂, ◌∙◌, arith}
use Rattle.std.specs.List.{concat, list_all, onto_first, slice_split, sum_by}
use Rattle.std.specs.Str.{chars}
use Rattle.std.proofs.lemmas.Bool.{and_parts}
use Rattle.std.proofs.lemmas.Bool.Decides.{nat_tests}
use Rattle.std.proofs.lemmas.List.{length-take}
use Rattle.std.proofs.lemmas.List.Splits.{slice_split-cons_no}
use Rattle.std.proofs.lemmas.List.Sums.{sum_by-cons}
use Rattle.std.proofs.lemmas.Str.{chars-IsAscii}
use Rattle.unicode_width.specs.Width.{char_width}
use Rattle.unicode_width.proofs.Rules.{str_width-printable}
use Rattle.line_buffer.proofs.PlainClusterLemmas.{IsAscii-plain, clusters-plain, singly}
use Rattle.line_buffer.specs.Cluster.{clusters}
use Rattle.line_buffer.specs.Lines.{column_in, columns_before, fitting, last_fitting}
use Rattle.line_buffer.specs.Printable.{is_plain, is_printable}
use Rattle.line_buffer.specs.Width.{columns_as_one, columns_of_char, is_joiner, text_width}
use Rattle.line_buffer.specs.Word.{bytes_to}
use Rattle.line_buffer.specs.declared.layout.GraphemeClusterMode.{GraphemeClusterMode}
use Rattle.line_buffer.specs.declared.layout.GraphemeClusterMode.TheVariants.{NoZwj, Unicode, WcWidth}
use Rattle.line_buffer.specs.declared.layout.Layout.{Layout}

one_column : (c : ℕ) → is_printable c ≡ true → columns_of_char c ≡ 1
unfolding char_width
one_column c h = grind (arith, nat_tests)

no_joiner : (c : ℕ) → is_printable c ≡ true → is_joiner c ≡ false
no_joiner c h = grind (arith, nat_tests)

plain-one : (c : ℕ) → is_printable c ≡ true → is_plain c ≡ true
plain-one c h = grind (arith, nat_tests)

-- printable ASCII is plain
pub plain-printable : (text : List ℕ) → list_all is_printable text ≡ true → list_all is_plain text ≡ true
plain-printable [] h = refl
plain-printable (c ∷ cs) h =
    let parts = and_parts (is_printable c) (list_all is_printable cs) h in
    ap₂ ◌&&◌ (plain-one c parts.0) (plain-printable cs parts.1)

spelled : (text : List ℕ) → list_all is_printable text ≡ true → chars text ≡ text
spelled text h = chars-IsAscii text (IsAscii-plain text (plain-printable text h))

columns_each : (text : List ℕ) → list_all is_printable text ≡ true → sum_by columns_of_char text ≡ length text
columns_each [] h = refl
columns_each (c ∷ cs) h =
    let parts = and_parts (is_printable c) (list_all is_printable cs) h in
    omega (arith, sum_by-cons columns_of_char c cs, one_column c parts.0, columns_each cs parts.1)

one_piece : (text : List ℕ) → list_all is_printable text ≡ true → slice_split is_joiner text ≡ text ∷ []
one_piece [] h = refl
one_piece (c ∷ cs) h =
    let parts = and_parts (is_printable c) (list_all is_printable cs) h in
    slice_split-cons_no is_joiner c cs (no_joiner c parts.0) ∙ ap (onto_first c) (one_piece cs parts.1)

-- a printable text has as many columns as characters, however they are counted
pub width-printable : (mode : GraphemeClusterMode) (text : List ℕ) → list_all is_printable text ≡ true → text_width mode text ≡ length text
width-printable Unicode text h = ap columns_as_one (spelled text h) ∙ str_width-printable false text h
width-printable WcWidth text h = ap (sum_by columns_of_char) (spelled text h) ∙ columns_each text h
width-printable NoZwj text h =
    let pieces = ap (slice_split is_joiner) (spelled text h) ∙ one_piece text h in
    omega (arith, ap (sum_by columns_as_one) pieces, sum_by-cons columns_as_one text [], str_width-printable false text h)

-- ---- the greatest place that fits

-- the greatest number up to m whose columns, at most the greatest of a screen, are not past a column
pub last_fitting-columns : (p : ℕ → Bool) (before column m : ℕ) → ((i : ℕ) → i ≤ m → p i ≡ nat_le (before + min i 65535) column)
    → last_fitting p m ≡ (if nat_le (before + min m 65535) column then m else column - before)
last_fitting-columns p before column zero h = grind (arith, nat_tests)
last_fitting-columns p before column (suc m) h =
    let here = h (suc m) (omega arith) in
    let below = last_fitting-columns p before column m (λ i le. h i (omega arith)) in
    ap (λ b. cond b (suc m) (last_fitting p m)) here ∙ ap (λ n. cond (nat_le (before + min (suc m) 65535) column) (suc m) n) below
    ∙ grind (arith, nat_tests)

take-singly : (i : ℕ) (text : List ℕ) → concat (take i (singly text)) ≡ take i text
take-singly zero text = refl
take-singly (suc i) [] = refl
take-singly (suc i) (c ∷ cs) = ap (λ t. c ∷ t) (take-singly i cs)

all-take : (i : ℕ) (text : List ℕ) → list_all is_printable text ≡ true → list_all is_printable (take i text) ≡ true
all-take zero text h = refl
all-take (suc i) [] h = refl
all-take (suc i) (c ∷ cs) h =
    let parts = and_parts (is_printable c) (list_all is_printable cs) h in
    ap₂ ◌&&◌ parts.0 (all-take i cs parts.1)

module _ (layout : Layout) (start : ℕ) (line : List ℕ) (column : ℕ) (all : list_all is_printable line ≡ true) where
  first-clusters : (i : ℕ) → concat (take i (clusters line)) ≡ take i line
  first-clusters i = ap (λ cs. concat (take i cs)) (clusters-plain line (plain-printable line all)) ∙ take-singly i line

  column-first : (i : ℕ) → i ≤ length line → column_in layout start (concat (take i (clusters line))) ≡ columns_before layout start + min i 65535
  column-first i within =
      let width = width-printable layout.grapheme_cluster_mode (take i line) (all-take i line all) in
      ap (λ n. columns_before layout start + min n 65535)
      (ap (text_width layout.grapheme_cluster_mode) (first-clusters i) ∙ width ∙ length-take i line ∙ omega arith)

  count-clusters : length (clusters line) ≡ length line
  count-clusters = ap length (clusters-plain line (plain-printable line all)) ∙ length-singly line
    where
      length-singly : (text : List ℕ) → length (singly text) ≡ length text
      length-singly [] = refl
      length-singly (c ∷ cs) = ap suc (length-singly cs)

  -- in a printable line it is as many characters as columns are left, or all
  pub fitting-printable : fitting layout start line column
      ≡ (if nat_le (columns_before layout start + min (length line) 65535) column then length line else column - columns_before layout start)
  fitting-printable =
      let before = columns_before layout start in
      let fits : ℕ → Bool = λ i. nat_le (column_in layout start (concat (take i (clusters line)))) column in
      let last = last_fitting-columns fits before column (length line) (λ i le. ap (λ n. nat_le n column) (column-first i le)) in
      ap (λ m. bytes_to (clusters line) (last_fitting fits m)) count-clusters
      ∙ ap (bytes_to (clusters line)) last
      ∙ bytes (if nat_le (before + min (length line) 65535) column then length line else column - before) (grind (arith, nat_tests))
    where
      bytes : (k : ℕ) → k ≤ length line → bytes_to (clusters line) k ≡ k
      bytes k within = ap length (first-clusters k) ∙ length-take k line ∙ omega arith
