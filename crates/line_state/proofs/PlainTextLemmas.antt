-- Facts on printable ASCII, and on where it ends.
use Rattle.std.proofs.Common.{◌≡◌, ℕ, zero, suc, ◌+◌, ◌-◌, ◌<◌, ◌≤◌, Bool, true, ◌&&◌, List, [], ◌∷◌, ◌++◌, length, take, drop, refl, sym, ap, ap₂, ◌∙◌, subst, arith}
use Rattle.std.specs.List.{list_all, slice_range}
use Rattle.std.specs.Prelude.{Result, Ok, Err, Some}
use Rattle.std.specs.Result.{OkIff, result_ok}
use Rattle.std.proofs.lemmas.Bool.{and_parts}
use Rattle.std.proofs.lemmas.Bool.Decides.{nat_tests}
use Rattle.std.proofs.lemmas.List.{append-nil, append_assoc, drop_all, take-append-drop}
use Rattle.std.proofs.lemmas.List.Folds.{list_all-append}
use Rattle.line_buffer.specs.Printable.{is_plain, is_printable}
use Rattle.line_buffer.specs.declared.layout.Position.{Position}
use Rattle.line_keys.specs.Model.Display.{columns_back, columns_on, next_column}

-- what holds of all of a text holds of its parts, and the other way round
pub all_parts : (p : ℕ → Bool) (xs ys : List ℕ) → list_all p (xs ++ ys) ≡ true → (list_all p xs ≡ true) × (list_all p ys ≡ true)
all_parts p xs ys all = and_parts (list_all p xs) (list_all p ys) (sym (list_all-append p xs ys) ∙ all)

pub all_both : (p : ℕ → Bool) (xs ys : List ℕ) → list_all p xs ≡ true → list_all p ys ≡ true → list_all p (xs ++ ys) ≡ true
all_both p xs ys first second = list_all-append p xs ys ∙ ap₂ ◌&&◌ first second

pub all_one : (p : ℕ → Bool) (c : ℕ) → p c ≡ true → list_all p (c ∷ []) ≡ true
all_one p c is = ap (λ b. b && true) is

-- a printable character is plain
pub plain_char : (c : ℕ) → is_printable c ≡ true → is_plain c ≡ true
plain_char c print = grind (arith, nat_tests)

pub plain_text : (xs : List ℕ) → list_all is_printable xs ≡ true → list_all is_plain xs ≡ true
plain_text [] all = refl
plain_text (c ∷ cs) all =
    let parts = and_parts (is_printable c) (list_all is_printable cs) all in
    ap₂ ◌&&◌ (plain_char c parts.0) (plain_text cs parts.1)

-- what holds of a text holds of what is left behind more of it
pub all_behind : (p : ℕ → Bool) (n : ℕ) (xs : List ℕ) → list_all p xs ≡ true → list_all p (drop n xs) ≡ true
all_behind p n xs all = (all_parts p (take n xs) (drop n xs) (ap (list_all p) (take-append-drop n xs) ∙ all)).1

pub all_before : (p : ℕ → Bool) (n : ℕ) (xs : List ℕ) → list_all p xs ≡ true → list_all p (take n xs) ≡ true
all_before p n xs all = (all_parts p (take n xs) (drop n xs) (ap (list_all p) (take-append-drop n xs) ∙ all)).0

-- fewer characters at the end hold where more do
pub fewer_at_end : (p : ℕ → Bool) (less more : ℕ) (xs : List ℕ) → less ≤ more → more ≤ length xs
    → list_all p (drop (length xs - more) xs) ≡ true → list_all p (drop (length xs - less) xs) ≡ true
fewer_at_end p less more xs within fits all =
    subst (λ (zs : List ℕ). list_all p zs ≡ true) (dropped (length xs - more) (more - less) (length xs - less) xs (omega (arith, within, fits))) (all_behind p (more - less) (drop (length xs - more) xs) all)
  where
    drop_nothing : (n : ℕ) → drop {A = ℕ} n [] ≡ []
    drop_nothing n = drop_all n [] (omega arith)

    dropped : (m n k : ℕ) (xs : List ℕ) → m + n ≡ k → drop n (drop m xs) ≡ drop k xs
    dropped zero n k xs is = let e : n ≡ k = omega (arith, is) in ap (λ (j : ℕ). drop j xs) e
    dropped (suc m) n k [] is = drop_nothing n ∙ sym (drop_nothing k)
    dropped (suc m) n zero (x ∷ xs) is = absurd (omega (arith, is))
    dropped (suc m) n (suc k) (x ∷ xs) is = dropped m n k xs (omega (arith, is))

-- a position that is not at a row's start stands one column behind the one before it
one_back : (columns : ℕ) (p q : Position) → q ≡ next_column columns p → 0 < q.col → p ≡ columns_back 1 q
one_back columns p q is some = grind (arith, nat_tests)

pub one_on : (columns : ℕ) (p : Position) → p.col + 1 < columns → next_column columns p ≡ columns_on 1 p
one_on columns p room = grind (arith, nat_tests)

-- where each character behind a plain text takes one column
module _ (columns : ℕ) (measure : List ℕ → Position) (one : (s : List ℕ) (c : ℕ) → list_all is_plain s ≡ true → is_printable c ≡ true
    → measure (s ++ c ∷ []) ≡ next_column columns (measure s)) where
  -- a printable text that fits on the row goes as many columns on
  pub measured_on : (front more : List ℕ) → list_all is_plain front ≡ true → list_all is_printable more ≡ true
      → (measure front).col + length more < columns → measure (front ++ more) ≡ columns_on (length more) (measure front)
  measured_on front [] plain print fits = ap measure (append-nil front) ∙ grind arith
  measured_on front (c ∷ cs) plain print fits =
      let parts = and_parts (is_printable c) (list_all is_printable cs) print in
      let first : measure (front ++ c ∷ []) ≡ columns_on 1 (measure front) = one front c plain parts.0 ∙ one_on columns (measure front) (omega (arith, fits)) in
      let rest = measured_on (front ++ c ∷ []) cs (all_both is_plain front (c ∷ []) plain (all_one is_plain c (plain_char c parts.0))) parts.1
      (omega (arith, fits, ap (λ (p : Position). p.col) first)) in
      ap measure (sym (append_assoc front (c ∷ []) cs)) ∙ rest ∙ ap (columns_on (length cs)) first ∙ grind arith

  -- a printable text with no more characters than the column behind it goes as many columns back
  pub measured_back : (gone kept : List ℕ) → list_all is_plain kept ≡ true → list_all is_printable gone ≡ true
      → length gone ≤ (measure (kept ++ gone)).col → measure kept ≡ columns_back (length gone) (measure (kept ++ gone))
  measured_back [] kept plain print fits = ap measure (sym (append-nil kept)) ∙ grind arith
  measured_back (c ∷ cs) kept plain print fits =
      let parts = and_parts (is_printable c) (list_all is_printable cs) print in
      let all : measure ((kept ++ c ∷ []) ++ cs) ≡ measure (kept ++ c ∷ cs) = ap measure (append_assoc kept (c ∷ []) cs) in
      let rest = measured_back cs (kept ++ c ∷ []) (all_both is_plain kept (c ∷ []) plain (all_one is_plain c (plain_char c parts.0))) parts.1
      (omega (arith, fits, ap (λ (p : Position). p.col) all)) in
      let there : measure (kept ++ c ∷ []) ≡ columns_back (length cs) (measure (kept ++ c ∷ cs)) = rest ∙ ap (columns_back (length cs)) all in
      one_back columns (measure kept) (measure (kept ++ c ∷ [])) (one kept c plain parts.0) (omega (arith, fits, ap (λ (p : Position). p.col) there))
      ∙ ap (columns_back 1) there ∙ grind arith

-- a text up to a place is the text up to an earlier one and what stands between the two
taken_more : (from more to : ℕ) (xs : List ℕ) → from + more ≡ to → take from xs ++ take more (drop from xs) ≡ take to xs
taken_more zero more to xs is = let e : more ≡ to = omega (arith, is) in ap (λ (j : ℕ). take j xs) e
taken_more (suc from) more zero xs is = absurd (omega (arith, is))
taken_more (suc from) more (suc to) [] is = take_nothing more
  where
    take_nothing : (n : ℕ) → take {A = ℕ} n [] ≡ []
    take_nothing zero = refl
    take_nothing (suc n) = refl
taken_more (suc from) more (suc to) (x ∷ xs) is = ap (λ (s : List ℕ). x ∷ s) (taken_more from more to xs (omega (arith, is)))

pub taken_between : (from to : ℕ) (xs : List ℕ) → from ≤ to → take from xs ++ slice_range xs from to ≡ take to xs
taken_between from to xs within = taken_more from (to - from) to xs (omega (arith, within))

-- a number that was converted is the same
pub converted : {E : Type 0} (P : Type 0) (r : Result ℕ E) (n k : ℕ) → OkIff r P n → Some k ≡ result_ok r → n ≡ k
converted P (Ok x) n k fits is = let same : x ≡ n = fits.1 in cc
converted P (Err e) n k fits is = absurd (cc)
