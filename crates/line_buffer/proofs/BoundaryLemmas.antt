-- Boundaries of a text that is changed behind them.
use Rattle.std.proofs.Common.{◌<◌, get_or, inl, inr, ◌≡◌, ℕ, ◌+◌, ◌≤◌, zero, suc, nat_lt, nat_le, ◌||◌, true≢false, Bool, true, false, refl, List, ◌++◌, length, take, drop, ap, sym, ◌∙◌, subst, arith, length-append}
use Rattle.std.proofs.lemmas.Bool.{cases_lt}
use Rattle.std.proofs.lemmas.Bool.Decides.{nat_tests}
use Rattle.std.proofs.lemmas.List.{get_or_past, get_or-take, length-take-le, take-append-le}
use Rattle.std.proofs.lemmas.Str.{IsCharBoundary-from_take, IsUtf8-take}
use Rattle.std.specs.List.{insert_slice}
use Rattle.std.specs.Str.{IsCharBoundary, IsUtf8}
use Rattle.line_buffer.proofs.ListLemmas.{take_within_take}
use Rattle.line_buffer.specs.Lines.{last_fitting}
use Rattle.line_buffer.specs.Yank.{is_boundary}

-- a boundary of a text is one of each text that begins alike up to it
pub boundary_of_same_front : (s s' : List ℕ) (i : ℕ) → IsUtf8 s → IsUtf8 s' → IsCharBoundary s i → i ≤ length s' → take i s' ≡ take i s → IsCharBoundary s' i
boundary_of_same_front s s' i u u' b fits same = IsCharBoundary-from_take s' i u' fits (subst IsUtf8 (sym same) (IsUtf8-take s i u b))

-- a text that comes in behind a boundary keeps it
pub boundary_before_insert : (s s' t : List ℕ) (i place : ℕ) → IsUtf8 s → IsUtf8 s' → s' ≡ insert_slice s place t → IsCharBoundary s i → i ≤ place → place ≤ length s
    → IsCharBoundary s' i
boundary_before_insert s s' t i place u u' e b le within =
    let front : List ℕ = take place s in
    let len : length front ≡ place = length-take-le place s within in
    let wide : length (front ++ t) ≡ length front + length t = length-append front t in
    let fits : i ≤ length s' = omega (arith, ap length e, length-append (front ++ t) (drop place s)) in
    let same : take i s' ≡ take i s =
    ap (take i) e ∙ take-append-le i (front ++ t) (drop place s) (omega arith) ∙ take-append-le i front t (omega arith) ∙ take_within_take place i s le in
    boundary_of_same_front s s' i u u' b fits same

-- a boundary of the text before another is one of the whole text
pub boundary_in_front : (s : List ℕ) (i k : ℕ) → IsCharBoundary s i → IsCharBoundary (take i s) k → IsCharBoundary s k
boundary_in_front s i k there here =
    elim (cases_lt k i) [
      | inl before ↦
          let fits : k ≤ length s = omega (arith, there.0) in
          let same : get_or (take i s) k 0 ≡ get_or s k 0 = get_or-take i s k 0 before in
          let inside : k < length (take i s) = omega (arith, length-take-le i s there.0) in
          (fits, λ h high. rw (← same) (here.1 inside (rw same high)))
      | inr past ↦
          let same : k ≡ i = omega (arith, here.0, length-take-le i s there.0) in
          subst (IsCharBoundary s) (sym same) there
    ]

bytes_at : (b : ℕ) → (128 ≤ b → 192 ≤ b) → (nat_lt b 128 || nat_le 192 b) ≡ true
bytes_at b h = elim (cases_lt b 128) [
  | inl low ↦ grind (arith, nat_tests)
  | inr high ↦ let lead : 192 ≤ b = h high in grind (arith, nat_tests)
]

at_bytes : (b : ℕ) → (nat_lt b 128 || nat_le 192 b) ≡ true → 128 ≤ b → 192 ≤ b
at_bytes b h high = grind (arith, nat_tests)

-- a boundary passes the test of one
is_boundary-yes : (text : List ℕ) (k : ℕ) → IsCharBoundary text k → is_boundary text k ≡ true
is_boundary-yes text k b = elim (cases_lt k (length text)) [
  | inl within ↦ bytes_at (get_or text k 0) (b.1 within)
  | inr past ↦ let none : get_or text k 0 ≡ 0 = get_or_past text k 0 past in bytes_at (get_or text k 0) (λ high. absurd (omega arith))
]

-- the nearest boundary at or before a place is the greatest that passes the test
pub greatest_boundary : (text : List ℕ) (m k : ℕ) → m ≤ length text → k ≤ m → IsCharBoundary text k → ((i : ℕ) → k < i → i ≤ m → IsCharBoundary text i → ⊥)
    → last_fitting (is_boundary text) m ≡ k
greatest_boundary text zero k fits le b none = omega arith
greatest_boundary text (suc m) k fits le b none =
    by (is_boundary text (suc m)) refl (λ before. greatest_boundary text m k (omega arith) (omega arith) b (λ i after within. none i after (omega arith)))
  where
    by : (r : Bool) → is_boundary text (suc m) ≡ r → (k < suc m → last_fitting (is_boundary text) m ≡ k) → last_fitting (is_boundary text) (suc m) ≡ k
    by true t less =
        elim (cases_lt k (suc m)) [
          | inl before ↦ absurd (none (suc m) before (omega arith) (fits, λ h. at_bytes (get_or text (suc m) 0) t))
          | inr here ↦ let same : suc m ≡ k = omega arith in rw t same
        ]
    by false t less =
        elim (cases_lt k (suc m)) [
          | inl before ↦ rw t (less before)
          | inr here ↦ let same : k ≡ suc m = omega arith in absurd (true≢false (sym (is_boundary-yes text k b) ∙ ap (is_boundary text) same ∙ t))
        ]
