-- Laws over what a history is.
use Rattle.std.proofs.Common.{◌≡◌, ◌<◌, ◌≤◌, ℕ, suc, zero, ◌+◌, ◌-◌, ◌==◌, ◌||◌, Bool, true, false, true≢false, nat_le, List, [], ◌∷◌, ◌++◌, length, drop, Option, Some, None, is_some, refl, sym, ap, ◌∙◌, subst, arith, append_assoc, append-nil, length-append, length-drop, eq-or-lt_of_le, not-suc-le-zero, ◌⊎◌, inl, inr}
use Rattle.std.proofs.lemmas.List.{drop-drop}
use Rattle.std.proofs.lemmas.Bool.{cases_Bool}
use Rattle.line_parts.proofs.HistoryLemmas.{NoneNearer, last_of_fits, last_of_short, match_here, match_nowhere}
use Rattle.line_parts.specs.History.{Found, HistoryRules, all_added, all_taken, away, count_on_side, last_of, leaves_out, line_at, nearest_match}
use Rattle.line_parts.specs.HistoryLaws.{AddingKeepsTheLast, FoundIsNearest, IsNearest, IsOnSide, NoneIsNowhere, NoneWithin, apart}
use Rattle.line_parts.specs.declared.history.SearchDirection.{SearchDirection}
use Rattle.line_parts.specs.declared.history.SearchDirection.TheVariants.{Forward, Reverse}

-- ---- the last of what was taken

drop_front : {X : Type 0} (k : ℕ) (xs ys : List X) → k ≤ length xs → drop k xs ++ ys ≡ drop k (xs ++ ys)
drop_front zero [] ys h = refl
drop_front zero (x ∷ xs) ys h = refl
drop_front (suc k) [] ys h = absurd (not-suc-le-zero h)
drop_front (suc k) (x ∷ xs) ys h = drop_front k xs ys (omega (arith, h))

last_of_last : {X : Type 0} (n : ℕ) (xs ys : List X) → last_of n (last_of n xs ++ ys) ≡ last_of n (xs ++ ys)
last_of_last n xs ys =
    let k : ℕ = length xs - n in
    let within : length xs - n ≤ length xs = omega arith in
    let left : length (drop (length xs - n) xs ++ ys) ≡ length xs - (length xs - n) + length ys =
    length-append (drop (length xs - n) xs) ys ∙ ap (λ m. m + length ys) (length-drop (length xs - n) xs) in
    let both : length xs - n + (length (drop (length xs - n) xs ++ ys) - n) ≡ length (xs ++ ys) - n = omega (arith, left, length-append xs ys) in
    ap (drop (length (drop (length xs - n) xs ++ ys) - n)) (drop_front (length xs - n) xs ys within)
    ∙ drop-drop (length (drop (length xs - n) xs ++ ys) - n) (length xs - n) (xs ++ ys) ∙ ap (λ m. drop m (xs ++ ys)) both

keeps_the_last : (rules : HistoryRules) (lines texts : List (List ℕ)) → length lines ≤ rules.max_len
    → all_added rules lines texts ≡ last_of rules.max_len (lines ++ all_taken rules lines texts)
keeps_the_last rules lines [] h = sym (ap (last_of rules.max_len) (append-nil lines) ∙ last_of_short rules.max_len lines h)
keeps_the_last rules lines (text ∷ more) h =
    by (leaves_out rules lines text) refl (keeps_the_last rules lines more h)
    (keeps_the_last rules (last_of rules.max_len (lines ++ text ∷ [])) more (last_of_fits rules.max_len (lines ++ text ∷ [])))
  where
    by : (b : Bool) → leaves_out rules lines text ≡ b
        → all_added rules lines more ≡ last_of rules.max_len (lines ++ all_taken rules lines more)
        → all_added rules (last_of rules.max_len (lines ++ text ∷ [])) more
        ≡ last_of rules.max_len (last_of rules.max_len (lines ++ text ∷ []) ++ all_taken rules (last_of rules.max_len (lines ++ text ∷ [])) more)
        → all_added rules lines (text ∷ more) ≡ last_of rules.max_len (lines ++ all_taken rules lines (text ∷ more))
    by true e out took = rw e out
    by false e out took =
        let rest : List (List ℕ) = all_taken rules (last_of rules.max_len (lines ++ text ∷ [])) more in
        rw e (took ∙ last_of_last rules.max_len (lines ++ text ∷ []) rest ∙ ap (last_of rules.max_len) (append_assoc lines (text ∷ []) rest))

pub adding_keeps_the_last : AddingKeepsTheLast
adding_keeps_the_last rules texts = keeps_the_last rules [] texts (omega arith)

-- ---- the nearest match

-- the least number below a bound that passes, or that none does
pub data Least (bound : ℕ) (passes : ℕ → Bool) : Type 0 where
  least_at : (i : ℕ) → i < bound → passes i ≡ true → ((k : ℕ) → k < i → passes k ≡ false) → Least bound passes
  none_passes : ((k : ℕ) → k < bound → passes k ≡ false) → Least bound passes

least_of : (bound : ℕ) (passes : ℕ → Bool) → Least bound passes
least_of zero passes = none_passes (λ k lt. absurd (not-suc-le-zero lt))
least_of (suc bound) passes = by (least_of bound passes) (cases_Bool (passes bound))
  where
    by : Least bound passes → (passes bound ≡ true) ⊎ (passes bound ≡ false) → Least (suc bound) passes
    by (least_at i lt here below) b = least_at i (omega (arith, lt)) here below
    by (none_passes nothing) (inl t) = least_at bound (omega arith) t nothing
    by (none_passes nothing) (inr f) = none_passes (λ k lt. last k (eq-or-lt_of_le (omega (arith, lt))))
      where
        last : (k : ℕ) → (k ≡ bound) ⊎ (k < bound) → passes k ≡ false
        last k (inl e) = ap passes e ∙ f
        last k (inr l) = nothing k l

not_some : (o : Option ℕ) → is_some o ≡ false → o ≡ None
not_some None e = refl
not_some (Some x) e = absurd (true≢false e)

the_some : (o : Option ℕ) → is_some o ≡ true → (x : ℕ) × (o ≡ Some x)
the_some None e = absurd (true≢false (sym e))
the_some (Some x) e = (x, refl)

side_away : (dir : SearchDirection) (count start d : ℕ) → d < count_on_side dir count start → IsOnSide dir count start (away dir start d)
side_away Forward count start d h = (omega arith, omega (arith, h))
side_away Reverse count start d h = omega arith

apart_away : (dir : SearchDirection) (count start d : ℕ) → d < count_on_side dir count start → apart start (away dir start d) ≡ d
apart_away Forward count start d h = omega (arith, h)
apart_away Reverse count start d h = omega (arith, h)

away_apart : (dir : SearchDirection) (count start index : ℕ) → IsOnSide dir count start index → away dir start (apart start index) ≡ index
away_apart Forward count start index h = omega (arith, h.0)
away_apart Reverse count start index h = omega (arith, h)

side_apart : (dir : SearchDirection) (count start index : ℕ) → start < count → IsOnSide dir count start index → apart start index < count_on_side dir count start
side_apart Forward count start index w h = omega (arith, h.0, h.1)
side_apart Reverse count start index w h = omega (arith, h)

-- none at a lesser distance is none that is nearer
none_within : (place : List ℕ → List ℕ → Option ℕ) (lines : List (List ℕ)) (term : List ℕ) (start : ℕ) (dir : SearchDirection) (distance : ℕ)
    → NoneNearer place lines term start dir distance → NoneWithin (place term) lines start dir distance
none_within place lines term start dir distance none index side near =
    not_some (place term (line_at lines index))
    (subst (λ i. is_some (place term (line_at lines i)) ≡ false) (away_apart dir (length lines) start index side) (none (apart start index) near))

is_nearest : (place : List ℕ → List ℕ → Option ℕ) (lines : List (List ℕ)) (term : List ℕ) (start : ℕ) (dir : SearchDirection) (distance pos : ℕ)
    → distance < count_on_side dir (length lines) start → NoneNearer place lines term start dir distance
    → place term (line_at lines (away dir start distance)) ≡ Some pos
    → IsNearest (place term) lines start dir (record { entry = line_at lines (away dir start distance); index = away dir start distance; pos = pos })
is_nearest place lines term start dir distance pos side none here = record {
  on_side = side_away dir (length lines) start distance side;
  line = refl;
  has_place = here;
  none_nearer = subst (NoneWithin (place term) lines start dir) (sym (apart_away dir (length lines) start distance side))
      (none_within place lines term start dir distance none);
}

none_some : {X : Type 0} (x : X) → None ≡ Some x → ⊥
none_some x e = subst (λ o. elim o as (λ _. Type 0) [ None ↦ Unit {0} | Some _ ↦ ⊥ ]) e tt

some_some : {X : Type 0} (x y : X) → Some x ≡ Some y → x ≡ y
some_some {X = X} x y e = ap (λ o. elim o as (λ _. X) [ None ↦ x | Some z ↦ z ]) e

-- something is found only of some text, from a line
asked : (place : List ℕ → List ℕ → Option ℕ) (lines : List (List ℕ)) (term : List ℕ) (start : ℕ) (dir : SearchDirection) (found : Found)
    → nearest_match place lines term start dir ≡ Some found → (length term == 0 || nat_le (length lines) start) ≡ false
asked place lines term start dir found e = by (length term == 0 || nat_le (length lines) start) refl
  where
    by : (b : Bool) → (length term == 0 || nat_le (length lines) start) ≡ b → (length term == 0 || nat_le (length lines) start) ≡ false
    by true t = absurd (none_some found (sym (rw t refl) ∙ e))
    by false t = t

some_text : (n count start : ℕ) → (n == 0 || nat_le count start) ≡ false → 0 < n
some_text n count start e = grind (arith, e)

from_line : (n count start : ℕ) → (n == 0 || nat_le count start) ≡ false → start < count
from_line n count start e = grind (arith, e)

pub found_is_nearest : FoundIsNearest
found_is_nearest place lines term start dir found e =
    let ask : (length term == 0 || nat_le (length lines) start) ≡ false = asked place lines term start dir found e in
    by (some_text (length term) (length lines) start ask) (from_line (length term) (length lines) start ask)
    (least_of (count_on_side dir (length lines) start) (λ d. is_some (place term (line_at lines (away dir start d)))))
  where
    by : 0 < length term → start < length lines
        → Least (count_on_side dir (length lines) start) (λ d. is_some (place term (line_at lines (away dir start d))))
        → IsNearest (place term) lines start dir found
    by some within (least_at d side here none) =
        let at : (pos : ℕ) × (place term (line_at lines (away dir start d)) ≡ Some pos) = the_some (place term (line_at lines (away dir start d))) here in
        let it : Found = record { entry = line_at lines (away dir start d); index = away dir start d; pos = at.0 } in
        let same : it ≡ found = some_some it found (sym (match_here place lines term start dir d at.0 some within side none at.1) ∙ e) in
        subst (IsNearest (place term) lines start dir) same (is_nearest place lines term start dir d at.0 side none at.1)
    by some within (none_passes nothing) = absurd (none_some found (sym (match_nowhere place lines term start dir nothing) ∙ e))

pub none_is_nowhere : NoneIsNowhere
none_is_nowhere place lines term start dir some within e index side =
    by (least_of (count_on_side dir (length lines) start) (λ d. is_some (place term (line_at lines (away dir start d)))))
  where
    by : Least (count_on_side dir (length lines) start) (λ d. is_some (place term (line_at lines (away dir start d))))
        → place term (line_at lines index) ≡ None
    by (least_at d near here none) =
        let at : (pos : ℕ) × (place term (line_at lines (away dir start d)) ≡ Some pos) = the_some (place term (line_at lines (away dir start d))) here in
        absurd (none_some _ (sym e ∙ match_here place lines term start dir d at.0 some within near none at.1))
    by (none_passes nothing) =
        none_within place lines term start dir (count_on_side dir (length lines) start) nothing index side (side_apart dir (length lines) start index within side)
