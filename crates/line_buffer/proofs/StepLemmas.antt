-- Taking changes back step by step, where no group is open.
use Rattle.std.proofs.Common.{nat_le, max, ◌≡◌, ℕ, ◌+◌, ◌-◌, ◌<◌, ◌≤◌, zero, suc, Bool, true, false, cond, List, [], ◌∷◌, ◌++◌, length, map, take, drop, filter, Option, Some, None, unwrap_or, ◌⊎◌, inl, inr, refl, sym, ap, ap₂, ◌∙◌, subst, arith}
use Rattle.std.specs.Fn.{iterate}
use Rattle.std.specs.List.{range_with_len, slice_get, count_by}
use Rattle.std.specs.Option.{option_map}
use Rattle.std.proofs.Math.Seq.{drop-length, take-add, take-nil}
use Rattle.std.proofs.lemmas.Bool.{leb-true}
use Rattle.std.proofs.lemmas.Bool.Decides.{nat_tests}
use Rattle.std.proofs.lemmas.List.Sums.{sum_by-append}
use Rattle.std.proofs.lemmas.List.{drop-drop, length-drop}
use Rattle.std.proofs.lemmas.Option.{slice_get-map}
use Rattle.line_buffer.specs.Changes.{Entry}
use Rattle.line_buffer.specs.Line.{Line}
use Rattle.line_buffer.specs.Undo.{NoGroupOpen, after_undo, all_taken_back, taken_back, is_begin, is_end, is_step, steps_len}
use Rattle.line_buffer.proofs.WordLemmas.{filter-yes, filter-no}

-- ---- the entries behind a step

pub count_by-front : (p : Entry → Bool) (entries : List Entry) (j k : ℕ) → count_by p (take (j + k) entries) ≡ count_by p (take j entries) + count_by p (take k (drop j entries))
count_by-front p entries j k = ap (count_by p) (take-add j k entries) ∙ sum_by-append (λ x. cond (p x) 1 0) (take j entries) (take k (drop j entries))

-- where a step ends, as many ends stand as begins
balanced : (entries : List Entry) (j : ℕ) → NoGroupOpen entries → is_step entries j ≡ true → count_by is_begin (take j entries) ≡ count_by is_end (take j entries)
balanced entries j h s = omega (arith, h j, leb-true (count_by is_end (take j entries)) (count_by is_begin (take j entries)) s)

nat_le-shift : (c a b : ℕ) → nat_le (c + a) (c + b) ≡ nat_le a b
nat_le-shift c a b = grind (arith, nat_tests)

step_behind : (entries : List Entry) (j k : ℕ) → NoGroupOpen entries → is_step entries j ≡ true → is_step entries (j + k) ≡ is_step (drop j entries) k
step_behind entries j k h s =
    ap₂ nat_le (count_by-front is_end entries j k) (count_by-front is_begin entries j k ∙ ap (λ c. c + count_by is_begin (take k (drop j entries))) (balanced entries j h s))
    ∙ nat_le-shift (count_by is_end (take j entries)) (count_by is_end (take k (drop j entries))) (count_by is_begin (take k (drop j entries)))

open_behind : (entries : List Entry) (j : ℕ) → NoGroupOpen entries → is_step entries j ≡ true → NoGroupOpen (drop j entries)
open_behind entries j h s k = omega (arith, h (j + k), balanced entries j h s, count_by-front is_begin entries j k, count_by-front is_end entries j k)

-- ---- numbers of a range that pass a test

cond-map : (b c : Bool) (j a : ℕ) (xs ys : List ℕ) → b ≡ c → xs ≡ map (λ k. j + k) ys → cond b ((j + a) ∷ xs) xs ≡ map (λ k. j + k) (cond c (a ∷ ys) ys)
cond-map true true j a xs ys e s = ap (λ zs. (j + a) ∷ zs) s
cond-map true false j a xs ys e s = cc
cond-map false true j a xs ys e s = cc
cond-map false false j a xs ys e s = s

-- the same test further on
filter-shift : (p q : ℕ → Bool) (j a m : ℕ) → ((k : ℕ) → p (j + k) ≡ q k) → filter p (range_with_len (j + a) m) ≡ map (λ k. j + k) (filter q (range_with_len a m))
filter-shift p q j a zero h = refl
filter-shift p q j a (suc m) h =
    let next : j + a + 1 ≡ j + (a + 1) = omega arith in
    cond-map (p (j + a)) (q a) j a (filter p (range_with_len (j + a + 1) m)) (filter q (range_with_len (a + 1) m)) (h a)
    (ap (λ x. filter p (range_with_len x m)) next ∙ filter-shift p q j (a + 1) m h)

-- the first number that passes, and those behind it
record First (p : ℕ → Bool) (a m j : ℕ) : Type 0 where
  low : a ≤ j
  high : j < a + m
  passes : p j ≡ true
  is : filter p (range_with_len a m) ≡ j ∷ filter p (range_with_len (j + 1) (a + m - (j + 1)))

first_more : (p : ℕ → Bool) (a m : ℕ) (b : Bool) → p a ≡ b → (filter p (range_with_len (a + 1) m) ≡ []) ⊎ ((j : ℕ) × First p (a + 1) m j)
    → (filter p (range_with_len a (suc m)) ≡ []) ⊎ ((j : ℕ) × First p a (suc m) j)
first_more p a m true e o =
    let rest : m ≡ a + suc m - (a + 1) = omega arith in
    inr (
      a,
      record {
        low = omega arith;
        high = omega arith;
        passes = e;
        is = filter-yes p a (range_with_len (a + 1) m) e ∙ ap (λ x. a ∷ filter p (range_with_len (a + 1) x)) rest;
      },
    )
first_more p a m false e (inl none) = inl (filter-no p a (range_with_len (a + 1) m) e ∙ none)
first_more p a m false e (inr f) =
    let more : a + 1 + m ≡ a + suc m = omega arith in
    inr (
      f.0,
      record {
        low = omega (arith, f.1.low);
        high = omega (arith, f.1.high);
        passes = f.1.passes;
        is = filter-no p a (range_with_len (a + 1) m) e ∙ f.1.is ∙ ap (λ x. f.0 ∷ filter p (range_with_len (f.0 + 1) (x - (f.0 + 1)))) more;
      },
    )

first_of : (p : ℕ → Bool) (a m : ℕ) → (filter p (range_with_len a m) ≡ []) ⊎ ((j : ℕ) × First p a m j)
first_of p a zero = inl refl
first_of p a (suc m) = first_more p a m (p a) refl (first_of p (a + 1) m)

-- ---- the length of one step more

-- the ends of the steps
abbrev step_ends : List Entry → List ℕ
step_ends entries = filter (is_step entries) (range_with_len 1 (length entries))

steps_len-more : (entries : List Entry) (n : ℕ) → steps_len entries (suc n) ≡ unwrap_or (slice_get (step_ends entries) n) (length entries)
steps_len-more entries n =
    let place : max (suc n) 1 - 1 ≡ n = omega arith in
    ap (λ i. unwrap_or (slice_get (step_ends entries) i) (length entries)) place

unwrap_or-shift : (o : Option ℕ) (j whole rest : ℕ) → whole ≡ j + rest → unwrap_or (option_map (λ k. j + k) o) whole ≡ j + unwrap_or o rest
unwrap_or-shift None j whole rest e = e
unwrap_or-shift (Some x) j whole rest e = refl

-- what the first step leaves: no group open, and the steps behind it
record Leaves (entries : List Entry) : Type 0 where
  closed : NoGroupOpen (drop (steps_len entries 1) entries)
  more : (n : ℕ) → steps_len entries (suc (suc n)) ≡ steps_len entries 1 + steps_len (drop (steps_len entries 1) entries) (suc n)

leaves_nothing : (entries : List Entry) (s : ℕ) → s ≡ length entries → drop s entries ≡ []
leaves_nothing entries s e = ap (λ k. drop k entries) e ∙ drop-length entries

nothing_open : NoGroupOpen []
nothing_open k = rw (take-nil k) (omega arith)

leaves-none : (entries : List Entry) → step_ends entries ≡ [] → Leaves entries
leaves-none entries none =
    let all : (n : ℕ) → steps_len entries (suc n) ≡ length entries =
    λ n. steps_len-more entries n ∙ ap (λ xs. unwrap_or (slice_get xs n) (length entries)) none in
    let nothing : drop (steps_len entries 1) entries ≡ [] = leaves_nothing entries (steps_len entries 1) (all 0) in
    record {
      closed = subst NoGroupOpen (sym nothing) nothing_open;
      more = λ n.
          let empty : steps_len (drop (steps_len entries 1) entries) (suc n) ≡ 0 = ap (λ es. steps_len es (suc n)) nothing ∙ steps_len-more [] n in
          omega (arith, all (suc n), all 0, empty);
    }

leaves-some : (entries : List Entry) (j : ℕ) → NoGroupOpen entries → First (is_step entries) 1 (length entries) j → Leaves entries
leaves-some entries j h f =
    let one : steps_len entries 1 ≡ j = steps_len-more entries 0 ∙ ap (λ xs. unwrap_or (slice_get xs 0) (length entries)) f.is in
    let len : length (drop j entries) ≡ length entries - j = length-drop j entries in
    let rest : 1 + length entries - (j + 1) ≡ length (drop j entries) = omega (arith, len, f.high) in
    let whole : length entries ≡ j + length (drop j entries) = omega (arith, len, f.high) in
    let behind : filter (is_step entries) (range_with_len (j + 1) (1 + length entries - (j + 1))) ≡ map (λ k. j + k) (step_ends (drop j entries)) =
    ap (λ x. filter (is_step entries) (range_with_len (j + 1) x)) rest
    ∙ filter-shift (is_step entries) (is_step (drop j entries)) j 1 (length (drop j entries)) (λ k. step_behind entries j k h f.passes) in
    let further : (n : ℕ) → steps_len entries (suc (suc n)) ≡ j + steps_len (drop j entries) (suc n) =
    λ n. steps_len-more entries (suc n)
    ∙ ap (λ xs. unwrap_or (slice_get xs (suc n)) (length entries)) (f.is ∙ ap (λ xs. j ∷ xs) behind)
    ∙ ap (λ o. unwrap_or o (length entries)) (slice_get-map (λ k. j + k) (step_ends (drop j entries)) n)
    ∙ unwrap_or-shift (slice_get (step_ends (drop j entries)) n) j (length entries) (length (drop j entries)) whole
    ∙ ap (λ k. j + k) (sym (steps_len-more (drop j entries) n)) in
    record {
      closed = subst (λ k. NoGroupOpen (drop k entries)) (sym one) (open_behind entries j h f.passes);
      more = λ n. further n ∙ sym (ap (λ k. k + steps_len (drop k entries) (suc n)) one);
    }

leaves : (entries : List Entry) → NoGroupOpen entries → Leaves entries
leaves entries h =
    elim (first_of (is_step entries) 1 (length entries)) [
      | inl none ↦ leaves-none entries none
      | inr f ↦ leaves-some entries f.0 h f.1
    ]

-- ---- one step more

all_taken_back-append : (xs ys : List Entry) (l : Line) → all_taken_back (xs ++ ys) l ≡ all_taken_back ys (all_taken_back xs l)
all_taken_back-append [] ys l = refl
all_taken_back-append (x ∷ xs) ys l = all_taken_back-append xs ys (taken_back x l)

after_front : (entries : List Entry) (l : Line) (j k : ℕ)
    → ◌≡◌ {A = List Entry × Line} (drop (j + k) entries, all_taken_back (take (j + k) entries) l) (drop k (drop j entries), all_taken_back (take k (drop j entries)) (all_taken_back (take j entries) l))
after_front entries l j k =
    ap₂ (λ es m. (es, m)) (sym (drop-drop k j entries))
    (ap (λ es. all_taken_back es l) (take-add j k entries) ∙ all_taken_back-append (take j entries) (take k (drop j entries)) l)

after_one_more : (entries : List Entry) (l : Line) (n : ℕ) → NoGroupOpen entries → after_undo (suc (suc n)) (entries, l) ≡ after_undo (suc n) (after_undo 1 (entries, l))
after_one_more entries l n h =
    let back : ℕ → List Entry × Line = λ k. (drop k entries, all_taken_back (take k entries) l) in
    ap back ((leaves entries h).more n) ∙ after_front entries l (steps_len entries 1) (steps_len (drop (steps_len entries 1) entries) (suc n))

pub step_by_step : (n : ℕ) (entries : List Entry) (l : Line) → NoGroupOpen entries
    → (after_undo (suc n) (entries, l) ≡ iterate (after_undo 1) (suc n) (entries, l)) × NoGroupOpen (after_undo (suc n) (entries, l)).0
step_by_step zero entries l h = (refl, (leaves entries h).closed)
step_by_step (suc n) entries l h =
    let more = after_one_more entries l n h in
    let behind = step_by_step n (drop (steps_len entries 1) entries) (all_taken_back (take (steps_len entries 1) entries) l) (leaves entries h).closed in
    (more ∙ behind.0, subst (λ (s : List Entry × Line). NoGroupOpen s.0) (sym more) behind.1)
