-- Candidates in order: the one stable order of what they show.
use Rattle.std.proofs.Common.{◌≡◌, ℕ, suc, zero, ◌+◌, ◌<◌, ◌≤◌, Bool, true, false, true≢false, not, ◌&&◌, cond, List, [], ◌∷◌, length, map, filter, get_or, ◌⊎◌, inl, inr, ⊎_elim, refl, sym, ap, ◌∙◌, subst, arith, string_bytes, Ordering}
use Rattle.std.specs.Bool.{⊤}
use Rattle.std.specs.Cmp.{IsStrictWeakOrder}
use Rattle.std.specs.Cmp.Lexicographic.{nat_list_cmp_total, slice_cmp}
use Rattle.std.specs.List.Sorted.{IsPermutation, IsSortedBy, IsStableBy, ties}
use Rattle.std.specs.Ordering.{is_eq, is_lt, nat_cmp, ordering_reverse}
use Rattle.std.specs.declared.cmp.Ordering.TheVariants.{Less, Equal, Greater}
use Rattle.std.proofs.lemmas.Bool.{cases_Bool}
use Rattle.std.proofs.lemmas.List.{get_or-map, length-map}
use Rattle.std.proofs.lemmas.List.MinMax.{ranks_by}
use Rattle.std.proofs.lemmas.List.Sorted.{IsPermutation-cons, IsPermutation-map, IsPermutation-middle, IsPermutation-refl, IsPermutation-trans, sorted_far}
use Rattle.std.proofs.lemmas.Map.Text.{is_eq-slice_cmp}
use Rattle.std.proofs.lemmas.Slice.Eq.{bytes_eq-Decides}
use Rattle.line_parts.specs.Candidate.{Completion, Offer, pair_offer}
use Rattle.line_parts.specs.CompletionLaws.{OrderIsOne}
use Rattle.line_parts.specs.Completed.{InOrder, in_order, is_before, ordered, put_in}
use Rattle.line_parts.specs.declared.completion.pair.Pair.{Pair}
use Rattle.line_parts.proofs.PieceLemmas.{and, both}

not_false : (b : Bool) → not b ≡ true → b ≡ false
not_false true h = absurd (true≢false (sym h))
not_false false h = refl

-- one stable order of a list
module _ {X : Type 0} (lt : X → X → Bool) (order : IsStrictWeakOrder lt) where
  -- nothing in a list is less than an element
  abbrev Above : X → List X → Type 0
  Above x [] = ⊤
  Above x (y ∷ ys) = (lt y x ≡ false) × Above x ys

  -- nothing is less than what stands before it
  abbrev pub Up : List X → Type 0
  Up [] = ⊤
  Up (x ∷ xs) = Above x xs × Up xs

  above_of : (x : X) (xs : List X) → ((k : ℕ) → k < length xs → lt (get_or xs k x) x ≡ false) → Above x xs
  above_of x [] h = tt
  above_of x (y ∷ ys) h = (h 0 (omega arith), above_of x ys (λ k p. h (suc k) (omega arith)))

  up_from : (xs : List X) → ((i j : ℕ) (d : X) → i ≤ j → j < length xs → lt (get_or xs j d) (get_or xs i d) ≡ false) → Up xs
  up_from [] h = tt
  up_from (x ∷ xs) h = (above_of x xs (λ k p. h 0 (suc k) x (omega arith) (omega arith)), up_from xs (λ i j d p q. h (suc i) (suc j) d (omega arith) (omega arith)))

  pub up_of : (xs : List X) → IsSortedBy lt xs → Up xs
  up_of xs up = up_from xs (sorted_far lt order xs up)

  itself : (x : X) → lt x x ≡ false
  itself x = ⊎_elim (λ less. order.one_way x x less) (λ other. other) (cases_Bool (lt x x))

  alike : (x y : X) → lt x y ≡ false → lt y x ≡ false → ties lt x y ≡ true
  alike x y a b = and (not (lt x y)) (not (lt y x)) (ap not a) (ap not b)

  first_alike : (x y : X) → ties lt x y ≡ true → lt x y ≡ false
  first_alike x y h = not_false (lt x y) (both (not (lt x y)) (not (lt y x)) h).0

  last_alike : (x y : X) → ties lt x y ≡ true → lt y x ≡ false
  last_alike x y h = not_false (lt y x) (both (not (lt x y)) (not (lt y x)) h).1

  -- an element that a filter finds first in what is above another is not less
  found_above : (passes : X → Bool) (y z : X) (rest zs : List X) → Above z zs → filter passes zs ≡ y ∷ rest → lt y z ≡ false
  found_above passes y z rest [] above is = absurd (cc)
  found_above passes y z rest (w ∷ ws) above is = ⊎_elim
      (λ here. let heads : w ∷ filter passes ws ≡ y ∷ rest = ap (λ b. cond b (w ∷ filter passes ws) (filter passes ws)) (sym here) ∙ is in
      let same : w ≡ y = cc in
      ap (λ v. lt v z) (sym same) ∙ above.0)
      (λ other. found_above passes y z rest ws above.1 (ap (λ b. cond b (w ∷ filter passes ws) (filter passes ws)) (sym other) ∙ is))
      (cases_Bool (passes w))

  kept_first : (x y : X) (ys : List X) → ties lt x y ≡ true → filter (ties lt x) (y ∷ ys) ≡ y ∷ filter (ties lt x) ys
  kept_first x y ys h = ap (λ b. cond b (y ∷ filter (ties lt x) ys) (filter (ties lt x) ys)) h

  left_out : (x y : X) (ys : List X) → ties lt x y ≡ false → filter (ties lt x) (y ∷ ys) ≡ filter (ties lt x) ys
  left_out x y ys h = ap (λ b. cond b (y ∷ filter (ties lt x) ys) (filter (ties lt x) ys)) h

  -- the first element of one is not less than that of the other, or is the same
  no_less : (y z : X) (ys zs : List X) → Above z zs → filter (ties lt y) (y ∷ ys) ≡ filter (ties lt y) (z ∷ zs) → ties lt y z ≡ false → lt y z ≡ false
  no_less y z ys zs above same differs =
      found_above (ties lt y) y z (filter (ties lt y) ys) zs above
      (sym (left_out y z zs differs) ∙ sym same ∙ kept_first y y ys (alike y y (itself y) (itself y)))

  same_first : (y z : X) (ys zs : List X) → Above y ys → Above z zs → ((x : X) → filter (ties lt x) (y ∷ ys) ≡ filter (ties lt x) (z ∷ zs)) → y ≡ z
  same_first y z ys zs above above' same = ⊎_elim
      (λ tie. let heads : y ∷ filter (ties lt y) ys ≡ z ∷ filter (ties lt y) zs =
      sym (kept_first y y ys (alike y y (itself y) (itself y))) ∙ same y ∙ kept_first y z zs tie in
      cc)
      (λ apart. let back : ties lt z y ≡ false = ⊎_elim
      (λ tie. absurd (true≢false (sym (alike y z (last_alike z y tie) (first_alike z y tie)) ∙ apart)))
      (λ other. other) (cases_Bool (ties lt z y)) in
      absurd (true≢false (sym (alike y z (no_less y z ys zs above' (same y) apart) (no_less z y zs ys above (sym (same z)) back)) ∙ apart)))
      (cases_Bool (ties lt y z))

  same_rest : (y : X) (ys zs : List X) → ((x : X) → filter (ties lt x) (y ∷ ys) ≡ filter (ties lt x) (y ∷ zs)) → (x : X) → filter (ties lt x) ys ≡ filter (ties lt x) zs
  same_rest y ys zs same x = ⊎_elim
      (λ tie. let heads : y ∷ filter (ties lt x) ys ≡ y ∷ filter (ties lt x) zs = sym (kept_first x y ys tie) ∙ same x ∙ kept_first x y zs tie in cc)
      (λ apart. sym (left_out x y ys apart) ∙ same x ∙ left_out x y zs apart)
      (cases_Bool (ties lt x y))

  -- two lists in order with the same elements that tie are one
  pub one_order : (ys zs : List X) → Up ys → Up zs → ((x : X) → filter (ties lt x) ys ≡ filter (ties lt x) zs) → ys ≡ zs
  one_order [] [] up up' same = refl
  one_order [] (z ∷ zs) up up' same =
      let none : [] ≡ z ∷ filter (ties lt z) zs = same z ∙ kept_first z z zs (alike z z (itself z) (itself z)) in absurd (cc)
  one_order (y ∷ ys) [] up up' same =
      let none : y ∷ filter (ties lt y) ys ≡ [] = sym (kept_first y y ys (alike y y (itself y) (itself y))) ∙ same y in absurd (cc)
  one_order (y ∷ ys) (z ∷ zs) up up' same =
      let first = same_first y z ys zs up.0 up'.0 same in
      let rest = same_rest y ys zs (λ x. same x ∙ ap (λ w. filter (ties lt x) (w ∷ zs)) (sym first)) in
      ap (λ w. w ∷ ys) first ∙ ap (λ l. z ∷ l) (one_order ys zs up.1 up'.1 rest)

-- the order of what candidates show
pub by_text : IsStrictWeakOrder is_before
by_text = ranks_by nat_list_cmp_total (λ (offer : Offer). offer.display)

-- a candidate that is put in
put_above : (x offer : Offer) (ys : List Offer) → is_before offer x ≡ false → Above is_before by_text x ys → Above is_before by_text x (put_in offer ys)
put_above x offer [] less above = (less, tt)
put_above x offer (y ∷ ys) less above = ⊎_elim
    (λ before. subst (λ b. Above is_before by_text x (cond b (y ∷ put_in offer ys) (offer ∷ y ∷ ys))) (sym before) (above.0, put_above x offer ys less above.1))
    (λ other. subst (λ b. Above is_before by_text x (cond b (y ∷ put_in offer ys) (offer ∷ y ∷ ys))) (sym other) (less, above))
    (cases_Bool (is_before y offer))

above_all : (x y : Offer) (ys : List Offer) → is_before y x ≡ false → Above is_before by_text y ys → Above is_before by_text x ys
above_all x y [] less above = tt
above_all x y (z ∷ zs) less above = (by_text.chain z y x above.0 less, above_all x y zs less above.1)

put_up : (offer : Offer) (ys : List Offer) → Up is_before by_text ys → Up is_before by_text (put_in offer ys)
put_up offer [] up = (tt, tt)
put_up offer (y ∷ ys) up = ⊎_elim
    (λ before. subst (λ b. Up is_before by_text (cond b (y ∷ put_in offer ys) (offer ∷ y ∷ ys))) (sym before)
    (put_above y offer ys (by_text.one_way y offer before) up.0, put_up offer ys up.1))
    (λ other. subst (λ b. Up is_before by_text (cond b (y ∷ put_in offer ys) (offer ∷ y ∷ ys))) (sym other)
    ((other, above_all offer y ys other up.0), up))
    (cases_Bool (is_before y offer))

-- it stands before those that show the same
passed_by : (offer y : Offer) (ys : List Offer) (x : Offer) → is_before y offer ≡ true
    → filter (ties is_before x) (put_in offer ys) ≡ filter (ties is_before x) (offer ∷ ys)
    → filter (ties is_before x) (y ∷ put_in offer ys) ≡ filter (ties is_before x) (offer ∷ y ∷ ys)
passed_by offer y ys x before rest = ⊎_elim
    (λ tie. let other : ties is_before x offer ≡ false = ⊎_elim
    (λ both_tie. absurd (true≢false (sym before ∙ by_text.chain y x offer (last_alike is_before by_text x y tie) (first_alike is_before by_text x offer both_tie))))
    (λ no_tie. no_tie) (cases_Bool (ties is_before x offer)) in
    kept_first is_before by_text x y (put_in offer ys) tie ∙ ap (λ l. y ∷ l) (rest ∙ left_out is_before by_text x offer ys other)
    ∙ sym (left_out is_before by_text x offer (y ∷ ys) other ∙ kept_first is_before by_text x y ys tie))
    (λ apart. left_out is_before by_text x y (put_in offer ys) apart ∙ rest
    ∙ ⊎_elim
    (λ tie. kept_first is_before by_text x offer ys tie ∙ ap (λ l. offer ∷ l) (sym (left_out is_before by_text x y ys apart)) ∙ sym (kept_first is_before by_text x offer (y ∷ ys) tie))
    (λ other. left_out is_before by_text x offer ys other ∙ sym (left_out is_before by_text x y ys apart) ∙ sym (left_out is_before by_text x offer (y ∷ ys) other))
    (cases_Bool (ties is_before x offer)))
    (cases_Bool (ties is_before x y))

put_stable : (offer : Offer) (ys : List Offer) (x : Offer) → filter (ties is_before x) (put_in offer ys) ≡ filter (ties is_before x) (offer ∷ ys)
put_stable offer [] x = refl
put_stable offer (y ∷ ys) x = ⊎_elim
    (λ before. ap (λ b. filter (ties is_before x) (cond b (y ∷ put_in offer ys) (offer ∷ y ∷ ys))) before
    ∙ passed_by offer y ys x before (put_stable offer ys x))
    (λ other. ap (λ b. filter (ties is_before x) (cond b (y ∷ put_in offer ys) (offer ∷ y ∷ ys))) other)
    (cases_Bool (is_before y offer))

order_up : (offers : List Offer) → Up is_before by_text (in_order offers)
order_up [] = tt
order_up (offer ∷ more) = put_up offer (in_order more) (order_up more)

order_stable : (offers : List Offer) (x : Offer) → filter (ties is_before x) (in_order offers) ≡ filter (ties is_before x) offers
order_stable [] x = refl
order_stable (offer ∷ more) x = put_stable offer (in_order more) x
    ∙ ⊎_elim
    (λ tie. kept_first is_before by_text x offer (in_order more) tie ∙ ap (λ l. offer ∷ l) (order_stable more x) ∙ sym (kept_first is_before by_text x offer more tie))
    (λ apart. left_out is_before by_text x offer (in_order more) apart ∙ order_stable more x ∙ sym (left_out is_before by_text x offer more apart))
    (cases_Bool (ties is_before x offer))

-- candidates in order are the one list that the order gives
pub is_the_order : (old new : List Offer) → InOrder old new → new ≡ in_order old
is_the_order old new order =
    one_order is_before by_text new (in_order old) (up_of is_before by_text new order.sorted) (order_up old) (λ x. order.stable x ∙ sym (order_stable old x))

-- pairs, by what they show
abbrev pub pair_before : Pair → Pair → Bool
pair_before one other = is_before (pair_offer one) (pair_offer other)

pub pairs_by_text : IsStrictWeakOrder pair_before
pairs_by_text = ranks_by nat_list_cmp_total (λ (pair : Pair). string_bytes pair.display)

pairs_sorted : (pairs : List Pair) → IsSortedBy pair_before pairs → IsSortedBy is_before (map pair_offer pairs)
pairs_sorted [] up k d low high = absurd (omega arith)
pairs_sorted (p ∷ ps) up k d low high =
    let len = length-map (p ∷ ps) pair_offer in
    let here = get_or-map pair_offer (p ∷ ps) k p d (omega arith) in
    let next = get_or-map pair_offer (p ∷ ps) (k + 1) p d (omega arith) in
    ap (λ o. is_before o (get_or (map pair_offer (p ∷ ps)) k d)) next
    ∙ ap (is_before (pair_offer (get_or (p ∷ ps) (k + 1) p))) here ∙ up k p low (omega arith)

filter_pairs : (passes : Offer → Bool) (pairs : List Pair) → filter passes (map pair_offer pairs) ≡ map pair_offer (filter (λ p. passes (pair_offer p)) pairs)
filter_pairs passes [] = refl
filter_pairs passes (p ∷ ps) = ⊎_elim
    (λ here. ap (λ b. cond b (pair_offer p ∷ filter passes (map pair_offer ps)) (filter passes (map pair_offer ps))) here
    ∙ ap (λ l. pair_offer p ∷ l) (filter_pairs passes ps)
    ∙ ap (λ b. map pair_offer (cond b (p ∷ filter (λ q. passes (pair_offer q)) ps) (filter (λ q. passes (pair_offer q)) ps))) (sym here))
    (λ other. ap (λ b. cond b (pair_offer p ∷ filter passes (map pair_offer ps)) (filter passes (map pair_offer ps))) other
    ∙ filter_pairs passes ps
    ∙ ap (λ b. map pair_offer (cond b (p ∷ filter (λ q. passes (pair_offer q)) ps) (filter (λ q. passes (pair_offer q)) ps))) (sym other))
    (cases_Bool (passes (pair_offer p)))

filter_same : (one other : Pair → Bool) → ((p : Pair) → one p ≡ other p) → (pairs : List Pair) → filter one pairs ≡ filter other pairs
filter_same one other same [] = refl
filter_same one other same (p ∷ ps) =
    ap (λ b. cond b (p ∷ filter one ps) (filter one ps)) (same p) ∙ ap (λ l. cond (other p) (p ∷ l) l) (filter_same one other same ps)

-- candidates that tie show one text
equal_if : (r s : Ordering) → s ≡ ordering_reverse r → is_lt r ≡ false → is_lt s ≡ false → is_eq r ≡ true
equal_if Less s turned less more = absurd (true≢false less)
equal_if Equal s turned less more = refl
equal_if Greater s turned less more = absurd (true≢false (ap is_lt (sym turned) ∙ more))

same_text : (one other : Offer) → ties is_before one other ≡ true → one.display ≡ other.display
same_text one other tie =
    let equal = equal_if (slice_cmp nat_cmp one.display other.display) (slice_cmp nat_cmp other.display one.display)
    (nat_list_cmp_total.antisymm other.display one.display) (first_alike is_before by_text one other tie) (last_alike is_before by_text one other tie) in
    (bytes_eq-Decides one.display other.display).0 (sym (is_eq-slice_cmp one.display other.display) ∙ equal)

-- a filter leaves nothing, or some element passes
some_passes : (passes : Pair → Bool) (pairs : List Pair) → (filter passes pairs ≡ []) ⊎ ((p : Pair) × (passes p ≡ true))
some_passes passes [] = inl refl
some_passes passes (p ∷ ps) = ⊎_elim
    (λ here. inr (p, here))
    (λ other. let same : filter passes (p ∷ ps) ≡ filter passes ps = ap (λ b. cond b (p ∷ filter passes ps) (filter passes ps)) other in
    further same (some_passes passes ps))
    (cases_Bool (passes p))
  where
    further : filter passes (p ∷ ps) ≡ filter passes ps → (filter passes ps ≡ []) ⊎ ((q : Pair) × (passes q ≡ true))
        → (filter passes (p ∷ ps) ≡ []) ⊎ ((q : Pair) × (passes q ≡ true))
    further same (inl none) = inl (same ∙ none)
    further same (inr some) = inr some

like_pair : (old new : List Pair) (x : Offer) (p : Pair) → IsStableBy pair_before old new → ties is_before x (pair_offer p) ≡ true
    → filter (λ q. ties is_before x (pair_offer q)) new ≡ filter (λ q. ties is_before x (pair_offer q)) old
like_pair old new x p stable tie =
    let text = same_text x (pair_offer p) tie in
    let alike : (q : Pair) → ties is_before x (pair_offer q) ≡ ties pair_before p q = λ q.
    ap (λ d. not (is_lt (slice_cmp nat_cmp d (string_bytes q.display))) && not (is_lt (slice_cmp nat_cmp (string_bytes q.display) d))) text in
    filter_same (λ q. ties is_before x (pair_offer q)) (ties pair_before p) alike new ∙ stable p
    ∙ sym (filter_same (λ q. ties is_before x (pair_offer q)) (ties pair_before p) alike old)

pairs_stable : (old new : List Pair) → IsStableBy pair_before old new → IsStableBy is_before (map pair_offer old) (map pair_offer new)
pairs_stable old new stable x =
    let passes : Pair → Bool = λ q. ties is_before x (pair_offer q) in
    let same : filter passes new ≡ filter passes old = elim (some_passes passes new) [
      | inl none ↦ elim (some_passes passes old) [
        | inl nothing ↦ none ∙ sym nothing
        | inr some ↦ like_pair old new x some.0 stable some.1
      ]
      | inr some ↦ like_pair old new x some.0 stable some.1
    ] in
    filter_pairs (ties is_before x) new ∙ ap (map pair_offer) same ∙ sym (filter_pairs (ties is_before x) old)

-- pairs that a stable sort puts in order
pub pairs_in_order : (old new : List Pair) → IsPermutation old new → IsSortedBy pair_before new → IsStableBy pair_before old new
    → InOrder (map pair_offer old) (map pair_offer new)
pairs_in_order old new same sorted stable = record {
  same = IsPermutation-map pair_offer old new same;
  sorted = pairs_sorted new sorted;
  stable = pairs_stable old new stable;
}

put_permutes : (offer : Offer) (ys : List Offer) → IsPermutation (offer ∷ ys) (put_in offer ys)
put_permutes offer [] = IsPermutation-refl (offer ∷ [])
put_permutes offer (y ∷ ys) = ⊎_elim
    (λ before. subst (λ b. IsPermutation (offer ∷ y ∷ ys) (cond b (y ∷ put_in offer ys) (offer ∷ y ∷ ys))) (sym before)
    (IsPermutation-trans (offer ∷ y ∷ ys) (y ∷ offer ∷ ys) (y ∷ put_in offer ys) (IsPermutation-middle (offer ∷ []) y ys) (IsPermutation-cons y (offer ∷ ys) (put_in offer ys) (put_permutes offer ys))))
    (λ other. subst (λ b. IsPermutation (offer ∷ y ∷ ys) (cond b (y ∷ put_in offer ys) (offer ∷ y ∷ ys))) (sym other) (IsPermutation-refl (offer ∷ y ∷ ys)))
    (cases_Bool (is_before y offer))

order_permutes : (offers : List Offer) → IsPermutation offers (in_order offers)
order_permutes [] = IsPermutation-refl []
order_permutes (offer ∷ more) =
    IsPermutation-trans (offer ∷ more) (offer ∷ in_order more) (put_in offer (in_order more)) (IsPermutation-cons offer more (in_order more) (order_permutes more)) (put_permutes offer (in_order more))

up_sorted : (xs : List Offer) → Up is_before by_text xs → IsSortedBy is_before xs
up_sorted [] up k d low high = absurd (omega arith)
up_sorted (x ∷ []) up k d low high = absurd (omega arith)
up_sorted (x ∷ y ∷ ys) up zero d low high = up.0.0
up_sorted (x ∷ y ∷ ys) up (suc k) d low high =
    let next : suc k + 1 ≡ suc (k + 1) = omega arith in
    ap (λ n. is_before (get_or (x ∷ y ∷ ys) n d) (get_or (y ∷ ys) k d)) next ∙ up_sorted (y ∷ ys) up.1 k d (omega arith) (omega arith)

pub order_is_one : OrderIsOne
order_is_one offers = (
  record { same = order_permutes offers; sorted = up_sorted (in_order offers) (order_up offers); stable = order_stable offers },
  λ other order. is_the_order offers other order,
)

-- pairs in order are the completion with its candidates in order
pub is_ordered : (found : Completion) (start : ℕ) (pairs : List Pair) → (start ≡ found.start) × InOrder found.offers (map pair_offer pairs)
    → ◌≡◌ {A = Completion} (ordered found) (record { start = start; offers = map pair_offer pairs })
is_ordered found start pairs is =
    let made : ℕ → List Offer → Completion = λ s o. record { start = s; offers = o } in
    ap (λ s. made s (in_order found.offers)) (sym is.0) ∙ ap (made start) (sym (is_the_order found.offers (map pair_offer pairs) is.1))
