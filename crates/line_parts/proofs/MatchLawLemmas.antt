-- Brackets match each other.
use Rattle.std.proofs.Common.{◌≡◌, ◌<◌, ◌≤◌, ◌+◌, ◌-◌, ◌==◌, inl, inr, ⊎_elim, ℕ, zero, suc, Bool, true, false, cond, List, [], ◌∷◌, length, take, get_or, Option, Some, None, option_map, ap, sym, ◌∙◌, refl, subst, arith}
use Rattle.std.proofs.Math.Numerals.{add-one}
use Rattle.std.specs.List.{count_by, range_with_len, slice_get}
use Rattle.std.proofs.lemmas.Bool.{cases_Bool, cases_lt, eqb-false, eqb-true, ne_eqb}
use Rattle.std.proofs.Math.Nat.{zero-add}
use Rattle.std.proofs.lemmas.List.FromFn.{get_or-range_with_len, length-range_with_len}
use Rattle.std.proofs.lemmas.List.Quantifiers.{position-Some}
use Rattle.std.proofs.lemmas.List.Sums.{count_by_more_no, count_by_more_yes, sum_by-cons}
use Rattle.std.proofs.lemmas.Option.{get_or_from_slice_get, slice_get-get_or, slice_get_past}
use Rattle.line_parts.proofs.HistoryLemmas.{least_below_is}
use Rattle.line_parts.proofs.MatchLemmas.{Counts, bracket_is, count-no, count-yes, counts_other, counts_own, counts_partner, counts_start, even, is-here, led_byte, led_length, less, other, partner_differs}
use Rattle.line_parts.specs.Brackets.{is_bracket, is_close, is_open, partner}
use Rattle.line_parts.specs.BracketLaws.{MatchIsMutual}
use Rattle.line_parts.specs.BracketMatch.{is_even, led_away, matching_bracket, nearest_even, place_away}

-- ---- the partner of a bracket

partner_back : (b : ℕ) → is_bracket b ≡ true → partner (partner b) ≡ b
unfolding partner
partner_back b e = ⊎_elim (λ p. rw p refl) (λ q. ⊎_elim (λ p. rw p refl) (λ q. ⊎_elim (λ p. rw p refl)
    (λ q. ⊎_elim (λ p. rw p refl) (λ q. ⊎_elim (λ p. rw p refl) (λ p. rw p refl) q) q) q) q) (bracket_is b e)

partner_kind : (b : ℕ) → is_bracket b ≡ true → is_bracket (partner b) ≡ true
unfolding partner is_open is_close
partner_kind b e = ⊎_elim (λ p. rw p refl) (λ q. ⊎_elim (λ p. rw p refl) (λ q. ⊎_elim (λ p. rw p refl)
    (λ q. ⊎_elim (λ p. rw p refl) (λ q. ⊎_elim (λ p. rw p refl) (λ p. rw p refl) q) q) q) q) (bracket_is b e)

partner_closes : (b : ℕ) → is_bracket b ≡ true → is_open b ≡ true → is_open (partner b) ≡ false
unfolding partner is_open
partner_closes b e = ⊎_elim (λ p. rw p (λ o. refl)) (λ q. ⊎_elim (λ p. rw p (λ o. refl)) (λ q. ⊎_elim (λ p. rw p (λ o. refl))
    (λ q. ⊎_elim (λ p. rw p (λ o. absurd (cc))) (λ q. ⊎_elim (λ p. rw p (λ o. absurd (cc))) (λ p. rw p (λ o. absurd (cc))) q) q) q) q) (bracket_is b e)

partner_opens : (b : ℕ) → is_bracket b ≡ true → is_open b ≡ false → is_open (partner b) ≡ true
unfolding partner is_open
partner_opens b e = ⊎_elim (λ p. rw p (λ o. absurd (cc))) (λ q. ⊎_elim (λ p. rw p (λ o. absurd (cc))) (λ q. ⊎_elim (λ p. rw p (λ o. absurd (cc)))
    (λ q. ⊎_elim (λ p. rw p (λ o. refl)) (λ q. ⊎_elim (λ p. rw p (λ o. refl)) (λ p. rw p (λ o. refl)) q) q) q) q) (bracket_is b e)

-- ---- counts before places

-- one for a byte that passes
abbrev one_if : Bool → ℕ
one_if b = cond b 1 0

-- how many of the bytes before a place pass
abbrev before : (ℕ → Bool) → List ℕ → ℕ → ℕ
before p text i = count_by p (take i text)

one_more : (p : ℕ → Bool) (text : List ℕ) (i : ℕ) → i < length text → before p text (i + 1) ≡ before p text i + one_if (p (get_or text i 0))
one_more p text i lt = ⊎_elim
    (λ yes. omega (arith, count_by_more_yes p text i 0 lt yes, ap one_if yes))
    (λ no. omega (arith, count_by_more_no p text i 0 lt no, ap one_if no))
    (cases_Bool (p (get_or text i 0)))

led_more : (p : ℕ → Bool) (b : ℕ) (led : List ℕ) (n : ℕ) → n < length led
    → count_by p (b ∷ take (n + 1) led) ≡ count_by p (b ∷ take n led) + one_if (p (get_or led n 0))
led_more p b led n lt = ⊎_elim
    (λ yes. omega (arith, count-yes p b led n lt yes, ap one_if yes))
    (λ no. omega (arith, count-no p b led n lt no, ap one_if no))
    (cases_Bool (p (get_or led n 0)))

count_one : (p : ℕ → Bool) (b : ℕ) → count_by p (b ∷ []) ≡ one_if (p b)
count_one p b = omega (arith, sum_by-cons (λ c. cond (p c) 1 0) b [])

-- from an opening bracket on
counted_on : (p : ℕ → Bool) (text : List ℕ) (b place n end : ℕ) → is_open b ≡ true → get_or text place 0 ≡ b → end ≡ place + 1 + n → end ≤ length text
    → count_by p (b ∷ take n (led_away text b place)) + before p text place ≡ before p text end
counted_on p text b place zero end opens is at fits =
    let first : end ≡ place + 1 = omega (arith, at) in
    omega (arith, count_one p b, one_more p text place (omega (arith, first, fits)), ap (λ x. one_if (p x)) is, ap (before p text) first)
counted_on p text b place (suc n) end opens is at fits =
    let led : List ℕ = led_away text b place in
    let last : end ≡ place + 1 + n + 1 = omega (arith, at) in
    let lt : place < length text = omega (arith, at, fits) in
    let len : length led ≡ length text - (place + 1) = led_length text b place (length text - (place + 1)) lt (rw opens refl) in
    let near : n < length led = omega (arith, len, at, fits) in
    let byte : get_or led n 0 ≡ get_or text (place + 1 + n) 0 = led_byte text b place n (place + 1 + n) lt near (rw opens refl) in
    let rest = counted_on p text b place n (place + 1 + n) opens is refl (omega (arith, last, fits)) in
    subst (λ m. count_by p (b ∷ take m led) + before p text place ≡ before p text end) (add-one n)
    (omega (arith, led_more p b led n near, ap (λ x. one_if (p x)) byte, one_more p text (place + 1 + n) (omega (arith, last, fits)), rest, ap (before p text) last))

-- and from a closing one back
counted_back : (p : ℕ → Bool) (text : List ℕ) (b place n start : ℕ) → is_open b ≡ false → get_or text place 0 ≡ b → place < length text → start + n ≡ place
    → count_by p (b ∷ take n (led_away text b place)) + before p text start ≡ before p text (place + 1)
counted_back p text b place zero start closes is lt at =
    let first : start ≡ place = omega (arith, at) in
    omega (arith, count_one p b, one_more p text place lt, ap (λ x. one_if (p x)) is, ap (before p text) first)
counted_back p text b place (suc n) start closes is lt at =
    let led : List ℕ = led_away text b place in
    let len : length led ≡ place = led_length text b place place lt (rw closes refl) in
    let near : n < length led = omega (arith, len, at) in
    let there : start ≡ place - 1 - n = omega (arith, at) in
    let byte : get_or led n 0 ≡ get_or text start 0 = led_byte text b place n start lt near (rw closes there) in
    let rest = counted_back p text b place n (start + 1) closes is lt (omega (arith, at)) in
    subst (λ m. count_by p (b ∷ take m led) + before p text start ≡ before p text (place + 1)) (add-one n)
    (omega (arith, led_more p b led n near, ap (λ x. one_if (p x)) byte, one_more p text start (omega (arith, at, lt)), rest))

-- ---- parts of a text with as many brackets of a kind that open as close

abbrev even_in : List ℕ → ℕ → ℕ → ℕ → Bool
even_in text b i j = (before (λ c. c == b) text j + before (λ c. c == partner b) text i) == (before (λ c. c == partner b) text j + before (λ c. c == b) text i)

same_even : (x y i j i' j' : ℕ) → x + i ≡ j → y + i' ≡ j' → (x == y) ≡ ((j + i') == (j' + i))
same_even x y i j i' j' e f = ⊎_elim
    (λ t. t ∙ sym (is-here (j + i') (j' + i) (omega (arith, e, f, eqb-true x y t))))
    (λ n. n ∙ sym (ne_eqb (j + i') (j' + i) (λ g. eqb-false x y n (omega (arith, e, f, g)))))
    (cases_Bool (x == y))

even_on : (text : List ℕ) (b place n end : ℕ) → is_open b ≡ true → get_or text place 0 ≡ b → end ≡ place + 1 + n → end ≤ length text
    → is_even b (b ∷ take n (led_away text b place)) ≡ even_in text b place end
even_on text b place n end opens is at fits =
    same_even _ _ _ _ _ _ (counted_on (λ c. c == b) text b place n end opens is at fits) (counted_on (λ c. c == partner b) text b place n end opens is at fits)

even_back : (text : List ℕ) (b place n start : ℕ) → is_open b ≡ false → get_or text place 0 ≡ b → place < length text → start + n ≡ place
    → is_even b (b ∷ take n (led_away text b place)) ≡ even_in text b start (place + 1)
even_back text b place n start closes is lt at =
    same_even _ _ _ _ _ _ (counted_back (λ c. c == b) text b place n start closes is lt at) (counted_back (λ c. c == partner b) text b place n start closes is lt at)

swap : (x y : ℕ) → (x == y) ≡ (y == x)
swap x y = ⊎_elim
    (λ t. t ∙ sym (is-here y x (sym (eqb-true x y t))))
    (λ n. n ∙ sym (ne_eqb y x (λ g. eqb-false x y n (sym g))))
    (cases_Bool (x == y))

mirrored : (text : List ℕ) (b i j : ℕ) → is_bracket b ≡ true → even_in text (partner b) i j ≡ even_in text b i j
mirrored text b i j kind =
    ap (λ x. (before (λ c. c == partner b) text j + before (λ c. c == x) text i) == (before (λ c. c == x) text j + before (λ c. c == partner b) text i)) (partner_back b kind)
    ∙ swap (before (λ c. c == partner b) text j + before (λ c. c == b) text i) (before (λ c. c == b) text j + before (λ c. c == partner b) text i)

apart_after : (text : List ℕ) (b i k j : ℕ) → even_in text b i j ≡ true → even_in text b i k ≡ false → even_in text b k j ≡ false
apart_after text b i k j even odd = ne_eqb _ _ (λ g. eqb-false _ _ odd (omega (arith, eqb-true _ _ even, g)))

apart_before : (text : List ℕ) (b i k j : ℕ) → even_in text b i j ≡ true → even_in text b k j ≡ false → even_in text b i k ≡ false
apart_before text b i k j even odd = ne_eqb _ _ (λ g. eqb-false _ _ odd (omega (arith, eqb-true _ _ even, g)))

alone : (text : List ℕ) (b i : ℕ) → is_bracket b ≡ true → i < length text → get_or text i 0 ≡ b → even_in text b i (i + 1) ≡ false
alone text b i kind lt is =
    let own : one_if (get_or text i 0 == b) ≡ 1 = ap one_if (is-here (get_or text i 0) b is) in
    let none : one_if (get_or text i 0 == partner b) ≡ 0 = ap one_if (other (get_or text i 0) (partner b) (λ f. partner_differs b kind (sym is ∙ f))) in
    ne_eqb _ _ (λ g. omega (arith, g, own, none, one_more (λ c. c == b) text i lt, one_more (λ c. c == partner b) text i lt))

-- ---- the byte that matches

record Counted (b : ℕ) (led : List ℕ) (n : ℕ) : Type 0 where
  unmatched : ℕ
  counts : Counts b led n unmatched

abbrev NoneEven : ℕ → List ℕ → ℕ → Type 0
NoneEven b led n = (k : ℕ) → k < n → is_even b (b ∷ take (k + 1) led) ≡ false

one_counted : (b : ℕ) (led : List ℕ) (n : ℕ) → is_bracket b ≡ true → n < length led → is_even b (b ∷ take (n + 1) led) ≡ false → Counted b led n → Counted b led (n + 1)
one_counted b led n kind lt odd h = ⊎_elim
    (λ own. record { unmatched = h.unmatched + 1; counts = counts_own b led n h.unmatched kind lt (eqb-true (get_or led n 0) b own) h.counts })
    (λ not_own. ⊎_elim
    (λ mate. record {
      unmatched = h.unmatched - 1;
      counts = counts_partner b led n h.unmatched kind lt (eqb-true (get_or led n 0) (partner b) mate)
          (λ none. let it : is_even b (b ∷ take (n + 1) led) ≡ true = even b (b ∷ take (n + 1) led) (h.unmatched - 1)
          (less b led n h.unmatched kind lt (eqb-true (get_or led n 0) (partner b) mate) h.counts) none in absurd (cc)) h.counts;
    })
    (λ not_mate. record {
      unmatched = h.unmatched;
      counts = counts_other b led n h.unmatched lt (eqb-false (get_or led n 0) b not_own) (eqb-false (get_or led n 0) (partner b) not_mate) h.counts;
    })
    (cases_Bool (get_or led n 0 == partner b)))
    (cases_Bool (get_or led n 0 == b))

counted_to : (b : ℕ) (led : List ℕ) (n : ℕ) → is_bracket b ≡ true → n ≤ length led → NoneEven b led n → Counted b led n
counted_to b led zero kind within none = record { unmatched = 1; counts = counts_start b led kind }
counted_to b led (suc n) kind within none =
    subst (λ m. Counted b led m) (add-one n)
    (one_counted b led n kind (omega (arith, within)) (none n (omega arith))
    (counted_to b led n kind (omega (arith, within)) (λ k lt. none k (omega (arith, lt)))))

matched_byte : (b : ℕ) (led : List ℕ) (n : ℕ) → is_bracket b ≡ true → n < length led → NoneEven b led n → is_even b (b ∷ take (n + 1) led) ≡ true → get_or led n 0 ≡ partner b
matched_byte b led n kind lt none whole =
    let h : Counted b led n = counted_to b led n kind (omega (arith, lt)) none in
    ⊎_elim
    (λ own. let more : Counts b led (n + 1) (h.unmatched + 1) = counts_own b led n h.unmatched kind lt (eqb-true (get_or led n 0) b own) h.counts in
    let odd : is_even b (b ∷ take (n + 1) led) ≡ false = more.none_yet n (omega arith) in absurd (cc))
    (λ not_own. ⊎_elim
    (λ mate. eqb-true (get_or led n 0) (partner b) mate)
    (λ not_mate. let more : Counts b led (n + 1) h.unmatched =
    counts_other b led n h.unmatched lt (eqb-false (get_or led n 0) b not_own) (eqb-false (get_or led n 0) (partner b) not_mate) h.counts in
    let odd : is_even b (b ∷ take (n + 1) led) ≡ false = more.none_yet n (omega arith) in absurd (cc))
    (cases_Bool (get_or led n 0 == partner b)))
    (cases_Bool (get_or led n 0 == b))

-- ---- a match, in parts

-- the n-th of the bytes that lead away is the first up to which the bracket's kind is even
record IsNearest (text : List ℕ) (b place n : ℕ) : Type 0 where
  near : n < length (led_away text b place)
  here : is_even b (b ∷ take (n + 1) (led_away text b place)) ≡ true
  none : NoneEven b (led_away text b place) n

nearest_is : (text : List ℕ) (b place n : ℕ) → nearest_even b (led_away text b place) ≡ Some n → IsNearest text b place n
nearest_is text b place n e =
    let bound : ℕ = length (led_away text b place) in
    let test : ℕ → Bool = λ k. is_even b (b ∷ take (k + 1) (led_away text b place)) in
    let found = position-Some test (range_with_len 0 bound) n 0 e in
    let number : (k : ℕ) → k < bound → get_or (range_with_len 0 bound) k 0 ≡ k = λ k lt. get_or-range_with_len 0 bound k 0 lt ∙ zero-add k in
    let near : n < bound = omega (arith, found.0, length-range_with_len 0 bound) in
    record {
      near = near;
      here = ap test (sym (number n near)) ∙ found.1;
      none = λ k lt. ap test (sym (number k (omega (arith, lt, near)))) ∙ found.2 k lt;
    }

-- the bracket at a place, and the place of its match
record HasMatch (text : List ℕ) (place match : ℕ) : Type 0 where
  b : ℕ
  lt : place < length text
  is : get_or text place 0 ≡ b
  kind : is_bracket b ≡ true
  n : ℕ
  nearest : IsNearest text b place n
  at : place_away b place n ≡ match

some_is : {A : Type 0} (x y : A) → Some x ≡ Some y → x ≡ y
some_is x y e = cc

has_match : (text : List ℕ) (place match : ℕ) → matching_bracket text place ≡ Some match → HasMatch text place match
has_match text place match e = by (slice_get text place) refl
  where
    by_place : (b : ℕ) → slice_get text place ≡ Some b → is_bracket b ≡ true → (found : Option ℕ) → nearest_even b (led_away text b place) ≡ found
        → option_map (place_away b place) found ≡ Some match → HasMatch text place match
    by_place b there kind None none m = absurd (cc)
    by_place b there kind (Some n) found m =
        let lt : place < length text = ⊎_elim (λ l. l) (λ past. absurd (let none = slice_get_past text place past in cc)) (cases_lt place (length text)) in
        record {
          b = b;
          lt = lt;
          is = get_or_from_slice_get text place b 0 there;
          kind = kind;
          n = n;
          nearest = nearest_is text b place n found;
          at = some_is _ _ m;
        }

    by_kind : (b : ℕ) → slice_get text place ≡ Some b → (k : Bool) → is_bracket b ≡ k → HasMatch text place match
    by_kind b there true kind = by_place b there kind (nearest_even b (led_away text b place)) refl (rw (there, kind) at e)
    by_kind b there false kind = absurd (let none = rw (there, kind) at e in cc)

    by : (found : Option ℕ) → slice_get text place ≡ found → HasMatch text place match
    by None none = absurd (let gone = rw none at e in cc)
    by (Some b) there = by_kind b there (is_bracket b) refl

matches : (text : List ℕ) (place match : ℕ) → HasMatch text place match → matching_bracket text place ≡ Some match
matches text place match h =
    let there : slice_get text place ≡ Some h.b = slice_get-get_or text place 0 h.lt ∙ ap Some h.is in
    let nearest = h.nearest in
    let found : nearest_even h.b (led_away text h.b place) ≡ Some h.n =
    least_below_is (length (led_away text h.b place)) h.n (λ k. is_even h.b (h.b ∷ take (k + 1) (led_away text h.b place))) nearest.near nearest.none nearest.here in
    rw (there, h.kind, found) (ap Some h.at)

-- ---- from one to the other

from_open : (text : List ℕ) (p q : ℕ) → (h : HasMatch text p q) → is_open h.b ≡ true → HasMatch text q p
from_open text p q h opens =
    let b : ℕ = h.b in
    let n : ℕ = h.n in
    let led : List ℕ = led_away text b p in
    let lt : p < length text = h.lt in
    let near : n < length led = h.nearest.near in
    let len : length led ≡ length text - (p + 1) = led_length text b p (length text - (p + 1)) lt (rw opens refl) in
    let at : p + 1 + n ≡ q = rw opens at h.at in
    let within : q < length text = omega (arith, at, near, len) in
    let byte : get_or text q 0 ≡ partner b =
    sym (led_byte text b p n q lt near (rw opens (sym at))) ∙ matched_byte b led n h.kind near h.nearest.none h.nearest.here in
    let closes : is_open (partner b) ≡ false = partner_closes b h.kind opens in
    let kind : is_bracket (partner b) ≡ true = partner_kind b h.kind in
    let whole : even_in text b p (q + 1) ≡ true =
    sym (even_on text b p (n + 1) (q + 1) opens h.is (omega (arith, at)) (omega (arith, within))) ∙ h.nearest.here in
    let back : List ℕ = led_away text (partner b) q in
    let len_back : length back ≡ q = led_length text (partner b) q q within (rw closes refl) in
    let seen : (k start : ℕ) → start + (k + 1) ≡ q → is_even (partner b) (partner b ∷ take (k + 1) back) ≡ even_in text b start (q + 1) =
    λ k start e. even_back text (partner b) q (k + 1) start closes byte within e ∙ mirrored text b start (q + 1) h.kind in
    let part : (k start : ℕ) → start + (k + 1) ≡ q → k < n → even_in text b p start ≡ false = λ k start e less. elim (cases_lt (p + 1) start) [
      | inl later ↦
          sym (even_on text b p (start - p - 2 + 1) start opens h.is (omega (arith, later)) (omega (arith, e, within)))
          ∙ h.nearest.none (start - p - 2) (omega (arith, e, at, later))
      | inr here ↦
          let next : start ≡ p + 1 = omega (arith, here, e, at, less) in
          ap (even_in text b p) next ∙ alone text b p h.kind lt h.is
    ] in
    record {
      b = partner b;
      lt = within;
      is = byte;
      kind = kind;
      n = n;
      nearest = record {
        near = omega (arith, len_back, at);
        here = seen n p (omega (arith, at)) ∙ whole;
        none = λ k less. let start : q - (k + 1) + (k + 1) ≡ q = omega (arith, at, less) in
            seen k (q - (k + 1)) start ∙ apart_after text b p (q - (k + 1)) (q + 1) whole (part k (q - (k + 1)) start less);
      };
      at = rw closes (omega (arith, at));
    }

from_close : (text : List ℕ) (p q : ℕ) → (h : HasMatch text p q) → is_open h.b ≡ false → HasMatch text q p
from_close text p q h closes =
    let b : ℕ = h.b in
    let n : ℕ = h.n in
    let led : List ℕ = led_away text b p in
    let lt : p < length text = h.lt in
    let near : n < length led = h.nearest.near in
    let len : length led ≡ p = led_length text b p p lt (rw closes refl) in
    let at : p - 1 - n ≡ q = rw closes at h.at in
    let first : q + (n + 1) ≡ p = omega (arith, at, near, len) in
    let within : q < length text = omega (arith, first, lt) in
    let byte : get_or text q 0 ≡ partner b =
    sym (led_byte text b p n q lt near (rw closes (sym at))) ∙ matched_byte b led n h.kind near h.nearest.none h.nearest.here in
    let opens : is_open (partner b) ≡ true = partner_opens b h.kind closes in
    let kind : is_bracket (partner b) ≡ true = partner_kind b h.kind in
    let whole : even_in text b q (p + 1) ≡ true = sym (even_back text b p (n + 1) q closes h.is lt first) ∙ h.nearest.here in
    let on : List ℕ = led_away text (partner b) q in
    let len_on : length on ≡ length text - (q + 1) = led_length text (partner b) q (length text - (q + 1)) within (rw opens refl) in
    let seen : (k end : ℕ) → end ≡ q + 1 + (k + 1) → end ≤ length text → is_even (partner b) (partner b ∷ take (k + 1) on) ≡ even_in text b q end =
    λ k end e fits. even_on text (partner b) q (k + 1) end opens byte e fits ∙ mirrored text b q end h.kind in
    let part : (k end : ℕ) → end ≡ q + 1 + (k + 1) → k < n → even_in text b end (p + 1) ≡ false = λ k end e less. elim (cases_lt end p) [
      | inl sooner ↦
          sym (even_back text b p (p - end - 1 + 1) end closes h.is lt (omega (arith, sooner)))
          ∙ h.nearest.none (p - end - 1) (omega (arith, e, first, sooner))
      | inr here ↦
          let last : end ≡ p = omega (arith, here, e, first, less) in
          ap (λ i. even_in text b i (p + 1)) last ∙ alone text b p h.kind lt h.is
    ] in
    record {
      b = partner b;
      lt = within;
      is = byte;
      kind = kind;
      n = n;
      nearest = record {
        near = omega (arith, len_on, first, lt);
        here = seen n (p + 1) (omega (arith, first)) (omega (arith, lt)) ∙ whole;
        none = λ k less. seen k (q + 1 + (k + 1)) refl (omega (arith, first, lt, less))
            ∙ apart_before text b q (q + 1 + (k + 1)) (p + 1) whole (part k (q + 1 + (k + 1)) refl less);
      };
      at = rw opens (omega (arith, first));
    }

pub match_is_mutual : MatchIsMutual
match_is_mutual text one other e =
    let h : HasMatch text one other = has_match text one other e in
    matches text other one (⊎_elim (λ opens. from_open text one other h opens) (λ closes. from_close text one other h closes) (cases_Bool (is_open h.b)))

-- both stand in the text
pub match_within : (text : List ℕ) (one match : ℕ) → matching_bracket text one ≡ Some match → (one < length text) × (match < length text)
match_within text one match e =
    let h : HasMatch text one match = has_match text one match e in
    let back : HasMatch text match one = has_match text match one (match_is_mutual text one match e) in
    (h.lt, back.lt)
