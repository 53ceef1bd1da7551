-- The match of a bracket: how many of its kind are open, byte by byte.
use Rattle.std.proofs.Common.{◌≡◌, ◌≢◌, ◌<◌, ◌≤◌, ◌+◌, ◌-◌, ◌==◌, ℕ, Bool, true, false, cond, if◌then◌else◌, List, [], ◌∷◌, length, take, drop, reverse, get_or, Option, Some, None, ap, sym, ◌∙◌, refl, arith, eqb, ◌⊎◌, ⊎_elim, length-drop, option_map, IfSome}
use Rattle.std.specs.List.{count_by}
use Rattle.std.proofs.lemmas.Bool.{cases_Bool}
use Rattle.std.proofs.lemmas.List.{get_or-drop, get_or-reverse, get_or-take, length-reverse, length-take-le}
use Rattle.std.proofs.lemmas.List.Sums.{count_by_more_no, count_by_more_yes, sum_by-append}
use Rattle.line_parts.proofs.HistoryLemmas.{least_below_is, none_below}
use Rattle.line_parts.specs.Brackets.{is_bracket, is_close, is_open, partner}
use Rattle.line_parts.specs.BracketMatch.{is_even, led_away, match_of, nearest_even, place_away}

-- ---- the bytes that lead away

pub led-open : (text : List ℕ) (b place : ℕ) → is_open b ≡ true → led_away text b place ≡ drop (place + 1) text
led-open text b place e = rw e refl

pub led-close : (text : List ℕ) (b place : ℕ) → is_open b ≡ false → led_away text b place ≡ reverse (take place text)
led-close text b place e = rw e refl

pub led_length : (text : List ℕ) (b place count : ℕ) → place < length text → count ≡ (if is_open b then length text - (place + 1) else place)
    → length (led_away text b place) ≡ count
led_length text b place count lt e = ⊎_elim
    (λ opens. let n : count ≡ length text - (place + 1) = rw opens at e in ap length (led-open text b place opens) ∙ length-drop (place + 1) text ∙ sym n)
    (λ closes. let n : count ≡ place = rw closes at e in
    ap length (led-close text b place closes) ∙ length-reverse (take place text) ∙ length-take-le place text (omega (arith, lt)) ∙ sym n)
    (cases_Bool (is_open b))

pub led_byte : (text : List ℕ) (b place distance at : ℕ) → place < length text → distance < length (led_away text b place)
    → at ≡ (if is_open b then place + 1 + distance else place - 1 - distance) → get_or (led_away text b place) distance 0 ≡ get_or text at 0
led_byte text b place distance at lt near e = ⊎_elim
    (λ opens. let n : at ≡ place + 1 + distance = rw opens at e in
    ap (λ l. get_or l distance 0) (led-open text b place opens) ∙ get_or-drop (place + 1) text distance 0 ∙ ap (λ k. get_or text k 0) (sym n))
    (λ closes. let n : at ≡ place - 1 - distance = rw closes at e in
    let within : distance < length (reverse (take place text)) = rw (led-close text b place closes) at near in
    let len : length (take place text) ≡ place = length-take-le place text (omega (arith, lt)) in
    let short : distance < length (take place text) = omega (arith, within, length-reverse (take place text)) in
    let index : length (take place text) - 1 - distance ≡ at = omega (arith, len, n) in
    let before : at < place = omega (arith, short, len, n) in
    ap (λ l. get_or l distance 0) (led-close text b place closes) ∙ get_or-reverse (take place text) distance 0 short
    ∙ ap (λ k. get_or (take place text) k 0) index ∙ get_or-take place text at 0 before)
    (cases_Bool (is_open b))

-- ---- how many are open

pub record Counts (b : ℕ) (led : List ℕ) (n unmatched : ℕ) : Type 0 where
  pub none_yet : (k : ℕ) → k < n → is_even b (b ∷ take (k + 1) led) ≡ false
  pub counts : count_by (λ c. c == b) (b ∷ take n led) ≡ count_by (λ c. c == partner b) (b ∷ take n led) + unmatched
  pub some : 0 < unmatched
  pub small : unmatched ≤ n + 1

pub same : (b : ℕ) → eqb b b ≡ true
same b = grind arith

pub other : (b c : ℕ) → b ≢ c → eqb b c ≡ false
other b c h = grind arith

pub bracket_is : (b : ℕ) → is_bracket b ≡ true → (b ≡ 40) ⊎ ((b ≡ 91) ⊎ ((b ≡ 123) ⊎ ((b ≡ 41) ⊎ ((b ≡ 93) ⊎ (b ≡ 125)))))
unfolding is_open is_close
bracket_is b e = grind arith

pub partner_differs : (b : ℕ) → is_bracket b ≡ true → b ≢ partner b
unfolding partner
partner_differs b e = ⊎_elim (λ p. rw p (λ f. omega (arith, f))) (λ q. ⊎_elim (λ p. rw p (λ f. omega (arith, f))) (λ q. ⊎_elim (λ p. rw p (λ f. omega (arith, f)))
    (λ q. ⊎_elim (λ p. rw p (λ f. omega (arith, f))) (λ q. ⊎_elim (λ p. rw p (λ f. omega (arith, f))) (λ p. rw p (λ f. omega (arith, f))) q) q) q) q) (bracket_is b e)

pub partner_small : (b : ℕ) → is_bracket b ≡ true → partner b < 128
unfolding partner
partner_small b e = ⊎_elim (λ p. rw p (omega arith)) (λ q. ⊎_elim (λ p. rw p (omega arith)) (λ q. ⊎_elim (λ p. rw p (omega arith))
    (λ q. ⊎_elim (λ p. rw p (omega arith)) (λ q. ⊎_elim (λ p. rw p (omega arith)) (λ p. rw p (omega arith)) q) q) q) q) (bracket_is b e)

pub counts_start : (b : ℕ) (led : List ℕ) → is_bracket b ≡ true → Counts b led 0 1
counts_start b led e = record {
  none_yet = λ k lt. absurd (omega (arith, lt));
  counts = rw (same b, other b (partner b) (partner_differs b e)) refl;
  some = omega arith;
  small = omega arith;
}

count-first : (p : ℕ → Bool) (b : ℕ) (xs : List ℕ) → count_by p (b ∷ xs) ≡ count_by p (b ∷ []) + count_by p xs
count-first p b xs = sum_by-append (λ c. cond (p c) 1 0) (b ∷ []) xs

-- one more byte counted, or not
pub count-yes : (p : ℕ → Bool) (b : ℕ) (led : List ℕ) (n : ℕ) → n < length led → p (get_or led n 0) ≡ true
    → count_by p (b ∷ take (n + 1) led) ≡ count_by p (b ∷ take n led) + 1
count-yes p b led n lt e =
    let more : count_by p (take (n + 1) led) ≡ count_by p (take n led) + 1 = count_by_more_yes p led n 0 lt e in
    omega (arith, more, count-first p b (take (n + 1) led), count-first p b (take n led))

pub count-no : (p : ℕ → Bool) (b : ℕ) (led : List ℕ) (n : ℕ) → n < length led → p (get_or led n 0) ≡ false
    → count_by p (b ∷ take (n + 1) led) ≡ count_by p (b ∷ take n led)
count-no p b led n lt e =
    let more : count_by p (take (n + 1) led) ≡ count_by p (take n led) = count_by_more_no p led n 0 lt e in
    omega (arith, more, count-first p b (take (n + 1) led), count-first p b (take n led))

not-even : (b : ℕ) (part : List ℕ) (u : ℕ) → count_by (λ c. c == b) part ≡ count_by (λ c. c == partner b) part + u → 0 < u → is_even b part ≡ false
not-even b part u e lt = other (count_by (λ c. c == b) part) (count_by (λ c. c == partner b) part) (λ f. omega (arith, e, lt, f))

pub even : (b : ℕ) (part : List ℕ) (u : ℕ) → count_by (λ c. c == b) part ≡ count_by (λ c. c == partner b) part + u → u ≡ 0 → is_even b part ≡ true
even b part u e none =
    let equal : count_by (λ c. c == b) part ≡ count_by (λ c. c == partner b) part = omega (arith, e, none) in
    rw equal (same (count_by (λ c. c == partner b) part))

lt_or_here : (k n : ℕ) → k < n + 1 → (k < n) ⊎ (k ≡ n)
lt_or_here k n lt = grind arith

pub counts-more : (b : ℕ) (led : List ℕ) (n u v : ℕ) → Counts b led n u
    → count_by (λ c. c == b) (b ∷ take (n + 1) led) ≡ count_by (λ c. c == partner b) (b ∷ take (n + 1) led) + v → 0 < v → v ≤ u + 1 → Counts b led (n + 1) v
counts-more b led n u v h e lt le = record {
  none_yet = λ k below. ⊎_elim (λ before. h.none_yet k before) (λ here. rw here (not-even b (b ∷ take (n + 1) led) v e lt)) (lt_or_here k n below);
  counts = e;
  some = lt;
  small = omega (arith, h.small, le);
}

pub is-here : (x b : ℕ) → x ≡ b → eqb x b ≡ true
is-here x b e = rw e (same b)

pub counts_own : (b : ℕ) (led : List ℕ) (n u : ℕ) → is_bracket b ≡ true → n < length led → get_or led n 0 ≡ b → Counts b led n u → Counts b led (n + 1) (u + 1)
counts_own b led n u kind lt e h =
    let one = count-yes (λ c. c == b) b led n lt (is-here (get_or led n 0) b e) in
    let none = count-no (λ c. c == partner b) b led n lt (other (get_or led n 0) (partner b) (λ f. partner_differs b kind (sym e ∙ f))) in
    counts-more b led n u (u + 1) h (omega (arith, one, none, h.counts)) (omega arith) (omega arith)

-- after the partner there is one less
pub less : (b : ℕ) (led : List ℕ) (n u : ℕ) → is_bracket b ≡ true → n < length led → get_or led n 0 ≡ partner b → Counts b led n u
    → count_by (λ c. c == b) (b ∷ take (n + 1) led) ≡ count_by (λ c. c == partner b) (b ∷ take (n + 1) led) + (u - 1)
less b led n u kind lt e h =
    let none = count-no (λ c. c == b) b led n lt (other (get_or led n 0) b (λ f. partner_differs b kind (sym f ∙ e))) in
    let one = count-yes (λ c. c == partner b) b led n lt (is-here (get_or led n 0) (partner b) e) in
    omega (arith, one, none, h.counts, h.some)

pub counts_partner : (b : ℕ) (led : List ℕ) (n u : ℕ) → is_bracket b ≡ true → n < length led → get_or led n 0 ≡ partner b → u - 1 ≢ 0 → Counts b led n u
    → Counts b led (n + 1) (u - 1)
counts_partner b led n u kind lt e some h = counts-more b led n u (u - 1) h (less b led n u kind lt e h) (omega (arith, some)) (omega arith)

pub counts_other : (b : ℕ) (led : List ℕ) (n u : ℕ) → n < length led → get_or led n 0 ≢ b → get_or led n 0 ≢ partner b → Counts b led n u → Counts b led (n + 1) u
counts_other b led n u lt e f h =
    let none = count-no (λ c. c == b) b led n lt (other (get_or led n 0) b e) in
    let nor = count-no (λ c. c == partner b) b led n lt (other (get_or led n 0) (partner b) f) in
    counts-more b led n u u h (omega (arith, none, nor, h.counts)) h.some (omega arith)

-- ---- the match

pub match_found : (text : List ℕ) (b place n u at : ℕ) → is_bracket b ≡ true → n < length (led_away text b place) → get_or (led_away text b place) n 0 ≡ partner b
    → u - 1 ≡ 0 → Counts b (led_away text b place) n u → at ≡ place_away b place n → Some at ≡ match_of text b place
match_found text b place n u at kind lt e none h is =
    let led : List ℕ = led_away text b place in
    let here : is_even b (b ∷ take (n + 1) led) ≡ true = even b (b ∷ take (n + 1) led) (u - 1) (less b led n u kind lt e h) none in
    let found : nearest_even b led ≡ Some n = least_below_is (length led) n (λ k. is_even b (b ∷ take (k + 1) led)) lt h.none_yet here in
    ap Some is ∙ ap (option_map (place_away b place)) (sym found)

pub no_match : (text : List ℕ) (b place n u : ℕ) → length (led_away text b place) ≤ n → Counts b (led_away text b place) n u → None ≡ match_of text b place
no_match text b place n u le h =
    let led : List ℕ = led_away text b place in
    let none : nearest_even b led ≡ None = none_below (length led) (λ k. is_even b (b ∷ take (k + 1) led)) (λ k lt. h.none_yet k (omega (arith, lt, le))) in
    ap (option_map (place_away b place)) (sym none)

-- what matches a bracket is one byte
pub small_match : (found : Option ℕ) (b : ℕ) (bytes line : List ℕ) → bytes ≡ line → is_bracket b ≡ true → IfSome found (λ at. get_or bytes at 0 ≡ partner b)
    → IfSome found (λ at. get_or line at 0 < 128)
small_match None b bytes line e kind h = h
small_match (Some at) b bytes line e kind h = rw (← e, h) (partner_small b kind)
