-- Where the first and the last line of a text lie.
use Rattle.std.proofs.Common.{◌≡◌, ℕ, ◌+◌, ◌-◌, ◌<◌, ◌≢◌, Bool, List, length, get_or, reverse, sym, ap, ◌∙◌, arith, eqb, zero, suc, [], ◌∷◌, ◌++◌, take, drop, Some, None, inl, inr, refl}
use Rattle.std.proofs.lemmas.Bool.Decides.{nat_tests, eqb_tells}
use Rattle.std.proofs.lemmas.List.{get_or-reverse, length-reverse, take_all, take_more}
use Rattle.std.proofs.lemmas.List.Sums.{position_or_len_is}
use Rattle.std.specs.List.{prefix_len, suffix_len}
use Rattle.line_buffer.specs.Line.{is_no_newline}
use Rattle.line_buffer.specs.Lines.{line_above, lines_above, lines_below, next_line}

is_newline : ℕ → Bool
is_newline b = eqb b 10

pub prefix_len-none : (text : List ℕ) → ((i : ℕ) → i < length text → get_or text i 0 ≢ 10) → prefix_len is_no_newline text ≡ length text
prefix_len-none text none =
    position_or_len_is (λ b. eqb b 10) text (length text) 0 (omega arith) (λ k h. grind (arith, nat_tests, none k h)) (λ h. absurd (omega arith))

pub prefix_len-at : (text : List ℕ) (k : ℕ) → k < length text → get_or text k 0 ≡ 10 → ((i : ℕ) → i < k → get_or text i 0 ≢ 10)
    → prefix_len is_no_newline text ≡ k
prefix_len-at text k within at none =
    position_or_len_is (λ b. eqb b 10) text k 0 (omega arith) (λ i h. grind (arith, nat_tests, none i h)) (λ h. grind (arith, nat_tests))

pub suffix_len-none : (text : List ℕ) → ((i : ℕ) → i < length text → get_or text i 0 ≢ 10) → suffix_len is_no_newline text ≡ length text
suffix_len-none text none =
    position_or_len_is (λ b. eqb b 10) (reverse text) (length text) 0 (omega (arith, length-reverse text))
    (λ k h. let m : length text - 1 - k < length text = omega arith in let e = get_or-reverse text k 0 h in grind (arith, nat_tests, none (length text - 1 - k) m, e))
    (λ h. absurd (omega (arith, length-reverse text)))

pub suffix_len-at : (text : List ℕ) (k : ℕ) → k < length text → get_or text k 0 ≡ 10 → ((i : ℕ) → k < i → i < length text → get_or text i 0 ≢ 10)
    → suffix_len is_no_newline text ≡ length text - 1 - k
suffix_len-at text k within at none =
    position_or_len_is (λ b. eqb b 10) (reverse text) (length text - 1 - k) 0 (omega (arith, length-reverse text))
    (λ i h. let m : i < length text = omega arith in let above : k < length text - 1 - i = omega arith in let low : length text - 1 - i < length text = omega arith in
    let e = get_or-reverse text i 0 m in grind (arith, nat_tests, none (length text - 1 - i) above low, e))
    (λ h. let m : length text - 1 - k < length text = omega arith in let e = get_or-reverse text (length text - 1 - k) 0 m in
    let same : length text - 1 - (length text - 1 - k) ≡ k = omega arith in grind (arith, nat_tests, e, same, at))

-- ---- lines above and below

pub no_line_above : (text : List ℕ) → ((front : List ℕ) → text ≢ front ++ 10 ∷ []) → None ≡ line_above text
no_line_above text none =
    elim (eqb_tells (length text) 0) [
      | inl empty ↦ rw empty.0 refl
      | inr full ↦ elim (eqb_tells (get_or text (length text - 1) 0) 10) [
        | inl is ↦
            let some : length text ≢ 0 = full.1 in
            let within : length text - 1 < length text = omega arith in
            let all : length text - 1 + 1 ≡ length text = omega arith in
            let last : take (length text - 1 + 1) text ≡ take (length text - 1) text ++ get_or text (length text - 1) 0 ∷ [] = take_more text (length text - 1) 0 within in
            let whole : take (length text - 1 + 1) text ≡ text = take_all (length text - 1 + 1) text (omega arith) in
            absurd (none (take (length text - 1) text) (sym whole ∙ last ∙ ap (λ b. take (length text - 1) text ++ b ∷ []) is.1))
        | inr other ↦ rw (full.0, other.0) refl
      ]
    ]

pub above-some : (n m : ℕ) (text : List ℕ) (place above : ℕ) → n ≡ suc m → Some above ≡ line_above (take place text) → lines_above n text place ≡ lines_above m text above
above-some n m text place above e h = rw e (ap (λ o. elim o [ Some a ↦ lines_above m text a | None ↦ place ]) (sym h))

pub above-none : (n : ℕ) (text : List ℕ) (place : ℕ) → None ≡ line_above (take place text) → lines_above n text place ≡ place
above-none zero text place h = refl
above-none (suc n) text place h = ap (λ o. elim o [ Some a ↦ lines_above n text a | None ↦ place ]) (sym h)

pub below-some : (n m : ℕ) (text : List ℕ) (place bytes : ℕ) → n ≡ suc m → Some bytes ≡ next_line (drop place text) → lines_below n text place ≡ lines_below m text (place + bytes)
below-some n m text place bytes e h = rw e (ap (λ o. elim o [ Some b ↦ lines_below m text (place + b) | None ↦ place ]) (sym h))

pub below-none : (n : ℕ) (text : List ℕ) (place : ℕ) → None ≡ next_line (drop place text) → lines_below n text place ≡ place
below-none zero text place h = refl
below-none (suc n) text place h = ap (λ o. elim o [ Some b ↦ lines_below n text (place + b) | None ↦ place ]) (sym h)
