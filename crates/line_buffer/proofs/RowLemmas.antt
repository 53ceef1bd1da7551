-- Kills in a row, and yank-pops that come round.
use Rattle.std.proofs.Common.{◌≡◌, ℕ, ◌+◌, ◌-◌, ◌<◌, ◌≤◌, ◌≢◌, zero, suc, false, List, [], ◌∷◌, length, get_or, set, Some, inl, inr, refl, sym, ap, ap₂, ◌∙◌, arith, eqb, length-append}
use Rattle.std.specs.Fn.{iterate}
use Rattle.std.proofs.lemmas.Bool.Decides.{nat_tests, eqb_tells}
use Rattle.std.proofs.lemmas.List.{length-set, get_or-set_same, get_or_push, set-set, set-get_or}
use Rattle.line_buffer.specs.KillRing.{LastAction, Ring, after_kill, after_yank, after_yank_pop, current_text, joined, killed, next_slot, other, with_joined, with_last, with_next, with_slot, yanked, yanked_text}
use Rattle.line_buffer.specs.Laws.{IsRing, after_kills, all_joined}
use Rattle.line_buffer.specs.declared.kill_ring.Mode.{Mode}

is_no_zero : (n : ℕ) → 0 < n → eqb n 0 ≡ false
is_no_zero n h = grind (arith, nat_tests)

-- ---- kills in a row

abbrev made : Ring → List (List ℕ) → LastAction → Ring
made r slots last = record { size = r.size; slots = slots; current = r.current; last = last }

-- a kill right after a kill joins the current slot
one_kill : (r : Ring) (text : List ℕ) (mode : Mode) → IsRing r → 0 < length r.slots → r.last ≡ killed → after_kill r text mode ≡ with_joined r text mode
one_kill r text mode h some last =
    let slots : eqb (length r.slots) 0 ≡ false = is_no_zero (length r.slots) some in
    let size : eqb r.size 0 ≡ false = is_no_zero r.size (omega (arith, h.0)) in
    rw (size, last, slots) refl

pub row_of_kills : (r : Ring) (more : List (List ℕ × Mode)) → IsRing r → 0 < length r.slots → r.last ≡ killed
    → after_kills r more ≡ made r (set r.slots r.current (all_joined (current_text r) more)) killed
row_of_kills r [] h some last = ap₂ (made r) (sym (set-get_or r.slots r.current [])) last
row_of_kills r (kill ∷ more) h some last =
    let next = with_joined r kill.0 kill.1 in
    let text = joined kill.1 (current_text r) kill.0 in
    let len : length next.slots ≡ length r.slots = length-set r.slots r.current text in
    let ring : IsRing next = (omega (arith, len, h.0), λ held. omega (arith, len, h.1 some)) in
    let read : current_text next ≡ text = get_or-set_same r.slots r.current text [] (h.1 some) in
    ap (λ q. after_kills q more) (one_kill r kill.0 kill.1 h some last) ∙ row_of_kills next more ring (omega (arith, len)) refl
    ∙ ap (λ s. made r s killed) (set-set r.slots r.current text (all_joined (current_text next) more) ∙ ap (λ t. set r.slots r.current (all_joined t more)) read)

put_there : (slot : ℕ) (text : List ℕ) (slots : List (List ℕ)) → slot ≤ length slots → (get_or (with_slot slot text slots) slot [] ≡ text) × (slot < length (with_slot slot text slots))
put_there slot text slots h =
    elim (eqb_tells slot (length slots)) [
      | inl same ↦ rw same.0 (get_or_push slots text [] slot (sym same.1), omega (arith, length-append slots (text ∷ [])))
      | inr held ↦
          let within : slot < length slots = let differ : slot ≢ length slots = held.1 in omega arith in
          rw held.0 (get_or-set_same slots slot text [] within, omega (arith, length-set slots slot text))
    ]

next_within : (r : Ring) → IsRing r → (next_slot r ≤ length r.slots)
next_within r h =
    elim (eqb_tells (length r.slots) 0) [
      | inl empty ↦ rw empty.0 (omega arith)
      | inr held ↦
          let some : 0 < length r.slots = let full : length r.slots ≢ 0 = held.1 in omega arith in
          let low : r.current < length r.slots = h.1 some in
          elim (eqb_tells (r.current + 1) r.size) [
            | inl last ↦ rw (held.0, last.0) (omega arith)
            | inr more ↦ rw (held.0, more.0) (omega arith)
          ]
    ]

-- the slots have room for the next one
put_fits : (r : Ring) (text : List ℕ) → IsRing r → 0 < r.size → length (with_slot (next_slot r) text r.slots) ≤ r.size
put_fits r text h some =
    elim (eqb_tells (length r.slots) 0) [
      | inl empty ↦
          let none : length r.slots ≡ 0 = empty.1 in
          elim (eqb_tells (next_slot r) (length r.slots)) [
            | inl same ↦ rw same.0 (omega (arith, length-append r.slots (text ∷ [])))
            | inr held ↦ rw held.0 (omega (arith, length-set r.slots (next_slot r) text, h.0))
          ]
      | inr full ↦
          let held : 0 < length r.slots = let differ : length r.slots ≢ 0 = full.1 in omega arith in
          let low : r.current < length r.slots = h.1 held in
          elim (eqb_tells (r.current + 1) r.size) [
            | inl last ↦
                let first : next_slot r ≡ 0 = rw (full.0, last.0) refl in
                let differ : eqb 0 (length r.slots) ≡ false = grind (arith, nat_tests) in
                rw (first, differ) (omega (arith, length-set r.slots 0 text, h.0))
            | inr more ↦
                let next : next_slot r ≡ r.current + 1 = rw (full.0, more.0) refl in
                let room : r.current + 1 ≢ r.size = more.1 in
                elim (eqb_tells (r.current + 1) (length r.slots)) [
                  | inl same ↦ rw (next, same.0) (omega (arith, same.1, length-append r.slots (text ∷ []), h.0))
                  | inr there ↦ rw (next, there.0) (omega (arith, length-set r.slots (r.current + 1) text, h.0))
                ]
          ]
    ]

pub row_is_yanked : (r : Ring) (text : List ℕ) (mode : Mode) (more : List (List ℕ × Mode)) → IsRing r → 0 < r.size
    → yanked_text (after_kills (after_kill (with_last r other) text mode) more) ≡ Some (all_joined text more)
row_is_yanked r text mode more h some =
    let first = with_next (with_last r other) text in
    let there = put_there (next_slot r) text r.slots (next_within r h) in
    let held : 0 < length first.slots = omega (arith, there.1) in
    let size : eqb r.size 0 ≡ false = is_no_zero r.size some in
    let begun : after_kill (with_last r other) text mode ≡ first = rw size refl in
    let ring : IsRing first = (put_fits r text h some, λ k. there.1) in
    let row = row_of_kills first more ring held refl in
    let all = all_joined (current_text first) more in
    let len : eqb (length (set first.slots first.current all)) 0 ≡ false = is_no_zero (length (set first.slots first.current all)) (omega (arith, length-set first.slots first.current all)) in
    let read : get_or (set first.slots first.current all) first.current [] ≡ all = get_or-set_same first.slots first.current all [] there.1 in
    ap (λ q. yanked_text (after_kills q more)) begun ∙ ap yanked_text row ∙ rw len (ap Some (read ∙ ap (λ t. all_joined t more) there.0))

-- ---- yank-pops

-- the ring at a slot that was yanked
abbrev standing : Ring → ℕ → Ring
standing r i = record { size = r.size; slots = r.slots; current = i; last = yanked (length (get_or r.slots i [])) }

iterate-sum : (h : Ring → Ring) (a b : ℕ) (x : Ring) → iterate h (a + b) x ≡ iterate h b (iterate h a x)
iterate-sum h zero b x = let none : 0 + b ≡ b = omega arith in ap (λ n. iterate h n x) none
iterate-sum h (suc a) b x = let more : suc a + b ≡ suc (a + b) = omega arith in ap (λ n. iterate h n x) more ∙ iterate-sum h a b (h x)

pop_first : (r : Ring) → 0 < length r.slots → after_yank_pop (standing r 0) ≡ standing r (length r.slots - 1)
pop_first r some = let full : eqb (length r.slots) 0 ≡ false = is_no_zero (length r.slots) some in rw full refl

pop_down : (r : Ring) (i : ℕ) → 0 < length r.slots → 0 < i → after_yank_pop (standing r i) ≡ standing r (i - 1)
pop_down r i some h =
    let full : eqb (length r.slots) 0 ≡ false = is_no_zero (length r.slots) some in
    let up : eqb i 0 ≡ false = is_no_zero i h in
    rw (full, up) refl

pops_down : (r : Ring) (k i : ℕ) → 0 < length r.slots → k ≤ i → iterate after_yank_pop k (standing r i) ≡ standing r (i - k)
pops_down r zero i some h = let none : i ≡ i - 0 = omega arith in ap (standing r) none
pops_down r (suc k) i some h =
    let less : i - 1 - k ≡ i - suc k = omega arith in
    ap (iterate after_yank_pop k) (pop_down r i some (omega arith)) ∙ pops_down r k (i - 1) some (omega arith) ∙ ap (standing r) less

round : (r : Ring) → 0 < length r.slots → r.current < length r.slots → iterate after_yank_pop (length r.slots) (standing r r.current) ≡ standing r r.current
round r some low =
    let i = r.current in
    let rest = length r.slots - 1 - i in
    let all : length r.slots ≡ i + (1 + rest) = omega arith in
    let zero_left : i - i ≡ 0 = omega arith in
    let back : length r.slots - 1 - rest ≡ i = omega arith in
    let one : iterate after_yank_pop (1 + rest) (standing r 0) ≡ standing r i =
    iterate-sum after_yank_pop 1 rest (standing r 0) ∙ ap (iterate after_yank_pop rest) (pop_first r some)
    ∙ pops_down r rest (length r.slots - 1) some (omega arith) ∙ ap (standing r) back in
    ap (λ n. iterate after_yank_pop n (standing r i)) all ∙ iterate-sum after_yank_pop i (1 + rest) (standing r i)
    ∙ ap (iterate after_yank_pop (1 + rest)) (pops_down r i i some (omega arith) ∙ ap (standing r) zero_left) ∙ one

pub come_round : (r : Ring) → IsRing r → iterate after_yank_pop (length r.slots) (after_yank r) ≡ after_yank r
come_round r h =
    elim (eqb_tells (length r.slots) 0) [
      | inl empty ↦ ap (λ n. iterate after_yank_pop n (after_yank r)) empty.1
      | inr full ↦
          let some : 0 < length r.slots = let differ : length r.slots ≢ 0 = full.1 in omega arith in
          let yanks : after_yank r ≡ standing r r.current = rw full.0 refl in
          ap (iterate after_yank_pop (length r.slots)) yanks ∙ round r some (h.1 some) ∙ sym yanks
    ]
