-- Sets of modifiers, bit by bit.
use Rattle.std.specs.Prelude.{ℕ, ◌+◌, ◌-◌, ◌^◌, ◌%◌, ◌≡◌, ◌<◌, ◌≤◌, ◌==◌, ◌||◌, ◌&&◌, IsTrue, not, true, false, min, max}
use Rattle.std.proofs.Common.{arith, ap, ◌∙◌, sym, inl, inr}
use Rattle.std.proofs.lemmas.Bool.{cases_lt}
use Rattle.std.proofs.lemmas.Bool.Decides.{nat_tests}
use Rattle.std.specs.Int.RustNames.{bit_and}
use Rattle.std.specs.Int.{bit_at, w8}
use Rattle.std.proofs.lemmas.Nat.Bits.{bit_at-lt, bit_at_and, bit_at_or, bit_at_xor, bit_at_not, bit_at_above, same_from_bits}
use Rattle.line_keys.specs.Key.{bits_of, of_bits, union, intersection, symmetric_difference, difference, contains, has_bit, AreSetsOfBits}
use Rattle.line_keys.specs.declared.keys.Modifiers.{Modifiers}
use Rattle.line_keys.specs.declared.keys.TheConstants.Modifiers.{CTRL_ALT_SHIFT}

-- the tests of one bit
either_one : (a b : ℕ) → a < 2 → b < 2 → (max a b == 1) ≡ ((a == 1) || (b == 1))
either_one a b ha hb = grind (arith, nat_tests)

both_one : (a b : ℕ) → a < 2 → b < 2 → (min a b == 1) ≡ ((a == 1) && (b == 1))
both_one a b ha hb = grind (arith, nat_tests)

just_one : (a b : ℕ) → a < 2 → b < 2 → ((a + b) % 2 == 1) ≡ (((a == 1) && not (b == 1)) || ((b == 1) && not (a == 1)))
just_one a b ha hb = grind (arith, nat_tests)

-- and where the first set has none
none_one : (b : ℕ) → (min 0 b == 1) ≡ false
none_one b = grind (arith, nat_tests)

first_one : (a b : ℕ) → a < 2 → b < 2 → (min a (1 - b) == 1) ≡ ((a == 1) && not (b == 1))
first_one a b ha hb = grind (arith, nat_tests)

same_bit : (a b : ℕ) → a < 2 → b < 2 → (a == 1) ≡ (b == 1) → a ≡ b
same_bit a b ha hb e = grind (arith, nat_tests)

-- the words, one bit at a time
of_union : (a b : Modifiers) (i : ℕ) → has_bit (union a b) i ≡ (has_bit a i || has_bit b i)
of_union a b i = rw (bit_at_or (bits_of a) (bits_of b) i) (either_one _ _ (bit_at-lt (bits_of a) i) (bit_at-lt (bits_of b) i))

of_intersection : (a b : Modifiers) (i : ℕ) → has_bit (intersection a b) i ≡ (has_bit a i && has_bit b i)
of_intersection a b i = rw (bit_at_and (bits_of a) (bits_of b) i) (both_one _ _ (bit_at-lt (bits_of a) i) (bit_at-lt (bits_of b) i))

of_symmetric_difference : (a b : Modifiers) (i : ℕ)
    → has_bit (symmetric_difference a b) i ≡ ((has_bit a i && not (has_bit b i)) || (has_bit b i && not (has_bit a i)))
of_symmetric_difference a b i =
    rw (bit_at_xor (bits_of a) (bits_of b) i) (just_one _ _ (bit_at-lt (bits_of a) i) (bit_at-lt (bits_of b) i))

-- a bit within the eight, and one past them
difference_within : (a b : Modifiers) (i : ℕ) → bits_of b < 2 ^ 8 → i < 8
    → has_bit (difference a b) i ≡ (has_bit a i && not (has_bit b i))
difference_within a b i hb within =
    rw (bit_at_and (bits_of a) (255 - bits_of b) i)
    (rw (bit_at_not w8 (bits_of b) i hb within) (first_one _ _ (bit_at-lt (bits_of a) i) (bit_at-lt (bits_of b) i)))

difference_past : (a b : Modifiers) (i : ℕ) → bits_of a < 2 ^ 8 → 8 ≤ i
    → has_bit (difference a b) i ≡ (has_bit a i && not (has_bit b i))
difference_past a b i ha past =
    rw (bit_at_and (bits_of a) (255 - bits_of b) i)
    (rw (bit_at_above (bits_of a) 8 i ha past) (none_one (bit_at (255 - bits_of b) i)))

of_difference : (a b : Modifiers) (i : ℕ) → bits_of a < 2 ^ 8 → bits_of b < 2 ^ 8
    → has_bit (difference a b) i ≡ (has_bit a i && not (has_bit b i))
of_difference a b i ha hb = elim (cases_lt i 8) [ inl h ↦ difference_within a b i hb h | inr h ↦ difference_past a b i ha h ]

-- one bit of a set that is contained in another
contained_bit : (a b : ℕ) → a < 2 → b < 2 → min a b ≡ b → (b == 1) ≡ true → (a == 1) ≡ true
contained_bit a b ha hb e one = grind (arith, nat_tests)

containing_bit : (a b : ℕ) → a < 2 → b < 2 → ((b == 1) ≡ true → (a == 1) ≡ true) → min a b ≡ b
containing_bit a b ha hb e = grind (arith, nat_tests)

-- a set within another, and back from the bits
to_bits : (a b : Modifiers) → IsTrue (contains a b) → (i : ℕ) → has_bit b i ≡ true → has_bit a i ≡ true
to_bits a b h i =
    let whole : bit_and (bits_of a) (bits_of b) ≡ bits_of b = grind (arith, nat_tests) in
    contained_bit _ _ (bit_at-lt (bits_of a) i) (bit_at-lt (bits_of b) i)
    (sym (bit_at_and (bits_of a) (bits_of b) i) ∙ ap (λ n. bit_at n i) whole)

from_bits : (a b : Modifiers) → ((i : ℕ) → has_bit b i ≡ true → has_bit a i ≡ true) → IsTrue (contains a b)
from_bits a b h =
    let whole : bit_and (bits_of a) (bits_of b) ≡ bits_of b =
    same_from_bits _ (bits_of b) (λ i. bit_at_and (bits_of a) (bits_of b) i
    ∙ containing_bit _ _ (bit_at-lt (bits_of a) i) (bit_at-lt (bits_of b) i) (h i)) in
    grind (arith, nat_tests)

of_equality : (a b : Modifiers) → ((i : ℕ) → has_bit a i ≡ has_bit b i) → a ≡ b
of_equality a b same =
    ap of_bits (same_from_bits (bits_of a) (bits_of b)
    (λ i. same_bit _ _ (bit_at-lt (bits_of a) i) (bit_at-lt (bits_of b) i) (same i)))

pub are-sets : AreSetsOfBits
are-sets = record {
  of_union = of_union;
  of_intersection = of_intersection;
  of_symmetric_difference = of_symmetric_difference;
  of_difference = of_difference;
  of_complement = λ a i h. of_difference CTRL_ALT_SHIFT a i (omega arith) h;
  of_contains = λ a b. (to_bits a b, from_bits a b);
  of_equality = of_equality;
}
