-- Normal forms of key events, case by case.
use Rattle.std.specs.Prelude.{ℕ, ◌+◌, ◌*◌, ◌≡◌, ◌<◌, false, refl}
use Rattle.std.proofs.Common.{arith, ap}
use Rattle.std.proofs.lemmas.Grind.{common_steps}
use Rattle.std.specs.Int.RustNames.{bit_and}
use Rattle.std.specs.Int.{bit_at}
use Rattle.std.proofs.lemmas.Nat.{and_assoc, and-not, and_comm, and_or_apart, or_lt}
use Rattle.std.proofs.lemmas.Bool.Decides.{nat_tests}
use Rattle.std.proofs.lemmas.Nat.Bits.{and_pow, bit_at-lt}
use Rattle.line_keys.specs.Key.{bits_of, of_bits, union, difference, contains, tab_of, normal_form, normalized}
use Rattle.line_keys.specs.declared.keys.KeyCode.{KeyCode}
use Rattle.line_keys.specs.declared.keys.KeyCode.TheVariants.{Char, Tab}
use Rattle.line_keys.specs.declared.keys.Modifiers.{Modifiers}
use Rattle.line_keys.specs.declared.keys.TheConstants.Modifiers.{CTRL, SHIFT}

-- Shift taken away twice
pub no-shift-twice : (m : Modifiers) → difference (difference m SHIFT) SHIFT ≡ difference m SHIFT
no-shift-twice m = ap of_bits (and_assoc 253 (bits_of m) 253)

-- a set without Shift has nothing to take away
pub no_shift-same : (m : Modifiers) → bits_of m < 256 → contains m SHIFT ≡ false → difference m SHIFT ≡ m
no_shift-same m small none =
    let whole : bit_and 253 (bits_of m) + bit_and 2 (bits_of m) ≡ bits_of m = and-not 8 2 (bits_of m) (omega arith) small in
    let bit : bit_and (bits_of m) 2 ≡ bit_at (bits_of m) 1 * 2 = and_pow (bits_of m) 1 in
    ap of_bits (grind (arith, nat_tests, and_comm, bit_at-lt))

-- the normal form of a character, normalized again
pub char-settled : (c : ℕ) (m : Modifiers) → normalized (normalized (normal_form (Char c) m)) ≡ normalized (normal_form (Char c) m)
char-settled c m = grind (arith, common_steps, no-shift-twice)

-- Tab in normal form
pub tab-settled : (m : Modifiers) → normalized (normalized (tab_of m)) ≡ normalized (tab_of m)
tab-settled m = grind (arith, common_steps)

-- a third normalizing, by the key's code
pub settles-code : (code : KeyCode) (m : Modifiers)
    → normalized (normalized (normal_form code m)) ≡ normalized (normal_form code m)
settles-code (Char c) m = char-settled c m
settles-code Tab m = tab-settled m
settles-code code m = refl

-- Ctrl brings no Shift
pub ctrl_no_shift : (m : Modifiers) → contains m SHIFT ≡ false → contains (union m CTRL) SHIFT ≡ false
ctrl_no_shift m none = rw (and_or_apart (bits_of SHIFT) (bits_of m) (bits_of CTRL) refl) none

-- nor a bit past the eight
pub ctrl-small : (m : Modifiers) → bits_of m < 256 → bits_of (union m CTRL) < 256
ctrl-small m small = or_lt 8 (bits_of m) (bits_of CTRL) small (omega arith)

-- so with Ctrl, too, there is no Shift to take away
pub ctrl-same : (m : Modifiers) → bits_of m < 256 → contains m SHIFT ≡ false → difference (union m CTRL) SHIFT ≡ union m CTRL
ctrl-same m small none = no_shift-same (union m CTRL) (ctrl-small m small) (ctrl_no_shift m none)

-- a second normalizing of an event without Shift
pub char-settled-at-once : (c : ℕ) (m : Modifiers) → bits_of m < 256 → contains m SHIFT ≡ false
    → normalized (normal_form (Char c) m) ≡ normal_form (Char c) m
char-settled-at-once c m small none =
    let same = no_shift-same m small none in
    let ctrl = ctrl-same m small none in
    grind (arith, common_steps)

-- Tab without Shift stays
pub tab-settled-at-once : (m : Modifiers) → contains m SHIFT ≡ false → normalized (tab_of m) ≡ tab_of m
tab-settled-at-once m none = grind (arith, common_steps)

-- a second normalizing, by the key's code
pub settles-code-at-once : (code : KeyCode) (m : Modifiers) → bits_of m < 256 → contains m SHIFT ≡ false
    → normalized (normal_form code m) ≡ normal_form code m
settles-code-at-once (Char c) m small none = char-settled-at-once c m small none
settles-code-at-once Tab m small none = tab-settled-at-once m none
settles-code-at-once code m small none = refl
