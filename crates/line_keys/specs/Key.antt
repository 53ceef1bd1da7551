-- Keys: sets of modifiers, and which key event a character stands for.
use Rattle.std.specs.Prelude.{ℕ, Bool, ◌+◌, ◌≡◌, ◌<◌, ◌==◌, ◌||◌, ◌&&◌, ◌^◌, ◌↔◌, IsTrue, not, true, false, if◌then◌else◌, nat_lt}
use Rattle.std.specs.Int.RustNames.{bit_and, bit_or, bit_xor}
use Rattle.std.specs.Int.{bit_at}
use Rattle.std.specs.Char.{is_control, is_ascii_control, is_ascii_lowercase, is_ascii_uppercase, to_ascii_uppercase}
use Rattle.bitflags.specs.Sets.{without}
use Rattle.line_keys.specs.declared.keys.KeyCode.{KeyCode}
use Rattle.line_keys.specs.declared.keys.KeyCode.TheVariants.{Backspace, BackTab, Char, Enter, Esc, Null, Tab}
use Rattle.line_keys.specs.declared.keys.KeyEvent.{KeyEvent}
use Rattle.line_keys.specs.declared.keys.Modifiers.{Modifiers}
use Rattle.line_keys.specs.declared.keys.TheConstants.Modifiers.{CTRL, ALT, SHIFT, NONE, CTRL_SHIFT, ALT_SHIFT, CTRL_ALT, CTRL_ALT_SHIFT}

-- the bits of a set of modifiers
abbrev pub bits_of : Modifiers → ℕ
bits_of m = m.0

-- the set of modifiers with these bits
abbrev pub of_bits : ℕ → Modifiers
of_bits bits = record { 0 = bits }

-- the modifiers of either set
abbrev pub union : Modifiers → Modifiers → Modifiers
union a b = of_bits (bit_or (bits_of a) (bits_of b))

-- the modifiers of both sets
abbrev pub intersection : Modifiers → Modifiers → Modifiers
intersection a b = of_bits (bit_and (bits_of a) (bits_of b))

-- the modifiers of one of the sets and not of the other
abbrev pub symmetric_difference : Modifiers → Modifiers → Modifiers
symmetric_difference a b = of_bits (bit_xor (bits_of a) (bits_of b))

-- the modifiers of the first set that the second lacks
abbrev pub difference : Modifiers → Modifiers → Modifiers
difference a b = of_bits (without 8 (bits_of a) (bits_of b))

-- the named modifiers that a set lacks
abbrev pub complement : Modifiers → Modifiers
complement a = difference CTRL_ALT_SHIFT a

-- whether a set has every modifier of another
abbrev pub contains : Modifiers → Modifiers → Bool
contains a b = bit_and (bits_of a) (bits_of b) == bits_of b

-- whether a set has the modifier of this bit
abbrev pub has_bit : Modifiers → ℕ → Bool
has_bit m i = bit_at (bits_of m) i == 1

-- which bit each named modifier is, and which of them each named set has
pub record AreNamedBits : Type 0 where
  pub shift_bit : SHIFT ≡ of_bits (2 ^ 1)
  pub alt_bit : ALT ≡ of_bits (2 ^ 2)
  pub ctrl_bit : CTRL ≡ of_bits (2 ^ 3)
  pub no_bit : NONE ≡ of_bits 0
  pub ctrl_shift : CTRL_SHIFT ≡ union CTRL SHIFT
  pub alt_shift : ALT_SHIFT ≡ union ALT SHIFT
  pub ctrl_alt : CTRL_ALT ≡ union CTRL ALT
  pub ctrl_alt_shift : CTRL_ALT_SHIFT ≡ union CTRL_ALT SHIFT

-- the words for sets of modifiers mean what they mean for sets: they go bit by bit
pub record AreSetsOfBits : Type 0 where
  pub of_union : (a b : Modifiers) (i : ℕ) → has_bit (union a b) i ≡ (has_bit a i || has_bit b i)
  pub of_intersection : (a b : Modifiers) (i : ℕ)
      → has_bit (intersection a b) i ≡ (has_bit a i && has_bit b i)
  pub of_symmetric_difference : (a b : Modifiers) (i : ℕ)
      → has_bit (symmetric_difference a b) i
      ≡ ((has_bit a i && not (has_bit b i)) || (has_bit b i && not (has_bit a i)))
  pub of_difference : (a b : Modifiers) (i : ℕ) → bits_of a < 2 ^ 8 → bits_of b < 2 ^ 8
      → has_bit (difference a b) i ≡ (has_bit a i && not (has_bit b i))
  pub of_complement : (a : Modifiers) (i : ℕ) → bits_of a < 2 ^ 8
      → has_bit (complement a) i ≡ (has_bit CTRL_ALT_SHIFT i && not (has_bit a i))
  pub of_contains : (a b : Modifiers)
      → IsTrue (contains a b) ↔ ((i : ℕ) → has_bit b i ≡ true → has_bit a i ≡ true)
  pub of_equality : (a b : Modifiers) → ((i : ℕ) → has_bit a i ≡ has_bit b i) → a ≡ b

-- a key with its modifiers
abbrev pub event : KeyCode → Modifiers → KeyEvent
event code mods = record { 0 = code; 1 = mods }

-- Tab with modifiers: with Shift it is the key BackTab
abbrev pub tab_of : Modifiers → KeyEvent
tab_of mods = if contains mods SHIFT then event BackTab (difference mods SHIFT) else event Tab mods

-- the event of a character with modifiers, by the first row that fits
abbrev pub event_of : ℕ → Modifiers → KeyEvent
event_of c mods =
    if not (is_control c) then event (Char c) (difference mods SHIFT)
    else if (c == 8) || (c == 127) then event Backspace mods
    else if c == 9 then tab_of mods
    else if c == 13 then event Enter mods
    else if c == 27 then event Esc mods
    else if c == 155 then event Esc (union mods SHIFT)
    else if nat_lt c 32 then event (Char (c + 64)) (union mods CTRL)
    else event Null mods

-- a key with its modifiers in normal form, where the names of one key press are equal
abbrev pub normal_form : KeyCode → Modifiers → KeyEvent
normal_form (Char c) mods =
    if is_ascii_control c then event_of c mods
    else if is_ascii_lowercase c && contains mods CTRL then event (Char (to_ascii_uppercase c)) mods
    else if is_ascii_uppercase c then event (Char c) (difference mods SHIFT)
    else event (Char c) mods
normal_form Tab mods = tab_of mods
normal_form code mods = event code mods

-- an event in normal form
abbrev pub normalized : KeyEvent → KeyEvent
normalized e = normal_form e.0 e.1

-- normalizing twice is normalizing once, for events without Shift
abbrev pub SettlesWithoutShift : Type 0
SettlesWithoutShift =
    (e : KeyEvent) → bits_of e.1 < 256 → contains e.1 SHIFT ≡ false
    → normalized (normalized e) ≡ normalized e

-- normalizing three times is normalizing twice, for all events
abbrev pub SettlesAfterTwo : Type 0
SettlesAfterTwo =
    (e : KeyEvent) → normalized (normalized (normalized e)) ≡ normalized (normalized e)
