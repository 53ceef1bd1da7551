-- Counts: which keys write one, and which number they write.
use Rattle.std.specs.Prelude.{◌≡◌, ℕ, ◌+◌, ◌-◌, ◌*◌, ◌==◌, ◌&&◌, ◌||◌, Bool, false, not, if◌then◌else◌, nat_le, List, [], ◌∷◌, ◌++◌, map, fold, find, filter_map, Option, Some, None, codes, is_some, unwrap_or}
use Rattle.std.specs.Fmt.{decimal}
use Rattle.std.specs.List.{list_all}
use Rattle.line_config.specs.declared.config.EditMode.{EditMode}
use Rattle.line_config.specs.declared.config.EditMode.TheVariants.{Emacs, Vi}
use Rattle.line_keys.specs.Key.{bits_of}
use Rattle.line_keys.specs.Meaning.{one}
use Rattle.line_keys.specs.declared.count.Count.{Count}
use Rattle.line_keys.specs.declared.count.TypedCount.{TypedCount}
use Rattle.line_keys.specs.declared.refresher.InputMode.{InputMode}
use Rattle.line_keys.specs.declared.refresher.InputMode.TheVariants.{Command}
use Rattle.line_keys.specs.declared.keys.KeyCode.{KeyCode}
use Rattle.line_keys.specs.declared.keys.KeyCode.TheVariants.{Char}
use Rattle.line_keys.specs.declared.keys.KeyEvent.{KeyEvent}
use Rattle.line_keys.specs.declared.keys.Modifiers.{Modifiers}
use Rattle.line_keys.specs.declared.keys.TheConstants.Modifiers.{ALT, NONE}

-- the character of a key, if it has one
abbrev pub char_of : KeyCode → Option ℕ
char_of (Char c) = Some c
char_of _ = None

-- a key has exactly these modifiers
abbrev pub is_with : Modifiers → KeyEvent → Bool
is_with mods key = bits_of key.1 == bits_of mods

-- the digit that a character is, if it is one
abbrev pub digit_value : ℕ → Option ℕ
digit_value c = if nat_le 48 c && nat_le c 57 then Some (c - 48) else None

-- the digit of a key code, if it is one
abbrev pub digit_by_code : KeyCode → Option ℕ
digit_by_code (Char c) = digit_value c
digit_by_code _ = None

-- the digit of a key, whatever its modifiers, if it is one
abbrev pub digit_of : KeyEvent → Option ℕ
digit_of key = digit_by_code key.0

-- whether a key is a digit
abbrev pub is_digit : KeyEvent → Bool
is_digit key = is_some (digit_of key)

-- whether a key is a digit from 1 on
abbrev pub is_first_digit : KeyEvent → Bool
is_first_digit key = nat_le 1 (unwrap_or (digit_of key) 0)

-- whether a key is the minus sign
abbrev pub is_minus : KeyEvent → Bool
is_minus key = unwrap_or (char_of key.0) 0 == 45

-- the keys that a count begins with: in Emacs a digit or the minus sign with Alt, in Vi's command mode a plain digit from 1 on
abbrev pub begins_count : EditMode → InputMode → KeyEvent → Bool
begins_count Emacs mode key = is_with ALT key && (is_digit key || is_minus key)
begins_count Vi Command key = is_with NONE key && is_first_digit key
begins_count Vi _ key = false

-- the keys that it goes on with: in Emacs digits and minus signs, plain or with Alt, in Vi plain digits
abbrev pub continues_count : EditMode → KeyEvent → Bool
continues_count Emacs key = (is_with NONE key || is_with ALT key) && (is_digit key || is_minus key)
continues_count Vi key = is_with NONE key && is_digit key

-- these keys are a whole count, and the last key ends it; where there are no such keys, the last key begins no count
abbrev pub is_count_before : EditMode → InputMode → List KeyEvent → KeyEvent → Bool
is_count_before style mode [] last = not (begins_count style mode last)
is_count_before style mode (first ∷ more) last =
    begins_count style mode first && list_all (continues_count style) more && not (continues_count style last)

-- the number that digits write
abbrev pub decimal_value : List ℕ → ℕ
decimal_value digits = fold (λ number digit. number * 10 + digit) 0 digits

-- the beginnings of a list, the empty one first
abbrev pub beginnings : List ℕ → List (List ℕ)
beginnings [] = [] ∷ []
beginnings (x ∷ xs) = [] ∷ map (λ beginning. x ∷ beginning) (beginnings xs)

-- the number of a count: what the shortest beginning of its digits writes that writes at least 1000, or else all of them
abbrev pub magnitude : List ℕ → ℕ
magnitude digits = unwrap_or (find (λ number. nat_le 1000 number) (map decimal_value (beginnings digits))) (decimal_value digits)

-- the number of the digits of a count, if it has digits
abbrev pub number_of : List ℕ → Option ℕ
number_of [] = None
number_of (digit ∷ more) = Some (magnitude (digit ∷ more))

-- the digits of keys
abbrev pub digits_of : List KeyEvent → List ℕ
digits_of keys = filter_map digit_of keys

-- the count of a sign and a number: without a number it is 1, and a number of 0 is 1 whatever the sign
abbrev pub count_by : Bool → Option ℕ → Count
count_by negative None = record { n = 1; positive = not negative }
count_by negative (Some n) = if n == 0 then one else record { n = n; positive = not negative }

-- the count that keys write
abbrev pub count_of : List KeyEvent → Count
count_of [] = one
count_of (first ∷ more) = count_by (is_minus first) (number_of (digits_of (first ∷ more)))

-- a number with its sign, as it is shown; 0 has none
abbrev pub shown_number : Bool → ℕ → List ℕ
shown_number negative n = (if negative && not (n == 0) then codes "-" else []) ++ decimal n

-- the prompt that shows the count of keys: the number of their digits, and 1 without one, with their sign
abbrev pub count_prompt : List KeyEvent → List ℕ
count_prompt [] = []
count_prompt (first ∷ more) =
    codes "(arg: " ++ shown_number (is_minus first) (unwrap_or (number_of (digits_of (first ∷ more))) 1) ++ codes ") "

-- a count that is being read is that of these keys so far: their sign, and the number of their digits
abbrev pub IsCountOf : TypedCount → List KeyEvent → Type 0
IsCountOf typed [] = ⊥
IsCountOf typed (first ∷ more) = (typed.negative ≡ is_minus first) × (typed.number ≡ number_of (digits_of (first ∷ more)))
