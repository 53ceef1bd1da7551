-- Round, square and curly brackets: balanced texts, and what is wrong with others.
-- A text stands as its bytes: a bracket is one byte, and no other character has such a byte.
use Rattle.std.specs.Prelude.{◌≡◌, ℕ, ◌==◌, ◌||◌, Bool, true, false, if◌then◌else◌, codes}
use Rattle.std.specs.Prelude.{List, [], ◌∷◌, ◌++◌, All, Some, None}
use Rattle.line_parts.specs.Verdict.{Verdict, incomplete, invalid, valid}

-- an opening bracket: `(`, `[` or `{`
unfoldable pub is_open : ℕ → Bool
is_open b = b == 40 || b == 91 || b == 123

-- a closing bracket: `)`, `]` or `}`
unfoldable pub is_close : ℕ → Bool
is_close b = b == 41 || b == 93 || b == 125

-- a bracket
abbrev pub is_bracket : ℕ → Bool
is_bracket b = is_open b || is_close b

-- the other bracket of the same kind
unfoldable pub partner : ℕ → ℕ
partner b =
    if b == 40 then 41 else if b == 41 then 40
    else if b == 91 then 93 else if b == 93 then 91
    else if b == 123 then 125 else if b == 125 then 123
    else b

-- a balanced text: nothing; a bracket pair round a balanced text; two balanced texts after each
-- other; anything that is no bracket
pub data IsBalanced : List ℕ → Type 0 where
  nothing : {text : List ℕ} → text ≡ [] → IsBalanced text
  pair : {text inside : List ℕ} {b : ℕ} → is_open b ≡ true → IsBalanced inside
      → text ≡ b ∷ inside ++ partner b ∷ [] → IsBalanced text
  joined : {text one other : List ℕ} → IsBalanced one → IsBalanced other
      → text ≡ one ++ other → IsBalanced text
  plain : {text : List ℕ} {b : ℕ} → is_bracket b ≡ false → text ≡ b ∷ [] → IsBalanced text

-- some text after it makes a text balanced
pub record CanBalance (text : List ℕ) : Type 0 where
  pub more : List ℕ
  pub balanced : IsBalanced (text ++ more)

-- a text is not balanced, and a row of closing brackets after it makes it so
pub record IsIncomplete (text : List ℕ) : Type 0 where
  pub unbalanced : IsBalanced text → ⊥
  pub row : List ℕ
  pub closing : All (λ b. is_close b ≡ true) row
  pub balanced : IsBalanced (text ++ row)

-- the shortest beginning of a text that nothing after it balances is a word with a bracket after
-- it: that bracket is at fault
pub record IsFault (text word : List ℕ) (b : ℕ) : Type 0 where
  pub behind : List ℕ
  pub split : text ≡ word ++ b ∷ behind
  pub hopeless : CanBalance (word ++ b ∷ []) → ⊥
  pub shortest : (shorter left : List ℕ) → word ≡ shorter ++ left → CanBalance shorter

-- a closing bracket after an opening one pairs with it
pub record IsClosedIn (behind : List ℕ) (b : ℕ) : Type 0 where
  pub inside : List ℕ
  pub rest : List ℕ
  pub split : behind ≡ inside ++ partner b ∷ rest
  pub balanced : IsBalanced inside

-- the last opening bracket of a word that no closing bracket pairs with
pub record IsLastOpen (word : List ℕ) (b : ℕ) : Type 0 where
  pub before : List ℕ
  pub behind : List ℕ
  pub split : word ≡ before ++ b ∷ behind
  pub opens : is_open b ≡ true
  pub unclosed : IsClosedIn behind b → ⊥
  pub last : (between rest : List ℕ) (c : ℕ) → behind ≡ between ++ c ∷ rest → is_open c ≡ true
      → IsClosedIn rest c

-- the message on a bracket at fault where no other is open
abbrev pub unpaired_message : ℕ → List ℕ
unpaired_message b = codes "Mismatched brackets: '" ++ b ∷ codes "' is unpaired"

-- the message on the open bracket that the one at fault doesn't close
abbrev pub unclosed_message : ℕ → List ℕ
unclosed_message b = codes "Mismatched brackets: '" ++ b ∷ codes "' is not properly closed"

-- the validation result for a text by its brackets
pub data IsVerdict (text : List ℕ) (verdict : Verdict) : Type 0 where
  on_balanced : IsBalanced text → verdict ≡ valid None → IsVerdict text verdict
  on_incomplete : IsIncomplete text → verdict ≡ incomplete → IsVerdict text verdict
  on_unpaired : (word : List ℕ) (b : ℕ) → IsFault text word b → ((c : ℕ) → IsLastOpen word c → ⊥)
      → verdict ≡ invalid (Some (unpaired_message b)) → IsVerdict text verdict
  on_unclosed : (word : List ℕ) (b c : ℕ) → IsFault text word b → IsLastOpen word c
      → verdict ≡ invalid (Some (unclosed_message c)) → IsVerdict text verdict
