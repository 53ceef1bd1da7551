-- What texts begin with in common.
use Rattle.std.specs.Prelude.{◌≡◌, ℕ, ◌≤◌, List, [], ◌∷◌, ◌++◌, length, Option, Some, None}
use Rattle.std.specs.Char.{encode_utf8}
use Rattle.std.specs.List.{AllByRecursion}
use Rattle.std.specs.Str.{IsUtf8}

-- a text begins with another
abbrev pub BeginsWith : List ℕ → List ℕ → Type 0
BeginsWith start text = (rest : List ℕ) × (text ≡ start ++ rest)

-- two texts begin with one character, and these stand after it
abbrev pub BeginWithOne : List ℕ → List ℕ → List ℕ → List ℕ → Type 0
BeginWithOne one other behind more =
    (c : ℕ) × (one ≡ encode_utf8 c ++ behind) × (other ≡ encode_utf8 c ++ more)

-- two texts begin with no character in common
abbrev pub BeginWithNone : List ℕ → List ℕ → Type 0
BeginWithNone one other = (c : ℕ) (behind more : List ℕ)
    → one ≡ encode_utf8 c ++ behind → other ≡ encode_utf8 c ++ more → ⊥

-- the longest text of whole characters with which all of these begin
pub record IsLongestCommon (texts : List (List ℕ)) (start : List ℕ) : Type 0 where
  pub whole : IsUtf8 start
  pub common : AllByRecursion (BeginsWith start) texts
  pub longest : (other : List ℕ) → IsUtf8 other → AllByRecursion (BeginsWith other) texts
      → length other ≤ length start

-- a text, unless it is empty
abbrev pub some_text : List ℕ → Option (List ℕ)
some_text [] = None
some_text (b ∷ bs) = Some (b ∷ bs)

-- what several texts begin with in common, if anything; one alone in full
abbrev pub IsCommonStart : List (List ℕ) → Option (List ℕ) → Type 0
IsCommonStart [] answer = answer ≡ None
IsCommonStart (text ∷ []) answer = answer ≡ Some text
IsCommonStart (text ∷ other ∷ more) answer = (start : List ℕ)
    × IsLongestCommon (text ∷ other ∷ more) start × (answer ≡ some_text start)
