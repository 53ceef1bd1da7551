-- What those who are asked about a line are shown.
use Rattle.std.specs.Prelude.{◌≡◌, ℕ, Bool, true, List}

-- the text, the cursor in it, the history index, and the history's lines, oldest first
pub record Shown : Type 0 where
  pub text : List ℕ
  pub cursor : ℕ
  pub index : ℕ
  pub lines : List (List ℕ)

-- not both are sure
abbrev pub NotBoth : Bool → Bool → Type 0
NotBoth one other = one ≡ true → other ≡ true → ⊥
