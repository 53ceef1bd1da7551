-- Names and their values.
use Rattle.std.specs.Prelude.{◌≡◌, ◌≢◌, ℕ, ℤ, List, Option, Some}
use Rattle.std.specs.BTreeMap.{get_by_text}
use Rattle.console.specs.declared.arithmetic.names.Names.{Names}

-- the value of a name
abbrev pub value_in : Names → List ℕ → Option ℤ
value_in names word = get_by_text names.values word

-- each name has the value that it had
abbrev pub AreKept : Names → Names → Type 0
AreKept old new = (word : List ℕ) → value_in new word ≡ value_in old word

-- a name has this value, and each other name the value that it had
pub record AreSet (old new : Names) (word : List ℕ) (x : ℤ) : Type 0 where
  pub changed : value_in new word ≡ Some x
  pub others : (other : List ℕ) → other ≢ word → value_in new other ≡ value_in old other
