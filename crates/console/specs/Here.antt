-- The path of the folder in which the console runs.
use Rattle.std.specs.Prelude.{ℕ, ◌||◌, Bool, List, [], ◌∷◌, bytes_eq}

-- whether a path up to its last `/` names this folder: it is empty, or `./`
abbrev pub is_here : List ℕ → Bool
is_here dir = bytes_eq dir [] || bytes_eq dir (46 ∷ 47 ∷ [])
