-- What is shown dim.
use Rattle.std.specs.Prelude.{ℕ, List, [], ◌∷◌, ◌++◌}

-- a text in dim letters
abbrev pub dim : List ℕ → List ℕ
dim text = (27 ∷ 91 ∷ 50 ∷ 109 ∷ []) ++ text ++ (27 ∷ 91 ∷ 48 ∷ 109 ∷ [])
