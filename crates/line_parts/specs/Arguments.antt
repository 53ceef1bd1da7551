-- Arguments of a command.
use Rattle.std.specs.Prelude.{ℕ, ◌==◌, Bool, List, [], ◌∷◌, ◌++◌}
use Rattle.std.specs.List.{starts_with}
use Rattle.std.specs.Str.{trim_start}
use Rattle.line_parts.specs.declared.completion.arguments.ArgumentOrOther.{ArgumentOrOther}
use Rattle.line_parts.specs.declared.completion.arguments.ArgumentOrOther.TheVariants as candidate

-- whether the cursor is after a command and a space: the text before it begins with them, but for white space
abbrev pub is_argument : List ℕ → List ℕ → Bool
is_argument command before = starts_with (λ a b. a == b) (trim_start before) (command ++ 32 ∷ [])

-- a text of a candidate, by what returns it for each of the two
abbrev pub text_of : {X Y : Type 0} → (X → List ℕ) → (Y → List ℕ) → ArgumentOrOther X Y → List ℕ
text_of of_argument of_other (candidate.Argument c) = of_argument c
text_of of_argument of_other (candidate.Other c) = of_other c
