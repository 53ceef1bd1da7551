-- What a key stands for, where the rows of several tables are looked at in turn.
use Rattle.std.specs.Prelude.{◌≡◌, Option, Some, None, option_map}
use Rattle.std.specs.Option.{option_or}
use Rattle.std.proofs.Common.{arith}
use Rattle.std.proofs.lemmas.Grind.{common_steps}

-- nothing stands in a table that gives none: the answer is that of the others
pub passed_over : {T U V : Type 0} (f : T → U) (g : V → U) (found : Option T) (a b : Option V) (answer : Option U)
    → found ≡ None → option_map f found ≡ option_map g a → answer ≡ option_map g b → answer ≡ option_map g (option_or a b)
passed_over f g found None b answer none same later = later
passed_over f g found (Some x) b answer none same later = grind (arith, common_steps)
