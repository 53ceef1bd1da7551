-- How a text is shown.
use Rattle.std.specs.Prelude.{◌≡◌, ℕ, List, Result, IfOk}
use Rattle.std.specs.Cow.{cow_str_bytes}
use Rattle.std.specs.declared.borrow.CowStr.{CowStr}

-- this text is shown, unless that fails
abbrev pub IsShownAs : {Z E : Type 0} → Result (CowStr Z) E → List ℕ → Type 0
IsShownAs result text = IfOk result (λ shown. cow_str_bytes shown ≡ text)
