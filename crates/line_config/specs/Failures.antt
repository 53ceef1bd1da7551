-- How failures are counted.
use Rattle.std.specs.Prelude.{◌≡◌, ℕ, ◌≤◌, false, Result, Ok, Err}
use Rattle.line_config.specs.Error.{IoOnlyIf, Rose, is_io}
use Rattle.line_config.specs.declared.error.ReadlineError.{ReadlineError}

-- unless the error is one of input or output, this holds
abbrev pub UnlessIo : {T : Type 0} → Result T ReadlineError → Type 0 → Type 0
UnlessIo (Ok _) P = P
UnlessIo (Err e) P = is_io e ≡ false → P

-- how failures are counted: an error of input or output raises the count, and nothing else changes it
pub record CountsFailures {T : Type 0} (result : Result T ReadlineError) (old new : ℕ) : Type 0 where
  pub grows : old ≤ new
  pub rose : IoOnlyIf result (Rose old new)
  pub stays : UnlessIo result (new ≡ old)
