-- What a validator says of a text.
use Rattle.std.specs.Prelude.{ℕ, List, Option, None, option_map, string_bytes}
use Rattle.line_parts.specs.declared.validate.ValidationResult.{ValidationResult}
use Rattle.line_parts.specs.declared.validate.ValidationResult.TheVariants as Said

-- the text is not complete; or it is refused, or taken, with a message or without one
pub data Verdict : Type 0 where
  incomplete : Verdict
  invalid : Option (List ℕ) → Verdict
  valid : Option (List ℕ) → Verdict

-- the verdict that a result stands for
abbrev pub verdict_of : ValidationResult → Verdict
verdict_of Said.Incomplete = incomplete
verdict_of (Said.Invalid message) = invalid (option_map string_bytes message)
verdict_of (Said.Valid message) = valid (option_map string_bytes message)

-- the message of a verdict, if it has one
abbrev pub message_of : Verdict → Option (List ℕ)
message_of (valid message) = message
message_of (invalid message) = message
message_of incomplete = None
