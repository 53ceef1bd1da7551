-- Bytes that are handed over in a buffer.
use Rattle.std.specs.Prelude.{◌≡◌, ◌≢◌, ℕ, nat_le, MatchBool, List, [], Option, Some, None, drop, length, min, take}
use Rattle.line_host.specs.declared.status.Status.{Status}
use Rattle.line_host.specs.declared.status.Status.TheVariants as status

-- as many bytes as there are and a buffer has room for were taken into it; the rest of both stays
pub record TakesBytes (had has buffer filled : List ℕ) (count : ℕ) : Type 0 where
  pub counts : count ≡ min (length had) (length buffer)
  pub given : take count filled ≡ take count had
  pub left : has ≡ drop count had
  pub rest : drop count filled ≡ drop count buffer

-- the same of bytes that are to be written, or, where all of these were taken, of others
pub record TakesOutput (had has buffer filled : List ℕ) (count : ℕ) : Type 0 where
  pub bytes : List ℕ
  pub kept : had ≢ [] → bytes ≡ had
  pub takes : TakesBytes bytes has buffer filled count

-- a text was copied into a buffer, where it has room for all of it, and else nothing was; its length is reported
pub record Copies (text buffer filled : List ℕ) (reported : ℕ) (came : Status) : Type 0 where
  pub tells : reported ≡ length text
  pub copied : MatchBool (nat_le (length text) (length buffer))
      ((came ≡ status.Done) × (take reported filled ≡ text) × (drop reported filled ≡ drop reported buffer)) ((came ≡ status.TooSmall) × (filled ≡ buffer))

-- the same, if there is a text
abbrev pub CopiesIfAny : Option (List ℕ) → List ℕ → List ℕ → ℕ → Status → Type 0
CopiesIfAny (Some text) buffer filled reported came = Copies text buffer filled reported came
CopiesIfAny None buffer filled reported came = (came ≡ status.NoLine) × (filled ≡ buffer) × (reported ≡ 0)
