-- The lines of an input, one after another.
use Rattle.std.specs.Prelude.{◌≡◌, ◌==◌, ◌-◌, ℕ, Bool, MatchBool, List, [], Option, Some, None, Result, Err}
use Rattle.std.specs.declared.alloc.Global.{Global}
use Rattle.std.specs.declared.string.String.{String}
use Rattle.line_config.specs.Error.{UnlessFault}
use Rattle.line_config.specs.declared.error.ReadlineError.{ReadlineError}
use Rattle.line_config.specs.declared.error.ReadlineError.TheVariants as errors
use Rattle.line_parts.specs.Environment.{Environment}
use Rattle.line_editor.specs.Binding.{Bound}
use Rattle.line_session.specs.Reading.{AfterFault, FailsToRead, ReadsLine}
use Rattle.line_session.specs.Sitting.{Sitting}

-- what is given of a line that was read: nothing at the end of the input
abbrev pub line_given : Result (String Global) ReadlineError → Option (Result (String Global) ReadlineError)
line_given (Err errors.Eof) = None
line_given answer = Some answer

-- how many lines may still be read once this was given
abbrev pub lines_behind : Option (Result (String Global) ReadlineError) → ℕ → ℕ
lines_behind None count = 0
lines_behind (Some answer) count = count - 1

module _ {H : Type 0} (answers : H → List (List ℕ) → Environment) (bound : Bound) (pauses : Bool) (input input' : Option (List ℕ)) (prompt : List ℕ) (old new : Sitting H) where
  -- a line was read after the prompt, and this is given of it
  pub record GivesLine (given : Option (Result (String Global) ReadlineError)) : Type 0 where
    pub answer : Result (String Global) ReadlineError
    pub is : given ≡ line_given answer
    pub reads : UnlessFault answer (ReadsLine answers bound pauses input input' prompt [] [] old new answer)
    pub left_so : AfterFault answer (FailsToRead answers bound pauses input prompt [] [] old new)

  -- what is given next, where this many lines may still be read: what is answered of one; or nothing, where it is none: editor and input stay
  abbrev pub GivesNext : ℕ → ℕ → Option (Result (String Global) ReadlineError) → Type 0
  GivesNext count left given =
      MatchBool (count == 0) ((given ≡ None) × (left ≡ 0) × (new ≡ old) × (input' ≡ input)) (GivesLine given × (left ≡ lines_behind given count))
