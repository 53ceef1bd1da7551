-- A completion is one change.
use Rattle.std.specs.Prelude.{◌≡◌, ◌++◌, ℕ, Bool, false, List, take, drop, IsCharBoundary}
use Rattle.line_keys.specs.Model.Draft.{Draft, KeepsLine}
use Rattle.line_parts.specs.Candidate.{BeginsIn}
use Rattle.line_parts.specs.Environment.{Environment}
use Rattle.line_parts.specs.Written.{Written, put_to_cursor}
use Rattle.line_session.specs.Completing.{Elects, GivesUp, GoesOnTo, before_shown}
use Rattle.line_session.specs.declared.completing.Completing.{Completing}
use Rattle.line_session.specs.declared.mode.Mode.{Mode}

-- a completion began at a draft, and was gone through, whatever way: these are its candidates and the one that is shown, and the draft that
-- is left
pub data GoneThrough (environment : Environment) (start : Draft) : Completing → Draft → Type 0 where
  begun : {new : Draft} {mode : Mode} → (going : Completing) (index : ℕ) → going.grown ≡ false → BeginsIn start.line.text start.line.cursor going.start
      → (goes : GoesOnTo environment going index start new mode) → GoneThrough environment start goes.next new
  on : {going : Completing} {draft new : Draft} {mode : Mode} → GoneThrough environment start going draft → (index : ℕ)
      → (goes : GoesOnTo environment going index draft new mode) → GoneThrough environment start goes.next new

-- a helper puts each elected text in place of what stands from the start to the cursor
abbrev pub PutsToCursorAlways : Environment → Type 0
PutsToCursorAlways environment = (written : Written) (start : ℕ) (text : List ℕ) → environment.updated written start text ≡ put_to_cursor written start text

-- however a completion was gone through, taking back the change by which the shown candidate was put in, if it changed anything, restores
-- the line from before, with its cursor, where the helper puts texts in place of what stands from the start to the cursor
abbrev pub CompletionIsOneChange : Type 0
CompletionIsOneChange = (environment : Environment) (old new : Draft) (going : Completing)
    → PutsToCursorAlways environment → IsCharBoundary old.line.text old.line.cursor → GoneThrough environment old going new
    → KeepsLine old (before_shown going new)

-- and giving up the candidates restores that line
abbrev pub GivingUpRestores : Type 0
GivingUpRestores = (environment : Environment) (old draft new : Draft) (going : Completing) (mode : Mode)
    → PutsToCursorAlways environment → IsCharBoundary old.line.text old.line.cursor → GoneThrough environment old going draft → GivesUp environment going draft new mode
    → KeepsLine old new

-- a candidate that was put in leaves the text before the completed part and after the cursor
abbrev pub CompletionKeepsTheRest : Type 0
CompletionKeepsTheRest = (environment : Environment) (start : ℕ) (text : List ℕ) (grown : Bool) (old new : Draft)
    → PutsToCursorAlways environment → IsCharBoundary old.line.text old.line.cursor → BeginsIn old.line.text old.line.cursor start → Elects environment start text grown old new
    → new.line.text ≡ take start old.line.text ++ text ++ drop old.line.cursor old.line.text
