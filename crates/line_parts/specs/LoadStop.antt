-- Why a text of a history is not loaded to its end.
use Rattle.std.specs.Prelude.{◌≡◌, ◌≢◌, ℕ, ◌≤◌, List, [], ◌∷◌, length, Option, Result, Ok, Err}
use Rattle.std.specs.IoError.{error_kind}
use Rattle.std.specs.Str.{IsUtf8}
use Rattle.std.specs.declared.io.Error.{Error}
use Rattle.std.specs.declared.io.ErrorKind.{ErrorKind}
use Rattle.std.specs.declared.io.ErrorKind.TheVariants.{FileTooLarge, Interrupted, InvalidData, OutOfMemory}
use Rattle.line_config.specs.Error.{IsIoOfKind, max_count}
use Rattle.line_config.specs.declared.error.ReadlineError.{ReadlineError}
use Rattle.line_config.specs.declared.error.ReadlineError.TheVariants as error
use Rattle.line_parts.specs.History.{FiledHistory}
use Rattle.line_parts.specs.HistoryText.{AddsBeginning, LoadsBeginning, SaysLines, lines_of}
use Rattle.line_parts.specs.declared.escaped_line.Escapes.{Escapes}
use Rattle.line_parts.specs.declared.history.lines.ReaderFault.{ReaderFault}
use Rattle.line_parts.specs.declared.history.lines.Stop.{Stop}
use Rattle.line_parts.specs.declared.history.lines.Stop.TheVariants as stop

-- errors of this kind stop the reading: no want of memory, and no interruption, after which it goes on
abbrev pub StopsReading : ErrorKind → Type 0
StopsReading kind = (kind ≢ OutOfMemory) × (kind ≢ Interrupted)

-- the error by which a reader failed
abbrev pub cause_of : ReaderFault → Error
cause_of fault = fault.cause

-- what a written line says is not UTF-8
abbrev pub SaysNoText : Option Escapes → List ℕ → Type 0
SaysNoText headed line =
    (text : List ℕ) × SaysLines headed (line ∷ []) (text ∷ []) × ¬ (IsUtf8 text)

-- there is a first line, and it is not UTF-8
abbrev pub FirstIsNoText : List (List ℕ) → Type 0
FirstIsNoText [] = ⊥
FirstIsNoText (line ∷ more) = ¬ (IsUtf8 line)

-- a history after what written lines say was added, up to a line that is not UTF-8
abbrev pub AddsToNoText : Option Escapes → List (List ℕ) → FiledHistory → FiledHistory → Type 0
AddsToNoText headed written old new =
    (added : AddsBeginning headed written old new) × FirstIsNoText added.unread

-- a history after the lines of a text were read up to one that is not UTF-8
abbrev pub LoadsToNoText : List ℕ → FiledHistory → FiledHistory → Type 0
LoadsToNoText text old new = (read : LoadsBeginning text old new) × FirstIsNoText read.unread

-- a text has at least as many lines as can be counted
abbrev pub HasTooManyLines : List ℕ → Type 0
HasTooManyLines text = max_count ≤ length (lines_of text)

-- a part of a load that stops does so where the reader fails, or memory runs out; for a line that is no text only where the one
-- holds, and for too many lines only where the other does
abbrev pub StopsOnlyIf : {T : Type 0} → Result T Stop → Type 0 → Type 0 → Type 0
StopsOnlyIf (Ok _) no_text too_many = Unit {0}
StopsOnlyIf (Err (stop.Reader fault)) no_text too_many = error_kind (cause_of fault) ≢ Interrupted
StopsOnlyIf (Err stop.NotText) no_text too_many = no_text
StopsOnlyIf (Err stop.TooLong) no_text too_many = too_many
StopsOnlyIf (Err stop.Memory) no_text too_many = Unit {0}

-- the error of a load that stops: the reader's own, but for want of memory; or that of the reason
abbrev pub StopsBy : Stop → ReadlineError → Type 0
StopsBy (stop.Reader fault) e = (error_kind (cause_of fault) ≡ OutOfMemory → e ≡ error.Memory)
    × (error_kind (cause_of fault) ≢ OutOfMemory → e ≡ error.Io (cause_of fault))
StopsBy stop.NotText e = IsIoOfKind e InvalidData
StopsBy stop.TooLong e = IsIoOfKind e FileTooLarge
StopsBy stop.Memory e = e ≡ error.Memory
