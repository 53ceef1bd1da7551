-- The text in which the lines of a history are kept.
use Rattle.std.specs.Prelude.{◌≡◌, ◌≢◌, ℕ, ◌-◌, ◌==◌, ◌&&◌, nat_lt, Bool, false, bytes_eq, if◌then◌else◌}
use Rattle.std.specs.Prelude.{List, [], ◌∷◌, ◌++◌, filter, length, map, take, Option, Some, None, is_some, IfOk, IfSome, MatchOption, OnErr, OnOk, Result, Ok, Err}
use Rattle.std.specs.Char.{is_newline}
use Rattle.std.specs.Io.KnownBytes.{Appends}
use Rattle.std.specs.List.{AllZip, flat_map, slice_split}
use Rattle.std.specs.declared.io.ErrorKind.TheVariants.{OutOfMemory}
use Rattle.line_config.specs.Error.{FaultsOnly, IoOnlyOfKind}
use Rattle.line_config.specs.declared.error.ReadlineError.{ReadlineError}
use Rattle.line_parts.specs.EscapedLine.{HasBadEscape, Unescapes, escaped_line}
use Rattle.line_parts.specs.History.{FiledHistory, all_filed, all_taken, last_of, settled}
use Rattle.line_parts.specs.declared.escaped_line.Escapes.{Escapes}
use Rattle.line_parts.specs.declared.escaped_line.Escapes.TheVariants.{V2, V3}

-- lines as they are written, a line feed after each
abbrev pub written : Escapes → List (List ℕ) → List ℕ
written escapes lines = flat_map (λ line. escaped_line escapes line ++ 10 ∷ []) lines

-- the first line of a text with escapes, which names them: `#V2` or `#V3`
abbrev pub header : Escapes → List ℕ
header V2 = 35 ∷ 86 ∷ 50 ∷ []
header V3 = 35 ∷ 86 ∷ 51 ∷ []

-- the text of a whole history
abbrev pub saved : Escapes → List (List ℕ) → List ℕ
saved escapes lines = header escapes ++ 10 ∷ written escapes lines

-- whether a line is not empty
abbrev pub is_some_text : List ℕ → Bool
is_some_text line = nat_lt 0 (length line)

-- a line without the carriage return at its end, if one stands there
abbrev pub without_return : List ℕ → List ℕ
without_return line =
    if bytes_eq (last_of 1 line) (13 ∷ []) then take (length line - 1) line else line

-- the lines of a text: each that a line feed ends, without the carriage return before it; and what stands after the last line
-- feed, if anything does
abbrev pub lines_of : List ℕ → List (List ℕ)
lines_of text = let pieces = slice_split is_newline text in
    map without_return (take (length pieces - 1) pieces) ++ filter is_some_text (last_of 1 pieces)

-- a line says the text that stands in it by its escapes; where there is none, it says itself
pub data Says (escapes : Escapes) (line text : List ℕ) : Type 0 where
  unescaped : Unescapes escapes line text → Says escapes line text
  as_it_stands : HasBadEscape escapes line → text ≡ line → Says escapes line text

-- what the written lines say: by escapes, or without any each as it stands; empty ones nothing
abbrev pub SaysLines : Option Escapes → List (List ℕ) → List (List ℕ) → Type 0
SaysLines (Some escapes) written lines = AllZip (Says escapes) (filter is_some_text written) lines
SaysLines None written lines = lines ≡ filter is_some_text written

-- a text has the header of some escapes or it has none, and says these lines: after a header by
-- its escapes, without one each as it stands
pub data IsHistoryText (text : List ℕ) (headed : Option Escapes) (lines : List (List ℕ)) : Type 0 where
  with_header : (escapes : Escapes) → headed ≡ Some escapes → (rest : List (List ℕ))
      → lines_of text ≡ header escapes ∷ rest
      → SaysLines (Some escapes) rest lines → IsHistoryText text headed lines
  without_header : headed ≡ None
      → ((escapes : Escapes) (rest : List (List ℕ)) → lines_of text ≢ header escapes ∷ rest)
      → SaysLines None (lines_of text) lines → IsHistoryText text headed lines

-- no carriage return stands at the end of a line
abbrev pub EndsPlain : List ℕ → Type 0
EndsPlain line = bytes_eq (last_of 1 line) (13 ∷ []) ≡ false

-- whether each of these is taken, where each is added in turn
abbrev pub takes_all : FiledHistory → List (List ℕ) → Bool
takes_all h lines = length (all_taken h.rules h.lines lines) == length lines

-- a history after a whole text was read, and whether the text had a header and all its lines
-- were taken
pub record Loads (text : List ℕ) (old new : FiledHistory) (answer : Bool) : Type 0 where
  pub headed : Option Escapes
  pub lines : List (List ℕ)
  pub says : IsHistoryText text headed lines
  pub added : new ≡ settled (all_filed old lines)
  pub answers : answer ≡ (is_some headed && takes_all old lines)

-- a history after some of the first lines of a text were read, or none
pub record LoadsBeginning (text : List ℕ) (old new : FiledHistory) : Type 0 where
  pub headed : Option Escapes
  pub lines : List (List ℕ)
  pub unread : List (List ℕ)
  pub says : IsHistoryText text headed (lines ++ unread)
  pub added : new ≡ all_filed old lines

-- a text that is known is loaded, unless that fails
abbrev pub LoadsWhole : {E : Type 0} → Result Bool E → Option (List ℕ) → FiledHistory → FiledHistory → Type 0
LoadsWhole result text old new = IfOk result (λ answer. IfSome text (λ t. Loads t old new answer))

-- a load of a text that is known, if it fails, has added some of its first lines
abbrev pub LoadsFirst : {E : Type 0} → Result Bool E → Option (List ℕ) → FiledHistory → FiledHistory → Type 0
LoadsFirst result text old new = OnErr result (IfSome text (λ t. LoadsBeginning t old new))

-- a history after what written lines say was added, and whether all of it was taken
pub record AddsLines (headed : Option Escapes) (written : List (List ℕ)) (old new : FiledHistory) (taken : Bool) : Type 0 where
  pub lines : List (List ℕ)
  pub says : SaysLines headed written lines
  pub added : new ≡ all_filed old lines
  pub takes : taken ≡ takes_all old lines

-- a history after the first of what written lines say was added
pub record AddsBeginning (headed : Option Escapes) (written : List (List ℕ)) (old new : FiledHistory) : Type 0 where
  pub lines : List (List ℕ)
  pub unread : List (List ℕ)
  pub says : SaysLines headed written (lines ++ unread)
  pub added : new ≡ all_filed old lines

-- all that the lines of a text say was added, where the text is known, unless that fails
abbrev pub AddsWhole : {E : Type 0} → Result Bool E → Option Escapes → Option (List ℕ) → FiledHistory → FiledHistory → Type 0
AddsWhole result headed text old new = IfOk result (λ taken. IfSome text (λ t. AddsLines headed (lines_of t) old new taken))

-- where that fails, the first of it was added
abbrev pub AddsFirst : {E : Type 0} → Result Bool E → Option Escapes → Option (List ℕ) → FiledHistory → FiledHistory → Type 0
AddsFirst result headed text old new = OnErr result (IfSome text (λ t. AddsBeginning headed (lines_of t) old new))

-- a history after some lines were added
pub record AddsSome (old new : FiledHistory) : Type 0 where
  pub lines : List (List ℕ)
  pub added : new ≡ all_filed old lines

-- some lines were added, and no line counts as new where all went well
abbrev pub FilesSome : {T E : Type 0} → Result T E → FiledHistory → FiledHistory → Type 0
FilesSome (Ok _) old new = (some : FiledHistory) × AddsSome old some × (new ≡ settled some)
FilesSome (Err _) old new = AddsSome old new

-- these are the first lines of a text, where it is known, and it goes on with the rest
abbrev pub GoesOn : Option (List ℕ) → Option (List ℕ) → List (List ℕ) → Type 0
GoesOn text rest firsts =
    IfSome text (λ t. MatchOption rest ⊥ (λ r. lines_of t ≡ firsts ++ lines_of r))

-- a header was read from the front of a text, or else the first line, if there is one, was added
pub record ReadsHeader (text rest : Option (List ℕ)) (old new : FiledHistory) (headed : Option Escapes) : Type 0 where
  pub firsts : List (List ℕ)
  pub goes_on : GoesOn text rest firsts
  pub with_header : (escapes : Escapes) → headed ≡ Some escapes
      → (firsts ≡ header escapes ∷ []) × (new ≡ old)
  pub no_header : headed ≡ None
      → IfSome text (λ t. (escapes : Escapes) (more : List (List ℕ)) → lines_of t ≢ header escapes ∷ more)
  pub added : headed ≡ None → new ≡ all_filed old (filter is_some_text firsts)

-- the text that a save writes: all lines after the header, or the new ones to be appended
abbrev pub to_save : Escapes → Bool → FiledHistory → List ℕ
to_save escapes append h =
    if append then written escapes (last_of h.new_lines h.lines) else saved escapes h.lines

-- a save with these escapes: what was to be saved stands after what the writer had, and no line counts as new; after an error
-- the history is as it was. Want of memory is never an error of the stream
pub record Saves {T : Type 0} (escapes : Escapes) (append : Bool) (result : Result T ReadlineError) (had has : Option (List ℕ)) (old new : FiledHistory) : Type 0 where
  pub text : OnOk result (Appends had has (to_save escapes append old))
  pub history : OnOk result (new ≡ settled old)
  pub unchanged : OnErr result (new ≡ old)
  pub kind : IoOnlyOfKind result (λ kind. kind ≢ OutOfMemory)
  pub faults : FaultsOnly result
