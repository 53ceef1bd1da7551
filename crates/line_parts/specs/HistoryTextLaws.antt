-- Laws of the text in which the lines of a history are kept.
use Rattle.std.specs.Prelude.{◌≡◌, ℕ, Bool, List, ◌++◌, All, filter, Option, Some}
use Rattle.line_parts.specs.History.{FiledHistory, all_filed, settled}
use Rattle.line_parts.specs.HistoryText.{EndsPlain, IsHistoryText, Loads, is_some_text, saved, written}
use Rattle.line_parts.specs.declared.escaped_line.Escapes.{Escapes}
use Rattle.line_parts.specs.declared.escaped_line.Escapes.TheVariants.{V2, V3}

-- a saved text, with an appended one after it, says the lines of both, empty ones left out
abbrev pub ReadsBack : Escapes → List (List ℕ) → List (List ℕ) → Type 0
ReadsBack escapes xs ys =
    IsHistoryText (saved escapes xs ++ written escapes ys) (Some escapes) (filter is_some_text (xs ++ ys))

-- loading a saved text, with an appended one after it, leaves what adding the lines of both leaves
abbrev pub LoadsBack : Escapes → List (List ℕ) → List (List ℕ) → Type 0
LoadsBack escapes xs ys = (old new : FiledHistory) (answer : Bool)
    → Loads (saved escapes xs ++ written escapes ys) old new answer
    → new ≡ settled (all_filed old (xs ++ ys))

-- lines that do not end in a carriage return come back from a text that begins with `#V2`
abbrev pub SavedIsRead : Type 0
SavedIsRead = (xs ys : List (List ℕ)) → All EndsPlain xs → All EndsPlain ys → ReadsBack V2 xs ys

-- and loading that text leaves what adding these lines leaves
abbrev pub SavedIsLoaded : Type 0
SavedIsLoaded = (xs ys : List (List ℕ)) → All EndsPlain xs → All EndsPlain ys → LoadsBack V2 xs ys

-- all lines come back from a text that begins with `#V3`
abbrev pub SavedV3IsRead : Type 0
SavedV3IsRead = (xs ys : List (List ℕ)) → ReadsBack V3 xs ys

-- and loading that text leaves what adding these lines leaves
abbrev pub SavedV3IsLoaded : Type 0
SavedV3IsLoaded = (xs ys : List (List ℕ)) → LoadsBack V3 xs ys

-- a text has one header or none, and says one list of lines
abbrev pub TextSaysOne : Type 0
TextSaysOne = (text : List ℕ) (one other : Option Escapes) (lines more : List (List ℕ))
    → IsHistoryText text one lines → IsHistoryText text other more
    → (one ≡ other) × (lines ≡ more)
