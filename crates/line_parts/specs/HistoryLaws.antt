-- Laws over what a history is.
use Rattle.std.specs.Prelude.{◌≡◌, ℕ, ◌+◌, ◌-◌, ◌<◌, ◌≤◌, List, [], length, Option, Some, None}
use Rattle.line_parts.specs.History.{Found, HistoryRules, all_added, all_taken, last_of, line_at, nearest_match}
use Rattle.line_parts.specs.declared.history.SearchDirection.{SearchDirection}
use Rattle.line_parts.specs.declared.history.SearchDirection.TheVariants.{Forward, Reverse}

-- a history to which lines were added one by one holds the last of those that it took
abbrev pub AddingKeepsTheLast : Type 0
AddingKeepsTheLast = (rules : HistoryRules) (texts : List (List ℕ))
    → all_added rules [] texts ≡ last_of rules.max_len (all_taken rules [] texts)

-- an index of so many lines lies on a side of the start, or is the start
abbrev pub IsOnSide : SearchDirection → ℕ → ℕ → ℕ → Type 0
IsOnSide Forward count start index = (start ≤ index) × (index < count)
IsOnSide Reverse count start index = index ≤ start

-- how far two indices are apart
abbrev pub apart : ℕ → ℕ → ℕ
apart a b = (a - b) + (b - a)

-- no line on the side that is nearer than so much has a place
abbrev pub NoneWithin : (List ℕ → Option ℕ) → List (List ℕ) → ℕ → SearchDirection → ℕ → Type 0
NoneWithin place lines start direction distance = (index : ℕ)
    → IsOnSide direction (length lines) start index → apart start index < distance
    → place (line_at lines index) ≡ None

-- what is found is a line on the side, with its place, and no nearer line has one
pub record IsNearest (place : List ℕ → Option ℕ) (lines : List (List ℕ)) (start : ℕ)
    (direction : SearchDirection) (found : Found) : Type 0 where
  pub on_side : IsOnSide direction (length lines) start found.index
  pub line : found.entry ≡ line_at lines found.index
  pub has_place : place found.entry ≡ Some found.pos
  pub none_nearer : NoneWithin place lines start direction (apart start found.index)

-- whatever a search finds is the nearest
abbrev pub FoundIsNearest : Type 0
FoundIsNearest = (place : List ℕ → List ℕ → Option ℕ) (lines : List (List ℕ)) (term : List ℕ)
    (start : ℕ) (direction : SearchDirection) (found : Found)
    → nearest_match place lines term start direction ≡ Some found
    → IsNearest (place term) lines start direction found

-- where a search for some text from a line finds nothing, no line on that side has a place
abbrev pub NoneIsNowhere : Type 0
NoneIsNowhere = (place : List ℕ → List ℕ → Option ℕ) (lines : List (List ℕ)) (term : List ℕ)
    (start : ℕ) (direction : SearchDirection) → 0 < length term → start < length lines
    → nearest_match place lines term start direction ≡ None
    → (index : ℕ) → IsOnSide direction (length lines) start index
    → place term (line_at lines index) ≡ None
