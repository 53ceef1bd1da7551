-- What a call that edits leaves of the line and of its changes.
use Rattle.std.specs.Prelude.{◌≡◌, Bool, List, ◌∷◌, Result, IfOk, OnOk, IsCharBoundary, if◌then◌else◌}
use Rattle.line_buffer.specs.Changes.{Changes, Entry, with_entries}
use Rattle.line_buffer.specs.Line.{Line}
use Rattle.line_buffer.specs.Undo.{KeepsTold, StillTells}

-- the changes with other entries, made of those that were
abbrev pub on_entries : (List Entry → List Entry) → Changes → Changes
on_entries add c = with_entries c (add c.entries)

-- a success leaves what is made of the entries
abbrev pub Adds : {T E : Type 0} → Result T E → Changes → Changes → (List Entry → List Entry) → Type 0
Adds result c c' add = OnOk result (c' ≡ on_entries add c)

-- a success answers whether an edit joined the newest entry, which then records both; where it did not, that entry stays, and the edit
-- has an entry of its own
abbrev pub Joins : {E : Type 0} → Result Bool E → Entry → Entry → (List Entry → List Entry) → Entry → Type 0
Joins result old new add other = IfOk result (λ joined. (older : List Entry) → add (old ∷ older) ≡ (if joined then new ∷ older else other ∷ new ∷ older))

-- a success leaves this line and these changes; after an error too the changes record the line, and its cursor stands on a boundary
pub record Edits {T E : Type 0} (result : Result T E) (old new : Line) (c c' : Changes) (made : Line) (add : Changes → Changes) : Type 0 where
  pub cursor : IsCharBoundary new.text new.cursor
  pub line : OnOk result (new ≡ made)
  pub changes : OnOk result (c' ≡ add c)
  pub told : KeepsTold result c old c' new

-- the same, where the changes are still to be given up after an error
pub record EditsIfOk {T E : Type 0} (result : Result T E) (old new : Line) (c c' : Changes) (made : Line) (add : Changes → Changes) : Type 0 where
  pub cursor : IsCharBoundary new.text new.cursor
  pub line : OnOk result (new ≡ made)
  pub changes : OnOk result (c' ≡ add c)
  pub tells : OnOk result (StillTells c.entries old.text c'.entries new.text)
