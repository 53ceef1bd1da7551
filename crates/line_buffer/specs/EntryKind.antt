-- What the newest entry is.
use Rattle.std.specs.Prelude.{ℕ, Bool, true, false, List, [], ◌∷◌, Option, Some, None}
use Rattle.line_buffer.specs.Changes.{Entry, begins, ends, inserted, deleted, replaced}
use Rattle.line_buffer.specs.declared.undo.steps.Taken.{Taken}
use Rattle.line_buffer.specs.declared.undo.steps.Taken.TheVariants as Kind

-- a begin, an end, or a change of the text
abbrev pub taken_kind : Entry → Taken
taken_kind begins = Kind.Begin
taken_kind ends = Kind.End
taken_kind (inserted place text) = Kind.Change
taken_kind (deleted place text) = Kind.Change
taken_kind (replaced place old new) = Kind.Change

-- that of the newest entry, if there is one
abbrev pub newest_kind : List Entry → Option Taken
newest_kind [] = None
newest_kind (e ∷ entries) = Some (taken_kind e)

-- how many groups it begins
abbrev pub opened_by : Taken → ℕ
opened_by Kind.Begin = 1
opened_by Kind.End = 0
opened_by Kind.Change = 0

-- how many groups it ends
abbrev pub closed_by : Taken → ℕ
closed_by Kind.Begin = 0
closed_by Kind.End = 1
closed_by Kind.Change = 0

-- it is a change of the text
abbrev pub is_text : Taken → Bool
is_text Kind.Begin = false
is_text Kind.End = false
is_text Kind.Change = true
