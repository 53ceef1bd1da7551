-- The position of a line in a history.
use Rattle.std.specs.Prelude.{ℕ, List}
use Rattle.line_parts.specs.Shown.{Shown}
use Rattle.line_parts.specs.declared.history.History.{Ghosts}

-- a history, and an index in it; the line that is being written follows all others
pub record HistoryPosition (S : Type 0) : Type 0 where
  pub history : S
  pub index : ℕ

-- what is shown of a text with its cursor, at a position in a history
abbrev pub shown_in : {S : Type 0} → Ghosts S → HistoryPosition S → List ℕ → ℕ → Shown
shown_in history at text cursor = record {
  text = text;
  cursor = cursor;
  index = at.index;
  lines = history.lines at.history;
}
