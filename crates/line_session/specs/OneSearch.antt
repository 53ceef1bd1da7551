-- A search is one change.
use Rattle.std.specs.Prelude.{◌≡◌, ◌≤◌, if◌then◌else◌, length, IsCharBoundary}
use Rattle.line_keys.specs.Model.Draft.{Draft}
use Rattle.line_parts.specs.Environment.{Environment}
use Rattle.line_parts.specs.declared.history.SearchDirection.{SearchDirection}
use Rattle.line_editor.specs.Completing.{taken_back_once}
use Rattle.line_session.specs.Searching.{SearchGoesOn, Search, Searches, ShowsSearch, first_search, search_value}
use Rattle.line_session.specs.declared.mode.Mode.{Mode}
use Rattle.line_session.specs.declared.searching.SearchCmd.{SearchCmd}
use Rattle.line_session.specs.declared.searching.SearchCmd.TheVariants.{GiveUp}

-- a search began at a draft, and went on, whatever was said to it: this is where it stands, and the draft that is left
pub data SearchedThrough (environment : Environment) (start : Draft) : Search → Draft → Type 0 where
  begun : {new : Draft} {mode : Mode} → (direction : SearchDirection)
      → (shows : ShowsSearch environment (first_search environment direction start) start new mode)
      → SearchedThrough environment start (search_value shows.searching) new
  on : {search : Search} {draft new : Draft} {mode : Mode} → SearchedThrough environment start search draft → (says : SearchCmd)
      → (goes : SearchGoesOn environment says search draft new mode) → SearchedThrough environment start (search_value goes.searching) new

-- however a search went on, taking back the newest change, if the shown line is one, restores the text from before
abbrev pub SearchIsOneChange : Type 0
SearchIsOneChange = (environment : Environment) (start draft : Draft) (search : Search)
    → SearchedThrough environment start search draft
    → (if search.grown then taken_back_once draft else draft).line.text ≡ start.line.text

-- a line and a history index are those from before
pub record Restores (start new : Draft) : Type 0 where
  pub line : new.line ≡ start.line
  pub index : new.index ≡ start.index

-- and giving up the search restores the line from before, with its cursor, as the line of the history that it was
abbrev pub GivingUpSearchRestores : Type 0
GivingUpSearchRestores = (environment : Environment) (start draft new : Draft) (search : Search) (mode : Mode)
    → IsCharBoundary start.line.text start.line.cursor → start.index ≤ length environment.lines
    → SearchedThrough environment start search draft → Searches environment search GiveUp draft new mode → Restores start new
