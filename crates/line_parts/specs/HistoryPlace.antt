-- Where a term has to stand in a line.
use Rattle.std.specs.Prelude.{ℕ, List, Option}
use Rattle.line_parts.specs.History.{behind_start, first_in}
use Rattle.line_parts.specs.declared.history.search.Place.{Place}
use Rattle.line_parts.specs.declared.history.search.Place.TheVariants.{Inside, Start}

-- the byte offset that a search of this kind finds for a term in a line, if it finds the term
abbrev pub place_of : Place → List ℕ → List ℕ → Option ℕ
place_of Inside = first_in
place_of Start = behind_start
