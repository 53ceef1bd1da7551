-- Hints from the history.
use Rattle.std.specs.Prelude.{ℕ, ◌-◌, ◌==◌, ◌||◌, nat_lt, bytes_eq, if◌then◌else◌}
use Rattle.std.specs.Prelude.{List, length, drop, Option, Some, None, option_and_then}
use Rattle.line_parts.specs.History.{starting_with}
use Rattle.line_parts.specs.Shown.{Shown}
use Rattle.line_parts.specs.declared.history.SearchDirection.TheVariants.{Reverse}

-- the index from which a hint is looked for: the newest line's where the line is being written
abbrev pub start_in : ℕ → List (List ℕ) → ℕ
start_in index lines = if index == length lines then length lines - 1 else index

-- that index, by what is shown
abbrev pub hint_start : Shown → ℕ
hint_start shown = start_in shown.index shown.lines

-- what a line of the history has after a text, where it is more than the text
abbrev pub rest_behind : List ℕ → List ℕ → Option (List ℕ)
rest_behind text line = if bytes_eq line text then None else Some (drop (length text) line)

-- the hint at the end of a text: the rest of the nearest line, going back, that begins with it
abbrev pub history_hint : Shown → Option (List ℕ)
history_hint shown =
    if length shown.text == 0 || nat_lt shown.cursor (length shown.text) then None
    else option_and_then (λ found. rest_behind shown.text found.entry)
    (starting_with shown.lines shown.text (hint_start shown) Reverse)
