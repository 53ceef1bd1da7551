-- Lines that were entered before, the oldest first.
use Rattle.std.specs.Prelude.{◌≡◌, ℕ, ◌+◌, ◌-◌, ◌==◌, ◌&&◌, ◌||◌, nat_le, min, Bool, true, false, not}
use Rattle.std.specs.Prelude.{bytes_eq, chars, String, string_bytes, if◌then◌else◌}
use Rattle.std.specs.Prelude.{List, [], ◌∷◌, ◌++◌, length, map, take, drop}
use Rattle.std.specs.Prelude.{Option, Some, None, is_some, option_and_then, option_map, Result, IfOk, IfSome}
use Rattle.std.specs.Char.{is_whitespace}
use Rattle.std.specs.Cow.{IsBorrowedStr, cow_str_bytes}
use Rattle.std.specs.List.{list_any, position, range_with_len, slice_get, slice_index_or}
use Rattle.std.specs.List.{starts_with}
use Rattle.std.specs.VecDeque.Iter.{deque_iter_rest}
use Rattle.std.specs.declared.collections.vec_deque.Iter.{Iter}
use Rattle.line_config.specs.Settings.{Settings}
use Rattle.line_config.specs.declared.config.HistoryDuplicates.{HistoryDuplicates}
use Rattle.line_config.specs.declared.config.HistoryDuplicates.TheVariants.{AlwaysAdd, IgnoreConsecutive}
use Rattle.line_parts.specs.declared.history.SearchDirection.{SearchDirection}
use Rattle.line_parts.specs.declared.history.SearchDirection.TheVariants.{Forward, Reverse}
use Rattle.line_parts.specs.declared.history.SearchResult.{SearchResult}

-- which lines a history takes: how many at most, and whether one that equals the newest, or begins
-- with white space, is left out
pub record HistoryRules : Type 0 where
  pub max_len : ℕ
  pub ignore_dups : Bool
  pub ignore_space : Bool

-- whether a line that equals the newest is left out
abbrev pub leaves_out_dups : HistoryDuplicates → Bool
leaves_out_dups AlwaysAdd = false
leaves_out_dups IgnoreConsecutive = true

-- which lines a history takes by these settings
abbrev pub rules_of : Settings → HistoryRules
rules_of s = record {
  max_len = s.max_history_size;
  ignore_dups = leaves_out_dups s.history_duplicates;
  ignore_space = s.history_ignore_space;
}

-- which lines a history takes where nothing was set
abbrev pub usual_rules : HistoryRules
usual_rules = record { max_len = 100; ignore_dups = true; ignore_space = false }

-- a history: its lines, and which lines it takes
pub record PlainHistory : Type 0 where
  pub lines : List (List ℕ)
  pub rules : HistoryRules

-- the last n of a list, or all where there are fewer
abbrev pub last_of {ℓ} : {X : Type ℓ} → ℕ → List X → List X
last_of n xs = drop (length xs - n) xs

-- whether the newest line is this one
abbrev pub is_newest : List (List ℕ) → List ℕ → Bool
is_newest lines line = list_any (bytes_eq line) (last_of 1 lines)

-- whether a text begins with white space
abbrev pub begins_blank : List ℕ → Bool
begins_blank text = list_any is_whitespace (take 1 (chars text))

-- whether a line is left out
abbrev pub leaves_out : HistoryRules → List (List ℕ) → List ℕ → Bool
leaves_out rules lines line = rules.max_len == 0 || length line == 0
    || (rules.ignore_space && begins_blank line) || (rules.ignore_dups && is_newest lines line)

-- an add answers whether the line is taken, unless it fails
abbrev pub TellsTaken : {E : Type 0} → Result Bool E → HistoryRules → List (List ℕ) → List ℕ → Type 0
TellsTaken result rules lines line = IfOk result (λ taken. taken ≡ not (leaves_out rules lines line))

-- the lines with one after them, unless it is left out: the last so many
abbrev pub added : HistoryRules → List (List ℕ) → List ℕ → List (List ℕ)
added rules lines line =
    if leaves_out rules lines line then lines else last_of rules.max_len (lines ++ line ∷ [])

-- the lines after each of these was added in turn
abbrev pub all_added : HistoryRules → List (List ℕ) → List (List ℕ) → List (List ℕ)
all_added rules lines [] = lines
all_added rules lines (line ∷ more) = all_added rules (added rules lines line) more

-- those that are taken, where each is added in turn
abbrev pub all_taken : HistoryRules → List (List ℕ) → List (List ℕ) → List (List ℕ)
all_taken rules lines [] = []
all_taken rules lines (line ∷ more) =
    if leaves_out rules lines line then all_taken rules (added rules lines line) more
    else line ∷ all_taken rules (added rules lines line) more

-- a line of a history, its index, and a byte offset in it, which the search found
pub record Found : Type 0 where
  pub entry : List ℕ
  pub index : ℕ
  pub pos : ℕ

-- what a search found, as text
abbrev pub found_of : SearchResult → Found
found_of r = record { entry = cow_str_bytes r.entry; index = r.idx; pos = r.pos }

-- a look-up has this answer, unless it fails
abbrev pub Finds : {E : Type 0} → Result (Option SearchResult) E → Option Found → Type 0
Finds result answer = IfOk result (λ found. option_map found_of found ≡ answer)

-- the line that a look-up finds is borrowed
abbrev pub FindsBorrowed : {E : Type 0} → Result (Option SearchResult) E → Type 0
FindsBorrowed result = IfOk result (λ found. IfSome found (λ f. IsBorrowedStr f.entry))

-- the line at an index, if there is one
abbrev pub entry_at : List (List ℕ) → ℕ → Option Found
entry_at lines index =
    option_map (λ entry. record { entry = entry; index = index; pos = 0 }) (slice_get lines index)

-- the least number below a bound that passes
abbrev pub least_below : ℕ → (ℕ → Bool) → Option ℕ
least_below bound passes = position passes (range_with_len 0 bound)

-- where a term stands in a line: the byte offset of its first occurrence
abbrev pub first_in : List ℕ → List ℕ → Option ℕ
first_in term line =
    least_below (length line + 1) (λ pos. starts_with (λ a b. a == b) (drop pos line) term)

-- where a term that a line must begin with stands: after it
abbrev pub behind_start : List ℕ → List ℕ → Option ℕ
behind_start term line =
    if starts_with (λ a b. a == b) line term then Some (length term) else None

-- the index so many lines away from another
abbrev pub away : SearchDirection → ℕ → ℕ → ℕ
away Forward start distance = start + distance
away Reverse start distance = start - distance

-- how many of so many lines stand on a side, the one at the start included
abbrev pub count_on_side : SearchDirection → ℕ → ℕ → ℕ
count_on_side Forward count start = count - start
count_on_side Reverse count start = start + 1

-- the lines that an iterator has still to return
abbrev pub lines_to_come : {Z : Type 0} → Iter (String Z) → List (List ℕ)
lines_to_come it = map string_bytes (deque_iter_rest it)

-- the line at an index below the number of lines
abbrev pub line_at : List (List ℕ) → ℕ → List ℕ
line_at lines index = slice_index_or lines index []

-- the index of the line at the least distance on a side, of those in which there is a place
abbrev pub nearest : (List ℕ → Option ℕ) → List (List ℕ) → ℕ → SearchDirection → Option ℕ
nearest place lines start direction =
    option_map (away direction start) (least_below (count_on_side direction (length lines) start)
    (λ distance. is_some (place (line_at lines (away direction start distance)))))

-- the line at an index, with the place in it
abbrev pub found_at : (List ℕ → Option ℕ) → List (List ℕ) → ℕ → Option Found
found_at place lines index = option_map (λ pos.
    record { entry = line_at lines index; index = index; pos = pos }) (place (line_at lines index))

-- the nearest line in which a term has a place: none for an empty term, or past the last line
abbrev pub nearest_match : (List ℕ → List ℕ → Option ℕ) → List (List ℕ) → List ℕ → ℕ
    → SearchDirection → Option Found
nearest_match place lines term start direction =
    if length term == 0 || nat_le (length lines) start then None
    else option_and_then (found_at (place term) lines) (nearest (place term) lines start direction)

-- the nearest line that contains a term
abbrev pub search_in : List (List ℕ) → List ℕ → ℕ → SearchDirection → Option Found
search_in = nearest_match first_in

-- the nearest line that begins with a term
abbrev pub starting_with : List (List ℕ) → List ℕ → ℕ → SearchDirection → Option Found
starting_with = nearest_match behind_start

-- a history that counts the new lines, those that were added since the last save or load that succeeded
pub record FiledHistory : Type 0 where
  pub lines : List (List ℕ)
  pub rules : HistoryRules
  pub new_lines : ℕ

-- the history with a line after the others, unless it is left out
abbrev pub filed : FiledHistory → List ℕ → FiledHistory
filed h line =
    if leaves_out h.rules h.lines line then h
    else record h {
      lines = added h.rules h.lines line;
      new_lines = min (h.new_lines + 1) (length (added h.rules h.lines line));
    }

-- the history after each of these was added in turn
abbrev pub all_filed : FiledHistory → List (List ℕ) → FiledHistory
all_filed h [] = h
all_filed h (line ∷ more) = all_filed (filed h line) more

-- the history with no line counted as new
abbrev pub settled : FiledHistory → FiledHistory
settled h = record h { new_lines = 0 }

-- the history with a limit, to which it is cut
abbrev pub filed_with_limit : ℕ → FiledHistory → FiledHistory
filed_with_limit n h = record h {
  lines = last_of n h.lines;
  rules = record h.rules { max_len = n };
  new_lines = min h.new_lines n;
}
