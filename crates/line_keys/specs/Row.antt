-- What the code's rows mean.
use Rattle.std.specs.Prelude.{ℕ}
use Rattle.line_buffer.specs.Search.{opposite}
use Rattle.line_buffer.specs.declared.movement.CharSearch.{CharSearch}
use Rattle.line_buffer.specs.declared.movement.CharSearch.TheVariants.{Backward, BackwardAfter, Forward, ForwardBefore}
use Rattle.line_keys.specs.Command.{command_of}
use Rattle.line_keys.specs.EmacsTable.{second_at}
use Rattle.line_keys.specs.Meaning as table
use Rattle.line_keys.specs.Meaning.{again, gives, has_second, operates, pastes, replaces_char, searches, searches_again, unlisted}
use Rattle.line_keys.specs.Motion as motions
use Rattle.line_keys.specs.Motion.{covers, covers_bracket, covers_last, covers_search, no_motion}
use Rattle.line_keys.specs.declared.tables.Entry.{Entry}
use Rattle.line_keys.specs.declared.tables.Meaning.{Meaning}
use Rattle.line_keys.specs.declared.tables.Motion.{Motion}
use Rattle.line_keys.specs.declared.tables.SearchKind.{SearchKind}

-- the search of a kind for a character
abbrev pub search_for : SearchKind → ℕ → CharSearch
search_for SearchKind.Forward c = Forward c
search_for SearchKind.ForwardBefore c = ForwardBefore c
search_for SearchKind.Backward c = Backward c
search_for SearchKind.BackwardAfter c = BackwardAfter c

-- a meaning as a value
abbrev pub meaning_of : Meaning → table.Meaning
meaning_of (Meaning.Command command) = gives (command_of command)
meaning_of (Meaning.Search n kind) = searches n (λ c. search_for kind c)
meaning_of (Meaning.SearchAgain n) = searches_again n (λ search. search)
meaning_of (Meaning.SearchBack n) = searches_again n (λ search. opposite search)
meaning_of Meaning.Paste = pastes
meaning_of (Meaning.SecondKey count) = has_second (second_at count)
meaning_of (Meaning.ReplaceChar n) = replaces_char n
meaning_of (Meaning.Operator operator n) = operates operator n
meaning_of (Meaning.Again new) = again new
meaning_of Meaning.Unlisted = unlisted

-- what a key stands for, as a value
abbrev pub entry_value : Entry → table.KeyEntry
entry_value entry = record { meaning = meaning_of entry.meaning; enters = entry.enters; group = entry.group }

-- a motion as a value
abbrev pub motion_value : Motion → motions.Motion
motion_value (Motion.Covers movement) = covers movement
motion_value (Motion.Search n kind) = covers_search n (λ c. search_for kind c)
motion_value (Motion.SearchAgain n) = covers_last n (λ search. search)
motion_value (Motion.SearchBack n) = covers_last n (λ search. opposite search)
motion_value Motion.Bracket = covers_bracket
motion_value Motion.None = no_motion
