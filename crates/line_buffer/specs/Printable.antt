-- Printable ASCII, of which each character takes one column, and newlines between it.
use Rattle.std.specs.Prelude.{ℕ, ◌-◌, Bool, ◌==◌, ◌||◌, ◌&&◌, List, slice_index}
use Rattle.std.specs.Int.{is_in_range}

-- printable ASCII
abbrev pub is_printable : ℕ → Bool
is_printable c = is_in_range 0x20 0x7E c

-- printable ASCII or a newline
abbrev pub is_plain : ℕ → Bool
is_plain c = (c == 10) || is_printable c

-- two characters of printable ASCII or newlines meet at a place
abbrev pub meets_plain : List ℕ → ℕ → Bool
meets_plain text place = is_plain (slice_index text (place - 1)) && is_plain (slice_index text place)
