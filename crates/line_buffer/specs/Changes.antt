-- The changes of a line, newest first, and what each call adds to them.
use Rattle.std.specs.Prelude.{nat_lt, drop, ℕ, suc, ◌+◌, ◌-◌, ◌^◌, min, Bool, true, false, ◌==◌, ◌&&◌, List, [], ◌∷◌, ◌++◌, length, replicate, slice_range, Option, Some, None, encode_utf8, if◌then◌else◌}
use Rattle.std.specs.List.{repeat}
use Rattle.line_buffer.specs.Character.{is_alphanumeric, is_one_alphanumeric}

-- a group begins or ends; a text was inserted at a place, was removed from it, or replaced another
pub data Entry : Type 0 where
  begins : Entry
  ends : Entry
  inserted : ℕ → List ℕ → Entry
  deleted : ℕ → List ℕ → Entry
  replaced : ℕ → List ℕ → List ℕ → Entry

-- the entries, newest first, and how many groups are open
pub record Changes : Type 0 where
  pub entries : List Entry
  pub open_groups : ℕ

-- no entry and no open group
abbrev pub no_changes : Changes
no_changes = record { entries = []; open_groups = 0 }

-- the list with these entries
abbrev pub with_entries : Changes → List Entry → Changes
with_entries c entries = record { entries = entries; open_groups = c.open_groups }

-- a group was opened; the count of open groups stays at its greatest value
abbrev pub begun : Changes → Changes
begun c = record { entries = begins ∷ c.entries; open_groups = min (c.open_groups + 1) (2 ^ 64 - 1) }

-- whether the newest entry begins a group
abbrev pub newest_begins : List Entry → Bool
newest_begins (begins ∷ entries) = true
newest_begins entries = false

-- how many begins stand newest in a row
abbrev pub begins_in_a_row : List Entry → ℕ
begins_in_a_row (begins ∷ entries) = suc (begins_in_a_row entries)
begins_in_a_row entries = 0

-- n groups are closed: so many of these begins are removed, and an end is added for each group that is left
abbrev pub closed : ℕ → List Entry → List Entry
closed n entries = replicate (n - begins_in_a_row entries) ends ++ drop (min n (begins_in_a_row entries)) entries

-- closing n groups adds an end: fewer begins than groups stand newest in a row
abbrev pub adds_end : ℕ → List Entry → Bool
adds_end n entries = nat_lt (begins_in_a_row entries) n

-- the newest begins were removed, each of an open group
abbrev pub without_begins : Changes → Changes
without_begins c = record {
  entries = drop (min c.open_groups (begins_in_a_row c.entries)) c.entries;
  open_groups = c.open_groups - begins_in_a_row c.entries;
}

-- every open group was closed
abbrev pub ended : Changes → Changes
ended c = record { entries = closed c.open_groups c.entries; open_groups = 0 }

-- a text was inserted at a place; the empty text leaves no entry
abbrev pub with_insert : ℕ → List ℕ → List Entry → List Entry
with_insert place [] entries = entries
with_insert place (b ∷ bs) entries = inserted place (b ∷ bs) ∷ entries

-- a text was inserted that joins a newest insert which ends at its place
abbrev pub with_joined_insert : ℕ → List ℕ → List Entry → List Entry
with_joined_insert place text (inserted at old ∷ entries) =
    if at + length old == place then inserted at (old ++ text) ∷ entries else inserted place text ∷ inserted at old ∷ entries
with_joined_insert place text entries = inserted place text ∷ entries

-- n copies of a character were inserted at a place: one alphanumeric character joins
abbrev pub with_typed : ℕ → ℕ → ℕ → List Entry → List Entry
with_typed place c n entries =
    if (n == 1) && is_alphanumeric c then with_joined_insert place (encode_utf8 c) entries
    else with_insert place (repeat n (encode_utf8 c)) entries

-- a text was removed that joins a newest delete at its place, or one that it ends at
abbrev pub with_joined_delete : ℕ → List ℕ → List Entry → List Entry
with_joined_delete place text (deleted at old ∷ entries) =
    if at == place then deleted at (old ++ text) ∷ entries
    else if place + length text == at then deleted place (text ++ old) ∷ entries
    else deleted place text ∷ deleted at old ∷ entries
with_joined_delete place text entries = deleted place text ∷ entries

-- a text was removed from a place: one alphanumeric cluster joins, and the empty text leaves no entry
abbrev pub with_delete : ℕ → List ℕ → List Entry → List Entry
with_delete place [] entries = entries
with_delete place (b ∷ bs) entries =
    if is_one_alphanumeric (b ∷ bs) then with_joined_delete place (b ∷ bs) entries else deleted place (b ∷ bs) ∷ entries

-- a text replaced another at a place: it joins a newest replace whose new text ends there
abbrev pub with_replace : ℕ → List ℕ → List ℕ → List Entry → List Entry
with_replace place old new (replaced at before after ∷ entries) =
    if at + length after == place then replaced at (before ++ old) (after ++ new) ∷ entries
    else replaced place old new ∷ replaced at before after ∷ entries
with_replace place old new entries = replaced place old new ∷ entries

-- a text replaced a range of another
abbrev pub with_replaced : List ℕ → ℕ → ℕ → List ℕ → List Entry → List Entry
with_replaced text from to new entries = with_replace from (slice_range text from to) new entries

-- a text replaced the whole of another
abbrev pub with_update : List ℕ → List ℕ → List Entry → List Entry
with_update old new entries = with_insert 0 new (with_delete 0 old entries)

-- the text that was inserted last: that of the newest entry which is no end
abbrev pub last_insert_of : List Entry → Option (List ℕ)
last_insert_of [] = None
last_insert_of (ends ∷ entries) = last_insert_of entries
last_insert_of (inserted place text ∷ entries) = Some text
last_insert_of (replaced place old new ∷ entries) = Some new
last_insert_of (begins ∷ entries) = None
last_insert_of (deleted place text ∷ entries) = None
