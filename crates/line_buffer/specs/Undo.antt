-- Taking changes back.
use Rattle.std.specs.Prelude.{◌≡◌, ◌⊎◌, ℕ, ◌+◌, ◌≤◌, max, Result, OnOk, OnErr, nat_le, Bool, true, false, List, [], ◌∷◌, length, take, drop, filter, count_by, unwrap_or, slice_range, IsCharBoundary}
use Rattle.std.specs.Fn.{iterate}
use Rattle.std.specs.List.{range_with_len, remove_range, insert_slice, replace_range}
use Rattle.line_buffer.specs.Changes.{Changes, Entry, no_changes, with_entries, begins, ends, inserted, deleted, replaced}
use Rattle.line_buffer.specs.Line.{Line}
use Rattle.line_buffer.specs.Word.{nth}

-- the text before an entry's change
abbrev pub text_before : Entry → List ℕ → List ℕ
text_before begins text = text
text_before ends text = text
text_before (inserted place t) text = remove_range text place (place + length t)
text_before (deleted place t) text = insert_slice text place t
text_before (replaced place old new) text = replace_range text place (place + length new) old

-- where the cursor moves when an entry is taken back: to where a text was inserted, or to after the text that is restored
abbrev pub cursor_before : Entry → ℕ → ℕ
cursor_before begins cursor = cursor
cursor_before ends cursor = cursor
cursor_before (inserted place t) cursor = place
cursor_before (deleted place t) cursor = place + length t
cursor_before (replaced place old new) cursor = place + length old

-- the line with an entry taken back
abbrev pub taken_back : Entry → Line → Line
taken_back e l = record { text = text_before e l.text; cursor = cursor_before e l.cursor }

-- the line with entries taken back, the newest first
abbrev pub all_taken_back : List Entry → Line → Line
all_taken_back [] l = l
all_taken_back (e ∷ entries) l = all_taken_back entries (taken_back e l)

-- the text before all changes of a line
abbrev pub first_text : Changes → Line → List ℕ
first_text changes line = (all_taken_back changes.entries line).text

-- a text stands at a place of another
pub record OccursAt (text : List ℕ) (place : ℕ) (t : List ℕ) : Type 0 where
  pub is : slice_range text place (place + length t) ≡ t
  pub start : IsCharBoundary text place
  pub stop : IsCharBoundary text (place + length t)

-- an entry's change can be taken back from a text
abbrev pub Fits : Entry → List ℕ → Type 0
Fits begins text = Unit {0}
Fits ends text = Unit {0}
Fits (inserted place t) text = OccursAt text place t
Fits (deleted place t) text = IsCharBoundary text place
Fits (replaced place old new) text = OccursAt text place new

-- the entries record how a text came from another: taken back, they restore that one
abbrev pub TellsOf : List Entry → List ℕ → List ℕ → Type 0
TellsOf [] text start = text ≡ start
TellsOf (e ∷ entries) text start = Fits e text × TellsOf entries (text_before e text) start

-- the entries record how a text came from some other
pub record Tells (entries : List Entry) (text : List ℕ) : Type 0 where
  pub start : List ℕ
  pub told : TellsOf entries text start

-- whether the entry begins a group
abbrev pub is_begin : Entry → Bool
is_begin begins = true
is_begin _ = false

-- whether the entry ends a group
abbrev pub is_end : Entry → Bool
is_end ends = true
is_end _ = false

-- the entry changed the text
abbrev pub is_change : Entry → Bool
is_change begins = false
is_change ends = false
is_change _ = true

-- among the first k entries stand no more ends than begins
abbrev pub is_step : List Entry → ℕ → Bool
is_step entries k = nat_le (count_by is_end (take k entries)) (count_by is_begin (take k entries))

-- how many entries make n steps, one for n = 0, or all of them where there are fewer steps
abbrev pub steps_len : List Entry → ℕ → ℕ
steps_len entries n = unwrap_or (nth (filter (is_step entries) (range_with_len 1 (length entries))) (max n 1)) (length entries)

-- the entries of the newest n steps
abbrev pub newest_steps : ℕ → List Entry → List Entry
newest_steps n entries = take (steps_len entries n) entries

-- the changes without the newest n steps
abbrev pub without_steps : ℕ → Changes → Changes
without_steps n c = with_entries c (drop (steps_len c.entries n) c.entries)

-- n steps taken back: the entries that are left, and the line
abbrev pub after_undo : ℕ → List Entry × Line → List Entry × Line
after_undo n s = (drop (steps_len s.0 n) s.0, all_taken_back (take (steps_len s.0 n) s.0) s.1)

-- no group is open: among the newest entries never stand more begins than ends
abbrev pub NoGroupOpen : List Entry → Type 0
NoGroupOpen entries = (k : ℕ) → count_by is_begin (take k entries) ≤ count_by is_end (take k entries)

-- among any newest entries stand at most so many more begins than ends as groups are open
pub record GroupsFit (c : Changes) : Type 0 where
  pub fit : (k : ℕ) → count_by is_begin (take k c.entries) ≤ count_by is_end (take k c.entries) + c.open_groups

-- where no group was open, n steps taken back at once, one for n = 0, were as many single steps
pub record UndoesStepByStep {T E : Type 0} (result : Result T E) (n : ℕ) (old new : Line) (c c' : Changes) : Type 0 where
  pub steps : c.open_groups ≡ 0 → OnOk result (◌≡◌ {A = List Entry × Line} (c'.entries, new) (iterate (after_undo 1) (max n 1) (c.entries, old)))

-- what old entries record of a text, new ones record of another: both lead back to the same start
pub record StillTells (old : List Entry) (text : List ℕ) (new : List Entry) (text' : List ℕ) : Type 0 where
  pub tells : (start : List ℕ) → TellsOf old text start → TellsOf new text' start

-- of each text new entries record what the old ones record
pub record TellTheSame (old new : List Entry) : Type 0 where
  pub of : (text : List ℕ) → StillTells old text new text

-- after a call's success the changes record of the new text what they recorded of the old one; after its error there are none
pub record KeepsTold {T E : Type 0} (result : Result T E) (old : Changes) (line : Line) (new : Changes) (line' : Line) : Type 0 where
  pub tells : OnOk result (StillTells old.entries line.text new.entries line'.text)
  pub err : OnErr result (new ≡ no_changes)

-- after a call's success the changes record of the new text what they recorded of the old one; after its error they do too, or there
-- are none
pub record StillTellsOrGone {T E : Type 0} (result : Result T E) (old : Changes) (line : Line) (new : Changes) (line' : Line) : Type 0 where
  pub tells : OnOk result (StillTells old.entries line.text new.entries line'.text)
  pub err : OnErr result (StillTells old.entries line.text new.entries line'.text ⊎ (new ≡ no_changes))

-- the same of a call that leaves the text, whichever it is
pub record KeepsToldAnywhere {T E : Type 0} (result : Result T E) (old new : Changes) : Type 0 where
  pub tells : OnOk result (TellTheSame old.entries new.entries)
  pub err : OnErr result (new ≡ no_changes)

-- the boundaries of a text up to a place are boundaries of another
pub record KeepsFront (text text' : List ℕ) (place : ℕ) : Type 0 where
  pub keeps : (i : ℕ) → IsCharBoundary text i → i ≤ place → IsCharBoundary text' i
