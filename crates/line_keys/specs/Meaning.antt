-- What keys stand for, and the rows of the tables of keys.
use Rattle.std.specs.Prelude.{ℕ, Bool, true, ◌==◌, ◌&&◌, not, if◌then◌else◌, List, length, find, Option, Some, None, is_some, option_map, unwrap_or}
use Rattle.line_buffer.specs.declared.movement.At.TheVariants.{AfterEnd}
use Rattle.line_buffer.specs.declared.movement.CharSearch.{CharSearch}
use Rattle.line_buffer.specs.declared.movement.Movement.{Movement}
use Rattle.line_buffer.specs.declared.movement.Movement.TheVariants.{BackwardChar, BackwardWord, BeginningOfLine, EndOfLine, ForwardChar, ForwardWord}
use Rattle.line_buffer.specs.declared.movement.Word.{Word}
use Rattle.line_keys.specs.Command.{Command, kill, move}
use Rattle.line_keys.specs.Model.Draft.{Draft}
use Rattle.line_keys.specs.declared.count.Count.{Count}
use Rattle.line_keys.specs.declared.keys.KeyEvent.{KeyEvent}
use Rattle.line_keys.specs.declared.refresher.InputMode.{InputMode}
use Rattle.line_keys.specs.declared.tables.Grouping.{Grouping}
use Rattle.line_keys.specs.declared.tables.Grouping.TheVariants.{Begin, End, Stay}
use Rattle.line_keys.specs.declared.tables.Operator.{Operator}

-- which line a row is for: any, one that is not empty, or one with a hint where the cursor is at its end
pub data Guard : Type 0 where
  any_line : Guard
  on_text : Guard
  at_hint : Guard

-- the line of a draft is one that a guard is for
abbrev pub holds : Guard → Draft → Bool
holds any_line draft = true
holds on_text draft = not (length draft.line.text == 0)
holds at_hint draft = is_some draft.hint && (draft.line.cursor == length draft.line.text)

-- What a key stands for: a command, or one that depends on what is read next or was read before. What is read next is the
-- character to search for, a pasted text, a second key, the character that replaces others, or what an operator is
-- done to. What was read before is the last search, as it was or changed, or the last change, which is done again with the
-- count that is typed, if any. A key that no table has stands for nothing, unless it begins a bound sequence.
pub data Meaning : Type 0 where
  gives : Command → Meaning
  searches : ℕ → (ℕ → CharSearch) → Meaning
  searches_again : ℕ → (CharSearch → CharSearch) → Meaning
  pastes : Meaning
  has_second : (KeyEvent → Command) → Meaning
  replaces_char : ℕ → Meaning
  operates : Operator → ℕ → Meaning
  again : Option ℕ → Meaning
  unlisted : Meaning

-- what a key stands for: its meaning, the mode that it enters, if it enters one, and what becomes of the group of changes
pub record KeyEntry : Type 0 where
  pub meaning : Meaning
  pub enters : Option InputMode
  pub group : Grouping

-- a meaning alone: the mode stays, and the group of changes
abbrev pub stays : Meaning → KeyEntry
stays meaning = record { meaning = meaning; enters = None; group = Stay }

-- a row: which line it is for, and what its key stands for under the count that is typed, if any
pub record Row : Type 0 where
  pub guard : Guard
  pub entry : Option Count → KeyEntry

-- the count where none is typed: once, in the command's own direction
abbrev pub one : Count
one = record { n = 1; positive = true }

-- the count that the tables take: the one that is typed, or else one
abbrev pub count_or_one : Option Count → Count
count_or_one typed = unwrap_or typed one

-- a row for any line, with a meaning by the count
abbrev pub meaning_row : (Count → Meaning) → Row
meaning_row means = record { guard = any_line; entry = λ typed. stays (means (count_or_one typed)) }

-- a row of a command by the count
abbrev pub row : (Count → Command) → Row
row command = meaning_row (λ count. gives (command count))

-- a row of one command, whatever the count
abbrev pub always : Command → Row
always command = row (λ _. command)

-- a row for these lines alone
abbrev pub when : Guard → Row → Row
when guard r = record r { guard = guard }

-- a row that enters a mode
abbrev pub entering : InputMode → Row → Row
entering mode r = record r { entry = λ typed. record (r.entry typed) { enters = Some mode } }

-- a row that begins a group of changes
abbrev pub beginning_group : Row → Row
beginning_group r = record r { entry = λ typed. record (r.entry typed) { group = Begin } }

-- a row that ends every open group of changes
abbrev pub ending_group : Row → Row
ending_group r = record r { entry = λ typed. record (r.entry typed) { group = End } }

-- rows of characters
abbrev pub Rows : Type 0
Rows = List (ℕ × Row)

-- the first of the rows that is for the line
abbrev pub first_for : Draft → List Row → Option Row
first_for draft rows = find (λ r. holds r.guard draft) rows

-- the first row of this character that is for the line
abbrev pub row_at : Rows → ℕ → Draft → Option Row
row_at rows c draft = option_map (λ entry. entry.1) (find (λ entry. (entry.0 == c) && holds entry.1.guard draft) rows)

-- by the sign of the count one thing or the other, for its number
abbrev pub by_sign : {X : Type 0} → (ℕ → X) → (ℕ → X) → Count → X
by_sign forth back count = if count.positive then forth count.n else back count.n

-- clusters on, or back for a negative count
abbrev pub chars_on : Count → Movement
chars_on = by_sign (λ n. ForwardChar n) (λ n. BackwardChar n)

-- clusters back, or on for a negative count
abbrev pub chars_back : Count → Movement
chars_back = by_sign (λ n. BackwardChar n) (λ n. ForwardChar n)

-- to the ends of words on, or to the starts of words back for a negative count
abbrev pub words_on : Word → Count → Movement
words_on word = by_sign (λ n. ForwardWord n AfterEnd word) (λ n. BackwardWord n word)

-- to the starts of words back, or to the ends of words on for a negative count
abbrev pub words_back : Word → Count → Movement
words_back word = by_sign (λ n. BackwardWord n word) (λ n. ForwardWord n AfterEnd word)

-- to the end of the line, or to its start for a negative count
abbrev pub to_end : Count → Movement
to_end = by_sign (λ _. EndOfLine) (λ _. BeginningOfLine)

-- to the start of the line, or to its end for a negative count
abbrev pub to_start : Count → Movement
to_start = by_sign (λ _. BeginningOfLine) (λ _. EndOfLine)

-- moves by a movement
abbrev pub moves : (Count → Movement) → Row
moves movement = row (λ count. move (movement count))

-- kills what a movement covers
abbrev pub kills : (Count → Movement) → Row
kills movement = row (λ count. kill (movement count))

-- a search for the character that is typed next, and another one for a negative count
abbrev pub search : (ℕ → CharSearch) → (ℕ → CharSearch) → Row
search forth back = meaning_row (λ count. searches count.n (by_sign (λ _. forth) (λ _. back) count))
