-- A line whose items come in pieces.
use Rattle.std.specs.Prelude.{◌≡◌, ◌≢◌, ◌⊎◌, Bool, true, false, List, [], ◌++◌, None}
use Rattle.line_keys.specs.Item.{Item}
use Rattle.line_keys.specs.declared.keys.KeyEvent.{KeyEvent}
use Rattle.line_parts.specs.Candidate.{no_completion}
use Rattle.line_parts.specs.Environment.{Environment}
use Rattle.line_parts.specs.Shown.{Shown}
use Rattle.line_editor.specs.Editor.{Answer, proceeds}
use Rattle.line_editor.specs.ItemShown.{any_drawn}
use Rattle.line_editor.specs.Keymap.{KeyLooksAtNoHint}
use Rattle.line_session.specs.Steps.{StepsEnd, Rules, Standing, Waits, starting}
use Rattle.line_session.specs.declared.mode.Mode.TheVariants.{Editing}

-- the same with more items after those that are left
abbrev pub with_more : List Item → Standing → Standing
with_more more standing = record standing { items = standing.items ++ more }

-- the same once the line was drawn: its hint was asked
abbrev pub drawn_anew : Rules → Standing → Standing
drawn_anew by standing = starting by.environment true standing

-- a call begins where reading waited, and a program that was suspended goes on; or, where something was drawn of the items that are no
-- phrase yet, once the line was drawn anew
abbrev pub GoesOnFrom : Rules → Standing → Bool → Standing → Type 0
GoesOnFrom by left drawn next = (next ≡ starting by.environment false left) ⊎ ((drawn ≡ true) × (next ≡ drawn_anew by left))

-- from a start reading waited for a piece of items after those that were there, was handed it, and waits again, as often as there are
-- pieces; these are all their items, this is how it is left, and whether something was drawn of items that are no phrase yet
pub data Waited (by : Rules) (start : Standing) : List Item → Standing → Bool → Type 0 where
  first : {left : Standing} → (waits : Waits by start left) → Waited by start [] left (any_drawn waits.shown)
  again : {items : List Item} {left next later : Standing} {drawn : Bool} → (piece : List Item)
      → Waited by start items left drawn → GoesOnFrom by left drawn next → (waits : Waits by (with_more piece next) later)
      → Waited by start (items ++ piece) later (any_drawn waits.shown)

-- a line that ends has the same end however its items arrive, where no binding looks at the hint: in pieces, with a call for each, as all at
-- once. A call stops where the program is suspended, so all at once means by as many calls as it takes
abbrev pub EndsTheSame : Type 0
EndsTheSame = (by : Rules) (start left next end : Standing) (items piece : List Item) (drawn : Bool) (answer : Answer)
    → ((typed : KeyEvent) → KeyLooksAtNoHint by.keymap.bound typed)
    → Waited by start items left drawn → GoesOnFrom by left drawn next → StepsEnd by false (with_more piece next) end answer
    → StepsEnd by true (with_more (items ++ piece) start) end answer

-- the helper offers no candidates
abbrev pub OffersNothing : Environment → Type 0
OffersNothing environment = (shown : Shown) → environment.completion_at shown ≡ no_completion

-- from one start at which commands are read a line ends once, where the helper offers no candidates: its end and the answer are one
abbrev pub EndsOnce : Type 0
EndsOnce = (by : Rules) (over_calls : Bool) (start end end' : Standing) (answer answer' : Answer) → answer ≢ proceeds → answer' ≢ proceeds
    → OffersNothing by.environment → start.mode ≡ Editing
    → StepsEnd by over_calls start end answer → StepsEnd by over_calls start end' answer' → (end ≡ end') × (answer ≡ answer')
