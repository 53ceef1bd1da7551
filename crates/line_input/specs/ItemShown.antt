-- What is drawn while the items of a phrase are read.
use Rattle.std.specs.Prelude.{ℕ, Bool, true, false, if◌then◌else◌, List, [], ◌∷◌, ◌++◌, filter, length, map}
use Rattle.std.specs.List.{list_any}
use Rattle.line_parts.specs.Environment.{Environment}
use Rattle.line_keys.specs.Count.{count_prompt}
use Rattle.line_keys.specs.Model.Display.{Display}
use Rattle.line_keys.specs.Model.Draft.{Draft, hinted}
use Rattle.line_keys.specs.Model.Drawing.{Drawing, Drew, behind_prompt, drawn_if, nothing, with_hint}
use Rattle.line_keys.specs.Item.{Item}
use Rattle.line_keys.specs.declared.editor_state.EditorState as editors
use Rattle.line_keys.specs.declared.keys.KeyEvent.{KeyEvent}
use Rattle.line_input.specs.Ruler.{Ruler, own_ruler, ruler_of}

-- what is drawn after an item was read: nothing; the line after the prompt of a count, which has these keys so far; or the line
-- after its own prompt
pub data ItemShown : Type 0 where
  kept : ItemShown
  shows_count : List KeyEvent → ItemShown
  shows_line : ItemShown

-- where a count goes on after these keys, each further key shows the count so far
abbrev pub counting_on : List KeyEvent → List KeyEvent → List ItemShown
counting_on front [] = []
counting_on front (key ∷ more) = shows_count (front ++ key ∷ []) ∷ counting_on (front ++ key ∷ []) more

-- after the key that ends a count the line is drawn; after a key without a count nothing is
abbrev pub shown_behind : List KeyEvent → ItemShown
shown_behind [] = kept
shown_behind (_ ∷ _) = shows_line

-- what is drawn for the keys of a count, for the key that ends it, and for the items after that
abbrev pub shown_with : List KeyEvent → List ItemShown → List ItemShown
shown_with typed behind = counting_on [] typed ++ (shown_behind typed ∷ behind)

-- nothing is drawn after any of these items
abbrev pub none_shown : List Item → List ItemShown
none_shown items = map (λ _. kept) items

-- whether it is drawn at all
abbrev pub is_drawn : ItemShown → Bool
is_drawn kept = false
is_drawn _ = true

-- whether any of it is drawn
abbrev pub any_drawn : List ItemShown → Bool
any_drawn shown = list_any is_drawn shown

-- how often the line is drawn
abbrev pub times_drawn : List ItemShown → ℕ
times_drawn shown = length (filter is_drawn shown)

-- what is drawn now, or else what was drawn before
abbrev pub drawn_over : ItemShown → ItemShown → ItemShown
drawn_over before kept = before
drawn_over before now = now

-- what is drawn at last
abbrev pub last_drawn : List ItemShown → ItemShown
last_drawn [] = kept
last_drawn (first ∷ more) = drawn_over first (last_drawn more)

-- it as a drawing
abbrev pub drawing_shown : ItemShown → Drawing
drawing_shown kept = nothing
drawing_shown (shows_count keys) = behind_prompt (count_prompt keys)
drawing_shown shows_line = with_hint

-- the hint is asked again where the line is drawn
abbrev pub asked_behind : Environment → List ItemShown → Draft → Draft
asked_behind environment shown draft = if any_drawn shown then hinted environment draft else draft

-- the ruler after what is drawn: where the line is drawn it is that of the own prompt
abbrev pub ruler_behind : List ItemShown → Display → ℕ → Ruler
ruler_behind shown display indent_size = if any_drawn shown then own_ruler display indent_size else ruler_of display indent_size

module _ {X : Type 0} (e : editors.Ghosts X) where
  -- what is drawn of items that were read so far: the line as often as it is to be, and at last as it is then
  abbrev pub DrewSoFar : List ItemShown → X → X → Type 0
  DrewSoFar shown old new = Drew e (times_drawn shown) (drawing_shown (last_drawn shown)) old new

  -- what is drawn of a phrase: the line as often as its counts say, and at last after its own prompt; nothing without a count
  abbrev pub DrewCounts : List ItemShown → X → X → Type 0
  DrewCounts shown old new = Drew e (times_drawn shown) (drawn_if (any_drawn shown)) old new
