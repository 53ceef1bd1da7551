-- Laws of reading.
use Rattle.std.specs.Prelude.{◌≡◌, ◌≢◌, ◌⊎◌, ℕ, ◌≤◌, ◌+◌, true, List, [], ◌∷◌, ◌++◌, length, map, Some}
use Rattle.std.specs.Bool.{Decides}
use Rattle.line_keys.specs.Count.{is_count_before}
use Rattle.line_keys.specs.Model.Draft.{Draft}
use Rattle.line_keys.specs.Item.{Item, key}
use Rattle.line_keys.specs.Table.{stands_for}
use Rattle.line_keys.specs.declared.keys.KeyEvent.{KeyEvent}
use Rattle.line_parts.specs.Environment.{Environment}
use Rattle.line_input.specs.Event.{Chord, same_chord}
use Rattle.line_input.specs.Input.{Input}
use Rattle.line_input.specs.ItemShown.{ItemShown, any_drawn}
use Rattle.line_input.specs.Binding.{Bound}
use Rattle.line_input.specs.Keymap.{KeyLooksAtNoHint, Keymap}
use Rattle.line_input.specs.Phrase.{IsBeginning, Phrase, entered}
use Rattle.line_input.specs.Read.{Begins, Read}
use Rattle.line_input.specs.Reading.{LeftByCut}

-- the test of two events says whether they are equal
abbrev pub ComparesEvents : Type 0
ComparesEvents = (one other : Chord) → Decides (same_chord one other) (one ≡ other)

-- no phrase is a proper beginning of another, and one list of items leads to one thing
abbrev pub IsPrefixFree : Type 0
IsPrefixFree = (keymap : Keymap) (environment : Environment) (draft : Draft) (input : Input) (items more : List Item)
    → (read read' : Read)
    → Phrase keymap environment draft input items read
    → Phrase keymap environment draft input (items ++ more) read'
    → (more ≡ []) × (read ≡ read')

-- each key begins a phrase, and so do the keys of a count with the key that ends it: with some items after them, or with none, they lead
-- to a command
pub record EachKeyBegins : Type 0 where
  pub alone : (keymap : Keymap) (environment : Environment) (draft : Draft) (input : Input) (k : KeyEvent)
      → Begins (Phrase keymap environment draft input) (key k ∷ [])
  pub behind_count : (keymap : Keymap) (environment : Environment) (draft : Draft) (input : Input) (first : KeyEvent) (more : List KeyEvent) (last : KeyEvent)
      → is_count_before input.style input.mode (first ∷ more) last ≡ true
      → Begins (Phrase keymap environment draft input) (map key (first ∷ more) ++ (key last ∷ []))

-- the binding of the key that items begin with looks at no hint, nor does that of the plain key that this one stands for
abbrev pub FirstLooksAtNoHint : Bound → Input → List Item → Type 0
FirstLooksAtNoHint bound input items = (first : KeyEvent) (rest : List Item) → items ≡ key first ∷ rest
    → KeyLooksAtNoHint bound first
    × ((plain : KeyEvent) → stands_for input.style input.mode first ≡ Some plain → KeyLooksAtNoHint bound plain)

-- a hint that a cut may have asked again makes no difference to a phrase: the cut left it as it was; or the phrase begins with a
-- count, after which it is asked again; or it has another count, and the bindings that are asked before it look at no hint
abbrev pub HintMakesNoDifference : Keymap → Input → List Item → Draft → Draft → List KeyEvent → Read → Type 0
HintMakesNoDifference keymap input items before cut in_front read = (cut.hint ≡ before.hint) ⊎ (in_front ≢ [])
    ⊎ ((any_drawn read.shown ≡ true) × FirstLooksAtNoHint keymap.bound input items)

-- something is drawn of items, and some of it after the first so many of them
pub record IsDrawnWithin (count : ℕ) (shown : List ItemShown) : Type 0 where
  pub whole : any_drawn shown ≡ true
  pub within : (front behind : List ItemShown) → shown ≡ front ++ behind → count ≤ length front → any_drawn front ≡ true

-- where something is drawn of items that are no phrase yet, something is drawn within as many items of each phrase that is read of them
-- and of items after them, from the draft which they left, if the binding of the first key looks at no hint
abbrev pub DrawingStays : Type 0
DrawingStays = (keymap : Keymap) (environment : Environment) (draft cut : Draft) (input : Input) (items more phrase rest : List Item) (read : Read)
    → (begins : IsBeginning keymap environment draft input items)
    → any_drawn begins.shown ≡ true
    → LeftByCut environment (entered keymap draft input items) cut
    → FirstLooksAtNoHint keymap.bound input items
    → items ++ more ≡ phrase ++ rest
    → Phrase keymap environment cut input phrase read
    → IsDrawnWithin (length items) read.shown
