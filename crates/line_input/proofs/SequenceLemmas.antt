-- Facts on bound sequences.
use Rattle.std.proofs.Common.{arith, ◌≡◌, ◌≤◌, ◌+◌, ℕ, zero, suc, Bool, true, false, append_assoc, List, [], ◌∷◌, ◌++◌, length, map, Option, Some, None, inl, inr, refl, sym, ◌∙◌, ap, subst}
use Rattle.std.specs.Prelude.{◌⊎◌, ◌&&◌, ◌||◌}
use Rattle.std.specs.Cmp.Lexicographic.{pointwise}
use Rattle.std.proofs.Math.ListN.{take}
use Rattle.std.proofs.lemmas.List.{length-append, length-take}
use Rattle.line_keys.specs.Command.{Command}
use Rattle.line_keys.specs.Model.Draft.{Draft}
use Rattle.line_keys.specs.Item.{Item, key}
use Rattle.line_keys.specs.Key.{event}
use Rattle.line_keys.specs.declared.count.Count.{Count}
use Rattle.line_keys.specs.declared.keys.KeyCode.TheVariants.{Enter}
use Rattle.line_keys.specs.declared.keys.KeyEvent.{KeyEvent}
use Rattle.line_keys.specs.declared.keys.TheConstants.Modifiers.{NONE}
use Rattle.line_input.specs.Binding.{Bound, leads_on}
use Rattle.line_input.specs.Event.{Chord, begins_chord, each_key, event_keys, keys, mouse, same_key}
use Rattle.line_input.specs.Input.{Input}
use Rattle.line_input.specs.Sequence.{EndsKeys, IsReadOn, Sequenced, Sequences, sequence_command, sequences_of}

-- a list with something behind it is not empty
filled : {A : Type 0} (front back : List A) (x : A) → front ++ (x ∷ back) ≡ [] → ⊥
filled [] back x empty = cc
filled (y ∷ front) back x empty = cc

-- how two lists of keys fit whose items are the same up to what follows: they are alike, or one goes on
data Compared (a b : List KeyEvent) (x y : List Item) : Type 0 where
  alike : a ≡ b → x ≡ y → Compared a b x y
  shorter : (next : KeyEvent) (back : List KeyEvent) → b ≡ a ++ (next ∷ back) → Compared a b x y
  longer : (next : KeyEvent) (back : List KeyEvent) → a ≡ b ++ (next ∷ back) → Compared a b x y

compare : (a b : List KeyEvent) (x y : List Item) → map key a ++ x ≡ map key b ++ y → Compared a b x y
compare [] [] x y same = alike refl same
compare [] (k ∷ b) x y same = shorter k b refl
compare (k ∷ a) [] x y same = longer k a refl
compare (k ∷ a) (l ∷ b) x y same =
    let head : k ≡ l = cc in
    let rest : map key a ++ x ≡ map key b ++ y = cc in
    elim (compare a b x y rest) [
      | alike e f ↦ alike (cc) f
      | shorter n back e ↦ shorter n back (cc)
      | longer n back e ↦ longer n back (cc)
    ]

module _ (s : Sequences) (first : KeyEvent) where
  -- keys that end a sequence do not lead on without a command
  ends_there : (more : List KeyEvent) (found : Option Command) → EndsKeys s first more found
      → s.leads (first ∷ more) ≡ true → sequence_command s first more ≡ None → ⊥
  ends_there more (Some command) ends leads none = cc
  ends_there more None ends leads none = cc

  same_found : (more : List KeyEvent) (found found' : Option Command) → EndsKeys s first more found → EndsKeys s first more found' → found ≡ found'
  same_found more (Some command) (Some command') ends ends' = sym ends ∙ ends'
  same_found more (Some command) None ends ends' = absurd (cc)
  same_found more None (Some command) ends ends' = absurd (cc)
  same_found more None None ends ends' = refl

  -- what is there in two sequences before the same items
  pub record SameSequence (more more' : List KeyEvent) (found found' : Option Command) (x y : List Item) : Type 0 where
    pub same_keys : more ≡ more'
    pub same_answer : found ≡ found'
    pub same_rest : x ≡ y

  pub sequences_fit : (more more' : List KeyEvent) (found found' : Option Command) (x y : List Item)
      → Sequenced s first more found → Sequenced s first more' found' → map key more ++ x ≡ map key more' ++ y
      → SameSequence more more' found found' x y
  sequences_fit more more' found found' x y one other same = elim (compare more more' x y same) [
    | alike e f ↦ record {
      same_keys = e;
      same_answer = same_found more' found found' (subst (λ m. EndsKeys s first m found) e one.ends) other.ends;
      same_rest = f;
    }
    | shorter n back e ↦ let on = other.read_on more back n e in absurd (ends_there more found one.ends on.0 on.1)
    | longer n back e ↦ let on = one.read_on more' back n e in absurd (ends_there more' found' other.ends on.0 on.1)
  ]

  -- a place in a list with one more key is the last one, or one of the others
  split_last : {A : Type 0} (more front back : List A) (last next : A) → more ++ (last ∷ []) ≡ front ++ (next ∷ back)
      → (front ≡ more) ⊎ ((rest : List A) × (more ≡ front ++ (next ∷ rest)))
  split_last [] [] back last next same = inl refl
  split_last [] (f ∷ front) back last next same = absurd (filled front back next (cc))
  split_last (m ∷ more) [] back last next same = inr (more, cc)
  split_last (m ∷ more) (f ∷ front) back last next same = elim (split_last more front back last next (cc)) [
    | inl e ↦ inl (cc)
    | inr p ↦ inr (p.0, cc)
  ]

  -- keys that lead on without a command are read on from
  pub read_further : (more : List KeyEvent) (last : KeyEvent) → IsReadOn s first more → s.leads (first ∷ more) ≡ true
      → sequence_command s first more ≡ None → IsReadOn s first (more ++ (last ∷ []))
  read_further more last on leads none front back next same = elim (split_last more front back last next same) [
    | inl e ↦ (ap (λ f. s.leads (first ∷ f)) e ∙ leads, ap (λ f. sequence_command s first f) e ∙ none)
    | inr p ↦ on front p.0 next p.1
  ]

  pub none_read : IsReadOn s first []
  none_read front back next same = absurd (filled front back next (sym same))

  -- two keys or more are a sequence
  pub is_sequence : (more : List KeyEvent) (last : KeyEvent) → sequence_command s first (more ++ (last ∷ [])) ≡ s.command (first ∷ (more ++ (last ∷ [])))
  is_sequence [] last = refl
  is_sequence (k ∷ more) last = refl

-- how many keys are bound in all
abbrev total : Bound → ℕ
total [] = 0
total (binding ∷ bound) = length (event_keys binding.0) + total bound

second_holds : (a b : Bool) → (a && b) ≡ true → b ≡ true
second_holds true b both = both
second_holds false b both = absurd (cc)

same_length : {A : Type 0} (test : A → A → Bool) (xs ys : List A) → pointwise test xs ys ≡ true → length xs ≡ length ys
same_length test [] [] same = refl
same_length test [] (y ∷ ys) same = absurd (cc)
same_length test (x ∷ xs) [] same = absurd (cc)
same_length test (x ∷ xs) (y ∷ ys) same = ap suc (same_length test xs ys (second_holds (test x y) (pointwise test xs ys) same))

begun_fits : (front : List KeyEvent) (chord : Chord) → begins_chord front chord ≡ true → length front ≤ length (event_keys chord)
begun_fits front each_key begun = absurd (cc)
begun_fits front (keys sequence) begun =
    let same = same_length same_key front (take (length front) sequence) begun in omega (arith, same, length-take (length front) sequence)
begun_fits front mouse begun = absurd (cc)

either : (a b : Bool) → (a || b) ≡ true → (a ≡ true) ⊎ (b ≡ true)
either true b one = inl refl
either false b one = inr one

-- keys that lead on are no more than are bound in all
led_fits : (bound : Bound) (front : List KeyEvent) → leads_on bound front ≡ true → length front ≤ total bound
led_fits [] front leads = absurd (cc)
led_fits (binding ∷ bound) front leads =
    let whole : total (binding ∷ bound) ≡ length (event_keys binding.0) + total bound = refl in
    elim (either (begins_chord front binding.0) (leads_on bound front) leads) [
      | inl here ↦ omega (arith, whole, begun_fits front binding.0 here)
      | inr there ↦ omega (arith, whole, led_fits bound front there)
    ]

-- a key without a modifier
abbrev enter : KeyEvent
enter = event Enter NONE

-- keys behind which a sequence is answered or read in vain
pub record GoesOn (s : Sequences) (first : KeyEvent) (more : List KeyEvent) : Type 0 where
  pub next : KeyEvent
  pub back : List KeyEvent
  pub found : Option Command
  pub sequenced : Sequenced s first (more ++ (next ∷ back)) found

module _ (bound : Bound) (draft : Draft) (input : Input) (count : Count) (first : KeyEvent) where
  abbrev s : Sequences
  s = sequences_of bound draft input count

  goes_on_by : (more : List KeyEvent) → IsReadOn s first (more ++ (enter ∷ []))
      → (answer : Option Command) → sequence_command s first (more ++ (enter ∷ [])) ≡ answer
      → (leads : Bool) → s.leads (first ∷ (more ++ (enter ∷ []))) ≡ leads
      → (s.leads (first ∷ (more ++ (enter ∷ []))) ≡ true → sequence_command s first (more ++ (enter ∷ [])) ≡ None → GoesOn s first more) → GoesOn s first more
  goes_on_by more on (Some command) is leads led there =
      record { next = enter; back = []; found = Some command; sequenced = record { read_on = on; ends = is } }
  goes_on_by more on None is false led there =
      record { next = enter; back = []; found = None; sequenced = record { read_on = on; ends = (is, led) } }
  goes_on_by more on None is true led there = there led is

  -- keys that lead on without a command can go on to an end
  goes_on_in : (n : ℕ) (more : List KeyEvent) → total bound ≤ length more + n → IsReadOn s first more → s.leads (first ∷ more) ≡ true
      → sequence_command s first more ≡ None → GoesOn s first more
  goes_on_in zero more fits on leads none =
      goes_on_by more (read_further s first more enter on leads none) (sequence_command s first (more ++ (enter ∷ []))) refl
      (s.leads (first ∷ (more ++ (enter ∷ [])))) refl
      (λ led is. absurd (omega (arith, led_fits bound (first ∷ (more ++ (enter ∷ []))) led, length-append more (enter ∷ []), fits)))
  goes_on_in (suc n) more fits on leads none =
      let further = read_further s first more enter on leads none in
      goes_on_by more further (sequence_command s first (more ++ (enter ∷ []))) refl (s.leads (first ∷ (more ++ (enter ∷ [])))) refl
      (λ led is.
      let on_there = goes_on_in n (more ++ (enter ∷ [])) (omega (arith, fits, length-append more (enter ∷ []))) further led is in
      record {
        next = enter;
        back = on_there.next ∷ on_there.back;
        found = on_there.found;
        sequenced = subst (λ m. Sequenced s first m on_there.found) (append_assoc more (enter ∷ []) (on_there.next ∷ on_there.back)) on_there.sequenced;
      })

  pub goes_on : (more : List KeyEvent) → IsReadOn s first more → s.leads (first ∷ more) ≡ true → sequence_command s first more ≡ None → GoesOn s first more
  goes_on more on leads none = goes_on_in (total bound) more (omega arith) on leads none

module _ (s : Sequences) (first : KeyEvent) where
  -- a key that leads nowhere is read in vain; a second key behind one that leads on is answered, or read in vain
  pub one_in_vain : s.leads (first ∷ []) ≡ false → Sequenced s first [] None
  one_in_vain leads = record { read_on = none_read s first; ends = (refl, leads) }

  module _ (second : KeyEvent) (leads : s.leads (first ∷ []) ≡ true) where
    on_two : IsReadOn s first (second ∷ [])
    on_two = read_further s first [] second (none_read s first) leads refl

    pub two_answered : (command : Command) → s.command (first ∷ second ∷ []) ≡ Some command → Sequenced s first (second ∷ []) (Some command)
    two_answered command is = record { read_on = on_two; ends = is }

    pub two_in_vain : s.command (first ∷ second ∷ []) ≡ None → s.leads (first ∷ second ∷ []) ≡ false → Sequenced s first (second ∷ []) None
    two_in_vain none nowhere = record { read_on = on_two; ends = (none, nowhere) }
