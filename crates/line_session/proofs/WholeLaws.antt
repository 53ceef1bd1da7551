-- A line whose items come in pieces ends the same.
use Rattle.std.proofs.Common.{◌≡◌, ◌∙◌, ◌⊎◌, inl, inr, ℕ, Bool, true, false, cond, List, [], ◌∷◌, ◌++◌, length, refl, sym, ap, subst, map, arith}
use Rattle.std.proofs.lemmas.List.{append_assoc}
use Rattle.line_keys.specs.Model.Draft.{Draft, hinted}
use Rattle.line_keys.specs.Item.{Item, key, paste}
use Rattle.line_keys.specs.declared.keys.KeyEvent.{KeyEvent}
use Rattle.line_editor.specs.Editor.{Answer, proceeds}
use Rattle.line_editor.specs.Input.{Input}
use Rattle.line_editor.specs.ItemShown.{ItemShown, any_drawn}
use Rattle.line_editor.specs.Keymap.{KeyLooksAtNoHint, Keymap}
use Rattle.line_editor.specs.Laws.{FirstLooksAtNoHint, HintMakesNoDifference}
use Rattle.line_editor.specs.Phrase.{IsBeginning, Phrase, behind_key, count_in_front, entered, of_mode}
use Rattle.line_editor.specs.Read.{Read}
use Rattle.line_editor.specs.Reading.{LeftByCut}
use Rattle.line_editor.specs.Run.{CutShort}
use Rattle.line_input.proofs.AgainLaws.{phrase-first}
use Rattle.line_input.proofs.DrawnAgainLaws.{drawn-again}
use Rattle.line_parts.specs.Environment.{Environment}
use Rattle.line_session.specs.Pieces.{EndsTheSame, GoesOnFrom, Waited, with_more}
use Rattle.line_session.specs.Pieces as pieces
use Rattle.line_session.specs.Steps.{StepsEnd, ItemTaken, Rules, Standing, Steps, TurnFrom, Waits, WaitsIn, comes_in, is_suspended, starting, reads_no_command}
use Rattle.line_session.specs.Steps as steps
use Rattle.line_session.specs.declared.mode.Mode.{Mode}
use Rattle.line_session.specs.declared.mode.Mode.TheVariants as modes
use Rattle.line_session.proofs.DrawLemmas.{same_hint}
use Rattle.line_session.proofs.StepLemmas.{ends_over, key_alone, not_suspended, starts_by, starts_so, steps_over, steps_then, suspended_is}

-- more items stay behind a turn
turn_more : (by : Rules) (from to : Standing) (answer : Answer) (more : List Item) → TurnFrom by from to answer
    → TurnFrom by (with_more more from) (with_more more to) answer
turn_more by from to answer more turn = record {
  reads = turn.reads;
  phrase = turn.phrase;
  read = turn.read;
  cut = ap (λ i. i ++ more) turn.cut ∙ append_assoc turn.phrase to.items more;
  comes = turn.comes;
  input_left = turn.input_left;
  does = turn.does;
}

item_more : (by : Rules) (from to : Standing) (more : List Item) → ItemTaken by from to → ItemTaken by (with_more more from) (with_more more to)
item_more by from to more puts = record {
  item = puts.item;
  comes = puts.comes;
  cut = ap (λ i. i ++ more) puts.cut;
  input = puts.input;
  does = puts.does;
}

steps_more : (by : Rules) (start found : Standing) (more : List Item) → Steps by true start found → Steps by true (with_more more start) (with_more more found)
steps_more by start to more steps.none = steps.none
steps_more by start to more (steps.turn {found} {next} before turn) =
    steps.turn (steps_more by start found more before) (turn_more by found to proceeds more turn)
steps_more by start to more (steps.item {found} {next} before puts) =
    steps.item (steps_more by start found more before) (item_more by found to more puts)
steps_more by start to more (steps.resume {found} {next} over before goes) =
    steps.resume over (steps_more by start found more before) (record { was = goes.was; is = ap (λ s. with_more more s) goes.is })

-- the draft that the first key leaves is that of the same items with more behind them
entered_more : (keymap : Keymap) (draft : Draft) (input : Input) (items more : List Item) → (items ≡ [] → ⊥)
    → entered keymap draft input (items ++ more) ≡ entered keymap draft input items
entered_more keymap draft input [] more some = absurd (some refl)
entered_more keymap draft input (key first ∷ items) more some = refl
entered_more keymap draft input (paste text ∷ items) more some = refl

-- no phrase begins with a pasted text
pub no_paste : (keymap : Keymap) (environment : Environment) (draft : Draft) (input : Input) (text : List ℕ) (items : List Item) (read : Read)
    → Phrase keymap environment draft input (paste text ∷ items) read → ⊥
no_paste keymap environment draft input text items read (of_mode spelled) = by_typed spelled.typed spelled.cut
  where
    by_typed : (typed : List KeyEvent) → paste text ∷ items ≡ map key typed ++ (key spelled.last ∷ spelled.tail) → ⊥
    by_typed [] cut = absurd (cc)
    by_typed (first ∷ more) cut = absurd (cc)
no_paste keymap environment draft input text items read (behind_key nested) = absurd (let cut = nested.cut in cc)

-- of no items nothing is drawn
none_drawn : (shown : List ItemShown) (items : List Item) → length shown ≡ length items → items ≡ [] → any_drawn shown ≡ false
none_drawn [] items each none = refl
none_drawn (one ∷ more) items each none = absurd (omega (arith, each ∙ ap (λ (i : List Item). length i) none))

-- a draft that a cut left: with the hint as it was, where nothing was drawn, or asked again
record IsCut (by : Rules) (found : Standing) (drawn : Bool) (cut : Draft) : Type 0 where
  kept : drawn ≡ false → cut ≡ entered by.keymap found.editor.draft found.input found.items
  asked : drawn ≡ true → cut ≡ hinted by.environment (entered by.keymap found.editor.draft found.input found.items)

-- where reading goes on that waited: with a draft that a cut left
abbrev cut_at : Standing → Draft → Standing
cut_at found cut = record { editor = record { draft = cut; kills = found.editor.kills }; input = found.input; items = found.items; mode = found.mode }

record GoesOn (by : Rules) (found : Standing) (drawn : Bool) (next : Standing) : Type 0 where
  cut : Draft
  is : next ≡ cut_at found cut
  left : IsCut by found drawn cut

cut_by : (by : Rules) (found : Standing) (drawn : Bool) (cut : Draft)
    → cut ≡ cond drawn (hinted by.environment (entered by.keymap found.editor.draft found.input found.items)) (entered by.keymap found.editor.draft found.input found.items)
    → IsCut by found drawn cut
cut_by by found true cut is = record { kept = λ no. absurd (cc); asked = λ _. is }
cut_by by found false cut is = record { kept = λ _. is; asked = λ no. absurd (cc) }

-- a standing of its parts
stands : (one other : Standing) → one.editor ≡ other.editor → one.input ≡ other.input → one.items ≡ other.items → one.mode ≡ other.mode → one ≡ other
stands one other editor input items mode =
    ap (λ e. record { editor = e; input = one.input; items = one.items; mode = one.mode }) editor
    ∙ ap (λ i. record { editor = other.editor; input = i; items = one.items; mode = one.mode }) input
    ∙ ap (λ i. record { editor = other.editor; input = other.input; items = i; mode = one.mode }) items
    ∙ ap (λ m. record { editor = other.editor; input = other.input; items = other.items; mode = m }) mode

goes_on : (by : Rules) (found left next : Standing) (begins : IsBeginning by.keymap by.environment found.editor.draft found.input found.items)
    → CutShort by.keymap by.environment found.input found.items begins.shown found.editor left.editor
    → reads_no_command found.mode ≡ false → left.input ≡ found.input → left.items ≡ found.items → left.mode ≡ found.mode
    → GoesOnFrom by left (any_drawn begins.shown) next → GoesOn by found (any_drawn begins.shown) next
goes_on by found left next begins short reads input items mode goes =
    let none : is_suspended left.mode ≡ false = ap (λ m. is_suspended m) mode ∙ not_suspended found.mode reads in
    let whole : left ≡ cut_at found left.editor.draft =
    stands left (cut_at found left.editor.draft) (ap (λ k. record { draft = left.editor.draft; kills = k }) short.kills) input items mode in
    let there = cut_by by found (any_drawn begins.shown) left.editor.draft short.draft in
    elim goes [
      | inl same ↦ record { cut = left.editor.draft; is = same ∙ starts_so by.environment false left false none ∙ whole; left = there }
      | inr anew ↦ record {
        cut = hinted by.environment left.editor.draft;
        is = anew.1 ∙ starts_so by.environment true left false none ∙ ap (λ s. starts_by by.environment true s false) whole;
        left = record {
          kept = λ no. absurd (let yes = anew.0 in cc);
          asked = λ yes. ap (λ d. hinted by.environment d) (there.asked yes);
        };
      }
    ]

module _ (by : Rules) (no_hint : (typed : KeyEvent) → KeyLooksAtNoHint by.keymap.bound typed) (found : Standing) (more : List Item)
    (reads : reads_no_command found.mode ≡ false) (begins : IsBeginning by.keymap by.environment found.editor.draft found.input found.items) (cut : Draft)
    (left : IsCut by found (any_drawn begins.shown) cut) where
  first_looks : (items : List Item) → FirstLooksAtNoHint by.keymap.bound found.input items
  first_looks items = λ first rest is. (no_hint first, λ plain stands. no_hint plain)

  -- of no items the cut left the draft as it was
  as_it_was : found.items ≡ [] → cut ≡ found.editor.draft
  as_it_was none = left.kept (none_drawn begins.shown found.items begins.each none) ∙ ap (λ i. entered by.keymap found.editor.draft found.input i) none

  -- a turn that is read again is the one from before the cut
  turn_again : (to : Standing) (answer : Answer) (turn : TurnFrom by (with_more more (cut_at found cut)) to answer)
      → LeftByCut by.environment (entered by.keymap found.editor.draft found.input (found.items ++ more)) cut
      → HintMakesNoDifference by.keymap found.input (found.items ++ more) found.editor.draft cut (count_in_front turn.comes) turn.read
      → TurnFrom by (with_more more found) to answer
  turn_again to answer turn short as_before = record {
    reads = turn.reads;
    phrase = turn.phrase;
    read = turn.read;
    cut = turn.cut;
    comes = phrase-first by.keymap by.environment found.editor.draft cut found.input (found.items ++ more) turn.phrase to.items turn.read turn.cut short turn.comes as_before;
    input_left = turn.input_left;
    does = turn.does;
  }

  -- a turn that is read from the cut is one from where the items are read whole
  turn_whole : (to : Standing) (answer : Answer) → TurnFrom by (with_more more (cut_at found cut)) to answer → TurnFrom by (with_more more found) to answer
  turn_whole to answer turn = by_items found.items refl
    where
      by_drawn : (drawn : Bool) → any_drawn begins.shown ≡ drawn → (found.items ≡ [] → ⊥) → TurnFrom by (with_more more found) to answer
      by_drawn true drawn some =
          let short : LeftByCut by.environment (entered by.keymap found.editor.draft found.input found.items) cut = inr (left.asked drawn) in
          let whole : LeftByCut by.environment (entered by.keymap found.editor.draft found.input (found.items ++ more)) cut =
          subst (λ d. LeftByCut by.environment d cut) (sym (entered_more by.keymap found.editor.draft found.input found.items more some)) short in
          let within = drawn-again by.keymap by.environment found.editor.draft cut found.input found.items more turn.phrase to.items turn.read begins drawn short (first_looks found.items) turn.cut turn.comes in
          turn_again to answer turn whole (inr (inr (within.whole, first_looks (found.items ++ more))))
      by_drawn false drawn some =
          let is = left.kept drawn in
          let whole : LeftByCut by.environment (entered by.keymap found.editor.draft found.input (found.items ++ more)) cut =
          inl (is ∙ sym (entered_more by.keymap found.editor.draft found.input found.items more some)) in
          turn_again to answer turn whole (inl (ap (λ (d : Draft). d.hint) is ∙ same_hint by.keymap found.editor.draft found.input found.items))

      by_items : (items : List Item) → found.items ≡ items → TurnFrom by (with_more more found) to answer
      by_items [] none = subst (λ d. TurnFrom by (with_more more (cut_at found d)) to answer) (as_it_was none) turn
      by_items (first ∷ rest) some = by_drawn (any_drawn begins.shown) refl (λ none. absurd (let two : first ∷ rest ≡ [] = sym some ∙ none in cc))

  -- and so is an item that comes in as it is
  item_whole : (to : Standing) → ItemTaken by (with_more more (cut_at found cut)) to → ItemTaken by (with_more more found) to
  item_whole to puts = by_items found.items refl
    where
      by_items : (items : List Item) → found.items ≡ items → ItemTaken by (with_more more found) to
      by_items [] none = subst (λ d. ItemTaken by (with_more more (cut_at found d)) to) (as_it_was none) puts
      by_items (key first ∷ rest) is =
          let front : key first ∷ rest ++ more ≡ puts.item ∷ to.items = ap (λ i. i ++ more) (sym is) ∙ puts.cut in
          let item : key first ≡ puts.item = cc in
          let comes : reads_no_command found.mode ≡ true = key_alone found.mode first (subst (λ i. comes_in found.mode i ≡ true) (sym item) puts.comes) in
          absurd (let two : true ≡ false = sym comes ∙ reads in cc)
      by_items (paste text ∷ rest) is =
          let comes = subst (λ i. Phrase by.keymap by.environment found.editor.draft found.input (i ++ begins.rest) begins.read) is begins.comes in
          absurd (no_paste by.keymap by.environment found.editor.draft found.input text (rest ++ begins.rest) begins.read comes)

  -- the program was not suspended
  none_suspended : {B : Type 0} {m : Mode} → m ≡ found.mode → m ≡ modes.Suspended → B
  none_suspended same was = absurd (let two : true ≡ false = sym (ap (λ n. reads_no_command n) was) ∙ ap (λ n. reads_no_command n) same ∙ reads in cc)

  -- steps from the cut, if there are any, are steps from where the items are read whole
  steps_whole : (start to : Standing) → Steps by true start (with_more more found) → Steps by true (with_more more (cut_at found cut)) to
      → (to ≡ with_more more (cut_at found cut)) ⊎ Steps by true start to
  steps_whole start to front steps.none = inl refl
  steps_whole start to front (steps.turn {found = middle} {next} before turn) = inr (elim (steps_whole start middle front before) [
    | inl is ↦ steps.turn front (turn_whole to proceeds (subst (λ s. TurnFrom by s to proceeds) is turn))
    | inr there ↦ steps.turn there turn
  ])
  steps_whole start to front (steps.item {found = middle} {next} before puts) = inr (elim (steps_whole start middle front before) [
    | inl is ↦ steps.item front (item_whole to (subst (λ s. ItemTaken by s to) is puts))
    | inr there ↦ steps.item there puts
  ])
  steps_whole start to front (steps.resume {found = middle} {next} over before goes) = inr (elim (steps_whole start middle front before) [
    | inl is ↦ none_suspended (ap (λ (s : Standing). s.mode) is) goes.was
    | inr there ↦ steps.resume over there goes
  ])

  ends_whole : (start end : Standing) (answer : Answer) → Steps by true start (with_more more found) → StepsEnd by true (with_more more (cut_at found cut)) end answer
      → StepsEnd by true start end answer
  ends_whole start end answer front ends = elim (steps_whole start ends.found front ends.steps) [
    | inl is ↦ record {
      found = with_more more found;
      steps = front;
      last = turn_whole end answer (subst (λ s. TurnFrom by s end answer) is ends.last);
    }
    | inr there ↦ record { found = ends.found; steps = there; last = ends.last }
  ]

-- where a call waited once
ends_once : (by : Rules) (start left next end : Standing) (piece : List Item) (answer : Answer)
    → ((typed : KeyEvent) → KeyLooksAtNoHint by.keymap.bound typed)
    → (waits : Waits by start left) → GoesOnFrom by left (any_drawn waits.shown) next → StepsEnd by true (with_more piece next) end answer
    → StepsEnd by true (with_more piece start) end answer
ends_once by start left next end piece answer no_hint waits goes ends = by_kind waits.shown waits.waits goes
  where
    w : Environment
    w = by.environment

    front : Steps by true (with_more piece start) (with_more piece waits.found)
    front = steps_more by start waits.found piece (steps_over by start waits.found waits.steps)

    -- steps, and then the end
    ends_then : Steps by true (with_more piece start) (with_more piece next) → StepsEnd by true (with_more piece start) end answer
    ends_then there = record {
      found = ends.found;
      steps = steps_then by true (with_more piece start) (with_more piece next) ends.found there ends.steps;
      last = ends.last;
    }

    -- a program that was suspended goes on, and else a call begins where the one before waited
    goes_alone : (suspended : Bool) → is_suspended waits.found.mode ≡ suspended → next ≡ starts_by w false waits.found suspended
        → Steps by true (with_more piece start) (with_more piece next)
    goes_alone true is next_is = steps.resume refl front (record {
      was = suspended_is waits.found.mode is;
      is = ap (λ s. with_more piece s) next_is;
    })
    goes_alone false is next_is = subst (λ s. Steps by true (with_more piece start) (with_more piece s)) (sym next_is) front

    by_kind : (shown : List ItemShown) → WaitsIn by waits.found left.editor shown → GoesOnFrom by left (any_drawn shown) next
        → StepsEnd by true (with_more piece start) end answer
    by_kind _ (steps.phrase reads begins short) goes =
        let here = goes_on by waits.found left next begins short reads waits.input waits.items waits.mode goes in
        ends_whole by no_hint waits.found piece reads begins here.cut here.left (with_more piece start) end answer front
        (subst (λ s. StepsEnd by true (with_more piece s) end answer) here.is ends)
    by_kind _ (steps.alone takes none same) (inr anew) = absurd (let no = anew.0 in cc)
    by_kind _ (steps.alone takes none same) (inl is) =
        let here : left ≡ waits.found = stands left waits.found same waits.input waits.items waits.mode in
        let next_is : next ≡ starts_by w false waits.found (is_suspended waits.found.mode) = is ∙ ap (λ s. starting w false s) here in
        ends_then (goes_alone (is_suspended waits.found.mode) refl next_is)

-- the same of an end over several calls
ends_over_calls : (by : Rules) (start left next end : Standing) (items piece : List Item) (drawn : Bool) (answer : Answer)
    → ((typed : KeyEvent) → KeyLooksAtNoHint by.keymap.bound typed)
    → Waited by start items left drawn → GoesOnFrom by left drawn next → StepsEnd by true (with_more piece next) end answer
    → StepsEnd by true (with_more (items ++ piece) start) end answer
ends_over_calls by start left next end items piece drawn answer no_hint (pieces.first waits) goes ends =
    ends_once by start left next end piece answer no_hint waits goes ends
ends_over_calls by start left' next' end items' piece' drawn' answer no_hint (pieces.again {items} {left} {next} {later} {drawn} piece waited goes waits) goes' ends =
    let once = ends_once by (with_more piece next) left' next' end piece' answer no_hint waits goes' ends in
    let both : StepsEnd by true (with_more (piece ++ piece') next) end answer =
    subst (λ i. StepsEnd by true (record next { items = i }) end answer) (append_assoc next.items piece piece') once in
    let whole = ends_over_calls by start left next end items (piece ++ piece') drawn answer no_hint waited goes both in
    subst (λ i. StepsEnd by true (with_more i start) end answer) (sym (append_assoc items piece piece')) whole

pub ends-same : EndsTheSame
ends-same by start left next end items piece drawn answer no_hint waited goes ends =
    ends_over_calls by start left next end items piece drawn answer no_hint waited goes (ends_over by (with_more piece next) end answer ends)
