-- A line ends once.
use Rattle.std.proofs.Common.{◌≡◌, ◌≢◌, ◌∙◌, ◌⊎◌, inl, inr, Bool, List, [], ◌∷◌, ◌++◌, length, map, Option, Some, None, refl, sym, ap, subst, ℕ, true, false}
use Rattle.std.specs.Prelude.{◌==◌, MatchBool}
use Rattle.line_config.specs.Settings.{Settings}
use Rattle.line_keys.specs.Command.{Command}
use Rattle.line_keys.specs.Model.Draft.{Draft, hinted}
use Rattle.line_keys.specs.Item.{Item, key, paste}
use Rattle.line_keys.specs.declared.keys.KeyEvent.{KeyEvent}
use Rattle.line_parts.specs.Candidate.{Completion, pair_offer}
use Rattle.line_parts.specs.Environment.{Environment, shown_at}
use Rattle.line_parts.specs.declared.completion.pair.Pair.{Pair}
use Rattle.line_parts.specs.declared.history.SearchDirection.{SearchDirection}
use Rattle.line_parts.specs.declared.history.SearchDirection.TheVariants.{Forward, Reverse}
use Rattle.line_editor.specs.Editor.{Answer, Editor, ended, interrupted, proceeds, submitted}
use Rattle.line_editor.specs.Input.{Input}
use Rattle.line_editor.specs.Keymap.{Keymap}
use Rattle.line_editor.specs.Phrase.{Phrase, behind_key, of_mode}
use Rattle.line_editor.specs.Read.{Read}
use Rattle.line_editor.specs.Run.{ready}
use Rattle.line_editor.specs.Deferred.{deferred_by}
use Rattle.line_editor.specs.declared.deferred.Deferred.{Deferred}
use Rattle.line_editor.specs.declared.deferred.Deferred.TheVariants as deferred
use Rattle.line_editor.proofs.RunLaws.{one-phrase}
use Rattle.line_session.specs.Completing.{BeginsCompletion, ByCandidates}
use Rattle.line_session.specs.Pieces.{EndsOnce, OffersNothing}
use Rattle.line_session.specs.Searching.{BeginsSearch, Search, Searches, ShowsSearch, before_search, extended, first_search, gone_on, search_cmd, search_value, shortened}
use Rattle.line_session.specs.Steps.{AnswersCommand, AnswersTurn, DoesInMode, DoesInSearch, DoesItem, ExecutesAndAnswers, ItemTaken, Resumed, Rules, Standing, Steps, TurnFrom, comes_in, once_drawn, reads_no_command}
use Rattle.line_session.specs.Steps as steps
use Rattle.line_session.specs.declared.mode.Mode.{Mode}
use Rattle.line_session.specs.declared.mode.Mode.TheVariants as modes
use Rattle.line_session.specs.declared.searching.SearchCmd.{SearchCmd}
use Rattle.line_session.specs.declared.searching.SearchCmd.TheVariants as cmds
use Rattle.line_session.specs.declared.searching.Searching.{Searching}
use Rattle.line_session.proofs.StepLemmas.{key_alone}
use Rattle.line_session.proofs.WholeLaws.{no_paste}

-- no phrase is empty
some_phrase : (keymap : Keymap) (environment : Environment) (draft : Draft) (input : Input) (read : Read) → Phrase keymap environment draft input [] read → ⊥
some_phrase keymap environment draft input read (of_mode spelled) = by_typed spelled.typed spelled.cut
  where
    by_typed : (typed : List KeyEvent) → [] ≡ map key typed ++ (key spelled.last ∷ spelled.tail) → ⊥
    by_typed [] cut = absurd (cc)
    by_typed (first ∷ more) cut = absurd (cc)
some_phrase keymap environment draft input read (behind_key nested) = absurd (let cut = nested.cut in cc)

-- no completion is under way
abbrev is_plain : Mode → Bool
is_plain modes.Editing = true
is_plain modes.Quoting = true
is_plain (modes.Searching searching) = true
is_plain modes.Suspended = true
is_plain _ = false

-- two searches that stand for the same
record SameSearch (one other : Mode) : Type 0 where
  searching : Searching
  searching' : Searching
  is : one ≡ modes.Searching searching
  is' : other ≡ modes.Searching searching'
  same : search_value searching ≡ search_value searching'

-- items are read alike: as the same, or by searches that stand for the same
abbrev AlikeModes : Mode → Mode → Type 0
AlikeModes one other = (one ≡ other) ⊎ SameSearch one other

alike_back : (one other : Mode) → AlikeModes one other → AlikeModes other one
alike_back one other (inl same) = inl (sym same)
alike_back one other (inr both) = inr (record { searching = both.searching'; searching' = both.searching; is = both.is'; is' = both.is; same = sym both.same })

takes_alike : (one other : Mode) → AlikeModes one other → reads_no_command one ≡ reads_no_command other
takes_alike one other (inl same) = ap (λ m. reads_no_command m) same
takes_alike one other (inr both) = ap (λ m. reads_no_command m) both.is ∙ sym (ap (λ m. reads_no_command m) both.is')

comes_alike : (one other : Mode) (item : Item) → AlikeModes one other → comes_in one item ≡ comes_in other item
comes_alike one other item (inl same) = ap (λ m. comes_in m item) same
comes_alike one other item (inr both) =
    ap (λ m. comes_in m item) both.is ∙ by_item item ∙ sym (ap (λ m. comes_in m item) both.is')
  where
    by_item : (item : Item) → comes_in (modes.Searching both.searching) item ≡ comes_in (modes.Searching both.searching') item
    by_item (key typed) = refl
    by_item (paste text) = refl

-- without a candidate nothing begins
none_offered : (candidates : List Pair) → map pair_offer candidates ≡ [] → candidates ≡ []
none_offered [] none = refl
none_offered (first ∷ more) none = absurd (cc)

begins_nothing : (settings : Settings) (environment : Environment) (old new : Draft) (next : Mode) → OffersNothing environment
    → BeginsCompletion settings environment old new next → (new ≡ old) × (next ≡ modes.Editing)
begins_nothing settings environment old new next none begins =
    nothing (none_offered begins.candidates.items (ap (λ (c : Completion). c.offers) (begins.offered ∙ none (shown_at environment old.line.text old.line.cursor old.index))))
  where
    nothing : begins.candidates.items ≡ [] → (new ≡ old) × (next ≡ modes.Editing)
    nothing is = subst (λ items. ByCandidates items settings environment begins.start begins.candidates old new next) is begins.begins

-- what one command and another leave: the same editor, answer and reading of items
record Once (new new' : Editor) (next next' : Mode) (answer answer' : Answer) : Type 0 where
  editor : new ≡ new'
  answered : answer ≡ answer'
  mode : AlikeModes next next'
  plain : is_plain next ≡ true
  over : answer ≢ proceeds → (next ≡ modes.Editing) × (next' ≡ modes.Editing)

-- and what they leave to the program, of one draft
record OnceLeft (new new' : Draft) (next next' : Mode) : Type 0 where
  draft : new ≡ new'
  mode : AlikeModes next next'
  plain : is_plain next ≡ true

-- nothing was done by both
same_left : (old new new' : Draft) (next next' mode : Mode) → is_plain mode ≡ true → (new ≡ old) × (next ≡ mode) → (new' ≡ old) × (next' ≡ mode) → OnceLeft new new' next next'
same_left old new new' next next' mode plain one other = record {
  draft = one.0 ∙ sym other.0;
  mode = inl (one.1 ∙ sym other.1);
  plain = ap (λ m. is_plain m) one.1 ∙ plain;
}

shows_once : (environment : Environment) (search : Search) (before new new' : Draft) (next next' : Mode) → ShowsSearch environment search before new next
    → ShowsSearch environment search before new' next' → OnceLeft new new' next next'
shows_once environment search before new new' next next' one other = record {
  draft = one.shown ∙ sym other.shown;
  mode = inr (record { searching = one.searching; searching' = other.searching; is = one.mode_is; is' = other.mode_is; same = one.next ∙ sym other.next });
  plain = ap (λ m. is_plain m) one.mode_is;
}

begins_once : (environment : Environment) (direction : SearchDirection) (old new new' : Draft) (next next' : Mode) → BeginsSearch environment direction old new next
    → BeginsSearch environment direction old new' next' → OnceLeft new new' next next'
begins_once environment direction old new new' next next' one other = by_lines (length environment.lines == 0) one other
  where
    by_lines : (empty : Bool)
        → MatchBool empty ((new ≡ old) × (next ≡ modes.Editing)) (ShowsSearch environment (first_search environment direction old) old new next)
        → MatchBool empty ((new' ≡ old) × (next' ≡ modes.Editing)) (ShowsSearch environment (first_search environment direction old) old new' next')
        → OnceLeft new new' next next'
    by_lines true one other = same_left old new new' next next' modes.Editing refl one other
    by_lines false one other = shows_once environment (first_search environment direction old) old new new' next next' one other

searches_once : (environment : Environment) (search : Search) (says : SearchCmd) (old new new' : Draft) (next next' : Mode) → Searches environment search says old new next
    → Searches environment search says old new' next' → OnceLeft new new' next next'
searches_once environment search (cmds.Extend c) old new new' next next' one other =
    shows_once environment (extended environment c search) (before_search environment search old) new new' next next' one other
searches_once environment search cmds.Shorten old new new' next next' one other =
    shows_once environment (shortened search) (before_search environment search old) new new' next next' one other
searches_once environment search (cmds.GoOn direction) old new new' next next' one other =
    shows_once environment (gone_on environment direction search) (before_search environment search old) new new' next next' one other
searches_once environment search cmds.GiveUp old new new' next next' one other =
    same_left (hinted environment (before_search environment search old)) new new' next next' modes.Editing refl one other

-- an editor of its parts
editor_is : (one other : Editor) → one.draft ≡ other.draft → one.kills ≡ other.kills → one ≡ other
editor_is one other draft kills = ap (λ d. record { draft = d; kills = one.kills }) draft ∙ ap (λ k. record { draft = other.draft; kills = k }) kills

module _ (by : Rules) (none : OffersNothing by.environment) where
  answers_once : (left : Option Deferred) (old new new' : Draft) (next next' : Mode) → AnswersCommand by.settings by.environment left modes.Editing old new next
      → AnswersCommand by.settings by.environment left modes.Editing old new' next' → OnceLeft new new' next next'
  answers_once None old new new' next next' one other = same_left old new new' next next' modes.Editing refl one other
  answers_once (Some deferred.Abort) old new new' next next' one other = same_left old new new' next next' modes.Editing refl one other
  answers_once (Some deferred.Complete) old new new' next next' one other =
      same_left old new new' next next' modes.Editing refl (begins_nothing by.settings by.environment old new next none one) (begins_nothing by.settings by.environment old new' next' none other)
  answers_once (Some deferred.CompleteBackward) old new new' next next' one other = same_left old new new' next next' modes.Editing refl one other
  answers_once (Some deferred.ForwardSearchHistory) old new new' next next' one other = begins_once by.environment Forward old new new' next next' one other
  answers_once (Some deferred.QuotedInsert) old new new' next next' one other = same_left old new new' next next' modes.Quoting refl one other
  answers_once (Some deferred.ReverseSearchHistory) old new new' next next' one other = begins_once by.environment Reverse old new new' next next' one other
  answers_once (Some deferred.Suspend) old new new' next next' one other = same_left old new new' next next' modes.Suspended refl one other

  -- a line that ended was left as it was
  ended_once : (answer answer' : Answer) (old new new' : Editor) (next next' : Mode) → answer ≡ answer' → (new ≡ old) × (next ≡ modes.Editing)
      → (new' ≡ old) × (next' ≡ modes.Editing) → Once new new' next next' answer answer'
  ended_once answer answer' old new new' next next' same one other = record {
    editor = one.0 ∙ sym other.0;
    answered = same;
    mode = inl (one.1 ∙ sym other.1);
    plain = ap (λ m. is_plain m) one.1;
    over = λ ends. (one.1, other.1);
  }

  turn_once : (answer : Answer) (left : Option Deferred) (old new new' : Editor) (next next' : Mode) → AnswersTurn by answer left modes.Editing old new next
      → AnswersTurn by answer left modes.Editing old new' next' → Once new new' next next' answer answer
  turn_once proceeds left old new new' next next' one other =
      let both = answers_once left old.draft new.draft new'.draft next next' one.0 other.0 in
      record {
        editor = editor_is new new' both.draft (one.1 ∙ sym other.1);
        answered = refl;
        mode = both.mode;
        plain = both.plain;
        over = λ ends. absurd (ends refl);
      }
  turn_once submitted left old new new' next next' one other = ended_once submitted submitted old new new' next next' refl one other
  turn_once ended left old new new' next next' one other = ended_once ended ended old new new' next next' refl one other
  turn_once interrupted left old new new' next next' one other = ended_once interrupted interrupted old new new' next next' refl one other

  executes_once : (command : Command) (input : Input) (found new new' : Editor) (next next' : Mode) (answer answer' : Answer)
      → ExecutesAndAnswers by modes.Editing command input found new next answer → ExecutesAndAnswers by modes.Editing command input found new' next' answer'
      → Once new new' next next' answer answer'
  executes_once command input found new new' next next' answer answer' one other =
      let same : answer' ≡ answer = sym other.leaves.answered ∙ one.leaves.answered in
      let executed : other.executed ≡ one.executed = other.leaves.editor ∙ sym one.leaves.editor in
      let there : AnswersTurn by answer (deferred_by command) modes.Editing one.executed new' next' =
      subst (λ a. AnswersTurn by a (deferred_by command) modes.Editing one.executed new' next') same
      (subst (λ x. AnswersTurn by answer' (deferred_by command) modes.Editing x new' next') executed other.answers) in
      subst (λ a. Once new new' next next' answer a) (sym same) (turn_once answer (deferred_by command) one.executed new new' next next' one.answers there)

  search_once : (search : Search) (says : Option SearchCmd) (command : Command) (input : Input) (found new new' : Editor) (next next' : Mode) (answer answer' : Answer)
      → DoesInSearch by search says command input found new next answer → DoesInSearch by search says command input found new' next' answer'
      → Once new new' next next' answer answer'
  search_once search (Some says) command input found new new' next next' answer answer' one other =
      let both = searches_once by.environment search says found.draft new.draft new'.draft next next' one.2 other.2 in
      record {
        editor = editor_is new new' both.draft (one.1 ∙ sym other.1);
        answered = one.0 ∙ sym other.0;
        mode = both.mode;
        plain = both.plain;
        over = λ ends. absurd (ends one.0);
      }
  search_once search None command input found new new' next next' answer answer' one other =
      executes_once command input (once_drawn by.environment found) new new' next next' answer answer' one other

  does_once : (m : Mode) → is_plain m ≡ true → reads_no_command m ≡ false → (command : Command) (input : Input) (found new new' : Editor) (next next' : Mode) (answer answer' : Answer)
      → DoesInMode by m command input found new next answer → DoesInMode by m command input found new' next' answer' → Once new new' next next' answer answer'
  does_once modes.Editing plain reads command input found new new' next next' answer answer' one other =
      executes_once command input found new new' next next' answer answer' one other
  does_once modes.Quoting plain reads command input found new new' next next' answer answer' one other = absurd (let two : true ≡ false = reads in cc)
  does_once (modes.Completing going) plain reads command input found new new' next next' answer answer' one other = absurd (let two : false ≡ true = plain in cc)
  does_once (modes.Offering candidates) plain reads command input found new new' next next' answer answer' one other = absurd (let two : false ≡ true = plain in cc)
  does_once (modes.Listing listing) plain reads command input found new new' next next' answer answer' one other = absurd (let two : false ≡ true = plain in cc)
  does_once (modes.Searching searching) plain reads command input found new new' next next' answer answer' one other =
      search_once (search_value searching) (search_cmd command) command input found new new' next next' answer answer' one other
  does_once modes.Suspended plain reads command input found new new' next next' answer answer' one other = absurd (let two : true ≡ false = reads in cc)

  -- what is read alike does the same
  does_alike : (m m' : Mode) (command : Command) (input : Input) (found new : Editor) (next : Mode) (answer : Answer) → AlikeModes m m'
      → DoesInMode by m' command input found new next answer → DoesInMode by m command input found new next answer
  does_alike m m' command input found new next answer (inl same) does = subst (λ x. DoesInMode by x command input found new next answer) (sym same) does
  does_alike m m' command input found new next answer (inr both) does =
      subst (λ x. DoesInMode by x command input found new next answer) (sym both.is)
      (subst (λ q. DoesInSearch by q (search_cmd command) command input found new next answer) (sym both.same)
      (subst (λ x. DoesInMode by x command input found new next answer) both.is' does))

  item_does_alike : (m m' : Mode) (input : Input) (item : Item) (old new : Editor) (next : Mode) → AlikeModes m m'
      → DoesItem by input m' item old new next → DoesItem by input m item old new next
  item_does_alike m m' input item old new next (inl same) does = subst (λ x. DoesItem by input x item old new next) (sym same) does
  item_does_alike m m' input item old new next (inr both) does =
      let there : DoesItem by input (modes.Searching both.searching') item old new next = subst (λ x. DoesItem by input x item old new next) both.is' does in
      let here : DoesItem by input (modes.Searching both.searching) item old new next = there in
      subst (λ x. DoesItem by input x item old new next) (sym both.is) here

  -- two standings are alike
  record Alike (one other : Standing) : Type 0 where
    editor : one.editor ≡ other.editor
    input : one.input ≡ other.input
    items : one.items ≡ other.items
    mode : AlikeModes one.mode other.mode

  same_alike : (one : Standing) → Alike one one
  same_alike one = record { editor = refl; input = refl; items = refl; mode = inl refl }

  other_way : (one other : Standing) → Alike one other → Alike other one
  other_way one other alike =
      record { editor = sym alike.editor; input = sym alike.input; items = sym alike.items; mode = alike_back one.mode other.mode alike.mode }

  -- a standing of its parts
  stands : (to to' : Standing) → to.editor ≡ to'.editor → to.input ≡ to'.input → to.items ≡ to'.items → to.mode ≡ to'.mode → to ≡ to'
  stands to to' editor input items mode =
      ap (λ e. record { editor = e; input = to.input; items = to.items; mode = to.mode }) editor
      ∙ ap (λ i. record { editor = to'.editor; input = i; items = to.items; mode = to.mode }) input
      ∙ ap (λ i. record { editor = to'.editor; input = to'.input; items = i; mode = to.mode }) items
      ∙ ap (λ m. record { editor = to'.editor; input = to'.input; items = to'.items; mode = m }) mode

  -- a turn from one standing is one from another that is alike
  turn_alike : (from from' to : Standing) (answer : Answer) → Alike from from' → TurnFrom by from' to answer → TurnFrom by from to answer
  turn_alike from from' to answer alike turn =
      let middle : Standing = record from' { mode = from.mode } in
      let there : TurnFrom by middle to answer = record {
        reads = takes_alike from.mode from'.mode alike.mode ∙ turn.reads;
        phrase = turn.phrase;
        read = turn.read;
        cut = turn.cut;
        comes = turn.comes;
        input_left = turn.input_left;
        does = does_alike from.mode from'.mode turn.read.command turn.read.input (ready turn.read.command turn.read.draft from'.editor.kills) to.editor to.mode answer alike.mode turn.does;
      } in
      subst (λ s. TurnFrom by s to answer) (sym (stands from middle alike.editor alike.input alike.items refl)) there

  item_alike : (from from' to : Standing) → Alike from from' → ItemTaken by from' to → ItemTaken by from to
  item_alike from from' to alike taken =
      let middle : Standing = record from' { mode = from.mode } in
      let there : ItemTaken by middle to = record {
        item = taken.item;
        comes = comes_alike from.mode from'.mode taken.item alike.mode ∙ taken.comes;
        cut = taken.cut;
        input = taken.input;
        does = item_does_alike from.mode from'.mode from'.input taken.item from'.editor to.editor to.mode alike.mode taken.does;
      } in
      subst (λ s. ItemTaken by s to) (sym (stands from middle alike.editor alike.input alike.items refl)) there

  -- two turns from one standing come to the same
  record OneTurn (to to' : Standing) (answer answer' : Answer) : Type 0 where
    alike : Alike to to'
    answered : answer ≡ answer'
    plain : is_plain to.mode ≡ true
    over : answer ≢ proceeds → to ≡ to'

  one_turn : (from to to' : Standing) (answer answer' : Answer) → is_plain from.mode ≡ true → TurnFrom by from to answer → TurnFrom by from to' answer' → OneTurn to to' answer answer'
  one_turn from to to' answer answer' plain one other =
      let read = one-phrase by.keymap by.ruler by.environment from.editor.draft from.input one.phrase other.phrase to.items to'.items one.read other.read one.comes other.comes
      (sym one.cut ∙ other.cut) in
      let there : DoesInMode by from.mode one.read.command one.read.input (ready one.read.command one.read.draft from.editor.kills) to'.editor to'.mode answer' =
      subst (λ (r : Read). DoesInMode by from.mode r.command r.input (ready r.command r.draft from.editor.kills) to'.editor to'.mode answer') (sym read.1) other.does in
      let both = does_once from.mode plain one.reads one.read.command one.read.input (ready one.read.command one.read.draft from.editor.kills) to.editor to'.editor to.mode to'.mode answer answer' one.does there in
      let input : to.input ≡ to'.input = one.input_left ∙ ap (λ (r : Read). r.input) read.1 ∙ sym other.input_left in
      record {
        alike = record { editor = both.editor; input = input; items = read.0; mode = both.mode };
        answered = both.answered;
        plain = both.plain;
        over = λ ends. let modes = both.over ends in stands to to' both.editor input read.0 (modes.0 ∙ sym modes.1);
      }

  -- an item that is taken by itself begins no turn
  item_alone : {B : Type 0} (from to to' : Standing) (answer : Answer) → TurnFrom by from to answer → ItemTaken by from to' → B
  item_alone from to to' answer turn puts =
      by_item puts.item puts.comes (sym turn.cut ∙ puts.cut)
    where
      by_phrase : {B : Type 0} (text : List ℕ) (phrase : List Item) → Phrase by.keymap by.environment from.editor.draft from.input phrase turn.read → phrase ++ to.items ≡ paste text ∷ to'.items → B
      by_phrase text [] reads cut = absurd (some_phrase by.keymap by.environment from.editor.draft from.input turn.read reads)
      by_phrase text (paste other ∷ items) reads cut = absurd (no_paste by.keymap by.environment from.editor.draft from.input other items turn.read reads)
      by_phrase text (key first ∷ items) reads cut = absurd (cc)

      by_item : {B : Type 0} (item : Item) → comes_in from.mode item ≡ true → turn.phrase ++ to.items ≡ item ∷ to'.items → B
      by_item (key typed) comes cut = absurd (let two : true ≡ false = sym (key_alone from.mode typed comes) ∙ turn.reads in cc)
      by_item (paste text) comes cut = by_phrase text turn.phrase turn.comes cut

  -- what an item does where no completion is under way
  item_once : (m : Mode) → is_plain m ≡ true → (input : Input) (item : Item) (old new new' : Editor) (next next' : Mode) → DoesItem by input m item old new next
      → DoesItem by input m item old new' next' → (new ≡ new') × (next ≡ modes.Editing) × (next' ≡ modes.Editing)
  item_once modes.Editing plain input item old new new' next next' one other = (one.0.editor ∙ sym other.0.editor, one.1, other.1)
  item_once modes.Quoting plain input item old new new' next next' one other = (one.0.editor ∙ sym other.0.editor, one.1, other.1)
  item_once (modes.Completing going) plain input item old new new' next next' one other = absurd (let two : false ≡ true = plain in cc)
  item_once (modes.Offering candidates) plain input item old new new' next next' one other = absurd (let two : false ≡ true = plain in cc)
  item_once (modes.Listing listing) plain input item old new new' next next' one other = absurd (let two : false ≡ true = plain in cc)
  item_once (modes.Searching searching) plain input item old new new' next next' one other = (one.0.editor ∙ sym other.0.editor, one.1, other.1)
  item_once modes.Suspended plain input item old new new' next next' one other = (one.0.editor ∙ sym other.0.editor, one.1, other.1)

  -- two items that are taken from one standing are the same
  record OneItem (to to' : Standing) : Type 0 where
    alike : Alike to to'
    plain : is_plain to.mode ≡ true

  one_item : (from to to' : Standing) → is_plain from.mode ≡ true → ItemTaken by from to → ItemTaken by from to' → OneItem to to'
  one_item from to to' plain one other =
      let cut : one.item ∷ to.items ≡ other.item ∷ to'.items = sym one.cut ∙ other.cut in
      let items : to.items ≡ to'.items = cc in
      let item : one.item ≡ other.item = cc in
      let there : DoesItem by from.input from.mode one.item from.editor to'.editor to'.mode = subst (λ i. DoesItem by from.input from.mode i from.editor to'.editor to'.mode) (sym item) other.does in
      let both = item_once from.mode plain from.input one.item from.editor to.editor to'.editor to.mode to'.mode one.does there in
      record {
        alike = record { editor = both.0; input = one.input ∙ sym other.input; items = items; mode = inl (both.1 ∙ sym both.2) };
        plain = ap (λ m. is_plain m) both.1;
      }

  module _ (over_calls : Bool) where
    -- no completion begins on the way
    plain_steps : (from to : Standing) → is_plain from.mode ≡ true → Steps by over_calls from to → is_plain to.mode ≡ true
    plain_steps from to plain steps.none = plain
    plain_steps from to plain (steps.turn {found} {next} before turn) = (one_turn found to to proceeds proceeds (plain_steps from found plain before) turn turn).plain
    plain_steps from to plain (steps.item {found} {next} before taken) = (one_item found to to (plain_steps from found plain before) taken taken).plain
    plain_steps from to plain (steps.resume {found} {next} over before goes) = ap (λ (s : Standing). is_plain s.mode) goes.is

    -- one step: a turn that proceeds, an item that is taken by itself, or a program that goes on
    abbrev OneStep : Standing → Standing → Type 0
    OneStep from to = TurnFrom by from to proceeds ⊎ ItemTaken by from to ⊎ ((over_calls ≡ true) × Resumed by from to)

    resumed_alike : (from from' to : Standing) → Alike from from' → Resumed by from' to → Resumed by from to
    resumed_alike from from' to alike goes = by_mode alike.mode
      where
        by_mode : AlikeModes from.mode from'.mode → Resumed by from to
        by_mode (inl same) =
            let middle : Standing = record from' { mode = from.mode } in
            let there : Resumed by middle to = record { was = same ∙ goes.was; is = goes.is } in
            subst (λ s. Resumed by s to) (sym (stands from middle alike.editor alike.input alike.items refl)) there
        by_mode (inr both) = absurd (let two : modes.Searching both.searching' ≡ modes.Suspended = sym both.is' ∙ goes.was in cc)

    step_alike : (from from' to : Standing) → Alike from from' → OneStep from' to → OneStep from to
    step_alike from from' to alike (inl turn) = inl (turn_alike from from' to proceeds alike turn)
    step_alike from from' to alike (inr (inl taken)) = inr (inl (item_alike from from' to alike taken))
    step_alike from from' to alike (inr (inr (over, goes))) = inr (inr (over, resumed_alike from from' to alike goes))

    -- while the program is suspended no turn is taken, and no item
    no_turn : {B : Type 0} (from to to' : Standing) (answer : Answer) → TurnFrom by from to answer → Resumed by from to' → B
    no_turn from to to' answer turn goes = absurd (let two : true ≡ false = sym (ap (λ m. reads_no_command m) goes.was) ∙ turn.reads in cc)

    no_item : {B : Type 0} (from to to' : Standing) → ItemTaken by from to → Resumed by from to' → B
    no_item from to to' taken goes = absurd (let two : false ≡ true = sym (ap (λ m. comes_in m taken.item) goes.was) ∙ taken.comes in cc)

    one_step : (from to to' : Standing) → is_plain from.mode ≡ true → OneStep from to → OneStep from to' → Alike to to'
    one_step from to to' plain (inl one) (inl other) = (one_turn from to to' proceeds proceeds plain one other).alike
    one_step from to to' plain (inl one) (inr (inl other)) = item_alone from to to' proceeds one other
    one_step from to to' plain (inl one) (inr (inr (over, other))) = no_turn from to to' proceeds one other
    one_step from to to' plain (inr (inl one)) (inl other) = item_alone from to' to proceeds other one
    one_step from to to' plain (inr (inl one)) (inr (inl other)) = (one_item from to to' plain one other).alike
    one_step from to to' plain (inr (inl one)) (inr (inr (over, other))) = no_item from to to' one other
    one_step from to to' plain (inr (inr (over, one))) (inl other) = no_turn from to' to proceeds other one
    one_step from to to' plain (inr (inr (over, one))) (inr (inl other)) = no_item from to' to other one
    one_step from to to' plain (inr (inr (over, one))) (inr (inr (again, other))) =
        subst (λ s. Alike s to') (sym (one.is ∙ sym other.is)) (same_alike to')

    -- steps are none, or a first one and others
    record First (from to : Standing) : Type 0 where
      next : Standing
      one : OneStep from next
      rest : Steps by over_calls next to

    first_of : (from to : Standing) → Steps by over_calls from to → (to ≡ from) ⊎ First from to
    first_of from to steps.none = inl refl
    first_of from to (steps.turn {found} {next} before turn) = elim (first_of from found before) [
      | inl is ↦ inr (record { next = to; one = inl (subst (λ s. TurnFrom by s to proceeds) is turn); rest = steps.none })
      | inr f ↦ inr (record { next = f.next; one = f.one; rest = steps.turn f.rest turn })
    ]
    first_of from to (steps.item {found} {next} before puts) = elim (first_of from found before) [
      | inl is ↦ inr (record { next = to; one = inr (inl (subst (λ s. ItemTaken by s to) is puts)); rest = steps.none })
      | inr f ↦ inr (record { next = f.next; one = f.one; rest = steps.item f.rest puts })
    ]
    first_of from to (steps.resume {found} {next} over before goes) = elim (first_of from found before) [
      | inl is ↦ inr (record { next = to; one = inr (inr (over, subst (λ s. Resumed by s to) is goes)); rest = steps.none })
      | inr f ↦ inr (record { next = f.next; one = f.one; rest = steps.resume over f.rest goes })
    ]

    -- of steps from one start the ones come as far as the others, or go on from there, or the others do
    abbrev OnEach : Standing → Standing → Type 0
    OnEach one other = Alike one other ⊎ First one other ⊎ First other one

    steps_then : (from mid to : Standing) → Steps by over_calls from mid → OneStep mid to → Steps by over_calls from to
    steps_then from mid to before (inl turn) = steps.turn before turn
    steps_then from mid to before (inr (inl puts)) = steps.item before puts
    steps_then from mid to before (inr (inr (over, goes))) = steps.resume over before goes

    extend : (one other next : Standing) → is_plain other.mode ≡ true → OneStep other next → OnEach one other → OnEach one next
    extend one other next plain last (inl alike) = inr (inl (record { next = next; one = step_alike one other next alike last; rest = steps.none }))
    extend one other next plain last (inr (inl f)) = inr (inl (record { next = f.next; one = f.one; rest = steps_then f.next other next f.rest last }))
    extend one other next plain last (inr (inr f)) =
        let same : Alike next f.next = one_step other next f.next plain last f.one in
        elim (first_of f.next one f.rest) [
          | inl is ↦ inl (other_way next one (subst (λ s. Alike next s) (sym is) same))
          | inr g ↦ inr (inr (record { next = g.next; one = step_alike next f.next g.next same g.one; rest = g.rest }))
        ]

    on_each : (start one other : Standing) → is_plain start.mode ≡ true → Steps by over_calls start one → Steps by over_calls start other → OnEach one other
    on_each start one other plain first steps.none = elim (first_of start one first) [
      | inl is ↦ inl (subst (λ s. Alike s start) (sym is) (same_alike start))
      | inr f ↦ inr (inr f)
    ]
    on_each start one other plain first (steps.turn {found} {next} before turn) =
        extend one found other (plain_steps start found plain before) (inl turn) (on_each start one found plain first before)
    on_each start one other plain first (steps.item {found} {next} before taken) =
        extend one found other (plain_steps start found plain before) (inr (inl taken)) (on_each start one found plain first before)
    on_each start one other plain first (steps.resume {found} {next} over before goes) =
        extend one found other (plain_steps start found plain before) (inr (inr (over, goes))) (on_each start one found plain first before)

    -- where a turn ends the line no step goes on
    no_step : {B : Type 0} (found end to : Standing) (answer : Answer) → answer ≢ proceeds → is_plain found.mode ≡ true → TurnFrom by found end answer → First found to → B
    no_step found end to answer ends plain turn f = elim f.one [
      | inl goes ↦ absurd (ends (one_turn found end f.next answer proceeds plain turn goes).answered)
      | inr (inl puts) ↦ item_alone found end f.next answer turn puts
      | inr (inr goes) ↦ no_turn found end f.next answer turn goes.1
    ]

pub ends-once : EndsOnce
ends-once by over_calls start end end' answer answer' over over' none editing one other =
    let plain : is_plain start.mode ≡ true = ap (λ m. is_plain m) editing in
    let here = plain_steps by none over_calls start one.found plain one.steps in
    let there = plain_steps by none over_calls start other.found plain other.steps in
    elim (on_each by none over_calls start one.found other.found plain one.steps other.steps) [
      | inl alike ↦ same_end here alike
      | inr (inl f) ↦ no_step by none over_calls one.found end other.found answer over here one.last f
      | inr (inr f) ↦ no_step by none over_calls other.found end' one.found answer' over' there other.last f
    ]
  where
    same_end : is_plain one.found.mode ≡ true → Alike by none one.found other.found → (end ≡ end') × (answer ≡ answer')
    same_end here alike =
        let both = one_turn by none one.found end end' answer answer' here one.last (turn_alike by none one.found other.found end' answer' alike other.last) in
        (both.over over, both.answered)
