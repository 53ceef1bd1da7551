-- Phrases that were cut short, read again.
use Rattle.std.proofs.Common.{◌≡◌, ◌≢◌, ◌⊎◌, inl, inr, true, List, [], ◌∷◌, ◌++◌, map, Option, Some, None, option_map, refl, sym, ◌∙◌, ap, subst, ℕ, Bool, false, cond}
use Rattle.std.specs.Prelude.{◌&&◌, not, option_and_then, ◌==◌, is_some}
use Rattle.std.specs.List.{list_all}
use Rattle.line_buffer.specs.Changes.{last_insert_of}
use Rattle.line_parts.specs.Environment.{Environment, hint_for}
use Rattle.line_keys.specs.Command.{Command, complete_hint, unknown}
use Rattle.line_keys.specs.Count.{continues_count, is_count_before}
use Rattle.line_keys.specs.Model.Draft.{Draft, hinted, out_of_group}
use Rattle.line_keys.specs.Item.{Item, key, paste}
use Rattle.line_keys.specs.Redo.{bound_anew}
use Rattle.line_keys.specs.Table.{KeyEntry, count_or_one, row_of, row_or_unlisted, stands_for}
use Rattle.line_keys.specs.declared.keys.KeyEvent.{KeyEvent}
use Rattle.line_keys.specs.declared.refresher.InputMode.TheVariants as modes
use Rattle.line_input.specs.Event.{keys}
use Rattle.line_input.specs.Input.{Input, in_mode}
use Rattle.line_input.specs.Keymap.{KeyLooksAtNoHint, Keymap, Source, bound_command, by_binding, by_phrase, by_reader, by_table, first_source, handed, key_handler, new_count, on_line, source_of}
use Rattle.line_input.specs.Laws.{FirstLooksAtNoHint, HintMakesNoDifference}
use Rattle.line_input.specs.Moment.{moment_in}
use Rattle.line_input.specs.Phrase.{Answers, Keyed, Nested, Phrase, Spelled, behind_key, count_in_front, entered, entered_by, of_mode, typed_count}
use Rattle.line_input.specs.Read.{Read, after_count, read_behind, searched_read}
use Rattle.line_input.specs.Reading.{LeftByCut}
use Rattle.line_input.proofs.GroupLemmas.{ended_twice}
use Rattle.line_input.proofs.PhraseLemmas.{none-counts, not-both, source-stands}
use Rattle.std.specs.Option.{option_or}
use Rattle.line_config.specs.declared.config.EditMode.{EditMode}
use Rattle.line_config.specs.declared.config.EditMode.TheVariants.{Emacs, Vi}
use Rattle.line_buffer.specs.declared.movement.CharSearch.{CharSearch}
use Rattle.line_buffer.specs.declared.movement.Movement.{Movement}
use Rattle.line_buffer.specs.declared.movement.Word.TheVariants as words
use Rattle.line_parts.specs.Hint.{Suggestion}
use Rattle.line_keys.specs.Key.{bits_of, event}
use Rattle.line_keys.specs.Meaning.{Meaning, always, at_hint, chars_on, holds, moves, operates, when, words_on}
use Rattle.line_keys.specs.Motion.{Motion, search_to}
use Rattle.line_keys.specs.declared.count.Count.{Count}
use Rattle.line_keys.specs.declared.keys.KeyCode.{KeyCode}
use Rattle.line_keys.specs.declared.keys.KeyCode.TheVariants.{Right}
use Rattle.line_keys.specs.declared.keys.Modifiers.{Modifiers}
use Rattle.line_keys.specs.declared.keys.TheConstants.Modifiers.{ALT, CTRL, NONE}
use Rattle.line_keys.specs.declared.refresher.InputMode.{InputMode}
use Rattle.line_keys.specs.declared.tables.Operator.{Operator}
use Rattle.line_input.specs.Binding.{Handler, LooksAtNoHint}
use Rattle.line_input.specs.ItemShown.{any_drawn, none_shown}
use Rattle.line_input.specs.Operation.{Operated, Reaches, by_movement, motion_behind, nowhere, operated_if, to_character, to_last, to_match}
use Rattle.line_input.specs.Sequence.{Sequences, sequences_of}
use Rattle.line_input.specs.Tail.{Tailed, alone, by_character, by_last_change, by_last_search, by_motion, by_paste, by_replacement, by_second_in_vain, by_second_key, by_sequence, in_vain, move_or}
use Rattle.line_input.proofs.ShownLemmas.{quiet-any}

-- what a phrase is read with after a count is the same for a draft whose hint was asked again
counted-again : (environment : Environment) (typed : List KeyEvent) (draft : Draft) → typed ≢ []
    → after_count environment typed (hinted environment draft) ≡ after_count environment typed draft
counted-again environment [] draft some = absurd (some refl)
counted-again environment (k ∷ ks) draft some = refl

-- where a phrase that was cut short left the hint as it was, it left the draft
pub left-as-it-was : (environment : Environment) (draft cut : Draft) → LeftByCut environment draft cut → cut.hint ≡ draft.hint → cut ≡ draft
left-as-it-was environment draft cut (inl same) hint = same
left-as-it-was environment draft cut (inr asked) hint =
    let stays : hint_for environment draft.line.text draft.line.cursor draft.index ≡ draft.hint = sym (ap (λ (d : Draft). d.hint) asked) ∙ hint in
    asked ∙ ap (λ h. record draft { hint = h }) stays

-- after a count, or where the hint stayed, the draft that was left is read with as the first one
reads-as-first : (environment : Environment) (typed : List KeyEvent) (draft cut : Draft)
    → LeftByCut environment draft cut
    → (cut.hint ≡ draft.hint) ⊎ (typed ≢ [])
    → after_count environment typed cut ≡ after_count environment typed draft
reads-as-first environment typed draft cut left (inl hint) = ap (λ d. after_count environment typed d) (left-as-it-was environment draft cut left hint)
reads-as-first environment typed draft cut (inl same) (inr some) = ap (λ d. after_count environment typed d) same
reads-as-first environment typed draft cut (inr asked) (inr some) =
    ap (λ d. after_count environment typed d) asked ∙ counted-again environment typed draft some

-- a phrase of a mode is one of another draft that is read with in the same way
reads-alike : (keymap : Keymap) (environment : Environment) (draft other : Draft) (input : Input) (items : List Item) (read : Read)
    → (phrase : Spelled keymap environment draft input items read)
    → after_count environment phrase.typed other ≡ after_count environment phrase.typed draft
    → Spelled keymap environment other input items read
reads-alike keymap environment draft other input items read phrase same =
    let P : Draft → Type 0 = λ d. Keyed keymap environment d input (typed_count phrase.typed) phrase.last phrase.tail phrase.behind in
    record {
      typed = phrase.typed;
      last = phrase.last;
      tail = phrase.tail;
      cut = phrase.cut;
      counted = phrase.counted;
      behind = phrase.behind;
      keyed = subst P (sym same) phrase.keyed;
      told = phrase.told;
    }

-- whether a binding answers doesn't depend on how its command is done again
same-source : (f g : Command → Command) (bound own : Option Command) (stands : Option KeyEvent) (entry other : KeyEntry) (plain : KeyEvent)
    → first_source (option_map f bound) own stands entry ≡ by_phrase plain → first_source (option_map g bound) own stands other ≡ by_phrase plain
same-source f g (Some b) own stands entry other plain is = absurd (cc)
same-source f g None (Some b) stands entry other plain is = absurd (cc)
same-source f g None None (Some k) entry other plain is = is
same-source f g None None None entry other plain is = absurd (cc)

-- where a key stands for one of command mode, it does so behind groups that have ended, and before they end
pub alt-ended : (keymap : Keymap) (draft : Draft) (input : Input) (k plain : KeyEvent)
    → source_of keymap draft input None k ≡ by_phrase plain → source_of keymap (out_of_group draft) input None k ≡ by_phrase plain
alt-ended keymap draft input k plain is =
    same-source (bound_anew (new_count input.style None) (last_insert_of draft.changes.entries)) (bound_anew (new_count input.style None) (last_insert_of (out_of_group draft).changes.entries))
    (option_and_then (λ handler. handler.answer (record { event = keys (k ∷ []); count = handed input.style input.mode None; moment = moment_in draft input })) (key_handler keymap.bound k))
    (on_line draft.line.text (keymap.own k)) (stands_for input.style input.mode k)
    ((row_of input.style input.mode k draft).entry None) ((row_of input.style input.mode k (out_of_group draft)).entry None) plain is

ended-alt : (keymap : Keymap) (draft : Draft) (input : Input) (k plain : KeyEvent)
    → source_of keymap (out_of_group draft) input None k ≡ by_phrase plain → source_of keymap draft input None k ≡ by_phrase plain
ended-alt keymap draft input k plain is =
    same-source (bound_anew (new_count input.style None) (last_insert_of (out_of_group draft).changes.entries)) (bound_anew (new_count input.style None) (last_insert_of draft.changes.entries))
    (option_and_then (λ handler. handler.answer (record { event = keys (k ∷ []); count = handed input.style input.mode None; moment = moment_in draft input })) (key_handler keymap.bound k))
    (on_line draft.line.text (keymap.own k)) (stands_for input.style input.mode k)
    ((row_of input.style input.mode k (out_of_group draft)).entry None) ((row_of input.style input.mode k draft).entry None) plain is

-- nothing is drawn of what is read quietly
pub quiet-never : (items : List Item) → any_drawn (none_shown items) ≡ true → ⊥
quiet-never items drawn = let none = quiet-any items in absurd (cc)

search-never : (draft : Draft) (input : Input) (items : List Item) (done : Option Movement → Command) (n : ℕ) (search : Option CharSearch)
    → any_drawn (searched_read draft input items done n search).shown ≡ true → ⊥
search-never draft input items done n (Some search) drawn = quiet-never items drawn
search-never draft input items done n None drawn = quiet-never items drawn

pub reaches-never : (draft : Draft) (input : Input) (operator : Operator) (motion : Motion) (items : List Item) (read : Read)
    → Reaches draft input operator motion items read → any_drawn read.shown ≡ true → ⊥
reaches-never draft input operator _ _ _ (by_movement movement) drawn = quiet-never [] drawn
reaches-never draft input operator _ _ _ (to_character n by second) drawn =
    search-never draft input (key second ∷ []) (λ movement. operated_if operator movement) n (search_to by second) drawn
reaches-never draft input operator _ _ _ (to_last n change) drawn = quiet-never [] drawn
reaches-never draft input operator _ _ _ to_match drawn = quiet-never [] drawn
reaches-never draft input operator _ _ _ nowhere drawn = quiet-never [] drawn

-- what is drawn of what belongs to a key is drawn of an operator's count
pub drawn-motion : (s : Sequences) (w : Environment) (d : Draft) (i : Input) (last : KeyEvent) (meaning : Meaning) (tail : List Item) (read : Read)
    → Tailed s w d i last meaning tail read → any_drawn read.shown ≡ true
    → (operator : Operator) × (n : ℕ) × (meaning ≡ operates operator n) × Operated w d i operator n tail read
drawn-motion s w d i last _ _ _ (alone command) drawn = absurd (quiet-never [] drawn)
drawn-motion s w d i last _ _ _ (by_character n by second) drawn = absurd (search-never d i (key second ∷ []) (move_or unknown) n (search_to by second) drawn)
drawn-motion s w d i last _ _ _ (by_last_search n change) drawn = absurd (quiet-never [] drawn)
drawn-motion s w d i last _ _ _ (by_replacement n second) drawn = absurd (quiet-never (key second ∷ []) drawn)
drawn-motion s w d i last _ _ _ (by_last_change new) drawn = absurd (quiet-never [] drawn)
drawn-motion s w d i last _ _ _ (by_motion operator n items read motion) drawn = (operator, n, refl, motion)
drawn-motion s w d i last _ _ _ (by_paste text) drawn = absurd (quiet-never (paste text ∷ []) drawn)
drawn-motion s w d i last _ _ _ (by_sequence meaning more command begins read) drawn = absurd (quiet-never (map key more) drawn)
drawn-motion s w d i last _ _ _ (by_second_key by second none) drawn = absurd (quiet-never (key second ∷ []) drawn)
drawn-motion s w d i last _ _ _ (by_second_in_vain by second more read) drawn = absurd (quiet-never (map key (second ∷ more)) drawn)
drawn-motion s w d i last _ _ _ (in_vain more read) drawn = absurd (quiet-never (map key more) drawn)

-- no row of the right arrow is an operator's, with a hint or without one
emacs-right : (plain alt ctrl hint : Bool) (operator : Operator) (n : ℕ)
    → ((row_or_unlisted (option_or
    (cond plain (cond hint (Some (when at_hint (always complete_hint))) None) (cond alt (Some (moves (words_on words.Emacs))) (cond ctrl (Some (moves (words_on words.Emacs))) None)))
    (cond plain (Some (moves chars_on)) None))).entry None).meaning ≡ operates operator n → ⊥
emacs-right true alt ctrl true operator n is = absurd (cc)
emacs-right true alt ctrl false operator n is = absurd (cc)
emacs-right false true ctrl hint operator n is = absurd (cc)
emacs-right false false true hint operator n is = absurd (cc)
emacs-right false false false hint operator n is = absurd (cc)

vi-right : (plain hint : Bool) (operator : Operator) (n : ℕ)
    → ((row_or_unlisted (option_or (cond plain (cond hint (Some (when at_hint (always complete_hint))) None) None) (cond plain (Some (moves chars_on)) None))).entry None).meaning ≡ operates operator n → ⊥
vi-right true true operator n is = absurd (cc)
vi-right true false operator n is = absurd (cc)
vi-right false hint operator n is = absurd (cc)

-- what the tables say of an operator's key, they say whatever hint there is
operator-entry : (style : EditMode) (mode : InputMode) (code : KeyCode) (mods : Modifiers) (draft : Draft) (hint : Option Suggestion) (operator : Operator) (n : ℕ)
    → ((row_of style mode (event code mods) draft).entry None).meaning ≡ operates operator n
    → (row_of style mode (event code mods) (record draft { hint = hint })).entry None ≡ (row_of style mode (event code mods) draft).entry None
operator-entry Emacs mode Right mods draft hint operator n is =
    absurd (emacs-right (bits_of mods == bits_of NONE) (bits_of mods == bits_of ALT) (bits_of mods == bits_of CTRL) (holds at_hint draft) operator n is)
operator-entry Emacs mode _ mods draft hint operator n is = refl
operator-entry Vi modes.Command Right mods draft hint operator n is = refl
operator-entry Vi modes.Command _ mods draft hint operator n is = refl
operator-entry Vi _ Right mods draft hint operator n is = absurd (vi-right (bits_of mods == bits_of NONE) (holds at_hint draft) operator n is)
operator-entry Vi _ _ mods draft hint operator n is = refl

-- a key that stands for one of command mode does so whatever the tables say
phrase-source : (bound own : Option Command) (stands : Option KeyEvent) (entry other : KeyEntry) (plain : KeyEvent)
    → first_source bound own stands entry ≡ by_phrase plain → first_source bound own stands other ≡ by_phrase plain
phrase-source (Some b) own stands entry other plain is = absurd (cc)
phrase-source None (Some b) stands entry other plain is = absurd (cc)
phrase-source None None (Some k) entry other plain is = is
phrase-source None None None entry other plain is = absurd (cc)

-- a key of the tables is one whatever they say
table-source : (bound own : Option Command) (stands : Option KeyEvent) (entry other given : KeyEntry)
    → first_source bound own stands entry ≡ by_table given → (entry ≡ given) × (first_source bound own stands other ≡ by_table other)
table-source (Some b) own stands entry other given is = absurd (cc)
table-source None (Some b) stands entry other given is = absurd (cc)
table-source None None (Some k) entry other given is = absurd (cc)
table-source None None None entry other given is = (cc, refl)

-- a handler that looks at no hint answers the same of another one
answers-alike : (found : Option Handler) (typed : KeyEvent) (count : Count) (draft : Draft) (hint : Option Suggestion) (input : Input)
    → ((handler : Handler) → found ≡ Some handler → LooksAtNoHint handler)
    → option_and_then (λ (handler : Handler). handler.answer (record { event = keys (typed ∷ []); count = count; moment = moment_in (record draft { hint = hint }) input })) found
    ≡ option_and_then (λ (handler : Handler). handler.answer (record { event = keys (typed ∷ []); count = count; moment = moment_in draft input })) found
answers-alike None typed count draft hint input blind = refl
answers-alike (Some handler) typed count draft hint input blind =
    blind handler refl (record { event = keys (typed ∷ []); count = count; moment = moment_in draft input }) (is_some hint) (option_and_then (λ (h : Suggestion). h.completion) hint)

-- with another hint, where the bindings that are asked look at none
module _ (keymap : Keymap) (environment : Environment) (draft : Draft) (hint : Option Suggestion) (input : Input) where
  abbrev other : Draft
  other = record draft { hint = hint }

  bound-alike : (k : KeyEvent) → KeyLooksAtNoHint keymap.bound k → bound_command keymap other input None k ≡ bound_command keymap draft input None k
  bound-alike k blind =
      ap (λ o. option_map (bound_anew (new_count input.style None) (last_insert_of draft.changes.entries)) o)
      (answers-alike (key_handler keymap.bound k) k (handed input.style input.mode None) draft hint input blind)

  -- a key stands for one of command mode
  pub stands-alike : (k plain : KeyEvent) → KeyLooksAtNoHint keymap.bound k → source_of keymap draft input None k ≡ by_phrase plain → source_of keymap other input None k ≡ by_phrase plain
  stands-alike k plain blind is =
      subst (λ b. first_source b (on_line draft.line.text (keymap.own k)) (stands_for input.style input.mode k) ((row_of input.style input.mode k other).entry None) ≡ by_phrase plain) (sym (bound-alike k blind))
      (phrase-source (bound_command keymap draft input None k) (on_line draft.line.text (keymap.own k)) (stands_for input.style input.mode k)
      ((row_of input.style input.mode k draft).entry None) ((row_of input.style input.mode k other).entry None) plain is)

  -- a key is an operator of the tables
  pub table-alike : (k : KeyEvent) (entry : KeyEntry) (operator : Operator) (n : ℕ) → KeyLooksAtNoHint keymap.bound k → source_of keymap draft input None k ≡ by_table entry → entry.meaning ≡ operates operator n
      → source_of keymap other input None k ≡ by_table entry
  table-alike k entry operator n blind is means =
      let there = table-source (bound_command keymap draft input None k) (on_line draft.line.text (keymap.own k)) (stands_for input.style input.mode k)
      ((row_of input.style input.mode k draft).entry None) ((row_of input.style input.mode k other).entry None) entry is in
      let same = operator-entry input.style input.mode k.0 k.1 draft hint operator n (ap (λ (e : KeyEntry). e.meaning) there.0 ∙ means) ∙ there.0 in
      subst (λ b. first_source b (on_line draft.line.text (keymap.own k)) (stands_for input.style input.mode k) ((row_of input.style input.mode k other).entry None) ≡ by_table entry) (sym (bound-alike k blind))
      (there.1 ∙ ap (λ e. by_table e) same)

  -- a motion with a count is read
  operated-alike : (operator : Operator) (n : ℕ) (items : List Item) (read : Read) → any_drawn read.shown ≡ true
      → Operated environment draft input operator n items read → Operated environment other input operator n items read
  operated-alike operator n items read drawn p = by_typed p.typed p.last p.tail p.cut p.counted p.behind p.reaches p.told
    where
      by_typed : (typed : List KeyEvent) (last : KeyEvent) (tail : List Item) → items ≡ map key typed ++ (key last ∷ tail) → is_count_before Vi modes.Command typed last ≡ true
          → (behind : Read) → Reaches (after_count environment typed draft) input operator (motion_behind operator n typed last) tail behind → read ≡ read_behind typed behind
          → Operated environment other input operator n items read
      by_typed [] last tail cut counted behind reaches told =
          absurd (reaches-never draft input operator (motion_behind operator n [] last) tail behind reaches (sym (ap (λ (r : Read). any_drawn r.shown) told) ∙ drawn))
      by_typed (k ∷ ks) last tail cut counted behind reaches told =
          record { typed = k ∷ ks; last = last; tail = tail; cut = cut; counted = counted; behind = behind; reaches = reaches; told = told }

  -- what belongs to a key without a count, where it has one itself
  keyed-alike : (last : KeyEvent) (tail : List Item) (behind : Read) → KeyLooksAtNoHint keymap.bound last → any_drawn behind.shown ≡ true
      → Keyed keymap environment draft input None last tail behind → Keyed keymap environment other input None last tail behind
  keyed-alike last tail behind blind drawn keyed = by_source (source_of keymap draft input None last) refl keyed
    where
      by_source : (source : Source) → source_of keymap draft input None last ≡ source
          → Answers (sequences_of keymap.bound draft input (count_or_one None)) environment draft input last source tail behind
          → Keyed keymap environment other input None last tail behind
      by_source (by_binding b) is read = absurd (quiet-never [] (sym (ap (λ (r : Read). any_drawn r.shown) read.1) ∙ drawn))
      by_source (by_reader b) is read = absurd (quiet-never [] (sym (ap (λ (r : Read). any_drawn r.shown) read.1) ∙ drawn))
      by_source (by_phrase plain) is read = absurd read
      by_source (by_table entry) is read =
          let drawn_there = sym (ap (λ (r : Read). any_drawn r.shown) read.2) ∙ drawn in
          let motion = drawn-motion (sequences_of keymap.bound draft input (count_or_one None)) environment draft input last entry.meaning tail read.0 read.1 drawn_there in
          let P : Source → Type 0 = λ o. Answers (sequences_of keymap.bound other input (count_or_one None)) environment other input last o tail behind in
          let Q : Meaning → Type 0 = λ m. Tailed (sequences_of keymap.bound other input (count_or_one None)) environment other input last m tail read.0 in
          subst P (sym (table-alike last entry motion.0 motion.1 blind is motion.2))
          (read.0, subst Q (sym motion.2) (by_motion motion.0 motion.1 tail read.0 (operated-alike motion.0 motion.1 tail read.0 drawn_there motion.3)), read.2)

  -- a phrase of a mode that has a count is read
  spelled-alike : (items : List Item) (read : Read) → ((first : KeyEvent) (rest : List Item) → items ≡ key first ∷ rest → KeyLooksAtNoHint keymap.bound first) → any_drawn read.shown ≡ true → Spelled keymap environment draft input items read → Spelled keymap environment other input items read
  spelled-alike items read blind drawn p = by_typed p.typed p.last p.tail p.cut p.counted p.behind p.keyed p.told
    where
      by_typed : (typed : List KeyEvent) (last : KeyEvent) (tail : List Item) → items ≡ map key typed ++ (key last ∷ tail) → is_count_before input.style input.mode typed last ≡ true
          → (behind : Read) → Keyed keymap environment (after_count environment typed draft) input (typed_count typed) last tail behind → read ≡ read_behind typed behind
          → Spelled keymap environment other input items read
      by_typed [] last tail cut counted behind keyed told = record {
        typed = [];
        last = last;
        tail = tail;
        cut = cut;
        counted = counted;
        behind = behind;
        keyed = keyed-alike last tail behind (blind last tail cut) (sym (ap (λ (r : Read). any_drawn r.shown) told) ∙ drawn) keyed;
        told = told;
      }
      by_typed (k ∷ ks) last tail cut counted behind keyed told =
          record { typed = k ∷ ks; last = last; tail = tail; cut = cut; counted = counted; behind = behind; keyed = keyed; told = told }

-- the first key of a phrase of a mode
record Front (items : List Item) : Type 0 where
  first : KeyEvent
  rest : List Item
  is : items ≡ key first ∷ rest

front-key : (keymap : Keymap) (environment : Environment) (draft : Draft) (input : Input) (items : List Item) (read : Read)
    → Spelled keymap environment draft input items read → Front items
front-key keymap environment draft input items read p = by_typed p.typed p.last p.tail p.cut
  where
    by_typed : (typed : List KeyEvent) (last : KeyEvent) (tail : List Item) → items ≡ map key typed ++ (key last ∷ tail) → Front items
    by_typed [] last tail cut = record { first = last; rest = tail; is = cut }
    by_typed (k ∷ more) last tail cut = record { first = k; rest = map key more ++ (key last ∷ tail); is = cut }

module _ (keymap : Keymap) (environment : Environment) (draft cut : Draft) (input : Input) (items phrase more : List Item) (read : Read) (is_cut : items ≡ phrase ++ more)
    (left : LeftByCut environment (entered keymap draft input items) cut) where
  -- of the bindings that are asked before a count, none looks at the hint
  abbrev Blind : Type 0
  Blind = FirstLooksAtNoHint keymap.bound input items

  blind-first : Blind → (first : KeyEvent) (rest : List Item) → phrase ≡ key first ∷ rest → KeyLooksAtNoHint keymap.bound first
  blind-first blind first rest is = (blind first (rest ++ more) (is_cut ∙ ap (λ t. t ++ more) is)).0

  blind-plain : Blind → (first plain : KeyEvent) (rest : List Item) → phrase ≡ key first ∷ rest → source_of keymap draft input None first ≡ by_phrase plain
      → (k : KeyEvent) (tail : List Item) → key plain ∷ rest ≡ key k ∷ tail → KeyLooksAtNoHint keymap.bound k
  blind-plain blind first plain rest is stands k tail same =
      let whole : plain ≡ k = cc in
      subst (λ (x : KeyEvent). KeyLooksAtNoHint keymap.bound x) whole
      ((blind first (rest ++ more) (is_cut ∙ ap (λ t. t ++ more) is)).1 plain (source-stands keymap draft input first plain stands))

  -- what the first key makes of the draft
  entered-first : (first : KeyEvent) (rest : List Item) → phrase ≡ key first ∷ rest
      → entered keymap draft input items ≡ entered_by (source_of keymap draft input None first) draft
  entered-first first rest is = ap (λ t. entered keymap draft input t) (is_cut ∙ ap (λ t. t ++ more) is)

  left-by : (source : Source) (first : KeyEvent) (rest : List Item) → phrase ≡ key first ∷ rest → source_of keymap draft input None first ≡ source
      → LeftByCut environment (entered_by source draft) cut
  left-by source first rest is from =
      subst (λ d. LeftByCut environment d cut) (entered-first first rest is ∙ ap (λ o. entered_by o draft) from) left

  -- the draft from which a phrase was cut short that stands behind Alt, where its hint is as before
  ended-there : (first plain : KeyEvent) (rest : List Item) → phrase ≡ key first ∷ rest → source_of keymap draft input None first ≡ by_phrase plain
      → cut.hint ≡ draft.hint → cut ≡ out_of_group draft
  ended-there first plain rest is from hint = left-as-it-was environment (out_of_group draft) cut (left-by (by_phrase plain) first rest is from) hint

  -- a phrase of the mode is one of the draft from before, but for its hint
  plainly : Spelled keymap environment draft input phrase read → LeftByCut environment draft cut
  plainly s =
      let front = front-key keymap environment draft input phrase read s in
      by_source front (source_of keymap draft input None front.first) refl
    where
      by_source : (front : Front phrase) (source : Source) → source_of keymap draft input None front.first ≡ source → LeftByCut environment draft cut
      by_source front (by_binding b) from = left-by (by_binding b) front.first front.rest front.is from
      by_source front (by_reader b) from = left-by (by_reader b) front.first front.rest front.is from
      by_source front (by_table entry) from = left-by (by_table entry) front.first front.rest front.is from
      by_source front (by_phrase plain) from = absurd (not-both keymap environment draft input phrase front.rest front.first plain read from front.is s)

  spelled-again : (s : Spelled keymap environment draft input phrase read) → LeftByCut environment draft cut → HintMakesNoDifference keymap input items draft cut s.typed read
      → Spelled keymap environment cut input phrase read
  spelled-again s from (inl hint) = reads-alike keymap environment draft cut input phrase read s (reads-as-first environment s.typed draft cut from (inl hint))
  spelled-again s from (inr (inl some)) = reads-alike keymap environment draft cut input phrase read s (reads-as-first environment s.typed draft cut from (inr some))
  spelled-again s (inl same) (inr (inr known)) = subst (λ (d : Draft). Spelled keymap environment d input phrase read) (sym same) s
  spelled-again s (inr asked) (inr (inr known)) =
      subst (λ (d : Draft). Spelled keymap environment d input phrase read) (sym asked)
      (spelled-alike keymap environment draft (hinted environment draft).hint input phrase read (blind-first known.1) known.0 s)

  -- one behind Alt, from where its groups have ended
  nested-again : (n : Nested keymap environment draft input phrase read) → cut ≡ out_of_group draft → Phrase keymap environment cut input phrase read
  nested-again n ended =
      let P : Draft → Type 0 = λ d. Phrase keymap environment d input phrase read in
      let Q : Draft → Type 0 = λ d. Spelled keymap environment d (in_mode modes.Command input) (key n.plain ∷ n.rest) n.within in
      subst P (sym ended) (behind_key (record {
        first = n.first;
        plain = n.plain;
        rest = n.rest;
        cut = n.cut;
        stands = alt-ended keymap draft input n.first n.plain n.stands;
        within = n.within;
        spelled = subst Q (sym (ended_twice draft)) n.spelled;
        told = n.told;
      }))

  -- and where its count asked the hint again
  nested-asked : (n : Nested keymap environment draft input phrase read) → cut ≡ hinted environment (out_of_group draft) → any_drawn read.shown ≡ true → Blind
      → Phrase keymap environment cut input phrase read
  nested-asked n asked drawn blind =
      let P : Draft → Type 0 = λ d. Phrase keymap environment d input phrase read in
      let Q : Draft → Type 0 = λ d. Spelled keymap environment (hinted environment d) (in_mode modes.Command input) (key n.plain ∷ n.rest) n.within in
      let ended : Draft = out_of_group draft in
      subst P (sym asked) (behind_key (record {
        first = n.first;
        plain = n.plain;
        rest = n.rest;
        cut = n.cut;
        stands = stands-alike keymap environment ended (hinted environment ended).hint input n.first n.plain (blind-first blind n.first n.rest n.cut) (alt-ended keymap draft input n.first n.plain n.stands);
        within = n.within;
        spelled = subst Q (sym (ended_twice draft))
            (spelled-alike keymap environment ended (hinted environment ended).hint (in_mode modes.Command input) (key n.plain ∷ n.rest) n.within (blind-plain blind n.first n.plain n.rest n.cut n.stands)
            (sym (ap (λ (r : Read). any_drawn r.shown) n.told) ∙ drawn) n.spelled);
        told = n.told;
      }))

  -- the whole phrase is read from the draft that was left
  pub phrase-again : (p : Phrase keymap environment draft input phrase read) → HintMakesNoDifference keymap input items draft cut (count_in_front p) read
      → Phrase keymap environment cut input phrase read
  phrase-again (of_mode s) as_before = of_mode (spelled-again s (plainly s) as_before)
  phrase-again (behind_key n) (inl hint) = nested-again n (ended-there n.first n.plain n.rest n.cut n.stands hint)
  phrase-again (behind_key n) (inr (inl some)) = absurd (some refl)
  phrase-again (behind_key n) (inr (inr known)) = elim (left-by (by_phrase n.plain) n.first n.rest n.cut n.stands) [
    | inl same ↦ nested-again n same
    | inr asked ↦ nested-asked n asked known.0 known.1
  ]

  -- a phrase of the mode that was read from there is one from the draft before
  spelled-first : (s : Spelled keymap environment cut input phrase read) → LeftByCut environment draft cut → HintMakesNoDifference keymap input items draft cut s.typed read
      → Spelled keymap environment draft input phrase read
  spelled-first s from (inl hint) = reads-alike keymap environment cut draft input phrase read s (sym (reads-as-first environment s.typed draft cut from (inl hint)))
  spelled-first s from (inr (inl some)) = reads-alike keymap environment cut draft input phrase read s (sym (reads-as-first environment s.typed draft cut from (inr some)))
  spelled-first s (inl same) (inr (inr known)) = subst (λ (d : Draft). Spelled keymap environment d input phrase read) same s
  spelled-first s (inr asked) (inr (inr known)) =
      spelled-alike keymap environment (hinted environment draft) draft.hint input phrase read (blind-first known.1) known.0
      (subst (λ (d : Draft). Spelled keymap environment d input phrase read) asked s)

  counted-none : (typed : List KeyEvent) (last : KeyEvent) (tail rest : List Item) (first plain : KeyEvent) → typed ≢ [] → key first ∷ rest ≡ map key typed ++ (key last ∷ tail)
      → is_count_before input.style input.mode typed last ≡ true → stands_for input.style input.mode first ≡ Some plain → ⊥
  counted-none [] last tail rest first plain some same counted stands = some refl
  counted-none (k ∷ ks) last tail rest first plain some same counted stands =
      let none = none-counts input.style input.mode first k plain stands in
      let off = ap (λ b. b && list_all (continues_count input.style) ks && not (continues_count input.style last)) none in
      absurd (cc)

  -- from where its first key stands for one of command mode, no phrase of the mode is read
  no-phrase : (s : Spelled keymap environment cut input phrase read) (first plain : KeyEvent) (rest : List Item) → phrase ≡ key first ∷ rest
      → source_of keymap draft input None first ≡ by_phrase plain → HintMakesNoDifference keymap input items draft cut s.typed read → ⊥
  no-phrase s first plain rest is from (inl hint) =
      let ended = ended-there first plain rest is from hint in
      let there = subst (λ (d : Draft). source_of keymap d input None first ≡ by_phrase plain) (sym ended) (alt-ended keymap draft input first plain from) in
      not-both keymap environment cut input phrase rest first plain read there is s
  no-phrase s first plain rest is from (inr (inl some)) =
      counted-none s.typed s.last s.tail rest first plain some (sym is ∙ s.cut) s.counted (source-stands keymap draft input first plain from)
  no-phrase s first plain rest is from (inr (inr known)) =
      let P : Draft → Type 0 = λ d. source_of keymap d input None first ≡ by_phrase plain in
      let ended = alt-ended keymap draft input first plain from in
      let there : P cut = elim (left-by (by_phrase plain) first rest is from) [
        | inl same ↦ subst P (sym same) ended
        | inr asked ↦ subst P (sym asked) (stands-alike keymap environment (out_of_group draft) (hinted environment (out_of_group draft)).hint input first plain (blind-first known.1 first rest is) ended)
      ] in
      not-both keymap environment cut input phrase rest first plain read there is s

  plainly-first : (s : Spelled keymap environment cut input phrase read) → HintMakesNoDifference keymap input items draft cut s.typed read → LeftByCut environment draft cut
  plainly-first s as_before =
      let front = front-key keymap environment cut input phrase read s in
      by_source front (source_of keymap draft input None front.first) refl
    where
      by_source : (front : Front phrase) (source : Source) → source_of keymap draft input None front.first ≡ source → LeftByCut environment draft cut
      by_source front (by_binding b) from = left-by (by_binding b) front.first front.rest front.is from
      by_source front (by_reader b) from = left-by (by_reader b) front.first front.rest front.is from
      by_source front (by_table entry) from = left-by (by_table entry) front.first front.rest front.is from
      by_source front (by_phrase plain) from = absurd (no-phrase s front.first plain front.rest front.is from as_before)

  -- one behind Alt, by what its first key was before the cut
  nested-first : (n : Nested keymap environment cut input phrase read) → cut ≡ out_of_group draft → source_of keymap draft input None n.first ≡ by_phrase n.plain
      → Phrase keymap environment draft input phrase read
  nested-first n ended stands =
      let Q : Draft → Type 0 = λ d. Spelled keymap environment d (in_mode modes.Command input) (key n.plain ∷ n.rest) n.within in
      behind_key (record {
        first = n.first;
        plain = n.plain;
        rest = n.rest;
        cut = n.cut;
        stands = stands;
        within = n.within;
        spelled = subst Q (ended_twice draft) (subst Q (ap out_of_group ended) n.spelled);
        told = n.told;
      })

  nested-ended : (n : Nested keymap environment cut input phrase read) → cut ≡ out_of_group draft → Phrase keymap environment draft input phrase read
  nested-ended n ended =
      nested-first n ended (ended-alt keymap draft input n.first n.plain (subst (λ (d : Draft). source_of keymap d input None n.first ≡ by_phrase n.plain) ended n.stands))

  -- and where the hint was asked again
  asked-first : (n : Nested keymap environment cut input phrase read) → cut ≡ hinted environment (out_of_group draft) → any_drawn read.shown ≡ true → Blind
      → Phrase keymap environment draft input phrase read
  asked-first n asked drawn blind =
      let ended : Draft = out_of_group draft in
      let Q : Draft → Type 0 = λ d. Spelled keymap environment (out_of_group d) (in_mode modes.Command input) (key n.plain ∷ n.rest) n.within in
      let R : Draft → Type 0 = λ d. Spelled keymap environment (hinted environment d) (in_mode modes.Command input) (key n.plain ∷ n.rest) n.within in
      let stands : source_of keymap draft input None n.first ≡ by_phrase n.plain = ended-alt keymap draft input n.first n.plain
      (stands-alike keymap environment (hinted environment ended) draft.hint input n.first n.plain (blind-first blind n.first n.rest n.cut)
      (subst (λ (d : Draft). source_of keymap d input None n.first ≡ by_phrase n.plain) asked n.stands)) in
      behind_key (record {
        first = n.first;
        plain = n.plain;
        rest = n.rest;
        cut = n.cut;
        stands = stands;
        within = n.within;
        spelled = spelled-alike keymap environment (hinted environment ended) draft.hint (in_mode modes.Command input) (key n.plain ∷ n.rest) n.within (blind-plain blind n.first n.plain n.rest n.cut stands)
            (sym (ap (λ (r : Read). any_drawn r.shown) n.told) ∙ drawn) (subst R (ended_twice draft) (subst Q asked n.spelled));
        told = n.told;
      })

  -- a key that was no key with Alt before is none behind the cut
  no-nested : (n : Nested keymap environment cut input phrase read) → (source : Source) → source_of keymap draft input None n.first ≡ source → ((plain : KeyEvent) → source ≡ by_phrase plain → ⊥)
      → LeftByCut environment draft cut → HintMakesNoDifference keymap input items draft cut [] read → Phrase keymap environment draft input phrase read
  no-nested n source from elsewhere left_so (inl hint) = subst (λ (d : Draft). Phrase keymap environment d input phrase read) (left-as-it-was environment draft cut left_so hint) (behind_key n)
  no-nested n source from elsewhere left_so (inr (inl some)) = absurd (some refl)
  no-nested n source from elsewhere (inl same) (inr (inr known)) = subst (λ (d : Draft). Phrase keymap environment d input phrase read) same (behind_key n)
  no-nested n source from elsewhere (inr asked) (inr (inr known)) =
      absurd (elsewhere n.plain (sym from ∙ stands-alike keymap environment (hinted environment draft) draft.hint input n.first n.plain (blind-first known.1 n.first n.rest n.cut)
      (subst (λ (d : Draft). source_of keymap d input None n.first ≡ by_phrase n.plain) asked n.stands)))

  -- and one that is read from there is the whole phrase
  pub phrase-first : (p : Phrase keymap environment cut input phrase read) → HintMakesNoDifference keymap input items draft cut (count_in_front p) read
      → Phrase keymap environment draft input phrase read
  phrase-first (of_mode s) as_before = of_mode (spelled-first s (plainly-first s as_before) as_before)
  phrase-first (behind_key n) as_before = by_source (source_of keymap draft input None n.first) refl
    where
      by_source : (source : Source) → source_of keymap draft input None n.first ≡ source → Phrase keymap environment draft input phrase read
      by_source (by_binding b) from = no-nested n (by_binding b) from (λ plain is. absurd (cc)) (left-by (by_binding b) n.first n.rest n.cut from) as_before
      by_source (by_reader b) from = no-nested n (by_reader b) from (λ plain is. absurd (cc)) (left-by (by_reader b) n.first n.rest n.cut from) as_before
      by_source (by_table entry) from = no-nested n (by_table entry) from (λ plain is. absurd (cc)) (left-by (by_table entry) n.first n.rest n.cut from) as_before
      by_source (by_phrase plain) from = elim as_before [
        | inl hint ↦ nested-ended n (ended-there n.first plain n.rest n.cut from hint)
        | inr rest ↦ elim rest [
          | inl some ↦ absurd (some refl)
          | inr known ↦ elim (left-by (by_phrase plain) n.first n.rest n.cut from) [
            | inl same ↦ nested-ended n same
            | inr asked ↦ asked-first n asked known.0 known.1
          ]
        ]
      ]
