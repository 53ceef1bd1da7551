-- Facts on phrases.
use Rattle.std.proofs.Common.{◌≡◌, ◌≢◌, true, false, append_assoc, List, [], ◌∷◌, ◌++◌, map, Option, Some, None, refl, sym, ◌∙◌, ap, subst}
use Rattle.std.specs.Prelude.{◌&&◌, not}
use Rattle.std.specs.List.{list_all}
use Rattle.line_parts.specs.Environment.{Environment}
use Rattle.line_config.specs.declared.config.EditMode.{EditMode}
use Rattle.line_config.specs.declared.config.EditMode.TheVariants.{Emacs, Vi}
use Rattle.line_keys.specs.Command.{Command}
use Rattle.line_keys.specs.Count.{begins_count, continues_count, is_count_before}
use Rattle.line_keys.specs.Model.Draft.{Draft, out_of_group}
use Rattle.line_keys.specs.Item.{Item, key}
use Rattle.line_keys.specs.Table.{KeyEntry, count_or_one, row_of, stands_for}
use Rattle.line_keys.specs.declared.count.Count.{Count}
use Rattle.line_keys.specs.declared.keys.KeyEvent.{KeyEvent}
use Rattle.line_keys.specs.declared.refresher.InputMode.{InputMode}
use Rattle.line_keys.specs.declared.refresher.InputMode.TheVariants as modes
use Rattle.line_input.specs.Input.{Input, in_mode}
use Rattle.line_input.specs.Keymap.{Keymap, Source, bound_command, by_binding, by_phrase, by_reader, by_table, first_source, on_line, source_of}
use Rattle.line_input.specs.Laws.{IsPrefixFree}
use Rattle.line_input.specs.Phrase.{Answers, Keyed, Phrase, Spelled, behind_alt, behind_key, entered_by, listed, of_mode, typed_count}
use Rattle.line_input.specs.Read.{Read, after_count, quiet_read, read_behind}
use Rattle.line_input.specs.Sequence.{Sequences, sequences_of}
use Rattle.line_input.specs.ItemShown.{ItemShown, counting_on, shown_behind}
use Rattle.line_input.specs.Tail.{Tailed, alone}
use Rattle.line_input.proofs.KeyFitLemmas.{enter, enter-begins-none, enter-ends, is-count, is-no-count, keys-fit}
use Rattle.line_input.proofs.ListFitLemmas.{nothing-behind}
use Rattle.line_input.proofs.TailedLemmas.{Tailed-fit}

Answers-fit : (s : Sequences) (w : Environment) (d : Draft) (i : Input) (last : KeyEvent) (source : Source) (tail more : List Item) (c c' : Read)
    → Answers s w d i last source tail c → Answers s w d i last source (tail ++ more) c' → (more ≡ []) × (c ≡ c')
Answers-fit s w d i last (by_binding b) tail more c c' h k = (nothing-behind tail more h.0 k.0, h.1 ∙ sym k.1)
Answers-fit s w d i last (by_reader b) tail more c c' h k = (nothing-behind tail more h.0 k.0, h.1 ∙ sym k.1)
Answers-fit s w d i last (by_phrase plain) tail more c c' h k = absurd h
Answers-fit s w d i last (by_table entry) tail more c c' h k =
    let fit = Tailed-fit s w d i last entry.meaning tail more h.0 k.0 h.1 k.1 in
    (fit.0, h.2 ∙ ap (λ r. listed entry i r) fit.1 ∙ sym k.2)

-- no phrase of a mode is a proper beginning of another, and one list of items comes to one thing
pub Spelled-fit : (keymap : Keymap) (environment : Environment) (draft : Draft) (input : Input) (items more : List Item) (c c' : Read)
    → Spelled keymap environment draft input items c → Spelled keymap environment draft input (items ++ more) c' → (more ≡ []) × (c ≡ c')
Spelled-fit keymap environment draft input items more c c' p q =
    let whole : map key p.typed ++ (key p.last ∷ (p.tail ++ more)) ≡ map key q.typed ++ (key q.last ∷ q.tail) =
    sym (append_assoc (map key p.typed) (key p.last ∷ p.tail) more) ∙ sym (ap (λ x. x ++ more) p.cut) ∙ q.cut in
    let fits = keys-fit input.style input.mode p.typed q.typed p.last q.last p.tail q.tail more whole p.counted q.counted in
    let P : List KeyEvent → Type 0 = λ t. Keyed keymap environment (after_count environment t draft) input (typed_count t) q.last q.tail q.behind in
    let Q : KeyEvent → Type 0 = λ k. Keyed keymap environment (after_count environment p.typed draft) input (typed_count p.typed) k q.tail q.behind in
    let R : List Item → Type 0 = λ t. Keyed keymap environment (after_count environment p.typed draft) input (typed_count p.typed) p.last t q.behind in
    let there = subst R (sym fits.same_tail) (subst Q (sym fits.same_last) (subst P (sym fits.same_typed) q.keyed)) in
    let left : Draft = after_count environment p.typed draft in
    let typed = typed_count p.typed in
    let fit = Answers-fit (sequences_of keymap.bound left input (count_or_one typed)) environment left input p.last (source_of keymap left input typed p.last) p.tail more p.behind q.behind p.keyed there in
    (fit.0, p.told ∙ ap (λ t. read_behind t p.behind) fits.same_typed ∙ ap (λ r. read_behind q.typed r) fit.1 ∙ sym q.told)

-- where a key stands for one of command mode no count begins
pub none-counts : (style : EditMode) (mode : InputMode) (first k plain : KeyEvent) → stands_for style mode first ≡ Some plain → begins_count style mode k ≡ false
none-counts Emacs mode first k plain stands = absurd (cc)
none-counts Vi InputMode.Command first k plain stands = absurd (cc)
none-counts Vi InputMode.Insert first k plain stands = refl
none-counts Vi InputMode.Replace first k plain stands = refl

-- a key that a source sends to command mode stands for the plain one
stands-there : (bound own : Option Command) (stands : Option KeyEvent) (entry : KeyEntry) (plain : KeyEvent)
    → first_source bound own stands entry ≡ by_phrase plain → stands ≡ Some plain
stands-there (Some b) own stands entry plain is = absurd (cc)
stands-there None (Some b) stands entry plain is = absurd (cc)
stands-there None None (Some k) entry plain is = cc
stands-there None None None entry plain is = absurd (cc)

pub source-stands : (keymap : Keymap) (draft : Draft) (input : Input) (k plain : KeyEvent) → source_of keymap draft input None k ≡ by_phrase plain
    → stands_for input.style input.mode k ≡ Some plain
source-stands keymap draft input k plain is =
    stands-there (bound_command keymap draft input None k) (on_line draft.line.text (keymap.own k)) (stands_for input.style input.mode k)
    ((row_of input.style input.mode k draft).entry None) plain is

-- a phrase of a mode has no first key that stands for one of command mode
pub not-both : (keymap : Keymap) (environment : Environment) (draft : Draft) (input : Input) (items rest : List Item) (first plain : KeyEvent) (read : Read)
    → source_of keymap draft input None first ≡ by_phrase plain → items ≡ key first ∷ rest
    → Spelled keymap environment draft input items read → ⊥
not-both keymap environment draft input items rest first plain read source is p =
    let stands = source-stands keymap draft input first plain source in
    by_typed p.typed p.last p.tail (sym is ∙ p.cut) p.counted p.keyed stands
  where
    by_typed : (typed : List KeyEvent) (last : KeyEvent) (tail : List Item) → key first ∷ rest ≡ map key typed ++ (key last ∷ tail)
        → is_count_before input.style input.mode typed last ≡ true
        → Keyed keymap environment (after_count environment typed draft) input (typed_count typed) last tail p.behind
        → stands_for input.style input.mode first ≡ Some plain → ⊥
    by_typed [] last tail cut counted keyed stands =
        let same : last ≡ first = cc in
        let s = sequences_of keymap.bound draft input (count_or_one None) in
        let P : KeyEvent → Type 0 = λ k. Answers (sequences_of keymap.bound draft input (count_or_one None)) environment draft input k (source_of keymap draft input None k) tail p.behind in
        let Q : Source → Type 0 = λ o. Answers s environment draft input first o tail p.behind in
        subst Q source (subst P same keyed)
    by_typed (k ∷ more) last tail cut counted keyed stands =
        let none = none-counts input.style input.mode first k plain stands in
        let off = ap (λ b. b && list_all (continues_count input.style) more && not (continues_count input.style last)) none in
        absurd (cc)

-- items that have a key begin as they do with more behind them
pub front-of : (items more rest : List Item) (x : Item) (typed : List KeyEvent) (last : KeyEvent) (tail : List Item)
    → items ≡ map key typed ++ (key last ∷ tail) → items ++ more ≡ x ∷ rest → (rest' : List Item) × (items ≡ x ∷ rest')
front-of [] more rest x [] last tail cut whole = absurd (cc)
front-of [] more rest x (k ∷ ks) last tail cut whole = absurd (cc)
front-of (y ∷ ys) more rest x typed last tail cut whole =
    let same : y ≡ x = cc in
    (ys, ap (λ i. i ∷ ys) same)

-- no phrase is a proper beginning of another, and one list of items comes to one thing
pub phrases-fit : IsPrefixFree
phrases-fit keymap environment draft input items more c c' (of_mode p) (of_mode q) = Spelled-fit keymap environment draft input items more c c' p q
phrases-fit keymap environment draft input items more c c' (of_mode p) (behind_key q) =
    let front = front-of items more q.rest (key q.first) p.typed p.last p.tail p.cut q.cut in
    absurd (not-both keymap environment draft input items front.0 q.first q.plain c q.stands front.1 p)
phrases-fit keymap environment draft input items more c c' (behind_key p) (of_mode q) =
    absurd (not-both keymap environment draft input (items ++ more) (p.rest ++ more) p.first p.plain c' p.stands (ap (λ x. x ++ more) p.cut) q)
phrases-fit keymap environment draft input items more c c' (behind_key p) (behind_key q) =
    let whole : key p.first ∷ (p.rest ++ more) ≡ key q.first ∷ q.rest = sym (ap (λ x. x ++ more) p.cut) ∙ q.cut in
    let same : p.first ≡ q.first = cc in
    let rest : p.rest ++ more ≡ q.rest = cc in
    let sent : by_phrase p.plain ≡ by_phrase q.plain = sym p.stands ∙ ap (λ k. source_of keymap draft input None k) same ∙ q.stands in
    let plain : p.plain ≡ q.plain = cc in
    let commanded : Input = in_mode modes.Command input in
    let P : List Item → Type 0 = λ t. Spelled keymap environment (out_of_group draft) commanded (key q.plain ∷ t) q.within in
    let Q : KeyEvent → Type 0 = λ k. Spelled keymap environment (out_of_group draft) commanded (key k ∷ (p.rest ++ more)) q.within in
    let there = subst Q (sym plain) (subst P (sym rest) q.spelled) in
    let fit = Spelled-fit keymap environment (out_of_group draft) commanded (key p.plain ∷ p.rest) more p.within q.within p.spelled there in
    (fit.0, p.told ∙ ap (λ r. behind_alt input r) fit.1 ∙ sym q.told)

enter-gives : (s : Sequences) (w : Environment) (style : EditMode) (mode : InputMode) (draft : Draft) (input : Input) (typed : Option Count)
    → (read : Read) × Tailed s w draft input enter ((row_of style mode enter draft).entry typed).meaning [] read
enter-gives s w Emacs mode draft input typed = (_, alone _)
enter-gives s w Vi InputMode.Command draft input typed = (_, alone _)
enter-gives s w Vi InputMode.Insert draft input typed = (_, alone _)
enter-gives s w Vi InputMode.Replace draft input typed = (_, alone _)

enter-stands : (style : EditMode) (mode : InputMode) → stands_for style mode enter ≡ None
enter-stands Emacs mode = refl
enter-stands Vi InputMode.Command = refl
enter-stands Vi InputMode.Insert = refl
enter-stands Vi InputMode.Replace = refl

-- a key with nothing behind it in the tables has nothing behind it
first-answers : (s : Sequences) (w : Environment) (draft : Draft) (input : Input) (last : KeyEvent) (bound own : Option Command) (entry : KeyEntry)
    → (read : Read) × Tailed s w draft input last entry.meaning [] read → (read : Read) × Answers s w draft input last (first_source bound own None entry) [] read
first-answers s w draft input last (Some b) own entry given = (quiet_read draft input [] b, (refl, refl))
first-answers s w draft input last None (Some b) entry given = (quiet_read draft input [] b, (refl, refl))
first-answers s w draft input last None None entry given = (listed entry input given.0, (given.0, given.1, refl))

pub enter-answers : (keymap : Keymap) (environment : Environment) (draft : Draft) (input : Input) (typed : Option Count)
    → (read : Read) × Keyed keymap environment draft input typed enter [] read
enter-answers keymap environment draft input typed =
    let s = sequences_of keymap.bound draft input (count_or_one typed) in
    let entry : KeyEntry = (row_of input.style input.mode enter draft).entry typed in
    let P : Option KeyEvent → Type 0 = λ o. (read : Read) × Answers s environment draft input enter
    (first_source (bound_command keymap draft input typed enter) (on_line draft.line.text (keymap.own enter)) o entry) [] read in
    subst P (sym (enter-stands input.style input.mode))
    (first-answers s environment draft input enter (bound_command keymap draft input typed enter) (on_line draft.line.text (keymap.own enter)) entry
    (enter-gives s environment input.style input.mode draft input typed))

-- Enter ends keys of a count, and the count is a phrase then
pub enter-ends-count : (keymap : Keymap) (environment : Environment) (draft : Draft) (input : Input) (typed : List KeyEvent)
    → is_count_before input.style input.mode typed enter ≡ true
    → (read : Read) × (later : List ItemShown) × Spelled keymap environment draft input (map key typed ++ (key enter ∷ [])) read × (read.shown ≡ counting_on [] typed ++ later)
enter-ends-count keymap environment draft input typed counted =
    let answers = enter-answers keymap environment (after_count environment typed draft) input (typed_count typed) in
    let phrase : Spelled keymap environment draft input (map key typed ++ (key enter ∷ [])) (read_behind typed answers.0) =
    record { typed = typed; last = enter; tail = []; cut = refl; counted = counted; behind = answers.0; keyed = answers.1; told = refl } in
    (read_behind typed answers.0, shown_behind typed ∷ answers.0.shown, phrase, refl)

-- where no item is left, a phrase may begin
pub nothing-begins : (keymap : Keymap) (environment : Environment) (draft : Draft) (input : Input)
    → (rest : List Item) × (read : Read) × (rest ≢ []) × Phrase keymap environment draft input rest read
nothing-begins keymap environment draft input =
    let ended = enter-ends-count keymap environment draft input [] (is-no-count input.style input.mode enter (enter-begins-none input.style input.mode)) in
    (key enter ∷ [], ended.0, (λ empty. cc), of_mode ended.2)

-- keys of a count go on to a phrase of their mode
pub inside-begins : (keymap : Keymap) (environment : Environment) (draft : Draft) (input : Input) (first : KeyEvent)
    → begins_count input.style input.mode first ≡ true → (more : List KeyEvent) → list_all (continues_count input.style) more ≡ true
    → (read : Read) × (later : List ItemShown) × Spelled keymap environment draft input (map key (first ∷ more) ++ (key enter ∷ [])) read
    × (read.shown ≡ counting_on [] (first ∷ more) ++ later)
inside-begins keymap environment draft input first begins more all =
    enter-ends-count keymap environment draft input (first ∷ more) (is-count input.style input.mode first more enter begins all (enter-ends input.style))

module _ (keymap : Keymap) (environment : Environment) (draft : Draft) (input : Input) (typed : Option Count) (k : KeyEvent) where
  abbrev those : Sequences
  those = sequences_of keymap.bound draft input (count_or_one typed)

  abbrev here : KeyEntry
  here = (row_of input.style input.mode k draft).entry typed

  abbrev told_by : Option Command → Option Command → Option KeyEvent → KeyEntry → List Item → Read → Type 0
  told_by bound own stands entry tail read = Answers those environment draft input k (first_source bound own stands entry) tail read

  -- what is read behind a key without a binding is read by its meaning
  pub row-read : (entry : KeyEntry) (tail : List Item) (read : Read)
      → None ≡ bound_command keymap draft input typed k → None ≡ on_line draft.line.text (keymap.own k) → None ≡ stands_for input.style input.mode k
      → entry ≡ here → Tailed those environment draft input k entry.meaning tail read
      → Keyed keymap environment draft input typed k tail (listed entry input read)
  row-read entry tail read unbound unowned stays is tailed =
      let A : KeyEntry → Type 0 = λ x. told_by None None None x tail (listed entry input read) in
      let B : Option KeyEvent → Type 0 = λ o. told_by None None o here tail (listed entry input read) in
      let C : Option Command → Type 0 = λ o. told_by None o (stands_for input.style input.mode k) here tail (listed entry input read) in
      let D : Option Command → Type 0 = λ o. told_by o (on_line draft.line.text (keymap.own k)) (stands_for input.style input.mode k) here tail (listed entry input read) in
      subst D unbound (subst C unowned (subst B stays (subst A is (read, tailed, refl))))

  -- a binding's command, and the reader's, are the key's alone
  pub bound-read : (command : Command) → Some command ≡ bound_command keymap draft input typed k
      → Keyed keymap environment draft input typed k [] (quiet_read draft input [] command)
  bound-read command bound =
      let P : Option Command → Type 0 = λ o. told_by o (on_line draft.line.text (keymap.own k)) (stands_for input.style input.mode k) here [] (quiet_read draft input [] command) in
      subst P bound (refl, refl)

  pub own-read : (command : Command)
      → None ≡ bound_command keymap draft input typed k → Some command ≡ on_line draft.line.text (keymap.own k)
      → Keyed keymap environment draft input typed k [] (quiet_read draft input [] command)
  own-read command unbound owned =
      let P : Option Command → Type 0 = λ o. told_by o (on_line draft.line.text (keymap.own k)) (stands_for input.style input.mode k) here [] (quiet_read draft input [] command) in
      let Q : Option Command → Type 0 = λ o. told_by None o (stands_for input.style input.mode k) here [] (quiet_read draft input [] command) in
      subst P unbound (subst Q owned (refl, refl))

  -- a key without a binding that stands for one of command mode is read as that
  pub alt-stands : (plain : KeyEvent) → None ≡ bound_command keymap draft input typed k → None ≡ on_line draft.line.text (keymap.own k)
      → stands_for input.style input.mode k ≡ Some plain → source_of keymap draft input typed k ≡ by_phrase plain
  alt-stands plain unbound unowned stands =
      let f : Option Command → Source = λ o. first_source o (on_line draft.line.text (keymap.own k)) (stands_for input.style input.mode k) here in
      let g : Option Command → Source = λ o. first_source None o (stands_for input.style input.mode k) here in
      let h : Option KeyEvent → Source = λ o. first_source None None o here in
      ap f (sym unbound) ∙ ap g (sym unowned) ∙ ap h stands

  -- a key that stands for no other leaves the draft
  pub none-entered : None ≡ stands_for input.style input.mode k → entered_by (source_of keymap draft input typed k) draft ≡ draft
  none-entered stays =
      ap (λ o. entered_by (first_source (bound_command keymap draft input typed k) (on_line draft.line.text (keymap.own k)) o here) draft) (sym stays)
      ∙ by_source (bound_command keymap draft input typed k) (on_line draft.line.text (keymap.own k))
    where
      by_source : (bound own : Option Command) → entered_by (first_source bound own None here) draft ≡ draft
      by_source (Some b) own = refl
      by_source None (Some b) = refl
      by_source None None = refl

  -- nor does one that is bound
  pub bound-entered : (command : Command) → Some command ≡ bound_command keymap draft input typed k → entered_by (source_of keymap draft input typed k) draft ≡ draft
  bound-entered command bound =
      ap (λ o. entered_by (first_source o (on_line draft.line.text (keymap.own k)) (stands_for input.style input.mode k) here) draft) (sym bound)

  pub own-entered : (command : Command) → None ≡ bound_command keymap draft input typed k → Some command ≡ on_line draft.line.text (keymap.own k)
      → entered_by (source_of keymap draft input typed k) draft ≡ draft
  own-entered command unbound owned =
      ap (λ o. entered_by (first_source o (on_line draft.line.text (keymap.own k)) (stands_for input.style input.mode k) here) draft) (sym unbound)
      ∙ ap (λ o. entered_by (first_source None o (stands_for input.style input.mode k) here) draft) (sym owned)
