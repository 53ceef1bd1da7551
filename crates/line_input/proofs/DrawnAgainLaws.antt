-- What is drawn of a phrase that was cut short is drawn of the whole phrase, too.
use Rattle.std.proofs.Common.{◌≡◌, ◌≢◌, ◌+◌, ◌≤◌, ℕ, Bool, true, false, not, List, [], ◌∷◌, ◌++◌, append_assoc, map, length, Option, Some, None, refl, sym, ◌∙◌, ap, subst, inl, inr, arith}
use Rattle.std.specs.Prelude.{◌&&◌, ◌||◌}
use Rattle.std.specs.List.{list_all}
use Rattle.line_config.specs.declared.config.EditMode.{EditMode}
use Rattle.line_config.specs.declared.config.EditMode.TheVariants.{Vi}
use Rattle.line_keys.specs.Command.{Command}
use Rattle.line_keys.specs.Count.{begins_count, continues_count, is_count_before}
use Rattle.line_keys.specs.Model.Draft.{Draft, hinted, out_of_group}
use Rattle.line_keys.specs.Item.{Item, key, paste}
use Rattle.line_keys.specs.Meaning.{Meaning, operates}
use Rattle.line_keys.specs.Table.{KeyEntry, count_or_one, row_of, stands_for}
use Rattle.line_keys.specs.declared.keys.KeyEvent.{KeyEvent}
use Rattle.line_keys.specs.declared.tables.Operator.{Operator}
use Rattle.line_keys.specs.declared.refresher.InputMode.{InputMode}
use Rattle.line_keys.specs.declared.refresher.InputMode.TheVariants as modes
use Rattle.line_parts.specs.Environment.{Environment}
use Rattle.line_input.specs.Input.{Input, in_mode}
use Rattle.line_input.specs.ItemShown.{ItemShown, any_drawn, is_drawn, kept, shown_with, shows_count}
use Rattle.line_input.specs.Keymap.{KeyLooksAtNoHint, Keymap, Source, bound_command, by_binding, by_phrase, by_reader, by_table, first_source, on_line, source_of}
use Rattle.line_input.specs.Laws.{DrawingStays, FirstLooksAtNoHint, IsDrawnWithin}
use Rattle.line_input.specs.Operation.{Operated, Reaches, motion_behind}
use Rattle.line_input.specs.Phrase.{Answers, Keyed, Phrase, Spelled, behind_key, entered_by, of_mode, typed_count}
use Rattle.line_input.specs.Read.{Read, after_count, read_behind}
use Rattle.line_input.specs.Reading.{LeftByCut}
use Rattle.line_input.specs.Sequence.{Sequences, sequences_of}
use Rattle.line_input.specs.Tail.{Tailed, alone, begins_sequences, by_character, by_last_change, by_last_search, by_motion, by_paste, by_replacement, by_second_in_vain, by_second_key, by_sequence, in_vain}
use Rattle.line_input.proofs.AgainLaws.{alt-ended, drawn-motion, quiet-never, reaches-never, stands-alike, table-alike}
use Rattle.line_input.proofs.GroupLemmas.{ended_twice}
use Rattle.line_input.proofs.PhraseLemmas.{front-of, none-counts, not-both, source-stands}

-- what is drawn after the first item
drawn-first : (count : ℕ) (keys : List KeyEvent) (more : List ItemShown) → 1 ≤ count → IsDrawnWithin count (shows_count keys ∷ more)
drawn-first count keys more some = record { whole = refl; within = within }
  where
    within : (front behind : List ItemShown) → shows_count keys ∷ more ≡ front ++ behind → count ≤ length front → any_drawn front ≡ true
    within [] behind is few = absurd (omega (arith, some, few))
    within (f ∷ fs) behind is few =
        let same : shows_count keys ≡ f = cc in
        subst (λ s. any_drawn (s ∷ fs) ≡ true) same refl

-- something is drawn of the keys of a count
counted-drawn : (count : ℕ) (typed : List KeyEvent) (behind : List ItemShown) → 1 ≤ count → typed ≢ [] → IsDrawnWithin count (shown_with typed behind)
counted-drawn count [] behind some typed = absurd (typed refl)
counted-drawn count (k ∷ ks) behind some typed = drawn-first count ([] ++ k ∷ []) _ some

-- and behind an item after which nothing is drawn
drawn-behind : (count : ℕ) (shown : List ItemShown) → IsDrawnWithin count shown → IsDrawnWithin (count + 1) (kept ∷ shown)
drawn-behind count shown drawn = record { whole = drawn.whole; within = within }
  where
    within : (front behind : List ItemShown) → kept ∷ shown ≡ front ++ behind → count + 1 ≤ length front → any_drawn front ≡ true
    within [] behind is few = absurd (omega (arith, few))
    within (f ∷ fs) behind is few =
        let same : kept ≡ f = cc in
        let rest : shown ≡ fs ++ behind = cc in
        subst (λ s. any_drawn (s ∷ fs) ≡ true) same (drawn.within fs behind rest (omega (arith, few)))

or-on : (b x y : Bool) → b || x ≡ true → (x ≡ true → y ≡ true) → b || y ≡ true
or-on true x y any on = refl
or-on false x y any on = on any

-- where something of a beginning is drawn, something of the whole is
drawn-on : (shown later : List ItemShown) → any_drawn shown ≡ true → any_drawn (shown ++ later) ≡ true
drawn-on [] later any = absurd (cc)
drawn-on (s ∷ ss) later any = or-on (is_drawn s) (any_drawn ss) (any_drawn (ss ++ later)) any (λ more. drawn-on ss later more)

-- a key begins a count, or none
not-begins : (b all ends : Bool) → b && all && ends ≡ true → not b ≡ true → ⊥
not-begins true all ends counted none = absurd (cc)
not-begins false all ends counted none = absurd (cc)

-- items that begin with the first key of a count begin with a count
counts-too : (style : EditMode) (mode : InputMode) (k : KeyEvent) (ks : List KeyEvent) (last : KeyEvent) → is_count_before style mode (k ∷ ks) last ≡ true
    → (rest : List Item) (typed : List KeyEvent) (last' : KeyEvent) (tail : List Item)
    → key k ∷ rest ≡ map key typed ++ (key last' ∷ tail) → is_count_before style mode typed last' ≡ true → typed ≢ []
counts-too style mode k ks last counted rest [] last' tail cut none = λ is.
    let same : last' ≡ k = cc in
    not-begins (begins_count style mode k) (list_all (continues_count style) ks) (not (continues_count style last)) counted
    (subst (λ x. not (begins_count style mode x) ≡ true) same none)
counts-too style mode k ks last counted rest (t ∷ ts) last' tail cut counted' = λ is. cc

-- what belongs to an operator's key is its motion
operates-only : (s : Sequences) (w : Environment) (d : Draft) (i : Input) (last : KeyEvent) (meaning : Meaning) (tail : List Item) (read : Read) (operator : Operator) (n : ℕ)
    → Tailed s w d i last meaning tail read → meaning ≡ operates operator n → Operated w d i operator n tail read
operates-only s w d i last _ _ _ operator n (alone command) is = absurd (cc)
operates-only s w d i last _ _ _ operator n (by_character m by second) is = absurd (cc)
operates-only s w d i last _ _ _ operator n (by_last_search m change) is = absurd (cc)
operates-only s w d i last _ _ _ operator n (by_replacement m second) is = absurd (cc)
operates-only s w d i last _ _ _ operator n (by_last_change new) is = absurd (cc)
operates-only s w d i last _ _ _ operator n (by_motion operator' m items read motion) is =
    let one : operator' ≡ operator = cc in
    let other : m ≡ n = cc in
    subst (λ o. Operated w d i o n items read) one (subst (λ k. Operated w d i operator' k items read) other motion)
operates-only s w d i last _ _ _ operator n (by_paste text) is = absurd (cc)
operates-only s w d i last _ _ _ operator n (by_sequence meaning more command begins read) is = absurd (let no = subst (λ m. begins_sequences m ≡ true) is begins in cc)
operates-only s w d i last _ _ _ operator n (by_second_key by second none) is = absurd (cc)
operates-only s w d i last _ _ _ operator n (by_second_in_vain by second more read) is = absurd (cc)
operates-only s w d i last _ _ _ operator n (in_vain more read) is = absurd (cc)

-- of no item is something drawn
no-items : (shown : List ItemShown) → length shown ≡ 0 → any_drawn shown ≡ true → ⊥
no-items [] none any = absurd (cc)
no-items (s ∷ ss) none any = absurd (omega (arith, none))

-- the first of some is drawn, or something behind it
first-kept : (first : ItemShown) (more : List ItemShown) → first ≡ kept → any_drawn (first ∷ more) ≡ true → any_drawn more ≡ true
first-kept first more is any = subst (λ s. any_drawn (s ∷ more) ≡ true) is any

-- phrases of a mode that begin alike, read from two drafts for which an operator's key is the same: of the one something is drawn in
-- what they have alike
module _ (keymap : Keymap) (environment : Environment) (draft other : Draft) (input : Input) (x : Item) (xs rest rest' after : List Item) (read read' : Read)
    (alike : (k : KeyEvent) (entry : KeyEntry) (operator : Operator) (n : ℕ) → x ≡ key k → source_of keymap draft input None k ≡ by_table entry
    → entry.meaning ≡ operates operator n → source_of keymap other input None k ≡ by_table entry) where
  -- the motion that they have alike has a count
  motion-drawn : (operator : Operator) (n : ℕ) (ss later : List ItemShown) (tail' : List Item) (behind behind' : Read)
      → Operated environment draft input operator n (xs ++ rest) behind → Operated environment other input operator n tail' behind'
      → xs ++ rest' ≡ tail' ++ after
      → behind.shown ≡ ss ++ later → length ss ≡ length xs → any_drawn ss ≡ true
      → IsDrawnWithin (length xs) behind'.shown
  motion-drawn operator n ss later tail' behind behind' p q whole' is each any = by_typed p.typed p.last p.tail p.cut p.counted p.behind p.reaches p.told
    where
      by_items : (zs : List Item) → zs ≡ xs → (k : KeyEvent) (ks : List KeyEvent) (last : KeyEvent) (tail : List Item) → xs ++ rest ≡ key k ∷ (map key ks ++ (key last ∷ tail))
          → is_count_before Vi modes.Command (k ∷ ks) last ≡ true → IsDrawnWithin (length xs) behind'.shown
      by_items [] none k ks last tail cut counted =
          let nothing : length ss ≡ 0 = each ∙ ap length (sym none) in
          absurd (no-items ss nothing any)
      by_items (z ∷ zs) some k ks last tail cut counted =
          let whole : (z ∷ zs) ++ rest ≡ key k ∷ (map key ks ++ (key last ∷ tail)) = ap (λ ys. ys ++ rest) some ∙ cut in
          let same : z ≡ key k = cc in
          let there : key k ∷ (zs ++ rest') ≡ map key q.typed ++ (key q.last ∷ (q.tail ++ after)) =
          ap (λ y. y ∷ (zs ++ rest')) (sym same) ∙ ap (λ ys. ys ++ rest') some ∙ whole' ∙ ap (λ ys. ys ++ after) q.cut
          ∙ append_assoc (map key q.typed) (key q.last ∷ q.tail) after in
          let few : 1 ≤ length xs = let size = ap length some in omega (arith, size) in
          subst (λ (r : Read). IsDrawnWithin (length xs) r.shown) (sym q.told)
          (counted-drawn (length xs) q.typed q.behind.shown few (counts-too Vi modes.Command k ks last counted (zs ++ rest') q.typed q.last (q.tail ++ after) there q.counted))

      by_typed : (typed : List KeyEvent) (last : KeyEvent) (tail : List Item) → xs ++ rest ≡ map key typed ++ (key last ∷ tail) → is_count_before Vi modes.Command typed last ≡ true
          → (b : Read) → Reaches (after_count environment typed draft) input operator (motion_behind operator n typed last) tail b → behind ≡ read_behind typed b
          → IsDrawnWithin (length xs) behind'.shown
      by_typed [] last tail cut counted b reaches told =
          absurd (reaches-never draft input operator (motion_behind operator n [] last) tail b reaches
          (first-kept kept b.shown refl (sym (ap (λ (r : Read). any_drawn r.shown) told) ∙ ap any_drawn is ∙ drawn-on ss later any)))
      by_typed (k ∷ ks) last tail cut counted b reaches told = by_items xs refl k ks last tail cut counted

  pub spelled-drawn : (phrase : List Item) (shown later : List ItemShown) → (x ∷ xs) ++ rest' ≡ phrase ++ after
      → read.shown ≡ shown ++ later → length shown ≡ length (x ∷ xs) → any_drawn shown ≡ true
      → Spelled keymap environment draft input ((x ∷ xs) ++ rest) read → Spelled keymap environment other input phrase read'
      → IsDrawnWithin (length (x ∷ xs)) read'.shown
  spelled-drawn phrase [] later whole is each any p q = absurd (cc)
  spelled-drawn phrase (s ∷ ss) later whole is each any p q =
      by_typed p.typed p.last p.tail p.cut p.counted p.behind p.keyed p.told q.typed q.last q.tail
      (whole ∙ ap (λ ys. ys ++ after) q.cut ∙ append_assoc (map key q.typed) (key q.last ∷ q.tail) after) q.counted q.behind q.keyed q.told
    where
      by_typed : (typed : List KeyEvent) (last : KeyEvent) (tail : List Item) → x ∷ (xs ++ rest) ≡ map key typed ++ (key last ∷ tail) → is_count_before input.style input.mode typed last ≡ true
          → (behind : Read) → Keyed keymap environment (after_count environment typed draft) input (typed_count typed) last tail behind → read ≡ read_behind typed behind
          → (typed' : List KeyEvent) (last' : KeyEvent) (tail' : List Item) → x ∷ (xs ++ rest') ≡ map key typed' ++ (key last' ∷ (tail' ++ after)) → is_count_before input.style input.mode typed' last' ≡ true
          → (behind' : Read) → Keyed keymap environment (after_count environment typed' other) input (typed_count typed') last' tail' behind' → read' ≡ read_behind typed' behind'
          → IsDrawnWithin (length (x ∷ xs)) read'.shown
      by_typed (k ∷ ks) last tail cut counted behind keyed told typed' last' tail' cut' counted' behind' keyed' told' =
          let same : x ≡ key k = cc in
          subst (λ (r : Read). IsDrawnWithin (length (x ∷ xs)) r.shown) (sym told')
          (counted-drawn (length (x ∷ xs)) typed' behind'.shown (omega arith)
          (counts-too input.style input.mode k ks last counted (xs ++ rest') typed' last' (tail' ++ after) (ap (λ y. y ∷ (xs ++ rest')) (sym same) ∙ cut') counted'))
      by_typed [] last tail cut counted behind keyed told (k ∷ ks) last' tail' cut' counted' behind' keyed' told' =
          subst (λ (r : Read). IsDrawnWithin (length (x ∷ xs)) r.shown) (sym told')
          (counted-drawn (length (x ∷ xs)) (k ∷ ks) behind'.shown (omega arith) (λ is. cc))
      by_typed [] last tail cut counted behind keyed told [] last' tail' cut' counted' behind' keyed' told' =
          by_source (source_of keymap draft input None last) refl keyed
        where
          shows : kept ∷ behind.shown ≡ s ∷ (ss ++ later)
          shows = sym (ap (λ (r : Read). r.shown) told) ∙ is

          shows-first : s ≡ kept
          shows-first = cc

          shows-behind : behind.shown ≡ ss ++ later
          shows-behind = cc

          each-behind : length ss ≡ length xs
          each-behind = omega (arith, each)

          any-behind : any_drawn ss ≡ true
          any-behind = first-kept s ss shows-first any

          is-last : x ≡ key last
          is-last = cc

          same-last : last' ≡ last
          same-last = cc

          is-tail : tail ≡ xs ++ rest
          is-tail = cc

          is-tail' : xs ++ rest' ≡ tail' ++ after
          is-tail' = cc

          some-behind : any_drawn behind.shown ≡ true
          some-behind = ap any_drawn shows-behind ∙ drawn-on ss later any-behind

          by_source : (source : Source) → source_of keymap draft input None last ≡ source
              → Answers (sequences_of keymap.bound draft input (count_or_one None)) environment draft input last source tail behind
              → IsDrawnWithin (length (x ∷ xs)) read'.shown
          by_source (by_binding b) from read = absurd (quiet-never [] (sym (ap (λ (r : Read). any_drawn r.shown) read.1) ∙ some-behind))
          by_source (by_reader b) from read = absurd (quiet-never [] (sym (ap (λ (r : Read). any_drawn r.shown) read.1) ∙ some-behind))
          by_source (by_phrase plain) from read = absurd read
          by_source (by_table entry) from read =
              let there = sym (ap (λ (r : Read). any_drawn r.shown) read.2) ∙ some-behind in
              let motion = drawn-motion (sequences_of keymap.bound draft input (count_or_one None)) environment draft input last entry.meaning tail read.0 read.1 there in
              let table : source_of keymap other input None last ≡ by_table entry = alike last entry motion.0 motion.1 is-last from motion.2 in
              let P : KeyEvent → Type 0 = λ k. Answers (sequences_of keymap.bound other input (count_or_one None)) environment other input k (source_of keymap other input None k) tail' behind' in
              let Q : Source → Type 0 = λ o. Answers (sequences_of keymap.bound other input (count_or_one None)) environment other input last o tail' behind' in
              let read' = subst Q table (subst P same-last keyed') in
              let motion' = operates-only (sequences_of keymap.bound other input (count_or_one None)) environment other input last entry.meaning tail' read'.0 motion.0 motion.1 read'.1 motion.2 in
              let listed : IsDrawnWithin (length xs) behind'.shown =
              subst (λ (r : Read). IsDrawnWithin (length xs) r.shown) (sym read'.2)
              (motion-drawn motion.0 motion.1 ss later tail' read.0 read'.0
              (subst (λ t. Operated environment draft input motion.0 motion.1 t read.0) is-tail motion.3)
              motion' is-tail'
              (sym (ap (λ (r : Read). r.shown) read.2) ∙ shows-behind) each-behind any-behind) in
              subst (λ (r : Read). IsDrawnWithin (length (x ∷ xs)) r.shown) (sym told')
              (let size : length xs + 1 ≡ length (x ∷ xs) = omega arith in subst (λ n. IsDrawnWithin n (kept ∷ behind'.shown)) size (drawn-behind (length xs) behind'.shown listed))

-- a key that stands for one of command mode is none of the tables
not-table : (bound own : Option Command) (entry given : KeyEntry) (plain : KeyEvent) → first_source bound own (Some plain) entry ≡ by_table given → ⊥
not-table (Some b) own entry given plain is = absurd (cc)
not-table None (Some b) entry given plain is = absurd (cc)
not-table None None entry given plain is = absurd (cc)

-- of a phrase of a mode whose first key could stand for one of command mode nothing is drawn
stands-quiet : (keymap : Keymap) (environment : Environment) (draft : Draft) (input : Input) (first plain : KeyEvent) (rest : List Item) (read : Read)
    → stands_for input.style input.mode first ≡ Some plain → Spelled keymap environment draft input (key first ∷ rest) read → any_drawn read.shown ≡ true → ⊥
stands-quiet keymap environment draft input first plain rest read stands p any = by_typed p.typed p.last p.tail p.cut p.counted p.behind p.keyed p.told
  where
    by_typed : (typed : List KeyEvent) (last : KeyEvent) (tail : List Item) → key first ∷ rest ≡ map key typed ++ (key last ∷ tail) → is_count_before input.style input.mode typed last ≡ true
        → (behind : Read) → Keyed keymap environment (after_count environment typed draft) input (typed_count typed) last tail behind → read ≡ read_behind typed behind → ⊥
    by_typed (k ∷ ks) last tail cut counted behind keyed told =
        let none = none-counts input.style input.mode first k plain stands in
        let off = ap (λ b. b && list_all (continues_count input.style) ks && not (continues_count input.style last)) none in
        absurd (cc)
    by_typed [] last tail cut counted behind keyed told = by_source (source_of keymap draft input None last) refl keyed
      where
        same : last ≡ first
        same = cc

        drawn : any_drawn behind.shown ≡ true
        drawn = sym (ap (λ (r : Read). any_drawn r.shown) told) ∙ any

        by_source : (source : Source) → source_of keymap draft input None last ≡ source
            → Answers (sequences_of keymap.bound draft input (count_or_one None)) environment draft input last source tail behind → ⊥
        by_source (by_binding b) from read = absurd (quiet-never [] (sym (ap (λ (r : Read). any_drawn r.shown) read.1) ∙ drawn))
        by_source (by_reader b) from read = absurd (quiet-never [] (sym (ap (λ (r : Read). any_drawn r.shown) read.1) ∙ drawn))
        by_source (by_phrase k) from read = absurd read
        by_source (by_table entry) from read =
            let there : stands_for input.style input.mode last ≡ Some plain = ap (λ k. stands_for input.style input.mode k) same ∙ stands in
            not-table (bound_command keymap draft input None last) (on_line draft.line.text (keymap.own last)) ((row_of input.style input.mode last draft).entry None) entry plain
            (ap (λ o. first_source (bound_command keymap draft input None last) (on_line draft.line.text (keymap.own last)) o ((row_of input.style input.mode last draft).entry None)) (sym there) ∙ from)

-- no phrase begins with a pasted text
no-paste : (keymap : Keymap) (environment : Environment) (draft : Draft) (input : Input) (text : List ℕ) (rest phrase after : List Item) (read : Read)
    → paste text ∷ rest ≡ phrase ++ after → Phrase keymap environment draft input phrase read → ⊥
no-paste keymap environment draft input text rest phrase after read whole (of_mode p) = by_typed p.typed p.last p.tail (whole ∙ ap (λ ys. ys ++ after) p.cut)
  where
    by_typed : (typed : List KeyEvent) (last : KeyEvent) (tail : List Item) → paste text ∷ rest ≡ (map key typed ++ (key last ∷ tail)) ++ after → ⊥
    by_typed [] last tail cut = absurd (cc)
    by_typed (k ∷ ks) last tail cut = absurd (cc)
no-paste keymap environment draft input text rest phrase after read whole (behind_key n) = let both = whole ∙ ap (λ ys. ys ++ after) n.cut in absurd (cc)

module _ (keymap : Keymap) (environment : Environment) (draft cut : Draft) (input : Input) (first : KeyEvent) (xs rest more phrase after : List Item) (read read' : Read) (shown later : List ItemShown)
    (whole : (key first ∷ xs) ++ more ≡ phrase ++ after)
    (drawn : read.shown ≡ shown ++ later) (each : length shown ≡ length (key first ∷ xs)) (any : any_drawn shown ≡ true)
    (left : LeftByCut environment (entered_by (source_of keymap draft input None first) draft) cut) (blind : FirstLooksAtNoHint keymap.bound input (key first ∷ xs)) where
  looks : KeyLooksAtNoHint keymap.bound first
  looks = (blind first xs refl).0

  left-by : (source : Source) → source_of keymap draft input None first ≡ source → LeftByCut environment (entered_by source draft) cut
  left-by source from = subst (λ o. LeftByCut environment (entered_by o draft) cut) from left

  -- both are of the mode
  both-spelled : Spelled keymap environment draft input ((key first ∷ xs) ++ rest) read → LeftByCut environment draft cut
      → Spelled keymap environment cut input phrase read' → IsDrawnWithin (length (key first ∷ xs)) read'.shown
  both-spelled p (inl same) q =
      spelled-drawn keymap environment draft draft input (key first) xs rest more after read read' (λ k entry operator n is from means. from) phrase shown later whole drawn each any p
      (subst (λ (d : Draft). Spelled keymap environment d input phrase read') same q)
  both-spelled p (inr asked) q =
      spelled-drawn keymap environment draft (hinted environment draft) input (key first) xs rest more after read read'
      (λ k entry operator n is from means.
      let one : first ≡ k = cc in
      table-alike keymap environment draft (hinted environment draft).hint input k entry operator n (subst (λ (x : KeyEvent). KeyLooksAtNoHint keymap.bound x) one looks) from means)
      phrase shown later whole drawn each any p (subst (λ (d : Draft). Spelled keymap environment d input phrase read') asked q)

  spelled-both : Spelled keymap environment draft input ((key first ∷ xs) ++ rest) read
      → Spelled keymap environment cut input phrase read' → IsDrawnWithin (length (key first ∷ xs)) read'.shown
  spelled-both p q = by_source (source_of keymap draft input None first) refl
    where
      by_source : (source : Source) → source_of keymap draft input None first ≡ source → IsDrawnWithin (length (key first ∷ xs)) read'.shown
      by_source (by_binding b) from = both-spelled p (left-by (by_binding b) from) q
      by_source (by_reader b) from = both-spelled p (left-by (by_reader b) from) q
      by_source (by_table entry) from = both-spelled p (left-by (by_table entry) from) q
      by_source (by_phrase plain) from = absurd (not-both keymap environment draft input ((key first ∷ xs) ++ rest) (xs ++ rest) first plain read from refl p)

  -- where the first key stood for one of command mode, it does so from the draft that was left
  stands-there : (plain : KeyEvent) → source_of keymap draft input None first ≡ by_phrase plain → source_of keymap cut input None first ≡ by_phrase plain
  stands-there plain from =
      let P : Draft → Type 0 = λ d. source_of keymap d input None first ≡ by_phrase plain in
      let ended = alt-ended keymap draft input first plain from in
      elim (left-by (by_phrase plain) from) [
        | inl same ↦ subst P (sym same) ended
        | inr asked ↦ subst P (sym asked) (stands-alike keymap environment (out_of_group draft) (hinted environment (out_of_group draft)).hint input first plain looks ended)
      ]

  -- both stand behind such a key
  both-nested : (plain : KeyEvent) (inner : List Item) (within within' : Read) → (key plain ∷ xs) ++ more ≡ inner ++ after → source_of keymap draft input None first ≡ by_phrase plain
      → within.shown ≡ shown ++ later
      → Spelled keymap environment (out_of_group draft) (in_mode modes.Command input) ((key plain ∷ xs) ++ rest) within
      → Spelled keymap environment (out_of_group cut) (in_mode modes.Command input) inner within'
      → IsDrawnWithin (length (key first ∷ xs)) within'.shown
  both-nested plain inner within within' whole' from is p q =
      let ended : Draft = out_of_group draft in
      let Q : Draft → Type 0 = λ d. Spelled keymap environment (out_of_group d) (in_mode modes.Command input) inner within' in
      let R : Draft → Type 0 = λ d. Spelled keymap environment (hinted environment d) (in_mode modes.Command input) inner within' in
      let T : Draft → Type 0 = λ d. Spelled keymap environment d (in_mode modes.Command input) inner within' in
      let looks_plain = (blind first xs refl).1 plain (source-stands keymap draft input first plain from) in
      elim (left-by (by_phrase plain) from) [
        | inl same ↦ spelled-drawn keymap environment ended ended (in_mode modes.Command input) (key plain) xs rest more after within within' (λ k entry operator n is from means. from)
            inner shown later whole' is each any p (subst T (ended_twice draft) (subst Q same q))
        | inr asked ↦ spelled-drawn keymap environment ended (hinted environment ended) (in_mode modes.Command input) (key plain) xs rest more after within within'
            (λ k entry operator n is from means.
            let one : plain ≡ k = cc in
            table-alike keymap environment ended (hinted environment ended).hint (in_mode modes.Command input) k entry operator n (subst (λ (x : KeyEvent). KeyLooksAtNoHint keymap.bound x) one looks_plain) from means)
            inner shown later whole' is each any p (subst R (ended_twice draft) (subst Q asked q))
      ]

  phrases-drawn : Phrase keymap environment draft input ((key first ∷ xs) ++ rest) read → Phrase keymap environment cut input phrase read'
      → IsDrawnWithin (length (key first ∷ xs)) read'.shown
  phrases-drawn (of_mode p) (of_mode q) = spelled-both p q
  phrases-drawn (of_mode p) (behind_key n) =
      let one : n.first ≡ first = let c = whole ∙ ap (λ ys. ys ++ after) n.cut in cc in
      let stands = subst (λ k. stands_for input.style input.mode k ≡ Some n.plain) one (source-stands keymap cut input n.first n.plain n.stands) in
      absurd (stands-quiet keymap environment draft input first n.plain (xs ++ rest) read stands p (ap any_drawn drawn ∙ drawn-on shown later any))
  phrases-drawn (behind_key n) (of_mode q) =
      let one : n.first ≡ first = let c = n.cut in cc in
      let from = subst (λ k. source_of keymap draft input None k ≡ by_phrase n.plain) one n.stands in
      let front = front-of phrase after (xs ++ more) (key first) q.typed q.last q.tail q.cut (sym whole) in
      absurd (not-both keymap environment cut input phrase front.0 first n.plain read' (stands-there n.plain from) front.1 q)
  phrases-drawn (behind_key n) (behind_key n') =
      let one : n.first ≡ first = let c = n.cut in cc in
      let whole' = whole ∙ ap (λ ys. ys ++ after) n'.cut in
      let other : n'.first ≡ first = cc in
      let from = subst (λ k. source_of keymap draft input None k ≡ by_phrase n.plain) one n.stands in
      let from' = subst (λ k. source_of keymap cut input None k ≡ by_phrase n'.plain) other n'.stands in
      let same : Some n'.plain ≡ Some n.plain = sym (source-stands keymap cut input first n'.plain from') ∙ source-stands keymap draft input first n.plain from in
      let plain : n'.plain ≡ n.plain = cc in
      let tail : n.rest ≡ xs ++ rest = let c = n.cut in cc in
      let tail' : xs ++ more ≡ n'.rest ++ after = cc in
      subst (λ (r : Read). IsDrawnWithin (length (key first ∷ xs)) r.shown) (sym n'.told)
      (both-nested n.plain (key n.plain ∷ n'.rest) n.within n'.within (ap (λ ys. key n.plain ∷ ys) tail') from (sym (ap (λ (r : Read). r.shown) n.told) ∙ drawn)
      (subst (λ t. Spelled keymap environment (out_of_group draft) (in_mode modes.Command input) (key n.plain ∷ t) n.within) tail n.spelled)
      (subst (λ k. Spelled keymap environment (out_of_group cut) (in_mode modes.Command input) (key k ∷ n'.rest) n'.within) plain n'.spelled))

-- something is drawn of a phrase, where something was drawn of its items that were cut short
pub drawn-again : DrawingStays
drawn-again keymap environment draft cut input [] more phrase rest read begins any left blind whole reads = absurd (no-items begins.shown begins.each any)
drawn-again keymap environment draft cut input (paste text ∷ xs) more phrase rest read begins any left blind whole reads =
    absurd (no-paste keymap environment cut input text (xs ++ more) phrase rest read whole reads)
drawn-again keymap environment draft cut input (key first ∷ xs) more phrase rest read begins any left blind whole reads =
    phrases-drawn keymap environment draft cut input first xs begins.rest more phrase rest begins.read read begins.shown begins.later whole begins.drawn begins.each any left blind
    begins.comes reads
