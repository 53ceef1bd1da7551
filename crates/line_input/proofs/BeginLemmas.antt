-- Facts on how items can go on, so that they come to something.
use Rattle.std.proofs.Common.{◌≡◌, ℕ, Bool, true, false, append_assoc, List, [], ◌∷◌, ◌++◌, map, Option, Some, None, refl, sym, ◌∙◌, ap, subst}
use Rattle.std.specs.Prelude.{◌&&◌, not}
use Rattle.std.specs.List.{list_all}
use Rattle.std.proofs.lemmas.List.{append-nil}
use Rattle.line_config.specs.declared.config.EditMode.{EditMode}
use Rattle.line_config.specs.declared.config.EditMode.TheVariants.{Emacs, Vi}
use Rattle.line_parts.specs.Environment.{Environment}
use Rattle.line_keys.specs.Command.{Command}
use Rattle.line_keys.specs.Count.{begins_count, continues_count, is_count_before}
use Rattle.line_keys.specs.Model.Draft.{Draft, out_of_group}
use Rattle.line_keys.specs.Item.{Item, key}
use Rattle.line_keys.specs.Motion.{Motion, covers, covers_bracket, covers_last, covers_search, no_motion}
use Rattle.line_keys.specs.Table.{KeyEntry, Meaning, again, count_or_one, gives, has_second, operates, pastes, replaces_char, row_of, searches, searches_again, stands_for, unlisted}
use Rattle.line_keys.specs.declared.count.Count.{Count}
use Rattle.line_keys.specs.declared.keys.KeyEvent.{KeyEvent}
use Rattle.line_keys.specs.declared.refresher.InputMode.{InputMode}
use Rattle.line_keys.specs.declared.refresher.InputMode.TheVariants as modes
use Rattle.line_keys.specs.declared.tables.Operator.{Operator}
use Rattle.line_input.specs.Binding.{Bound}
use Rattle.line_input.specs.Input.{Input, in_mode}
use Rattle.line_input.specs.Keymap.{Keymap, bound_command, first_source, on_line, source_of}
use Rattle.line_input.specs.Operation.{Operated, Reaches, by_movement, motion_behind, nowhere, to_last, to_match}
use Rattle.line_input.specs.Phrase.{Answers, Keyed, Phrase, Spelled, behind_alt, behind_key, listed, of_mode, typed_count}
use Rattle.line_input.specs.Read.{Begins, Read, after_count, quiet_read, read_behind}
use Rattle.line_input.specs.Sequence.{IsReadOn, Sequenced, Sequences, sequence_command, sequences_of}
use Rattle.line_input.specs.Tail.{Tailed, alone, by_last_change, by_last_search, by_motion, by_second_in_vain, by_sequence, in_vain}
use Rattle.line_input.proofs.KeyFitLemmas.{both, enter, enter-begins-none, enter-ends, is-count, is-no-count}
use Rattle.line_input.proofs.LacksLemmas.{LacksQuietly, motion-lacks, paste-lacks, replacement-lacks, search-lacks, second-lacks, seconds-lack, sequence-lacks}
use Rattle.line_input.proofs.PhraseLemmas.{none-counts}
use Rattle.line_input.proofs.SequenceLemmas.{goes_on, none_read}

-- what lacks items can go on
pub goes-on : (Comes : List Item → Read → Type 0) (items : List Item) → LacksQuietly Comes items → Begins Comes items
goes-on Comes items quiet = record { rest = quiet.lacks.rest; read = quiet.lacks.read; comes = quiet.lacks.comes }

-- what lacks none is there
pub is-there : (Comes : List Item → Read → Type 0) (items : List Item) (read : Read) → Comes items read → Begins Comes items
is-there Comes items read comes = record { rest = []; read = read; comes = subst (λ t. Comes t read) (sym (append-nil items)) comes }

-- each motion can go on
pub reach-begins : (draft : Draft) (input : Input) (operator : Operator) (motion : Motion) → Begins (Reaches draft input operator motion) []
reach-begins draft input operator (covers movement) = is-there (Reaches draft input operator (covers movement)) [] _ (by_movement movement)
reach-begins draft input operator (covers_search n by) = goes-on (Reaches draft input operator (covers_search n by)) [] (motion-lacks draft input operator n by)
reach-begins draft input operator (covers_last n change) = is-there (Reaches draft input operator (covers_last n change)) [] _ (to_last n change)
reach-begins draft input operator covers_bracket = is-there (Reaches draft input operator covers_bracket) [] _ to_match
reach-begins draft input operator no_motion = is-there (Reaches draft input operator no_motion) [] _ nowhere

-- so does each key behind an operator, and a count with the key that ends it
pub operation-begins : (environment : Environment) (draft : Draft) (input : Input) (operator : Operator) (n : ℕ) (typed : List KeyEvent) (last : KeyEvent)
    → is_count_before Vi modes.Command typed last ≡ true
    → Begins (Operated environment draft input operator n) (map key typed ++ (key last ∷ []))
operation-begins environment draft input operator n typed last counted =
    let there = reach-begins (after_count environment typed draft) input operator (motion_behind operator n typed last) in
    record {
      rest = there.rest;
      read = read_behind typed there.read;
      comes = record {
        typed = typed;
        last = last;
        tail = there.rest;
        cut = append_assoc (map key typed) (key last ∷ []) there.rest;
        counted = counted;
        behind = there.read;
        reaches = there.comes;
        told = refl;
      };
    }

module _ (bound : Bound) (environment : Environment) (draft : Draft) (input : Input) (count : Count) (last : KeyEvent) where
  abbrev those : Sequences
  those = sequences_of bound draft input count

  -- keys of a sequence that are read on from can go on
  unlisted-by : (more : List KeyEvent) → IsReadOn those last more → (found : Option Command) → sequence_command those last more ≡ found
      → (leads : Bool) → those.leads (last ∷ more) ≡ leads → Begins (Tailed those environment draft input last unlisted) (map key more)
  unlisted-by more on (Some command) is leads led =
      is-there (Tailed those environment draft input last unlisted) (map key more) _ (by_sequence unlisted more command refl (record { read_on = on; ends = is }))
  unlisted-by more on None is true led =
      goes-on (Tailed those environment draft input last unlisted) (map key more)
      (sequence-lacks those environment draft input last more (goes_on bound draft input count last more on led is))
  unlisted-by more on None is false led =
      is-there (Tailed those environment draft input last unlisted) (map key more) _ (in_vain more (record { read_on = on; ends = (is, led) }))

  pub unlisted-begins : (more : List KeyEvent) → IsReadOn those last more → Begins (Tailed those environment draft input last unlisted) (map key more)
  unlisted-begins more on = unlisted-by more on (sequence_command those last more) refl (those.leads (last ∷ more)) refl

  seconds-vain : (by : KeyEvent → Command) (more : List KeyEvent) → Sequenced those last more None
      → Begins (Tailed those environment draft input last (has_second by)) (map key more)
  seconds-vain by [] vain = goes-on (Tailed those environment draft input last (has_second by)) [] (second-lacks those environment draft input last by vain)
  seconds-vain by (k ∷ more) vain =
      is-there (Tailed those environment draft input last (has_second by)) (map key (k ∷ more)) _ (by_second_in_vain by k more vain)

  seconds-by : (by : KeyEvent → Command) (more : List KeyEvent) → IsReadOn those last more → (found : Option Command) → sequence_command those last more ≡ found
      → (leads : Bool) → those.leads (last ∷ more) ≡ leads → Begins (Tailed those environment draft input last (has_second by)) (map key more)
  seconds-by by more on (Some command) is leads led =
      is-there (Tailed those environment draft input last (has_second by)) (map key more) _
      (by_sequence (has_second by) more command refl (record { read_on = on; ends = is }))
  seconds-by by more on None is true led =
      goes-on (Tailed those environment draft input last (has_second by)) (map key more)
      (seconds-lack those environment draft input last by more (goes_on bound draft input count last more on led is))
  seconds-by by more on None is false led = seconds-vain by more (record { read_on = on; ends = (is, led) })

  pub seconds-begin : (by : KeyEvent → Command) (more : List KeyEvent) → IsReadOn those last more
      → Begins (Tailed those environment draft input last (has_second by)) (map key more)
  seconds-begin by more on = seconds-by by more on (sequence_command those last more) refl (those.leads (last ∷ more)) refl

  -- each meaning can go on
  pub tail-begins : (meaning : Meaning) → Begins (Tailed those environment draft input last meaning) []
  tail-begins (gives command) = is-there (Tailed those environment draft input last (gives command)) [] _ (alone command)
  tail-begins (searches n by) = goes-on (Tailed those environment draft input last (searches n by)) [] (search-lacks those environment draft input last n by)
  tail-begins (searches_again n change) = is-there (Tailed those environment draft input last (searches_again n change)) [] _ (by_last_search n change)
  tail-begins pastes = goes-on (Tailed those environment draft input last pastes) [] (paste-lacks those environment draft input last)
  tail-begins (has_second by) = seconds-begin by [] (none_read those last)
  tail-begins (replaces_char n) = goes-on (Tailed those environment draft input last (replaces_char n)) [] (replacement-lacks those environment draft input last n)
  tail-begins (operates operator n) =
      let there = operation-begins environment draft input operator n [] enter (is-no-count Vi modes.Command enter (enter-begins-none Vi modes.Command)) in
      record { rest = key enter ∷ there.rest; read = there.read; comes = by_motion operator n (key enter ∷ there.rest) there.read there.comes }
  tail-begins (again new) = is-there (Tailed those environment draft input last (again new)) [] _ (by_last_change new)
  tail-begins unlisted = unlisted-begins [] (none_read those last)

  -- so does a key, wherever its command comes from, that stands for no other
  answer-begins : (one two : Option Command) (plain : Option KeyEvent) (entry : KeyEntry) → plain ≡ None
      → Begins (Answers those environment draft input last (first_source one two plain entry)) []
  answer-begins (Some by) two plain entry none = record { rest = []; read = quiet_read draft input [] by; comes = (refl, refl) }
  answer-begins None (Some by) plain entry none = record { rest = []; read = quiet_read draft input [] by; comes = (refl, refl) }
  answer-begins None None (Some k) entry none = absurd (cc)
  answer-begins None None None entry none =
      let there = tail-begins entry.meaning in
      record { rest = there.rest; read = listed entry input there.read; comes = (there.read, there.comes, refl) }

-- in command mode, and behind a count, no key stands for another; and Enter never does
command-stands : (style : EditMode) (k : KeyEvent) → stands_for style modes.Command k ≡ None
command-stands Emacs k = refl
command-stands Vi k = refl

counted-stands : (style : EditMode) (mode : InputMode) (first k : KeyEvent) → begins_count style mode first ≡ true → stands_for style mode k ≡ None
counted-stands Emacs mode first k begins = refl
counted-stands Vi InputMode.Command first k begins = refl
counted-stands Vi InputMode.Insert first k begins = absurd (cc)
counted-stands Vi InputMode.Replace first k begins = absurd (cc)

enter-stands : (style : EditMode) (mode : InputMode) → stands_for style mode enter ≡ None
enter-stands Emacs mode = refl
enter-stands Vi InputMode.Command = refl
enter-stands Vi InputMode.Insert = refl
enter-stands Vi InputMode.Replace = refl

-- a key that stands for no other, under the count that was typed
pub keyed-begins : (keymap : Keymap) (environment : Environment) (draft : Draft) (input : Input) (typed : Option Count) (last : KeyEvent)
    → stands_for input.style input.mode last ≡ None → Begins (Keyed keymap environment draft input typed last) []
keyed-begins keymap environment draft input typed last plain =
    answer-begins keymap.bound environment draft input (count_or_one typed) last (bound_command keymap draft input typed last)
    (on_line draft.line.text (keymap.own last)) (stands_for input.style input.mode last) ((row_of input.style input.mode last draft).entry typed) plain

module _ (keymap : Keymap) (environment : Environment) (draft : Draft) (input : Input) where
  -- behind the keys of a count, or none
  spelled-begins : (typed : List KeyEvent) (last : KeyEvent) → is_count_before input.style input.mode typed last ≡ true
      → stands_for input.style input.mode last ≡ None → Begins (Spelled keymap environment draft input) (map key typed ++ (key last ∷ []))
  spelled-begins typed last counted plain =
      let there = keyed-begins keymap environment (after_count environment typed draft) input (typed_count typed) last plain in
      record {
        rest = there.rest;
        read = read_behind typed there.read;
        comes = record {
          typed = typed;
          last = last;
          tail = there.rest;
          cut = append_assoc (map key typed) (key last ∷ []) there.rest;
          counted = counted;
          behind = there.read;
          keyed = there.comes;
          told = refl;
        };
      }

  -- a key that stands for no other, whether a count begins with it or not
  first-begins : (k : KeyEvent) → stands_for input.style input.mode k ≡ None → (begins : Bool) → begins_count input.style input.mode k ≡ begins
      → Begins (Spelled keymap environment draft input) (key k ∷ [])
  first-begins k plain false none = spelled-begins [] k (is-no-count input.style input.mode k none) plain
  first-begins k plain true begins =
      let there = spelled-begins (k ∷ []) enter (is-count input.style input.mode k [] enter begins refl (enter-ends input.style)) (enter-stands input.style input.mode) in
      record { rest = key enter ∷ there.rest; read = there.read; comes = there.comes }

module _ (keymap : Keymap) (environment : Environment) (draft : Draft) (input : Input) where
  module _ (k plain : KeyEvent) (stands : stands_for input.style input.mode k ≡ Some plain) where
    abbrev entry : KeyEntry
    entry = (row_of input.style input.mode k draft).entry None

    -- a key of its own
    lone-begins : (by : Command) → Answers (sequences_of keymap.bound draft input (count_or_one None)) environment draft input k (source_of keymap draft input None k) [] (quiet_read draft input [] by)
        → Begins (Phrase keymap environment draft input) (key k ∷ [])
    lone-begins by answers = record {
      rest = [];
      read = read_behind [] (quiet_read draft input [] by);
      comes = of_mode (record {
        typed = [];
        last = k;
        tail = [];
        cut = refl;
        counted = is-no-count input.style input.mode k (none-counts input.style input.mode k k plain stands);
        behind = quiet_read draft input [] by;
        keyed = answers;
        told = refl;
      });
    }

    -- a key that stands for one of command mode, unless a binding or the reader gives it a command
    alt-begins : (one two : Option Command) → bound_command keymap draft input None k ≡ one → on_line draft.line.text (keymap.own k) ≡ two
        → Begins (Phrase keymap environment draft input) (key k ∷ [])
    alt-begins (Some by) two bound own = lone-begins by
        (subst (λ a. Answers (sequences_of keymap.bound draft input (count_or_one None)) environment draft input k
        (first_source a (on_line draft.line.text (keymap.own k)) (stands_for input.style input.mode k) entry) [] (quiet_read draft input [] by)) (sym bound) (refl, refl))
    alt-begins None (Some by) bound own = lone-begins by
        (subst (λ a. Answers (sequences_of keymap.bound draft input (count_or_one None)) environment draft input k
        (first_source a (on_line draft.line.text (keymap.own k)) (stands_for input.style input.mode k) entry) [] (quiet_read draft input [] by)) (sym bound)
        (subst (λ b. Answers (sequences_of keymap.bound draft input (count_or_one None)) environment draft input k
        (first_source None b (stands_for input.style input.mode k) entry) [] (quiet_read draft input [] by)) (sym own) (refl, refl)))
    alt-begins None None bound own =
        let there = first-begins keymap environment (out_of_group draft) (in_mode modes.Command input) plain (command-stands input.style plain)
        (begins_count input.style modes.Command plain) refl in
        record {
          rest = there.rest;
          read = behind_alt input there.read;
          comes = behind_key (record {
            first = k;
            plain = plain;
            rest = there.rest;
            cut = refl;
            stands = ap (λ a. first_source a (on_line draft.line.text (keymap.own k)) (stands_for input.style input.mode k) entry) bound
                ∙ ap (λ b. first_source None b (stands_for input.style input.mode k) entry) own ∙ ap (λ c. first_source None None c entry) stands;
            within = there.read;
            spelled = there.comes;
            told = refl;
          });
        }

  by-stands : (k : KeyEvent) (plain : Option KeyEvent) → stands_for input.style input.mode k ≡ plain → Begins (Phrase keymap environment draft input) (key k ∷ [])
  by-stands k None stands =
      let there = first-begins keymap environment draft input k stands (begins_count input.style input.mode k) refl in
      record { rest = there.rest; read = there.read; comes = of_mode there.comes }
  by-stands k (Some plain) stands = alt-begins k plain stands (bound_command keymap draft input None k) (on_line draft.line.text (keymap.own k)) refl refl

-- each key begins a phrase
pub key-begins : (keymap : Keymap) (environment : Environment) (draft : Draft) (input : Input) (k : KeyEvent) → Begins (Phrase keymap environment draft input) (key k ∷ [])
key-begins keymap environment draft input k = by-stands keymap environment draft input k (stands_for input.style input.mode k) refl

-- and the keys of a count with the key that ends it
pub counted-begins : (keymap : Keymap) (environment : Environment) (draft : Draft) (input : Input) (first : KeyEvent) (more : List KeyEvent) (last : KeyEvent)
    → is_count_before input.style input.mode (first ∷ more) last ≡ true
    → Begins (Spelled keymap environment draft input) (map key (first ∷ more) ++ (key last ∷ []))
counted-begins keymap environment draft input first more last counted =
    let parts = both (begins_count input.style input.mode first && list_all (continues_count input.style) more) (not (continues_count input.style last)) counted in
    let begins = (both (begins_count input.style input.mode first) (list_all (continues_count input.style) more) parts.0).0 in
    spelled-begins keymap environment draft input (first ∷ more) last counted (counted-stands input.style input.mode first last begins)

pub count-begins : (keymap : Keymap) (environment : Environment) (draft : Draft) (input : Input) (first : KeyEvent) (more : List KeyEvent) (last : KeyEvent)
    → is_count_before input.style input.mode (first ∷ more) last ≡ true
    → Begins (Phrase keymap environment draft input) (map key (first ∷ more) ++ (key last ∷ []))
count-begins keymap environment draft input first more last counted =
    let there = counted-begins keymap environment draft input first more last counted in
    record { rest = there.rest; read = there.read; comes = of_mode there.comes }
