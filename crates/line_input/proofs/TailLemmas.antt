-- Facts on what is read behind a key.
use Rattle.std.proofs.Common.{◌≡◌, ℕ, true, ◌++◌, List, [], ◌∷◌, map, Option, Some, None, refl, sym, ◌∙◌, ap, subst}
use Rattle.std.proofs.lemmas.List.{append-nil}
use Rattle.std.specs.Prelude.{option_map, slice_get}
use Rattle.std.specs.Option.{option_or}
use Rattle.line_buffer.specs.declared.movement.CharSearch.{CharSearch}
use Rattle.line_buffer.specs.declared.movement.Movement.{Movement}
use Rattle.line_buffer.specs.declared.movement.Movement.TheVariants.{ViCharSearch}
use Rattle.line_parts.specs.Environment.{Environment}
use Rattle.line_keys.specs.Command.{Command, noop, unknown}
use Rattle.line_keys.specs.Model.Draft.{Draft}
use Rattle.line_keys.specs.Item.{Item, key}
use Rattle.line_keys.specs.Motion.{Motion, covers_last, covers_search, search_to}
use Rattle.line_keys.specs.Table.{Meaning, gives, has_second, pastes, replaces_char, searches, searches_again, unlisted}
use Rattle.line_keys.specs.declared.count.Count.{Count}
use Rattle.line_keys.specs.declared.keys.KeyEvent.{KeyEvent}
use Rattle.line_keys.specs.declared.raw_reader.RawReader as readers
use Rattle.line_keys.specs.declared.tables.Operator.{Operator}
use Rattle.line_input.specs.Binding.{Bound}
use Rattle.line_input.specs.Input.{Input}
use Rattle.line_input.specs.Operation.{Reaches, operated_if, to_character, to_last}
use Rattle.line_input.specs.Read.{quiet_read, searched_read}
use Rattle.line_input.specs.Reading.{EndsInSequence, EndsQuietly, GivesQuietly, IsAnswered, IsInVain, StopsInSequence, StopsWithin}
use Rattle.line_input.specs.Sequence.{Sequenced, Sequences, sequences_of}
use Rattle.line_input.specs.Tail.{Tailed, alone, begins_sequences, by_character, by_last_search, by_second_in_vain, by_second_key, by_sequence, in_vain, move_or}
use Rattle.line_input.proofs.BeginLemmas.{goes-on, seconds-begin, tail-begins, unlisted-begins}
use Rattle.line_input.proofs.LacksLemmas.{LacksQuietly, motion-lacks, paste-lacks, replacement-lacks, search-lacks, second-lacks, seconds-lack, sequence-lacks}
use Rattle.line_input.proofs.SequenceLemmas.{goes_on}

-- a list without a first item is empty
none_first : {A : Type 0} (xs : List A) → None ≡ slice_get xs 0 → xs ≡ []
none_first [] none = refl
none_first (x ∷ xs) none = absurd (cc)

-- the second key of all is the first of those that were read in vain
second_of : (s : Sequences) (w : Environment) (d : Draft) (i : Input) (last : KeyEvent) (by : KeyEvent → Command) (more : List KeyEvent) (second : KeyEvent)
    → Some second ≡ slice_get more 0 → Sequenced s last more None → Tailed s w d i last (has_second by) (map key more) (quiet_read d i (map key more) (by second))
second_of s w d i last by [] second told vain = absurd (cc)
second_of s w d i last by (k ∷ ks) second told vain =
    let same : k ≡ second = cc in
    subst (λ x. Tailed s w d i last (has_second by) (map key (k ∷ ks)) (quiet_read d i (map key (k ∷ ks)) (by x))) same (by_second_in_vain by k ks vain)

-- the place of a search that is changed
pub changed_place : (n : ℕ) (change : CharSearch → CharSearch) (place : Option Movement) (back search : Option CharSearch)
    → place ≡ option_map (λ s. ViCharSearch n s) back → back ≡ option_map change search → place ≡ option_map (λ s. ViCharSearch n (change s)) search
changed_place n change place back search is changed = is ∙ ap (λ x. option_map (λ s. ViCharSearch n s) x) changed ∙ by_search search
  where
    by_search : (x : Option CharSearch) → option_map (λ s. ViCharSearch n s) (option_map change x) ≡ option_map (λ s. ViCharSearch n (change s)) x
    by_search None = refl
    by_search (Some s) = refl

-- what comes of a search, as items that nothing is drawn after
searched-as : (d : Draft) (i : Input) (items : List Item) (done : Option Movement → Command) (n : ℕ) (by : ℕ → CharSearch) (second : KeyEvent) (found search : Option CharSearch) (place : Option Movement) (command : Command)
    → found ≡ search_to by second → place ≡ option_map (λ s. ViCharSearch n s) found → command ≡ done place → search ≡ option_or found i.last_search
    → searched_read d i items done n (search_to by second) ≡ quiet_read d (record i { last_search = search }) items command
searched-as d i items done n by second found search place command is there told kept_search =
    ap (λ f. searched_read d i items done n f) (sym is) ∙ by_found found
    ∙ ap (λ p. quiet_read d (record i { last_search = option_or found i.last_search }) items (done p)) (sym there)
    ∙ ap (λ c. quiet_read d (record i { last_search = option_or found i.last_search }) items c) (sym told)
    ∙ ap (λ x. quiet_read d (record i { last_search = x }) items command) (sym kept_search)
  where
    by_found : (f : Option CharSearch)
        → searched_read d i items done n f ≡ quiet_read d (record i { last_search = option_or f i.last_search }) items (done (option_map (λ s. ViCharSearch n s) f))
    by_found None = refl
    by_found (Some s) = refl

module _ {Y : Type 0} (r : readers.Ghosts Y) (s : Sequences) (w : Environment) (d : Draft) (i : Input) (last : KeyEvent) (reader next : Y) where
  -- what a meaning lacks where no item is left, it lacks of the reader's items
  none_left : (meaning : Meaning) → LacksQuietly (Tailed s w d i last meaning) [] → r.rest reader ≡ [] → r.rest next ≡ []
      → EndsQuietly r (Tailed s w d i last meaning) reader next
  none_left meaning lacks dry empty =
      let there : LacksQuietly (Tailed s w d i last meaning) (r.rest reader) = subst (λ t. LacksQuietly (Tailed s w d i last meaning) t) (sym dry) lacks in
      record { lacks = there.lacks; empty = empty; undrawn = there.quiet }

  -- no item is left for a search, and none for a pasted text
  pub search_ends : (n : ℕ) (by : ℕ → CharSearch) → r.rest reader ≡ [] → r.rest next ≡ r.rest reader → EndsQuietly r (Tailed s w d i last (searches n by)) reader next
  search_ends n by dry stays = none_left (searches n by) (search-lacks s w d i last n by) dry (stays ∙ dry)

  pub replacement_ends : (n : ℕ) → r.rest reader ≡ [] → r.rest next ≡ r.rest reader → EndsQuietly r (Tailed s w d i last (replaces_char n)) reader next
  replacement_ends n dry stays = none_left (replaces_char n) (replacement-lacks s w d i last n) dry (stays ∙ dry)

  pub paste_ends : r.rest reader ≡ [] → r.rest next ≡ r.rest reader → EndsQuietly r (Tailed s w d i last pastes) reader next
  paste_ends dry stays = none_left pastes (paste-lacks s w d i last) dry (stays ∙ dry)

  -- the key of the character to search for is read
  pub search_read : (n : ℕ) (by : ℕ → CharSearch) (second : KeyEvent) (found search : Option CharSearch) (place : Option Movement) (command : Command)
      → r.rest reader ≡ key second ∷ r.rest next → found ≡ search_to by second → place ≡ option_map (λ s. ViCharSearch n s) found
      → command ≡ move_or unknown place → search ≡ option_or found i.last_search
      → GivesQuietly r (Tailed s w d i last (searches n by)) d (record i { last_search = search }) command reader next
  search_read n by second found search place command took is there told kept_search = record {
    items = key second ∷ [];
    cut = took;
    comes =
        subst (λ x. Tailed s w d i last (searches n by) (key second ∷ []) x)
        (searched-as d i (key second ∷ []) (move_or unknown) n by second found search place command is there told kept_search) (by_character n by second);
  }

  -- the last search is found again
  pub again_read : (n : ℕ) (change : CharSearch → CharSearch) (search : Option CharSearch) (place : Option Movement) (command : Command) → search ≡ i.last_search
      → place ≡ option_map (λ s. ViCharSearch n (change s)) i.last_search → command ≡ move_or noop place
      → GivesQuietly r (Tailed s w d i last (searches_again n change)) d (record i { last_search = search }) command reader reader
  again_read n change search place command same is told = record {
    items = [];
    cut = refl;
    comes =
        subst (λ x. Tailed s w d i last (searches_again n change) [] x)
        (ap (λ p. quiet_read d i [] (move_or noop p)) (sym is) ∙ ap (λ c. quiet_read d i [] c) (sym told) ∙ ap (λ x. quiet_read d (record i { last_search = x }) [] command) (sym same))
        (by_last_search n change);
  }

  -- what is read, where the last search stays
  pub stays_read : (meaning : Meaning) (search : Option CharSearch) (command command' : Command) (next' : Y) → search ≡ i.last_search → command' ≡ command
      → GivesQuietly r (Tailed s w d i last meaning) d i command reader next' → GivesQuietly r (Tailed s w d i last meaning) d (record i { last_search = search }) command' reader next'
  stays_read meaning search command command' next' same told read = record {
    items = read.items;
    cut = read.cut;
    comes =
        subst (λ x. Tailed s w d i last meaning read.items x)
        (ap (λ c. quiet_read d i read.items c) (sym told) ∙ ap (λ x. quiet_read d (record i { last_search = x }) read.items command') (sym same)) read.comes;
  }

  -- a command of the tables is the key's alone
  pub command_read : (command : Command) → GivesQuietly r (Tailed s w d i last (gives command)) d i command reader reader
  command_read command = record { items = []; cut = refl; comes = alone command }

  -- the keys of a sequence are read with its command
  pub answered_read : (meaning : Meaning) (command : Command) → begins_sequences meaning ≡ true → IsAnswered r reader next s last command
      → GivesQuietly r (Tailed s w d i last meaning) d i command reader next
  answered_read meaning command begins found = record {
    items = map key found.more;
    cut = found.cut;
    comes = by_sequence meaning found.more command begins found.sequenced;
  }

  -- or in vain, and then the second of all counts, or nothing does
  pub vain_read : (by : KeyEvent → Command) (second : KeyEvent) (command : Command) → IsInVain r reader next s last (Some second) → command ≡ by second
      → GivesQuietly r (Tailed s w d i last (has_second by)) d i command reader next
  vain_read by second command vain is = record {
    items = map key vain.more;
    cut = vain.cut;
    comes =
        subst (λ c. Tailed s w d i last (has_second by) (map key vain.more) (quiet_read d i (map key vain.more) c)) (sym is)
        (second_of s w d i last by vain.more second vain.told vain.sequenced);
  }

  pub unlisted_read : (second : Option KeyEvent) → IsInVain r reader next s last second → GivesQuietly r (Tailed s w d i last unlisted) d i unknown reader next
  unlisted_read second vain = record { items = map key vain.more; cut = vain.cut; comes = in_vain vain.more vain.sequenced }

  module _ (by : KeyEvent → Command) (mid : Y) (vain : IsInVain r reader mid s last None) where
    none_read : vain.more ≡ []
    none_read = none_first vain.more vain.told

    lone : Sequenced s last [] None
    lone = subst (λ m. Sequenced s last m None) none_read vain.sequenced

    same_rest : r.rest reader ≡ r.rest mid
    same_rest = vain.cut ∙ ap (λ m. map key m ++ r.rest mid) none_read

    -- no item is left for the second key
    pub second_ends : r.rest mid ≡ [] → r.rest next ≡ r.rest mid → EndsQuietly r (Tailed s w d i last (has_second by)) reader next
    second_ends dry stays = none_left (has_second by) (second-lacks s w d i last by lone) (same_rest ∙ dry) (stays ∙ dry)

    -- it could not be read
    pub second_stops : r.rest next ≡ r.rest mid → StopsWithin r (Tailed s w d i last (has_second by)) [] reader next
    second_stops kept = record {
      items = [];
      cut = same_rest ∙ sym kept;
      begins = goes-on (Tailed s w d i last (has_second by)) [] (second-lacks s w d i last by lone);
    }

    -- the second key is read
    pub second_read : (k : KeyEvent) (command : Command) → r.rest mid ≡ key k ∷ r.rest next → command ≡ by k → GivesQuietly r (Tailed s w d i last (has_second by)) d i command reader next
    second_read k command took is = record {
      items = key k ∷ [];
      cut = same_rest ∙ took;
      comes = subst (λ c. Tailed s w d i last (has_second by) (key k ∷ []) (quiet_read d i (key k ∷ []) c)) (sym is) (by_second_key by k lone);
    }

module _ {Y : Type 0} (r : readers.Ghosts Y) (bound : Bound) (environment : Environment) (draft : Draft) (input : Input) (count : Count) (last : KeyEvent) (reader next : Y)
    (cut : EndsInSequence r reader next (sequences_of bound draft input count) last) where
  abbrev those : Sequences
  those = sequences_of bound draft input count

  all_read : r.rest reader ≡ map key cut.stopped.more
  all_read = cut.stopped.cut ∙ ap (λ t. map key cut.stopped.more ++ t) cut.empty ∙ append-nil (map key cut.stopped.more)

  -- what a meaning lacks of the keys of a sequence, it lacks of the reader's items
  keys_left : (meaning : Meaning) → LacksQuietly (Tailed those environment draft input last meaning) (map key cut.stopped.more)
      → EndsQuietly r (Tailed those environment draft input last meaning) reader next
  keys_left meaning lacks =
      let there : LacksQuietly (Tailed those environment draft input last meaning) (r.rest reader) =
      subst (λ t. LacksQuietly (Tailed those environment draft input last meaning) t) (sym all_read) lacks in
      record { lacks = there.lacks; empty = cut.empty; undrawn = there.quiet }

  -- the items end inside a sequence
  pub sequence_ends : EndsQuietly r (Tailed those environment draft input last unlisted) reader next
  sequence_ends =
      keys_left unlisted (sequence-lacks those environment draft input last cut.stopped.more (goes_on bound draft input count last cut.stopped.more cut.stopped.read_on cut.leads cut.unanswered))

  pub seconds_end : (by : KeyEvent → Command) → EndsQuietly r (Tailed those environment draft input last (has_second by)) reader next
  seconds_end by =
      keys_left (has_second by) (seconds-lack those environment draft input last by cut.stopped.more (goes_on bound draft input count last cut.stopped.more cut.stopped.read_on cut.leads cut.unanswered))

module _ {Y : Type 0} (r : readers.Ghosts Y) (bound : Bound) (environment : Environment) (draft : Draft) (input : Input) (count : Count) (last : KeyEvent) (reader next : Y) where
  -- reading stopped where nothing was taken behind the key
  pub tail_stops : (meaning : Meaning) → r.rest next ≡ r.rest reader
      → StopsWithin r (Tailed (sequences_of bound draft input count) environment draft input last meaning) [] reader next
  tail_stops meaning kept = record { items = []; cut = sym kept; begins = tail-begins bound environment draft input count last meaning }

  -- or where keys of a sequence were
  pub unlisted_stops : StopsInSequence r reader next (sequences_of bound draft input count) last
      → StopsWithin r (Tailed (sequences_of bound draft input count) environment draft input last unlisted) [] reader next
  unlisted_stops stops = record {
    items = map key stops.more;
    cut = stops.cut;
    begins = unlisted-begins bound environment draft input count last stops.more stops.read_on;
  }

  pub seconds_stop : (by : KeyEvent → Command) → StopsInSequence r reader next (sequences_of bound draft input count) last
      → StopsWithin r (Tailed (sequences_of bound draft input count) environment draft input last (has_second by)) [] reader next
  seconds_stop by stops = record {
    items = map key stops.more;
    cut = stops.cut;
    begins = seconds-begin bound environment draft input count last by stops.more stops.read_on;
  }

module _ {Y : Type 0} (r : readers.Ghosts Y) (d : Draft) (i : Input) (operator : Operator) (reader next : Y) where
  -- no item is left for the search of a motion
  pub motion_ends : (n : ℕ) (by : ℕ → CharSearch) → r.rest reader ≡ [] → r.rest next ≡ r.rest reader → EndsQuietly r (Reaches d i operator (covers_search n by)) reader next
  motion_ends n by dry stays =
      let there : LacksQuietly (Reaches d i operator (covers_search n by)) (r.rest reader) =
      subst (λ t. LacksQuietly (Reaches d i operator (covers_search n by)) t) (sym dry) (motion-lacks d i operator n by) in
      record { lacks = there.lacks; empty = stays ∙ dry; undrawn = there.quiet }

  -- the key of the character is read
  pub motion_read : (n : ℕ) (by : ℕ → CharSearch) (second : KeyEvent) (found search : Option CharSearch) (place : Option Movement) (command : Command)
      → r.rest reader ≡ key second ∷ r.rest next → found ≡ search_to by second → place ≡ option_map (λ s. ViCharSearch n s) found
      → command ≡ operated_if operator place → search ≡ option_or found i.last_search
      → GivesQuietly r (Reaches d i operator (covers_search n by)) d (record i { last_search = search }) command reader next
  motion_read n by second found search place command took is there told kept_search = record {
    items = key second ∷ [];
    cut = took;
    comes =
        subst (λ x. Reaches d i operator (covers_search n by) (key second ∷ []) x)
        (searched-as d i (key second ∷ []) (λ movement. operated_if operator movement) n by second found search place command is there told kept_search) (to_character n by second);
  }

  -- what is read of a motion that is the key's alone
  pub reached : (motion : Motion) (search : Option CharSearch) (command command' : Command) → search ≡ i.last_search → command' ≡ command
      → Reaches d i operator motion [] (quiet_read d i [] command)
      → GivesQuietly r (Reaches d i operator motion) d (record i { last_search = search }) command' reader reader
  reached motion search command command' same told reaches = record {
    items = [];
    cut = refl;
    comes =
        subst (λ x. Reaches d i operator motion [] x)
        (ap (λ c. quiet_read d i [] c) (sym told) ∙ ap (λ x. quiet_read d (record i { last_search = x }) [] command') (sym same)) reaches;
  }

  -- the last search is the motion
  pub last_reached : (n : ℕ) (change : CharSearch → CharSearch) (last search : Option CharSearch) (place : Option Movement) (command : Command)
      → i.last_search ≡ last → search ≡ last → place ≡ option_map (λ s. ViCharSearch n (change s)) last → command ≡ operated_if operator place
      → GivesQuietly r (Reaches d i operator (covers_last n change)) d (record i { last_search = search }) command reader reader
  last_reached n change last search place command same stays is told =
      reached (covers_last n change) search (operated_if operator (option_map (λ s. ViCharSearch n (change s)) i.last_search)) command (stays ∙ sym same)
      (told ∙ ap (λ p. operated_if operator p) (is ∙ ap (λ x. option_map (λ s. ViCharSearch n (change s)) x) (sym same))) (to_last n change)
