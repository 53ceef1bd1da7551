-- Facts on what is lacking behind a key.
use Rattle.std.proofs.Common.{◌≡◌, ◌≢◌, ℕ, List, [], ◌∷◌, ◌++◌, map, Option, Some, None, refl, subst}
use Rattle.std.proofs.lemmas.List.{map-append}
use Rattle.line_buffer.specs.declared.movement.CharSearch.{CharSearch}
use Rattle.line_parts.specs.Environment.{Environment}
use Rattle.line_keys.specs.Command.{Command, unknown}
use Rattle.line_keys.specs.Model.Draft.{Draft}
use Rattle.line_keys.specs.Item.{Item, key, paste}
use Rattle.line_keys.specs.Motion.{covers_search}
use Rattle.line_keys.specs.Table.{Meaning, has_second, pastes, replaces_char, searches, unlisted}
use Rattle.line_keys.specs.declared.keys.KeyEvent.{KeyEvent}
use Rattle.line_keys.specs.declared.tables.Operator.{Operator}
use Rattle.line_input.specs.Input.{Input}
use Rattle.line_input.specs.Operation.{Reaches, to_character}
use Rattle.line_input.specs.Read.{Lacks, Read, quiet_read}
use Rattle.line_input.specs.Sequence.{Sequenced, Sequences}
use Rattle.line_input.specs.ItemShown.{kept, none_shown}
use Rattle.line_input.specs.Tail.{Tailed, by_character, by_paste, by_replacement, by_second_in_vain, by_second_key, by_sequence, in_vain}
use Rattle.line_input.proofs.KeyFitLemmas.{enter}
use Rattle.line_input.proofs.SequenceLemmas.{GoesOn}
use Rattle.line_input.proofs.ShownLemmas.{quiet-each}

-- more items are to be read than these, and nothing is drawn after them
pub record LacksQuietly (Comes : List Item → Read → Type 0) (items : List Item) : Type 0 where
  pub lacks : Lacks Comes items
  pub quiet : lacks.shown ≡ none_shown items

-- items that nothing is drawn after: with more behind them they come to this command
pub goes_on_to : (Comes : List Item → Read → Type 0) (d : Draft) (i : Input) (items rest : List Item) (command : Command) → rest ≢ []
    → Comes (items ++ rest) (quiet_read d i (items ++ rest) command) → LacksQuietly Comes items
goes_on_to Comes d i items rest command proper comes = record {
  lacks = record {
    rest = rest;
    read = quiet_read d i (items ++ rest) command;
    proper = proper;
    comes = comes;
    shown = none_shown items;
    later = none_shown rest;
    drawn = map-append (λ _. kept) items rest;
    each = quiet-each items;
  };
  quiet = refl;
}

-- meanings that lack items where none is left
pub search-lacks : (s : Sequences) (w : Environment) (d : Draft) (i : Input) (last : KeyEvent) (n : ℕ) (by : ℕ → CharSearch) → LacksQuietly (Tailed s w d i last (searches n by)) []
search-lacks s w d i last n by = goes_on_to (Tailed s w d i last (searches n by)) d i [] (key enter ∷ []) _ (λ empty. cc) (by_character n by enter)

pub replacement-lacks : (s : Sequences) (w : Environment) (d : Draft) (i : Input) (last : KeyEvent) (n : ℕ) → LacksQuietly (Tailed s w d i last (replaces_char n)) []
replacement-lacks s w d i last n = goes_on_to (Tailed s w d i last (replaces_char n)) d i [] (key enter ∷ []) _ (λ empty. cc) (by_replacement n enter)

pub motion-lacks : (d : Draft) (i : Input) (operator : Operator) (n : ℕ) (by : ℕ → CharSearch) → LacksQuietly (Reaches d i operator (covers_search n by)) []
motion-lacks d i operator n by = goes_on_to (Reaches d i operator (covers_search n by)) d i [] (key enter ∷ []) _ (λ empty. cc) (to_character n by enter)

pub paste-lacks : (s : Sequences) (w : Environment) (d : Draft) (i : Input) (last : KeyEvent) → LacksQuietly (Tailed s w d i last pastes) []
paste-lacks s w d i last = goes_on_to (Tailed s w d i last pastes) d i [] (paste [] ∷ []) _ (λ empty. cc) (by_paste [])

pub second-lacks : (s : Sequences) (w : Environment) (d : Draft) (i : Input) (last : KeyEvent) (by : KeyEvent → Command) → Sequenced s last [] None → LacksQuietly (Tailed s w d i last (has_second by)) []
second-lacks s w d i last by sequenced = goes_on_to (Tailed s w d i last (has_second by)) d i [] (key enter ∷ []) _ (λ empty. cc) (by_second_key by enter sequenced)

-- what is read behind keys of a sequence that goes on
there : (s : Sequences) (w : Environment) (d : Draft) (i : Input) (last : KeyEvent) (meaning : Meaning) (more : List KeyEvent) (on : GoesOn s last more)
    → (command : Command) × Tailed s w d i last meaning (map key (more ++ (on.next ∷ on.back))) (quiet_read d i (map key (more ++ (on.next ∷ on.back))) command)
    → LacksQuietly (Tailed s w d i last meaning) (map key more)
there s w d i last meaning more on read =
    goes_on_to (Tailed s w d i last meaning) d i (map key more) (map key (on.next ∷ on.back)) read.0 (λ empty. cc)
    (subst (λ t. Tailed s w d i last meaning t (quiet_read d i t read.0)) (map-append key more (on.next ∷ on.back)) read.1)

unlisted-there : (s : Sequences) (w : Environment) (d : Draft) (i : Input) (last : KeyEvent) (keys : List KeyEvent) (found : Option Command) → Sequenced s last keys found
    → (command : Command) × Tailed s w d i last unlisted (map key keys) (quiet_read d i (map key keys) command)
unlisted-there s w d i last keys (Some command) read = (command, by_sequence unlisted keys command refl read)
unlisted-there s w d i last keys None read = (unknown, in_vain keys read)

second-there : (s : Sequences) (w : Environment) (d : Draft) (i : Input) (last : KeyEvent) (by : KeyEvent → Command) (more back : List KeyEvent) (next : KeyEvent) (found : Option Command)
    → Sequenced s last (more ++ (next ∷ back)) found
    → (command : Command) × Tailed s w d i last (has_second by) (map key (more ++ (next ∷ back))) (quiet_read d i (map key (more ++ (next ∷ back))) command)
second-there s w d i last by more back next (Some command) read = (command, by_sequence (has_second by) (more ++ (next ∷ back)) command refl read)
second-there s w d i last by [] back next None read = (by next, by_second_in_vain by next back read)
second-there s w d i last by (k ∷ more) back next None read = (by k, by_second_in_vain by k (more ++ (next ∷ back)) read)

pub sequence-lacks : (s : Sequences) (w : Environment) (d : Draft) (i : Input) (last : KeyEvent) (more : List KeyEvent) → GoesOn s last more → LacksQuietly (Tailed s w d i last unlisted) (map key more)
sequence-lacks s w d i last more on = there s w d i last unlisted more on (unlisted-there s w d i last (more ++ (on.next ∷ on.back)) on.found on.sequenced)

pub seconds-lack : (s : Sequences) (w : Environment) (d : Draft) (i : Input) (last : KeyEvent) (by : KeyEvent → Command) (more : List KeyEvent) → GoesOn s last more
    → LacksQuietly (Tailed s w d i last (has_second by)) (map key more)
seconds-lack s w d i last by more on = there s w d i last (has_second by) more on (second-there s w d i last by more on.back on.next on.found on.sequenced)
