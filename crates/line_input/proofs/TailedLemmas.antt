-- What is read behind a key is fixed by the key.
use Rattle.std.proofs.Common.{◌≡◌, ℕ, true, append_assoc, List, [], ◌∷◌, ◌++◌, map, Option, Some, None, option_map, refl, sym, ◌∙◌, ap, subst}
use Rattle.std.specs.Prelude.{unwrap_or}
use Rattle.std.proofs.lemmas.List.{append-nil}
use Rattle.line_buffer.specs.Changes.{last_insert_of}
use Rattle.line_buffer.specs.declared.movement.Movement.TheVariants.{ViCharSearch}
use Rattle.line_parts.specs.Environment.{Environment}
use Rattle.line_keys.specs.Command.{Command, insert, noop, unknown}
use Rattle.line_keys.specs.Model.Draft.{Draft}
use Rattle.line_keys.specs.Item.{Item, key, paste}
use Rattle.line_keys.specs.Motion.{replaced_by, search_to}
use Rattle.line_keys.specs.Table.{Meaning, again, gives, has_second, operates, pastes, replaces_char, searches, searches_again, unlisted}
use Rattle.line_keys.specs.declared.keys.KeyEvent.{KeyEvent}
use Rattle.line_input.specs.Input.{Input}
use Rattle.line_input.specs.Operation.{Operated}
use Rattle.line_input.specs.Read.{Read, quiet_read, searched_read}
use Rattle.line_input.specs.Sequence.{Sequenced, Sequences}
use Rattle.line_input.specs.Tail.{Tailed, alone, begins_sequences, by_character, by_last_change, by_last_search, by_motion, by_paste, by_replacement, by_second_in_vain, by_second_key, by_sequence, changed_again, in_vain, move_or}
use Rattle.line_input.proofs.ListFitLemmas.{nothing-behind, one-item, same-key, same-text}
use Rattle.line_input.proofs.OperationLemmas.{Operated-fit}
use Rattle.line_input.proofs.SequenceLemmas.{sequences_fit}

-- the items behind keys that were read for a sequence, and the command: by its own command, or by the second key of all
abbrev IsSecond : (KeyEvent → Command) → List KeyEvent → Option Command → List Item → Command → Type 0
IsSecond by more (Some answer) rest command = (rest ≡ []) × (command ≡ answer)
IsSecond by [] None rest command = (second : KeyEvent) × (rest ≡ key second ∷ []) × (command ≡ by second)
IsSecond by (second ∷ _) None rest command = (rest ≡ []) × (command ≡ by second)

-- the same as `Tailed`, by equations for each meaning
abbrev IsTail : Sequences → Environment → Draft → Input → KeyEvent → Meaning → List Item → Read → Type 0
IsTail sequences environment draft input last (gives by) tail read = (tail ≡ []) × (read ≡ quiet_read draft input [] by)
IsTail sequences environment draft input last (searches n by) tail read =
    (second : KeyEvent) × (tail ≡ key second ∷ []) × (read ≡ searched_read draft input (key second ∷ []) (move_or unknown) n (search_to by second))
IsTail sequences environment draft input last (searches_again n change) tail read =
    (tail ≡ []) × (read ≡ quiet_read draft input [] (move_or noop (option_map (λ search. ViCharSearch n (change search)) input.last_search)))
IsTail sequences environment draft input last (replaces_char n) tail read =
    (second : KeyEvent) × (tail ≡ key second ∷ []) × (read ≡ quiet_read draft input (key second ∷ []) (replaced_by n second))
IsTail sequences environment draft input last (again new) tail read =
    (tail ≡ []) × (read ≡ quiet_read draft input [] (changed_again new (last_insert_of draft.changes.entries) input.last_change))
IsTail sequences environment draft input last (operates operator n) tail read = Operated environment draft input operator n tail read
IsTail sequences environment draft input last pastes tail read =
    (text : List ℕ) × (tail ≡ paste text ∷ []) × (read ≡ quiet_read draft input (paste text ∷ []) (insert 1 text))
IsTail sequences environment draft input last (has_second by) tail read =
    (more : List KeyEvent) × (found : Option Command) × (rest : List Item) × Sequenced sequences last more found
    × (tail ≡ map key more ++ rest) × (command : Command) × IsSecond by more found rest command × (read ≡ quiet_read draft input tail command)
IsTail sequences environment draft input last unlisted tail read =
    (more : List KeyEvent) × (found : Option Command) × Sequenced sequences last more found
    × (tail ≡ map key more) × (read ≡ quiet_read draft input tail (unwrap_or found unknown))

by-sequence : (s : Sequences) (w : Environment) (d : Draft) (i : Input) (last : KeyEvent) (meaning : Meaning) (more : List KeyEvent) (command : Command) → begins_sequences meaning ≡ true
    → Sequenced s last more (Some command) → IsTail s w d i last meaning (map key more) (quiet_read d i (map key more) command)
by-sequence s w d i last (gives by) more command off read = absurd (cc)
by-sequence s w d i last (searches n by) more command off read = absurd (cc)
by-sequence s w d i last (searches_again n change) more command off read = absurd (cc)
by-sequence s w d i last (replaces_char n) more command off read = absurd (cc)
by-sequence s w d i last (again new) more command off read = absurd (cc)
by-sequence s w d i last (operates operator n) more command off read = absurd (cc)
by-sequence s w d i last pastes more command off read = absurd (cc)
by-sequence s w d i last (has_second by) more command on read = (more, Some command, [], read, sym (append-nil (map key more)), command, (refl, refl), refl)
by-sequence s w d i last unlisted more command on read = (more, Some command, read, refl, refl)

is-tail : (s : Sequences) (w : Environment) (d : Draft) (i : Input) (last : KeyEvent) (meaning : Meaning) (tail : List Item) (read : Read)
    → Tailed s w d i last meaning tail read → IsTail s w d i last meaning tail read
is-tail s w d i last _ _ _ (alone command) = (refl, refl)
is-tail s w d i last _ _ _ (by_character n by second) = (second, refl, refl)
is-tail s w d i last _ _ _ (by_last_search n change) = (refl, refl)
is-tail s w d i last _ _ _ (by_replacement n second) = (second, refl, refl)
is-tail s w d i last _ _ _ (by_last_change new) = (refl, refl)
is-tail s w d i last _ _ _ (by_motion operator n items read motion) = motion
is-tail s w d i last _ _ _ (by_paste text) = (text, refl, refl)
is-tail s w d i last _ _ _ (by_sequence meaning more command begins read) = by-sequence s w d i last meaning more command begins read
is-tail s w d i last _ _ _ (by_second_key by second none) = ([], None, key second ∷ [], none, refl, by second, (second, refl, refl), refl)
is-tail s w d i last _ _ _ (by_second_in_vain by second more read) =
    (second ∷ more, None, [], read, sym (append-nil (map key (second ∷ more))), by second, (refl, refl), refl)
is-tail s w d i last _ _ _ (in_vain more read) = (more, None, read, refl, refl)

-- so it is with the second key of all behind keys read for a sequence
IsSecond-fit : (by : KeyEvent → Command) (keys : List KeyEvent) (found : Option Command) (rest more : List Item) (c c' : Command)
    → IsSecond by keys found rest c → IsSecond by keys found (rest ++ more) c' → (more ≡ []) × (c ≡ c')
IsSecond-fit by keys (Some answer) rest more c c' h k = (nothing-behind rest more h.0 k.0, h.1 ∙ sym k.1)
IsSecond-fit by [] None rest more c c' h k =
    let one = one-item (key h.0) (key k.0) rest more h.1 k.1 in
    (one.0, h.2 ∙ ap by (same-key h.0 k.0 one.1) ∙ sym k.2)
IsSecond-fit by (second ∷ keys) None rest more c c' h k = (nothing-behind rest more h.0 k.0, h.1 ∙ sym k.1)

-- the same items with nothing behind them, and the same command, come to the same
same-read : (d : Draft) (i : Input) (tail more : List Item) (c c' : Command) → more ≡ [] → c ≡ c' → quiet_read d i tail c ≡ quiet_read d i (tail ++ more) c'
same-read d i tail more c c' none same =
    ap (λ t. quiet_read d i t c) (sym (append-nil tail)) ∙ ap (λ m. quiet_read d i (tail ++ m) c) (sym none) ∙ ap (λ x. quiet_read d i (tail ++ more) x) same

-- so what is read behind a key is fixed by the key, and comes to one thing
IsTail-fit : (s : Sequences) (w : Environment) (d : Draft) (i : Input) (last : KeyEvent) (meaning : Meaning) (tail more : List Item) (c c' : Read)
    → IsTail s w d i last meaning tail c → IsTail s w d i last meaning (tail ++ more) c' → (more ≡ []) × (c ≡ c')
IsTail-fit s w d i last (gives command) tail more c c' h k = (nothing-behind tail more h.0 k.0, h.1 ∙ sym k.1)
IsTail-fit s w d i last (searches n forth) tail more c c' h k =
    let one = one-item (key h.0) (key k.0) tail more h.1 k.1 in
    (one.0, h.2 ∙ ap (λ x. searched_read d i (key x ∷ []) (move_or unknown) n (search_to forth x)) (same-key h.0 k.0 one.1) ∙ sym k.2)
IsTail-fit s w d i last (searches_again n change) tail more c c' h k = (nothing-behind tail more h.0 k.0, h.1 ∙ sym k.1)
IsTail-fit s w d i last (replaces_char n) tail more c c' h k =
    let one = one-item (key h.0) (key k.0) tail more h.1 k.1 in
    (one.0, h.2 ∙ ap (λ x. quiet_read d i (key x ∷ []) (replaced_by n x)) (same-key h.0 k.0 one.1) ∙ sym k.2)
IsTail-fit s w d i last (again new) tail more c c' h k = (nothing-behind tail more h.0 k.0, h.1 ∙ sym k.1)
IsTail-fit s w d i last (operates operator n) tail more c c' h k = Operated-fit w d i operator n tail more c c' h k
IsTail-fit s w d i last pastes tail more c c' h k =
    let one = one-item (paste h.0) (paste k.0) tail more h.1 k.1 in
    (one.0, h.2 ∙ ap (λ x. quiet_read d i (paste x ∷ []) (insert 1 x)) (same-text h.0 k.0 one.1) ∙ sym k.2)
IsTail-fit s w d i last (has_second by) tail more c c' h k =
    let whole : map key h.0 ++ (h.2 ++ more) ≡ map key k.0 ++ k.2 =
    sym (append_assoc (map key h.0) h.2 more) ∙ sym (ap (λ t. t ++ more) h.4) ∙ k.4 in
    let fits = sequences_fit s last h.0 k.0 h.1 k.1 (h.2 ++ more) k.2 h.3 k.3 whole in
    let P : List KeyEvent → Type 0 = λ ks. IsSecond by ks k.1 k.2 k.5 in
    let Q : Option Command → Type 0 = λ f. IsSecond by h.0 f k.2 k.5 in
    let R : List Item → Type 0 = λ t. IsSecond by h.0 h.1 t k.5 in
    let one = IsSecond-fit by h.0 h.1 h.2 more h.5 k.5 h.6 (subst R (sym fits.same_rest) (subst Q (sym fits.same_answer) (subst P (sym fits.same_keys) k.6))) in
    (one.0, h.7 ∙ same-read d i tail more h.5 k.5 one.0 one.1 ∙ sym k.7)
IsTail-fit s w d i last unlisted tail more c c' h k =
    let whole : map key h.0 ++ more ≡ map key k.0 ++ [] = sym (ap (λ t. t ++ more) h.3) ∙ k.3 ∙ sym (append-nil (map key k.0)) in
    let fits = sequences_fit s last h.0 k.0 h.1 k.1 more [] h.2 k.2 whole in
    let same = ap (λ f. unwrap_or f unknown) fits.same_answer in
    (fits.same_rest, h.4 ∙ same-read d i tail more (unwrap_or h.1 unknown) (unwrap_or k.1 unknown) fits.same_rest same ∙ sym k.4)

pub Tailed-fit : (s : Sequences) (w : Environment) (d : Draft) (i : Input) (last : KeyEvent) (meaning : Meaning) (tail more : List Item) (c c' : Read)
    → Tailed s w d i last meaning tail c → Tailed s w d i last meaning (tail ++ more) c' → (more ≡ []) × (c ≡ c')
Tailed-fit s w d i last meaning tail more c c' h k =
    IsTail-fit s w d i last meaning tail more c c' (is-tail s w d i last meaning tail c h) (is-tail s w d i last meaning (tail ++ more) c' k)
