-- What is held back behind ESC P is typed.
use Rattle.std.proofs.Common.{◌≡◌, refl, sym, ◌∙◌, ap, ap₂, arith, ℕ, true, false, List, [], ◌∷◌, ◌++◌, map, append_assoc, ◌==◌, ◌||◌, if◌then◌else◌}
use Rattle.std.specs.Prelude.{encode_utf8_all}
use Rattle.std.specs.Char.{encode_utf8}
use Rattle.std.specs.List.{list_all}
use Rattle.std.specs.Str.{all_scalars}
use Rattle.std.proofs.lemmas.Bool.{and_parts}
use Rattle.std.proofs.lemmas.List.{append-nil}
use Rattle.line_keys.specs.Item.{key}
use Rattle.line_keys.specs.Key.{event_of}
use Rattle.line_keys.specs.declared.keys.KeyEvent.{KeyEvent}
use Rattle.line_keys.specs.declared.keys.TheConstants.Modifiers.{ALT, NONE}
use Rattle.line_term.specs.Begun.{gives, goes_on_as_text, leads_to}
use Rattle.line_term.specs.Decoder.{DecoderState, begins_no_char, flushed, followed_by, given_turn, leaves, read, read_char}
use Rattle.line_term.specs.DecoderLaws.{HeldIsTyped, is_held}
use Rattle.line_term.specs.declared.begun.Begun.TheVariants.{Nothing, Escape, Opening, Device}
use Rattle.line_term.specs.declared.sequence.Given.TheVariants.{Dropped, Held}
use Rattle.line_term.proofs.ReadingLemmas.{pieces, reads_char}
use Rattle.line_term.proofs.TypingLemmas.{ascii, at, idle_is, is_false}

-- these keys are held back
abbrev holding : DecoderState → List KeyEvent → DecoderState
holding t ks = record (at t (Device false)) { held = ks }

-- the first character behind ESC P
held_first : (t : DecoderState) (c : ℕ) → goes_on_as_text 80 c ≡ true
    → begins_no_char (read_char c (at t (Opening 80))) ≡ leaves (holding t (event_of 80 ALT ∷ event_of c NONE ∷ []))
held_first t c goes = rw goes refl

-- one more
held_one : (t : DecoderState) (ks : List KeyEvent) (c : ℕ) → is_held c ≡ true
    → begins_no_char (read_char c (holding t ks)) ≡ leaves (holding t (ks ++ event_of c NONE ∷ []))
held_one t ks c is =
    let parts = and_parts _ _ is in
    let escape = is_false (c == 27) parts.0 in
    let ends = is_false ((c == 7) || (c == 24) || (c == 26)) parts.1 in
    ap₂ (λ a b. begins_no_char
    (given_turn (if a then gives Nothing Dropped else if b then leads_to (Device true) else gives (Device false) (Held c)) (holding t ks))) ends escape

held_text : (t : DecoderState) (ks : List KeyEvent) (cs : List ℕ) → all_scalars cs ≡ true → list_all is_held cs ≡ true
    → read (holding t ks) (encode_utf8_all cs) ≡ leaves (holding t (ks ++ map (λ c. event_of c NONE) cs))
unfolding read
held_text t ks [] scalars is = ap (λ xs. leaves (holding t xs)) (sym (append-nil ks))
held_text t ks (c ∷ cs) scalars is =
    let parts = and_parts _ _ scalars in
    let others = and_parts _ _ is in
    let one = reads_char c parts.0 (holding t ks) ∙ held_one t ks c others.0 in
    pieces (holding t ks) (encode_utf8 c) (encode_utf8_all cs) ∙ ap (λ u. followed_by u (λ v. read v (encode_utf8_all cs))) one
    ∙ held_text t (ks ++ event_of c NONE ∷ []) cs parts.1 others.1
    ∙ ap (λ xs. leaves (holding t xs)) (append_assoc ks (event_of c NONE ∷ []) (map (λ d. event_of d NONE) cs))

keys_of : (cs : List ℕ) → map key (map (λ c. event_of c NONE) cs) ≡ map (λ c. key (event_of c NONE)) cs
keys_of [] = refl
keys_of (c ∷ cs) = ap (λ ks. key (event_of c NONE) ∷ ks) (keys_of cs)

-- all of them are held back
all_held : (t : DecoderState) (c : ℕ) (cs : List ℕ) → all_scalars (c ∷ cs) ≡ true → goes_on_as_text 80 c ≡ true → list_all is_held cs ≡ true
    → read (at t Nothing) (27 ∷ 80 ∷ encode_utf8_all (c ∷ cs)) ≡ leaves (holding t (event_of 80 ALT ∷ event_of c NONE ∷ map (λ d. event_of d NONE) cs))
all_held t c cs scalars goes is =
    let parts = and_parts _ _ scalars in
    ascii t (at t (Escape false)) Nothing 27 _ (omega arith) refl refl refl
    ∙ ascii t (at t (Opening 80)) (Escape false) 80 _ (omega arith) refl refl refl
    ∙ pieces (at t (Opening 80)) (encode_utf8 c) (encode_utf8_all cs)
    ∙ ap (λ u. followed_by u (λ v. read v (encode_utf8_all cs))) (reads_char c parts.0 (at t (Opening 80)) ∙ held_first t c goes)
    ∙ held_text t (event_of 80 ALT ∷ event_of c NONE ∷ []) cs parts.1 is

pub held_is_typed : HeldIsTyped
held_is_typed s c cs idle scalars goes is =
    let t = record s { pasted = [] } in
    ap (λ u. (followed_by (read u (27 ∷ 80 ∷ encode_utf8_all (c ∷ cs))) flushed).items) (idle_is s idle)
    ∙ ap (λ u. (followed_by u flushed).items) (all_held t c cs scalars goes is)
    ∙ ap (λ ks. key (event_of 80 ALT) ∷ key (event_of c NONE) ∷ ks) (keys_of cs)
