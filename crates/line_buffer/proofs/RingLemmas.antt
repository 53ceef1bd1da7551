-- Slots of a kill ring.
use Rattle.std.proofs.Common.{◌≡◌, ℕ, ◌<◌, ◌≢◌, List, [], length, map, get_or, set, String, Result, Ok, Err, sym, ap, ◌∙◌, arith}
use Rattle.std.specs.Prelude.{OnErr}
use Rattle.std.proofs.lemmas.Bool.Decides.{nat_tests}
use Rattle.std.proofs.lemmas.List.{map-set, get_or-map, length-map, set-get_or}
use Rattle.std.specs.String.{string_bytes}
use Rattle.std.specs.declared.alloc.Global.{Global}
use Rattle.line_buffer.specs.KillRing.{Ring, with_slot, joined}
use Rattle.line_buffer.specs.declared.kill_ring.Mode.{Mode}

with_slot-held : (slot : ℕ) (text : List ℕ) (slots : List (List ℕ)) → slot ≢ length slots → with_slot slot text slots ≡ set slots slot text
with_slot-held slot text slots h = grind (arith, nat_tests)

-- a ring with other slots and another current one
abbrev made : Ring → List (List ℕ) → ℕ → Ring
made r slots current = record { size = r.size; slots = slots; current = current; last = r.last }

pub put_held : (r : Ring) (slots : List (String Global)) (slot : ℕ) (text : String Global) → r.slots ≡ map string_bytes slots → slot ≢ length slots
    → made r (map string_bytes (set slots slot text)) slot ≡ made r (with_slot slot (string_bytes text) r.slots) slot
put_held r slots slot text e h =
    let len : length r.slots ≡ length slots = ap length e ∙ length-map slots string_bytes in
    let other : slot ≢ length r.slots = λ same. h (same ∙ len) in
    let held : map string_bytes (set slots slot text) ≡ with_slot slot (string_bytes text) r.slots =
    map-set string_bytes slots slot text ∙ ap (λ s. set s slot (string_bytes text)) (sym e) ∙ sym (with_slot-held slot (string_bytes text) r.slots other) in
    ap (λ s. made r s slot) held

pub joined_slot : (r : Ring) (slots : List (String Global)) (mode : Mode) (more : List ℕ) (old new : String Global) → r.slots ≡ map string_bytes slots → r.current < length slots
    → old ≡ get_or slots r.current old → string_bytes new ≡ joined mode (string_bytes old) more
    → made r (map string_bytes (set slots r.current new)) r.current ≡ made r (set r.slots r.current (joined mode (get_or r.slots r.current []) more)) r.current
joined_slot r slots mode more old new e h o n =
    let read : get_or r.slots r.current [] ≡ string_bytes old =
    ap (λ s. get_or s r.current []) e ∙ get_or-map string_bytes slots r.current old [] h ∙ ap string_bytes (sym o) in
    let written : map string_bytes (set slots r.current new) ≡ set r.slots r.current (joined mode (get_or r.slots r.current []) more) =
    map-set string_bytes slots r.current new ∙ ap (λ s. set s r.current (string_bytes new)) (sym e)
    ∙ ap (set r.slots r.current) (n ∙ ap (λ t. joined mode t more) (sym read)) in
    ap (λ s. made r s r.current) written

-- the current slot holds the text that it held
pub kept_slot : (r : Ring) (slots : List (String Global)) (old new : String Global) → r.slots ≡ map string_bytes slots → r.current < length slots
    → old ≡ get_or slots r.current old → string_bytes new ≡ string_bytes old
    → made r (map string_bytes (set slots r.current new)) r.current ≡ r
kept_slot r slots old new e h o n =
    let read : get_or r.slots r.current [] ≡ string_bytes old =
    ap (λ s. get_or s r.current []) e ∙ get_or-map string_bytes slots r.current old [] h ∙ ap string_bytes (sym o) in
    let written : map string_bytes (set slots r.current new) ≡ r.slots =
    map-set string_bytes slots r.current new ∙ ap (λ s. set s r.current (string_bytes new)) (sym e)
    ∙ ap (set r.slots r.current) (n ∙ sym read) ∙ set-get_or r.slots r.current [] in
    ap (λ s. made r s r.current) written

-- what holds in any case holds after an error
pub on_err : {T E : Type 0} (r : Result T E) (P : Type 0) → P → OnErr r P
on_err (Ok x) P p = tt
on_err (Err x) P p = p
