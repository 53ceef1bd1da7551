-- Facts on events.
use Rattle.std.proofs.Common.{arith, rules, ◌≡◌, ◌<◌, ◌+◌, ◌++◌, ℕ, List, length, map, refl, ap}
use Rattle.std.proofs.Math.ListN.{drop, get_or, set, take}
use Rattle.std.proofs.lemmas.List.{get_or_default}
use Rattle.std.proofs.lemmas.List.Edits.{map_over_more}
use Rattle.line_keys.specs.Key.{normalized}
use Rattle.std.specs.Bool.{Decides}
use Rattle.std.specs.Cmp.Lexicographic.{pointwise}
use Rattle.std.proofs.lemmas.Slice.Eq.{slice_eq-Decides}
use Rattle.line_input.specs.Event.{Chord, each_key, keys, mouse, same_key, same_chord}
use Rattle.line_keys.specs.declared.keys.KeyEvent.{KeyEvent}

-- the tests of keys and of events decide whether they are equal
pub same_key-says : (a b : KeyEvent) → Decides (same_key a b) (a ≡ b)
same_key-says a b = search rules

pub same_chord-says : (a b : Chord) → Decides (same_chord a b) (a ≡ b)
same_chord-says each_key each_key = (λ _. refl, λ _. refl)
same_chord-says each_key (keys b) = (λ e. absurd (cc), λ e. absurd (cc))
same_chord-says each_key mouse = (λ e. absurd (cc), λ e. absurd (cc))
same_chord-says (keys a) each_key = (λ e. absurd (cc), λ e. absurd (cc))
same_chord-says (keys a) (keys b) =
    let d = slice_eq-Decides same_key-says a b (pointwise same_key a b) refl in (λ e. ap keys (d.0 e), λ e. d.1 (cc))
same_chord-says (keys a) mouse = (λ e. absurd (cc), λ e. absurd (cc))
same_chord-says mouse each_key = (λ e. absurd (cc), λ e. absurd (cc))
same_chord-says mouse (keys b) = (λ e. absurd (cc), λ e. absurd (cc))
same_chord-says mouse mouse = (λ _. refl, λ _. refl)

-- one more key put into normal form
pub normal_more : (all now : List KeyEvent) (i : ℕ) (d k : KeyEvent) → i < length all → length now ≡ length all → now ≡ map normalized (take i all) ++ drop i all
    → k ≡ normalized (get_or now i d) → set now i k ≡ map normalized (take (i + 1) all) ++ drop (i + 1) all
normal_more all now i d k within same is normal =
    rw normal (map_over_more normalized all now i (get_or now i d) within is (get_or_default now i d (get_or now i d) (omega (arith, within, same))))
