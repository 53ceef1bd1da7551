-- Where a term stands in a line.
use Rattle.std.proofs.Common.{◌≡◌, ◌<◌, ℕ, ◌+◌, Bool, true, false, MatchBool, MatchOption, List, length, drop, Option, Some, None, eqb, refl, sym, ◌∙◌, arith, ⊎_elim}
use Rattle.std.proofs.lemmas.Bool.{cases_Bool}
use Rattle.std.proofs.lemmas.Bool.Decides.{Decides-eqb}
use Rattle.std.proofs.lemmas.Slice.Eq.{starts_is}
use Rattle.std.proofs.lemmas.Str.Pattern.{starts_text}
use Rattle.std.specs.List.{starts_with}
use Rattle.std.specs.Str.Pattern.{FindsText, FindsTextPrefix, HasPrefixMatch, LacksTextAt, MatchBeginsAt}
use Rattle.line_parts.proofs.HistoryLemmas.{least_below_is, none_below}
use Rattle.line_parts.specs.History.{behind_start, first_in}

-- where a term doesn't occur, the rest of the line does not start with it
pub lacking : (term line : List ℕ) (i : ℕ) → LacksTextAt term line i → starts_with eqb (drop i line) term ≡ false
lacking term line i none =
    ⊎_elim (λ e. absurd (none _ ((starts_is Decides-eqb (drop i line) term _ refl).0 e))) (λ e. e) (cases_Bool (starts_with eqb (drop i line) term))

pub found_inside : (r : Option ℕ) (term line : List ℕ) → MatchOption r (FindsText term line None) (MatchBeginsAt (FindsText term) line) → r ≡ first_in term line
found_inside None term line none =
    let below : (k : ℕ) → k < length line + 1 → starts_with eqb (drop k line) term ≡ false = λ k lt. lacking term line k (none k (omega (arith, lt))) in
    sym (none_below (length line + 1) (λ k. starts_with eqb (drop k line) term) below)
found_inside (Some i) term line at =
    let within : i < length line + 1 = omega (arith, at.3.0) in
    let here : starts_with eqb (drop i line) term ≡ true = (starts_is Decides-eqb (drop i line) term _ refl).1 _ at.1.1.split in
    let below : (k : ℕ) → k < i → starts_with eqb (drop k line) term ≡ false = λ k lt. lacking term line k (at.1.0 k lt) in
    sym (least_below_is (length line + 1) i (λ k. starts_with eqb (drop k line) term) within below here)

pub found_at_start : (r : Bool) (term line : List ℕ) → MatchBool r (HasPrefixMatch (FindsTextPrefix term) line) (FindsTextPrefix term line None) → r ≡ true
    → Some (length term) ≡ behind_start term line
found_at_start r term line h e = let t : starts_with eqb line term ≡ true = sym (starts_text r term line h) ∙ e in rw t refl

pub not_at_start : (r : Bool) (term line : List ℕ) → MatchBool r (HasPrefixMatch (FindsTextPrefix term) line) (FindsTextPrefix term line None) → r ≡ false
    → None ≡ behind_start term line
not_at_start r term line h e = let t : starts_with eqb line term ≡ false = sym (starts_text r term line h) ∙ e in rw t refl
