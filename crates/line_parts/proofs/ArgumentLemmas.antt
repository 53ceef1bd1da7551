-- A text that begins with a command and a space.
use Rattle.std.proofs.Common.{◌≡◌, ◌∙◌, ℕ, Bool, cond, false, List, [], ◌∷◌, ◌++◌, map, drop, length, get_or, Option, take, eqb, refl, sym, ap, arith, append_assoc, Decides, ⊎_elim}
use Rattle.std.proofs.lemmas.Bool.{cases_Bool}
use Rattle.std.proofs.lemmas.Bool.Decides.{Decides-eqb, same_from_decides}
use Rattle.std.proofs.lemmas.List.{append_cancel_left}
use Rattle.std.proofs.lemmas.Slice.Eq.{starts_is}
use Rattle.std.proofs.lemmas.Simd.{map-map}
use Rattle.std.specs.List.{slice_range, starts_with}
use Rattle.std.specs.Str.Pattern.{LacksTextAt}
use Rattle.line_parts.specs.Candidate.{Completion, Offer}
use Rattle.line_parts.specs.Arguments.{is_argument}

-- where the command does not stand first, it does not with the space
pub not_argument : (command text : List ℕ) → LacksTextAt command text 0 → false ≡ starts_with eqb text (command ++ 32 ∷ [])
not_argument command text lacks =
    let whole : List ℕ = command ++ 32 ∷ [] in
    let begins = starts_is Decides-eqb text whole _ refl in
    sym (⊎_elim (λ e. absurd (lacks _ (begins.0 e ∙ append_assoc command (32 ∷ []) (drop (length whole) text)))) (λ e. e) (cases_Bool (starts_with eqb text whole)))

begins_so : (rest : List ℕ) → get_or rest 0 0 ≡ 32 → (behind : List ℕ) × (rest ≡ 32 ∷ behind)
begins_so [] is = absurd (cc)
begins_so (c ∷ rest) is = (rest, ap (λ d. d ∷ rest) is)

-- where it stands first, the first byte behind it tells
pub argument : (command text rest : List ℕ) (r : Bool) → text ≡ command ++ rest → Decides r (get_or rest 0 0 ≡ 32) → r ≡ starts_with eqb text (command ++ 32 ∷ [])
argument command text rest r is tells =
    let whole : List ℕ = command ++ 32 ∷ [] in
    let begins = starts_is Decides-eqb text whole _ refl in
    same_from_decides r (starts_with eqb text whole) tells (
      λ e. ap (λ l. get_or l 0 0) (append_cancel_left command rest _ (sym is ∙ begins.0 e ∙ append_assoc command (32 ∷ []) (drop (length whole) text))),
      λ e. let at = begins_so rest e in begins.1 at.0 (is ∙ ap (λ l. command ++ l) at.1 ∙ sym (append_assoc command (32 ∷ []) at.0)),
    )

-- one of two is asked, and offers the same under another name
pub asked : (test is : Bool) (one other : Completion) (start : ℕ) (offers named : List Offer) → test ≡ is → named ≡ offers
    → record { start = start; offers = offers } ≡ cond is one other
    → record { start = start; offers = named } ≡ cond test one other
asked test is one other start offers named answered same said = rw (answered, same) said

-- candidates under another name offer what they offered
pub named_so : {X Z : Type 0} (name : X → Z) (offer : Z → Offer) (found : List X) (each : List Z) → each ≡ map name found → map offer each ≡ map (λ x. offer (name x)) found
named_so name offer found each so = ap (map offer) so ∙ map-map offer name found

-- the test was asked about the text before the cursor
pub tested : (command word line before : List ℕ) (cursor : ℕ) (answer is : Bool) → word ≡ command → before ≡ slice_range line 0 cursor → answer ≡ is_argument word before
    → answer ≡ is → is_argument command (take cursor line) ≡ is
tested command word line before cursor answer is same cut told decided =
    let front : before ≡ take cursor line = cut ∙ ap (λ n. take n line) (omega arith) in
    ap (λ c. is_argument c (take cursor line)) (sym same) ∙ ap (is_argument word) (sym front) ∙ sym told ∙ decided
