-- Clusters that are passed over up to the first that is alphanumeric.
use Rattle.std.proofs.Common.{◌≡◌, ℕ, ◌+◌, ◌<◌, ◌≤◌, zero, suc, Bool, true, false, nat_lt, List, [], ◌∷◌, length, drop, get_or, Some, None, refl, sym, ap, ◌∙◌, arith, below_more}
use Rattle.std.proofs.lemmas.Bool.Decides.{nat_tests}
use Rattle.std.proofs.lemmas.List.Sums.{position_or_len_is}
use Rattle.std.specs.List.{concat, position, position_or_len}
use Rattle.std.specs.Option.{option_map}
use Rattle.line_buffer.proofs.ListLemmas.{drop_one_more}
use Rattle.line_buffer.proofs.WordLemmas.{bytes_to-rest, drop_end, drop_within}
use Rattle.line_buffer.specs.Word.{bytes_to}

drop_at : {A : Type 0} (k : ℕ) (xs ys : List A) (x d : A) → drop k xs ≡ x ∷ ys → get_or xs k d ≡ x
drop_at zero [] ys x d e = cc
drop_at zero (w ∷ ws) ys x d e = cc
drop_at (suc k) [] ys x d e = cc
drop_at (suc k) (w ∷ ws) ys x d e = drop_at k ws ys x d e

-- the first k clusters were passed, and none of them passes the test
pub record Skipped (test : List ℕ → Bool) (cs rest : List (List ℕ)) (at : ℕ) : Type 0 where
  pub k : ℕ
  pub within : k ≤ length cs
  pub rest_is : rest ≡ drop k cs
  pub at_is : at ≡ bytes_to cs k
  pub none : (j : ℕ) → j < k → test (get_or cs j []) ≡ false

pub skipped-next : (test : List ℕ → Bool) (cs rest rest' : List (List ℕ)) (cluster : List ℕ) (at at' : ℕ) → Skipped test cs rest at → rest ≡ cluster ∷ rest' → test cluster ≡ false
    → at' + length (concat rest') ≡ length (concat cs) → Skipped test cs rest' at'
skipped-next test cs rest rest' cluster at at' s e t p =
    let taken = sym s.rest_is ∙ e in
    let others = ap (λ ps. length (concat ps)) (drop_one_more s.k cs rest' cluster taken) in
    record {
      k = s.k + 1;
      within = omega (arith, drop_within s.k cs rest' cluster taken);
      rest_is = sym (drop_one_more s.k cs rest' cluster taken);
      at_is = omega (arith, others, bytes_to-rest cs (s.k + 1));
      none = below_more _ _ s.none (ap test (drop_at s.k cs rest' cluster [] taken) ∙ t);
    }

position-at : (test : List ℕ → Bool) (cs : List (List ℕ)) (k : ℕ) → k < length cs → position_or_len test cs ≡ k → position test cs ≡ Some k
position-at test cs k h e = let small : nat_lt k (length cs) ≡ true = grind (arith, nat_tests) in rw (e, small) refl

position-none : (test : List ℕ → Bool) (cs : List (List ℕ)) → position_or_len test cs ≡ length cs → position test cs ≡ None
position-none test cs e = let large : nat_lt (length cs) (length cs) ≡ false = grind (arith, nat_tests) in rw (e, large) refl

pub skipped-found : (test : List ℕ → Bool) (cs rest rest' : List (List ℕ)) (cluster : List ℕ) (at : ℕ) → Skipped test cs rest at → rest ≡ cluster ∷ rest' → test cluster ≡ true
    → Some at ≡ option_map (bytes_to cs) (position test cs)
skipped-found test cs rest rest' cluster at s e t =
    let taken = sym s.rest_is ∙ e in
    let within = drop_within s.k cs rest' cluster taken in
    let first = position_or_len_is test cs s.k [] s.within s.none (λ h. ap test (drop_at s.k cs rest' cluster [] taken) ∙ t) in
    ap Some s.at_is ∙ ap (option_map (bytes_to cs)) (sym (position-at test cs s.k within first))

pub skipped-end : (test : List ℕ → Bool) (cs rest : List (List ℕ)) (at : ℕ) → Skipped test cs rest at → rest ≡ [] → None ≡ option_map (bytes_to cs) (position test cs)
skipped-end test cs rest at s e =
    let past = drop_end s.k cs (sym s.rest_is ∙ e) in
    let within = s.within in
    let all : s.k ≡ length cs = omega arith in
    let first = position_or_len_is test cs s.k [] s.within s.none (λ h. absurd (omega arith)) in
    ap (option_map (bytes_to cs)) (sym (position-none test cs (first ∙ all)))

pub skipped-fits : (test : List ℕ → Bool) (cs rest rest' : List (List ℕ)) (cluster : List ℕ) (at : ℕ) → Skipped test cs rest at → rest ≡ cluster ∷ rest'
    → length (concat rest') ≤ length (concat cs)
skipped-fits test cs rest rest' cluster at s e =
    omega (arith, bytes_to-rest cs (s.k + 1), ap (λ ps. length (concat ps)) (drop_one_more s.k cs rest' cluster (sym s.rest_is ∙ e)))
