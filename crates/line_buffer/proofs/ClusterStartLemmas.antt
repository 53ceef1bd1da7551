-- Clusters that are passed over up to the one that holds a byte.
use Rattle.std.proofs.Common.{◌≡◌, inl, inr, ℕ, ◌+◌, ◌<◌, ◌≤◌, zero, suc, nat_le, Bool, true, false, List, [], ◌∷◌, length, drop, take, sym, ap, ◌∙◌, arith, length-append}
use Rattle.std.proofs.lemmas.Bool.{cases_lt}
use Rattle.std.specs.List.{concat}
use Rattle.line_buffer.proofs.FittingLemmas.{last_fitting-no, last_fitting-yes, le_test, lt_test}
use Rattle.line_buffer.proofs.ListLemmas.{drop_one_more}
use Rattle.line_buffer.proofs.WordLemmas.{bytes_to-rest, drop_end, drop_within}
use Rattle.line_buffer.specs.Lines.{last_fitting}
use Rattle.line_buffer.specs.Word.{bytes_to}

-- the first k clusters were passed, and they end before the byte
pub record Passed (cs rest : List (List ℕ)) (place start : ℕ) : Type 0 where
  pub k : ℕ
  pub within : k ≤ length cs
  pub rest_is : rest ≡ drop k cs
  pub start_is : start ≡ bytes_to cs k
  pub low : start ≤ place

-- where a further cluster ends
ends_at : (cs rest rest' : List (List ℕ)) (cluster : List ℕ) (place start end : ℕ) → (p : Passed cs rest place start) → rest ≡ cluster ∷ rest'
    → end + length (concat rest') ≡ length (concat cs) → end ≡ bytes_to cs (p.k + 1)
ends_at cs rest rest' cluster place start end p e f =
    let others = ap (λ ps. length (concat ps)) (drop_one_more p.k cs rest' cluster (sym p.rest_is ∙ e)) in
    omega (arith, f, others, bytes_to-rest cs (p.k + 1))

pub passed-next : (cs rest rest' : List (List ℕ)) (cluster : List ℕ) (place start end : ℕ) → Passed cs rest place start → rest ≡ cluster ∷ rest'
    → end + length (concat rest') ≡ length (concat cs) → end ≤ place → Passed cs rest' place end
passed-next cs rest rest' cluster place start end p e f low =
    let taken = sym p.rest_is ∙ e in
    record {
      k = p.k + 1;
      within = omega (arith, drop_within p.k cs rest' cluster taken);
      rest_is = sym (drop_one_more p.k cs rest' cluster taken);
      start_is = ends_at cs rest rest' cluster place start end p e f;
      low = low;
    }

pub passed-fits : (cs rest rest' : List (List ℕ)) (cluster : List ℕ) (place start : ℕ) → Passed cs rest place start → rest ≡ cluster ∷ rest'
    → length (concat rest') ≤ length (concat cs)
passed-fits cs rest rest' cluster place start p e =
    omega (arith, bytes_to-rest cs (p.k + 1), ap (λ ps. length (concat ps)) (drop_one_more p.k cs rest' cluster (sym p.rest_is ∙ e)))

-- more clusters are at least as many bytes
bytes_to-up : (cs : List (List ℕ)) (i j : ℕ) → i ≤ j → bytes_to cs i ≤ bytes_to cs j
bytes_to-up cs zero j h = omega arith
bytes_to-up [] (suc i) j h = omega arith
bytes_to-up (c ∷ cs) (suc i) zero h = absurd (omega arith)
bytes_to-up (c ∷ cs) (suc i) (suc j) h =
    let more : bytes_to cs i ≤ bytes_to cs j = bytes_to-up cs i j (omega arith) in
    omega (arith, more, length-append c (concat (take i cs)), length-append c (concat (take j cs)))

last_fitting-is : (p : ℕ → Bool) (m k : ℕ) → k ≤ m → p k ≡ true → ((i : ℕ) → k < i → i ≤ m → p i ≡ false) → last_fitting p m ≡ k
last_fitting-is p zero k h fit none = omega arith
last_fitting-is p (suc m) k h fit none = elim (cases_lt k (suc m)) [
  | inl less ↦ last_fitting-no p m (none (suc m) less (omega arith))
      ∙ last_fitting-is p m k (omega (arith, less)) fit (λ i above below. none i above (omega (arith, below)))
  | inr more ↦
      let last : suc m ≡ k = omega (arith, more, h) in
      last_fitting-yes p (suc m) (ap p last ∙ fit) ∙ last
]

abbrev fits : List (List ℕ) → ℕ → ℕ → Bool
fits cs place i = nat_le (bytes_to cs i) place

-- the cluster that ends behind the byte holds it
pub passed-found : (cs rest rest' : List (List ℕ)) (cluster : List ℕ) (place start end : ℕ) → Passed cs rest place start → rest ≡ cluster ∷ rest'
    → end + length (concat rest') ≡ length (concat cs) → place < end → start ≡ bytes_to cs (last_fitting (fits cs place) (length cs))
passed-found cs rest rest' cluster place start end p e f past =
    let ends = ends_at cs rest rest' cluster place start end p e f in
    let low = p.low in
    let is = p.start_is in
    p.start_is ∙ ap (bytes_to cs)
    (sym (last_fitting-is (fits cs place) (length cs) p.k p.within (le_test (bytes_to cs p.k) place (omega (arith, low, is)))
    (λ i above below. lt_test (bytes_to cs i) place (omega (arith, past, ends, bytes_to-up cs (p.k + 1) i (omega (arith, above)))))))

pub passed-end : (cs rest : List (List ℕ)) (place start : ℕ) → Passed cs rest place start → rest ≡ []
    → start ≡ bytes_to cs (last_fitting (fits cs place) (length cs))
passed-end cs rest place start p e =
    let past = drop_end p.k cs (sym p.rest_is ∙ e) in
    let low = p.low in
    let is = p.start_is in
    p.start_is ∙ ap (bytes_to cs)
    (sym (last_fitting-is (fits cs place) (length cs) p.k p.within (le_test (bytes_to cs p.k) place (omega (arith, low, is)))
    (λ i above below. absurd (omega (arith, above, below, past)))))
