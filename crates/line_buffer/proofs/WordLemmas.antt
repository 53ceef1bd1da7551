-- Walks over clusters that look for the edges of words.
use Rattle.std.proofs.Common.{◌≡◌, ℕ, ◌+◌, ◌-◌, ◌<◌, ◌≤◌, zero, suc, max, Bool, true, false, List, [], ◌∷◌, length, map, filter, take, drop, get_or, Option, Some, None, refl, sym, ap, ap₂, ◌∙◌, arith, length-append, add-one, ◌≢◌}
use Rattle.std.specs.Option.{option_map}
use Rattle.std.specs.List.{concat, range_with_len, slice_get}
use Rattle.std.proofs.lemmas.List.{length-map}
use Rattle.line_buffer.proofs.ListLemmas.{drop_one_more, concat-cut}
use Rattle.line_buffer.specs.Word.{kind_at, edges, nth, bytes_to, edge_bytes, edge_behind}
use Rattle.line_buffer.specs.declared.word_edges.Kind.TheVariants.{Gap}
use Rattle.line_buffer.specs.declared.word_edges.Kind.{Kind}

-- the kind before a place, if there is one
abbrev pub kind_before : List Kind → ℕ → Option Kind
kind_before kinds zero = None
kind_before kinds (suc k) = Some (kind_at kinds k)

-- the edges from a place on
abbrev pub edges_from : (Kind → Kind → Bool) → List Kind → ℕ → List ℕ
edges_from test kinds k = filter (λ i. test (kind_at kinds (i - 1)) (kind_at kinds i)) (range_with_len k (length kinds - k))

-- an element of a list and what stands behind it
pub drop_within : {A : Type 0} (k : ℕ) (xs ys : List A) (x : A) → drop k xs ≡ x ∷ ys → k < length xs
drop_within zero [] ys x e = cc
drop_within zero (w ∷ ws) ys x e = omega arith
drop_within (suc k) [] ys x e = cc
drop_within (suc k) (w ∷ ws) ys x e = omega (arith, drop_within k ws ys x e)

pub map_at : {A B : Type 0} (f : A → B) (k : ℕ) (xs ys : List A) (x : A) (d : B) → drop k xs ≡ x ∷ ys → get_or (map f xs) k d ≡ f x
map_at f zero [] ys x d e = cc
map_at f zero (w ∷ ws) ys x d e = let same : w ≡ x = (cc) in ap f same
map_at f (suc k) [] ys x d e = cc
map_at f (suc k) (w ∷ ws) ys x d e = map_at f k ws ys x d e

pub drop_end : {A : Type 0} (k : ℕ) (xs : List A) → drop k xs ≡ [] → length xs ≤ k
drop_end k [] e = omega arith
drop_end zero (x ∷ xs) e = cc
drop_end (suc k) (x ∷ xs) e = omega (arith, drop_end k xs e)

pub bytes_to-rest : (cs : List (List ℕ)) (k : ℕ) → bytes_to cs k + length (concat (drop k cs)) ≡ length (concat cs)
bytes_to-rest cs k = sym (length-append (concat (take k cs)) (concat (drop k cs))) ∙ ap length (concat-cut k cs)

pub filter-yes : (p : ℕ → Bool) (x : ℕ) (xs : List ℕ) → p x ≡ true → filter p (x ∷ xs) ≡ x ∷ filter p xs
filter-yes p x xs h = rw h refl

pub filter-no : (p : ℕ → Bool) (x : ℕ) (xs : List ℕ) → p x ≡ false → filter p (x ∷ xs) ≡ filter p xs
filter-no p x xs h = rw h refl

edges_from-yes : (test : Kind → Kind → Bool) (kinds : List Kind) (k : ℕ) → k < length kinds → test (kind_at kinds (k - 1)) (kind_at kinds k) ≡ true
    → edges_from test kinds k ≡ k ∷ edges_from test kinds (k + 1)
edges_from-yes test kinds k h t =
    let more : length kinds - k ≡ suc (length kinds - (k + 1)) = omega arith in
    rw more (filter-yes (λ i. test (kind_at kinds (i - 1)) (kind_at kinds i)) k (range_with_len (k + 1) (length kinds - (k + 1))) t)

edges_from-no : (test : Kind → Kind → Bool) (kinds : List Kind) (k : ℕ) → k < length kinds → test (kind_at kinds (k - 1)) (kind_at kinds k) ≡ false
    → edges_from test kinds k ≡ edges_from test kinds (k + 1)
edges_from-no test kinds k h t =
    let more : length kinds - k ≡ suc (length kinds - (k + 1)) = omega arith in
    rw more (filter-no (λ i. test (kind_at kinds (i - 1)) (kind_at kinds i)) k (range_with_len (k + 1) (length kinds - (k + 1))) t)

edges_from-end : (test : Kind → Kind → Bool) (kinds : List Kind) (k : ℕ) → length kinds ≤ k → edges_from test kinds k ≡ []
edges_from-end test kinds k h = let none : length kinds - k ≡ 0 = omega arith in rw none refl

next_target : (test : Kind → Kind → Bool) (kinds : List Kind) (k left : ℕ) (previous : Option Kind) → previous ≡ kind_before kinds k → k < length kinds
    → edge_behind test previous (kind_at kinds k) ≡ false
    → slice_get (edges_from test kinds (max (k + 1) 1)) (left - 1) ≡ slice_get (edges_from test kinds (max k 1)) (left - 1)
next_target test kinds zero left previous e h t = refl
next_target test kinds (suc k) left previous e h t =
    let here : max (suc k) 1 ≡ suc k = omega arith in
    let there : max (suc k + 1) 1 ≡ suc k + 1 = omega arith in
    let one : suc k - 1 ≡ k = omega arith in
    let no : test (kind_at kinds (suc k - 1)) (kind_at kinds (suc k)) ≡ false =
    ap (λ i. test (kind_at kinds i) (kind_at kinds (suc k))) one ∙ sym (ap (λ p. edge_behind test p (kind_at kinds (suc k))) e) ∙ t in
    rw (here, there) (ap (λ xs. slice_get xs (left - 1)) (sym (edges_from-no test kinds (suc k) h no)))

-- the edge that was found is the next to come
found_edge : (test : Kind → Kind → Bool) (kinds : List Kind) (k : ℕ) (previous : Option Kind) → previous ≡ kind_before kinds k → k < length kinds
    → edge_behind test previous (kind_at kinds k) ≡ true → edges_from test kinds (max k 1) ≡ k ∷ edges_from test kinds (max (k + 1) 1)
found_edge test kinds zero previous e h t = let no : false ≡ true = sym (ap (λ p. edge_behind test p (kind_at kinds 0)) e) ∙ t in cc
found_edge test kinds (suc k) previous e h t =
    let here : max (suc k) 1 ≡ suc k = omega arith in
    let there : max (suc k + 1) 1 ≡ suc k + 1 = omega arith in
    let one : suc k - 1 ≡ k = omega arith in
    let yes : test (kind_at kinds (suc k - 1)) (kind_at kinds (suc k)) ≡ true =
    ap (λ i. test (kind_at kinds i) (kind_at kinds (suc k))) one ∙ sym (ap (λ p. edge_behind test p (kind_at kinds (suc k))) e) ∙ t in
    rw (here, there) (edges_from-yes test kinds (suc k) h yes)

-- the first k clusters were read, and `left` of the n edges are still to come
pub record Read (cs : List (List ℕ)) (kinds : List Kind) (test : Kind → Kind → Bool) (n : ℕ) (rest : List (List ℕ)) (previous : Option Kind) (before place left : ℕ) : Type 0 where
  pub k : ℕ
  pub rest_is : rest ≡ drop k cs
  pub within : k ≤ length cs
  pub previous_is : previous ≡ kind_before kinds k
  pub place_is : place ≡ bytes_to cs k
  pub before_is : before ≡ bytes_to cs (k - 1)
  pub some : 0 < left
  pub target : slice_get (edges_from test kinds (max k 1)) (left - 1) ≡ nth (edges test kinds) n

kind_before-next : (kinds : List Kind) (k : ℕ) → kind_before kinds (k + 1) ≡ Some (kind_at kinds k)
kind_before-next kinds k = rw add-one refl

module _ (f : List ℕ → Kind) (cs : List (List ℕ)) (test : Kind → Kind → Bool) (n : ℕ) (rest rest' : List (List ℕ)) (cluster : List ℕ) (previous : Option Kind) (before place left place' : ℕ)
    (r : Read cs (map f cs) test n rest previous before place left) (e : rest ≡ cluster ∷ rest') where
  here : (k : ℕ) → k ≡ r.k → (k < length (map f cs)) × (kind_at (map f cs) k ≡ f cluster)
  here k same =
      let at : drop k cs ≡ cluster ∷ rest' = ap (λ i. drop i cs) same ∙ sym r.rest_is ∙ e in
      (omega (arith, drop_within k cs rest' cluster at, length-map cs f), map_at f k cs rest' cluster Gap at)

  -- the place behind the cluster that was read
  place_next : place' + length (concat rest') ≡ length (concat cs) → place' ≡ bytes_to cs (r.k + 1)
  place_next p =
      let others : length (concat (drop (r.k + 1) cs)) ≡ length (concat rest') =
      ap (λ ps. length (concat ps)) (drop_one_more r.k cs rest' cluster (sym r.rest_is ∙ e)) in
      omega (arith, bytes_to-rest cs (r.k + 1))

  moved : (left' : ℕ) → place' + length (concat rest') ≡ length (concat cs) → 0 < left'
      → slice_get (edges_from test (map f cs) (max (r.k + 1) 1)) (left' - 1) ≡ nth (edges test (map f cs)) n
      → Read cs (map f cs) test n rest' (Some (f cluster)) place place' left'
  moved left' p some target =
      let h = here r.k refl in
      let back : r.k + 1 - 1 ≡ r.k = omega arith in
      record {
        k = r.k + 1;
        rest_is = sym (drop_one_more r.k cs rest' cluster (sym r.rest_is ∙ e));
        within = omega (arith, h.0, length-map cs f);
        previous_is = sym (kind_before-next (map f cs) r.k ∙ ap Some h.1);
        place_is = place_next p;
        before_is = r.place_is ∙ ap (bytes_to cs) (sym back);
        some = some;
        target = target;
      }

  pub read-next : edge_behind test previous (f cluster) ≡ false → place' + length (concat rest') ≡ length (concat cs)
      → Read cs (map f cs) test n rest' (Some (f cluster)) place place' left
  read-next t p =
      let h = here r.k refl in
      moved left p r.some (next_target test (map f cs) r.k left previous r.previous_is h.0 (ap (edge_behind test previous) h.1 ∙ t) ∙ r.target)

  found : edge_behind test previous (f cluster) ≡ true → edges_from test (map f cs) (max r.k 1) ≡ r.k ∷ edges_from test (map f cs) (max (r.k + 1) 1)
  found t =
      let h = here r.k refl in
      found_edge test (map f cs) r.k previous r.previous_is h.0 (ap (edge_behind test previous) h.1 ∙ t)

  pub read-past : edge_behind test previous (f cluster) ≡ true → left ≢ 1 → place' + length (concat rest') ≡ length (concat cs)
      → Read cs (map f cs) test n rest' (Some (f cluster)) place place' (left - 1)
  read-past t l p =
      let some = r.some in
      let many : left - 1 ≡ suc (left - 1 - 1) = omega arith in
      let later = edges_from test (map f cs) (max (r.k + 1) 1) in
      let skip : slice_get later (left - 1 - 1) ≡ slice_get (edges_from test (map f cs) (max r.k 1)) (left - 1) =
      sym (ap (λ xs. slice_get xs (left - 1)) (found t) ∙ ap (slice_get (r.k ∷ later)) many) in
      moved (left - 1) p (omega arith) (skip ∙ r.target)

  pub read-found : edge_behind test previous (f cluster) ≡ true → left ≡ 1
      → Some (before, place) ≡ option_map (edge_bytes cs) (nth (edges test (map f cs)) n)
  read-found t l =
      let first : left - 1 ≡ 0 = omega arith in
      let now : Some r.k ≡ nth (edges test (map f cs)) n =
      sym (ap (λ xs. slice_get xs (left - 1)) (found t) ∙ ap (slice_get (r.k ∷ edges_from test (map f cs) (max (r.k + 1) 1))) first) ∙ r.target in
      ap₂ (λ b p. Some (b, p)) r.before_is r.place_is ∙ ap (option_map (edge_bytes cs)) now

pub read-end : (f : List ℕ → Kind) (cs : List (List ℕ)) (test : Kind → Kind → Bool) (n : ℕ) (rest : List (List ℕ)) (previous : Option Kind) (before place left : ℕ)
    → Read cs (map f cs) test n rest previous before place left → rest ≡ [] → None ≡ option_map (edge_bytes cs) (nth (edges test (map f cs)) n)
read-end f cs test n rest previous before place left r e =
    let past : length cs ≤ r.k = drop_end r.k cs (sym r.rest_is ∙ e) in
    let none : edges_from test (map f cs) (max r.k 1) ≡ [] = edges_from-end test (map f cs) (max r.k 1) (omega (arith, length-map cs f)) in
    ap (option_map (edge_bytes cs)) (sym (ap (λ xs. slice_get xs (left - 1)) none) ∙ r.target)

pub read-fits : (kinds : List Kind) (cs : List (List ℕ)) (test : Kind → Kind → Bool) (n : ℕ) (rest rest' : List (List ℕ)) (cluster : List ℕ) (previous : Option Kind) (before place left : ℕ)
    → Read cs kinds test n rest previous before place left → rest ≡ cluster ∷ rest' → length (concat rest') ≤ length (concat cs)
read-fits kinds cs test n rest rest' cluster previous before place left r e =
    omega (arith, bytes_to-rest cs (r.k + 1), ap (λ ps. length (concat ps)) (drop_one_more r.k cs rest' cluster (sym r.rest_is ∙ e)))
