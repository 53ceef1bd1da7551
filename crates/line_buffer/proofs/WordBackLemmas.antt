-- Walks over clusters from their end that look for the edges of words.
use Rattle.std.proofs.Common.{◌≡◌, ℕ, ◌+◌, ◌-◌, ◌<◌, ◌≤◌, ◌≢◌, zero, suc, min, Bool, true, false, List, [], ◌∷◌, ◌++◌, length, map, filter, reverse, take, get_or, Option, Some, None, unwrap_or, refl, sym, ap, ◌∙◌, arith, length-append, append-nil}
use Rattle.std.specs.List.{concat, range_with_len, slice_get}
use Rattle.std.proofs.lemmas.List.{length-map, length-take, reverse-append, take_all}
use Rattle.std.proofs.lemmas.List.Elements.{filter-append}
use Rattle.std.proofs.lemmas.Option.{get_or_from_slice_get, slice_get_within, slice_get_past}
use Rattle.line_buffer.proofs.ListLemmas.{take_one_less}
use Rattle.line_buffer.specs.Word.{kind_at, edges, nth, bytes_to, edge_before}
use Rattle.line_buffer.specs.declared.word_edges.Kind.TheVariants.{Gap}
use Rattle.line_buffer.specs.declared.word_edges.Kind.{Kind}

-- the first m places at which there may be an edge, and those where there is one
abbrev pub edges_to : (Kind → Kind → Bool) → List Kind → ℕ → List ℕ
edges_to test kinds m = filter (λ i. test (kind_at kinds (i - 1)) (kind_at kinds i)) (range_with_len 1 m)

range_push : (a m : ℕ) → range_with_len a (suc m) ≡ range_with_len a m ++ (a + m) ∷ []
range_push a zero = let same : a ≡ a + 0 = omega arith in ap (λ x. x ∷ []) same
range_push a (suc m) = let same : a + 1 + m ≡ a + suc m = omega arith in ap (λ xs. a ∷ xs) (range_push (a + 1) m ∙ ap (λ x. range_with_len (a + 1) m ++ x ∷ []) same)

filter-push-yes : (p : ℕ → Bool) (xs : List ℕ) (x : ℕ) → p x ≡ true → filter p (xs ++ x ∷ []) ≡ filter p xs ++ x ∷ []
filter-push-yes p xs x h = filter-append p xs (x ∷ []) ∙ ap (λ ys. filter p xs ++ ys) (rw h refl)

filter-push-no : (p : ℕ → Bool) (xs : List ℕ) (x : ℕ) → p x ≡ false → filter p (xs ++ x ∷ []) ≡ filter p xs
filter-push-no p xs x h = filter-append p xs (x ∷ []) ∙ ap (λ ys. filter p xs ++ ys) (rw h refl) ∙ append-nil (filter p xs)

-- the last of the first elements of a list
last_taken : {A B : Type 0} (f : A → B) (i : ℕ) (xs ys : List A) (x : A) (d : B) → take (suc i) xs ≡ ys ++ x ∷ [] → suc i ≤ length xs
    → (slice_get (map f xs) i ≡ Some (f x)) × (get_or (map f xs) i d ≡ f x)
last_taken f i [] ys x d e h = absurd (omega arith)
last_taken f zero (w ∷ ws) [] x d e h = let same : w ≡ x = (cc) in (ap (λ v. Some (f v)) same, ap f same)
last_taken f zero (w ∷ ws) (y ∷ ys) x d e h = absurd (omega (arith, ap length e, length-append ys (x ∷ [])))
last_taken f (suc i) (w ∷ ws) [] x d e h = absurd (omega (arith, ap length e, length-take (suc i) ws))
last_taken f (suc i) (w ∷ ws) (y ∷ ys) x d e h = let rest : take (suc i) ws ≡ ys ++ x ∷ [] = (cc) in last_taken f i ws ys x d rest (omega arith)

-- all but the first j clusters were read from the end, and `left` of the n edges are still to come
pub record ReadBack (cs : List (List ℕ)) (kinds : List Kind) (test : Kind → Kind → Bool) (n : ℕ) (rest : List (List ℕ)) (next : Option Kind) (place left : ℕ) : Type 0 where
  pub j : ℕ
  pub rest_is : rest ≡ take j cs
  pub within : j ≤ length cs
  pub next_is : next ≡ slice_get kinds j
  pub place_is : place ≡ bytes_to cs j
  pub some : 0 < left
  pub target : slice_get (reverse (edges_to test kinds (min j (length kinds - 1)))) (left - 1) ≡ nth (reverse (edges test kinds)) n

edges_to-yes : (test : Kind → Kind → Bool) (kinds : List Kind) (i : ℕ) → test (kind_at kinds i) (kind_at kinds (suc i)) ≡ true
    → reverse (edges_to test kinds (suc i)) ≡ suc i ∷ reverse (edges_to test kinds i)
edges_to-yes test kinds i t =
    let p : ℕ → Bool = λ k. test (kind_at kinds (k - 1)) (kind_at kinds k) in
    let one : 1 + i ≡ suc i = omega arith in
    let back : suc i - 1 ≡ i = omega arith in
    let yes : p (1 + i) ≡ true = ap p one ∙ ap (λ k. test (kind_at kinds k) (kind_at kinds (suc i))) back ∙ t in
    ap (λ xs. reverse (filter p xs)) (range_push 1 i) ∙ ap reverse (filter-push-yes p (range_with_len 1 i) (1 + i) yes)
    ∙ reverse-append (filter p (range_with_len 1 i)) ((1 + i) ∷ []) ∙ ap (λ k. k ∷ reverse (filter p (range_with_len 1 i))) one

edges_to-no : (test : Kind → Kind → Bool) (kinds : List Kind) (i : ℕ) → test (kind_at kinds i) (kind_at kinds (suc i)) ≡ false
    → edges_to test kinds (suc i) ≡ edges_to test kinds i
edges_to-no test kinds i t =
    let p : ℕ → Bool = λ k. test (kind_at kinds (k - 1)) (kind_at kinds k) in
    let one : 1 + i ≡ suc i = omega arith in
    let back : suc i - 1 ≡ i = omega arith in
    let no : p (1 + i) ≡ false = ap p one ∙ ap (λ k. test (kind_at kinds k) (kind_at kinds (suc i))) back ∙ t in
    ap (filter p) (range_push 1 i) ∙ filter-push-no p (range_with_len 1 i) (1 + i) no

pub back-start : (cs : List (List ℕ)) (kinds : List Kind) (test : Kind → Kind → Bool) (n : ℕ) (text : List ℕ) → 0 < n → length kinds ≡ length cs → concat cs ≡ text
    → ReadBack cs kinds test n cs None (length text) n
back-start cs kinds test n text h l e =
    let least : min (length cs) (length kinds - 1) ≡ length kinds - 1 = omega arith in
    record {
      j = length cs;
      rest_is = sym (take_all (length cs) cs (omega arith));
      within = omega arith;
      next_is = sym (slice_get_past kinds (length cs) (omega arith));
      place_is = ap length (sym e) ∙ sym (ap (λ ps. length (concat ps)) (take_all (length cs) cs (omega arith)));
      some = h;
      target = rw least refl;
    }

slice_get-none : {A : Type 0} (xs : List A) (i : ℕ) → None ≡ slice_get xs i → length xs ≤ i
slice_get-none [] i e = omega arith
slice_get-none (x ∷ xs) zero e = cc
slice_get-none (x ∷ xs) (suc i) e = omega (arith, slice_get-none xs i e)

-- no edge lies before the next cluster
none_before : (test : Kind → Kind → Bool) (kinds : List Kind) (i : ℕ) (next : Option Kind) → next ≡ slice_get kinds (suc i) → suc i ≤ length kinds
    → edge_before test (kind_at kinds i) next ≡ false → edges_to test kinds (min (suc i) (length kinds - 1)) ≡ edges_to test kinds (min i (length kinds - 1))
none_before test kinds i None e h t =
    let past : length kinds ≤ suc i = slice_get-none kinds (suc i) e in
    let same : min (suc i) (length kinds - 1) ≡ min i (length kinds - 1) = omega arith in
    ap (edges_to test kinds) same
none_before test kinds i (Some k) e h t =
    let within : suc i < length kinds = slice_get_within kinds (suc i) k (sym e) in
    let here : min (suc i) (length kinds - 1) ≡ suc i = omega arith in
    let there : min i (length kinds - 1) ≡ i = omega arith in
    let at : kind_at kinds (suc i) ≡ k = get_or_from_slice_get kinds (suc i) k Gap (sym e) in
    rw (here, there) (edges_to-no test kinds i (ap (test (kind_at kinds i)) at ∙ t))

one_before : (test : Kind → Kind → Bool) (kinds : List Kind) (i : ℕ) (next : Option Kind) → next ≡ slice_get kinds (suc i)
    → edge_before test (kind_at kinds i) next ≡ true
    → reverse (edges_to test kinds (min (suc i) (length kinds - 1))) ≡ suc i ∷ reverse (edges_to test kinds (min i (length kinds - 1)))
one_before test kinds i None e t = cc
one_before test kinds i (Some k) e t =
    let within : suc i < length kinds = slice_get_within kinds (suc i) k (sym e) in
    let here : min (suc i) (length kinds - 1) ≡ suc i = omega arith in
    let there : min i (length kinds - 1) ≡ i = omega arith in
    let at : kind_at kinds (suc i) ≡ k = get_or_from_slice_get kinds (suc i) k Gap (sym e) in
    rw (here, there) (edges_to-yes test kinds i (ap (test (kind_at kinds i)) at ∙ t))

module _ (f : List ℕ → Kind) (cs : List (List ℕ)) (test : Kind → Kind → Bool) (n : ℕ) (rest rest' : List (List ℕ)) (cluster : List ℕ) (next : Option Kind) (place left : ℕ)
    (r : ReadBack cs (map f cs) test n rest next place left) (e : rest ≡ rest' ++ cluster ∷ []) where
  -- the cluster that was read is the i-th
  pub record Last (i : ℕ) : Type 0 where
    pub j_is : r.j ≡ suc i
    pub within : suc i ≤ length cs
    pub rest_is : rest' ≡ take i cs
    pub kind : slice_get (map f cs) i ≡ Some (f cluster)
    pub kind_is : kind_at (map f cs) i ≡ f cluster
    pub next_is : next ≡ slice_get (map f cs) (suc i)

  last : (j : ℕ) → r.j ≡ j → (i : ℕ) × Last i
  last zero h = absurd (omega (arith, ap length (sym (ap (λ k. take k cs) h) ∙ sym r.rest_is ∙ e), length-append rest' (cluster ∷ [])))
  last (suc i) h =
      let taken : take (suc i) cs ≡ rest' ++ cluster ∷ [] = sym (ap (λ k. take k cs) h) ∙ sym r.rest_is ∙ e in
      let fits : suc i ≤ length cs = omega (arith, r.within) in
      let one : suc i - 1 ≡ i = omega arith in
      let at = last_taken f i cs rest' cluster Gap taken fits in (
        i,
        record {
          j_is = h;
          within = fits;
          rest_is = sym (take_one_less (suc i) cs rest' cluster taken fits) ∙ ap (λ k. take k cs) one;
          kind = at.0;
          kind_is = at.1;
          next_is = r.next_is ∙ ap (slice_get (map f cs)) h;
        },
      )

  moved : (i left' : ℕ) → Last i → 0 < left' → slice_get (reverse (edges_to test (map f cs) (min i (length (map f cs) - 1)))) (left' - 1) ≡ nth (reverse (edges test (map f cs))) n
      → ReadBack cs (map f cs) test n rest' (Some (f cluster)) (length (concat rest')) left'
  moved i left' h some target = record {
    j = i;
    rest_is = h.rest_is;
    within = omega (arith, h.within);
    next_is = sym h.kind;
    place_is = ap (λ ps. length (concat ps)) h.rest_is;
    some = some;
    target = target;
  }

  old_target : (i : ℕ) → Last i → slice_get (reverse (edges_to test (map f cs) (min (suc i) (length (map f cs) - 1)))) (left - 1) ≡ nth (reverse (edges test (map f cs))) n
  old_target i h = ap (λ j. slice_get (reverse (edges_to test (map f cs) (min j (length (map f cs) - 1)))) (left - 1)) (sym h.j_is) ∙ r.target

  pub back-next : edge_before test (f cluster) next ≡ false → ReadBack cs (map f cs) test n rest' (Some (f cluster)) (length (concat rest')) left
  back-next t =
      let here = last r.j refl in
      let i = here.0 in
      let h = here.1 in
      let none = none_before test (map f cs) i next h.next_is (omega (arith, h.within, length-map cs f)) (ap (λ k. edge_before test k next) h.kind_is ∙ t) in
      moved i left h r.some (ap (λ es. slice_get (reverse es) (left - 1)) (sym none) ∙ old_target i h)

  pub back-past : edge_before test (f cluster) next ≡ true → left ≢ 1 → ReadBack cs (map f cs) test n rest' (Some (f cluster)) (length (concat rest')) (left - 1)
  back-past t l =
      let here = last r.j refl in
      let i = here.0 in
      let h = here.1 in
      let some = r.some in
      let many : left - 1 ≡ suc (left - 1 - 1) = omega arith in
      let later = reverse (edges_to test (map f cs) (min i (length (map f cs) - 1))) in
      let one = one_before test (map f cs) i next h.next_is (ap (λ k. edge_before test k next) h.kind_is ∙ t) in
      moved i (left - 1) h (omega arith) (sym (ap (λ es. slice_get es (left - 1)) one ∙ ap (slice_get (suc i ∷ later)) many) ∙ old_target i h)

  pub back-found : edge_before test (f cluster) next ≡ true → left ≡ 1 → place ≡ bytes_to cs (unwrap_or (nth (reverse (edges test (map f cs))) n) 0)
  back-found t l =
      let here = last r.j refl in
      let i = here.0 in
      let h = here.1 in
      let first : left - 1 ≡ 0 = omega arith in
      let one = one_before test (map f cs) i next h.next_is (ap (λ k. edge_before test k next) h.kind_is ∙ t) in
      let now : Some (suc i) ≡ nth (reverse (edges test (map f cs))) n =
      sym (ap (λ es. slice_get es (left - 1)) one ∙ ap (slice_get (suc i ∷ reverse (edges_to test (map f cs) (min i (length (map f cs) - 1))))) first) ∙ old_target i h in
      r.place_is ∙ ap (bytes_to cs) (h.j_is ∙ ap (λ o. unwrap_or o 0) now)
