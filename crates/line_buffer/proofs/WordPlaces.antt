-- Places of the edges of words.
use Rattle.std.proofs.Common.{◌≡◌, ℕ, ◌+◌, ◌-◌, ◌<◌, ◌≤◌, zero, suc, Bool, true, false, cond, List, ◌∷◌, length, filter, take, Option, Some, None, refl, sym, ap, ap₂, add-one, ◌∙◌, subst, arith, length-append}
use Rattle.std.specs.Option.{option_map}
use Rattle.std.specs.List.{concat, range_with_len, slice_get}
use Rattle.std.specs.Str.{IsCharBoundary, IsUtf8}
use Rattle.unicode_segmentation.proofs.SegmentsLemmas.{concat-segments}
use Rattle.unicode_segmentation.specs.Grapheme.{is_grapheme_break}
use Rattle.line_buffer.proofs.ClusterLemmas.{boundary-bytes_to}
use Rattle.line_buffer.specs.Cluster.{clusters}
use Rattle.line_buffer.specs.Word.{bytes_to, edge_bytes, edge_behind_first, edges, nth}
use Rattle.line_buffer.specs.declared.word_edges.Kind.{Kind}

pub some_same : {A : Type 0} {x y : A} → Some x ≡ Some y → x ≡ y
some_same e = cc

above_in : (b : Bool) (a : ℕ) (xs : List ℕ) (j i : ℕ) → ((j : ℕ) → slice_get xs j ≡ Some i → a + 1 ≤ i) → slice_get (cond b (a ∷ xs) xs) j ≡ Some i → a ≤ i
above_in true a xs zero i h e = let same : a ≡ i = (cc) in omega arith
above_in true a xs (suc j) i h e = omega (arith, h j e)
above_in false a xs j i h e = omega (arith, h j e)

filtered_above : (p : ℕ → Bool) (a m j i : ℕ) → slice_get (filter p (range_with_len a m)) j ≡ Some i → a ≤ i
filtered_above p a zero j i e = cc
filtered_above p a (suc m) j i e = above_in (p a) a (filter p (range_with_len (a + 1) m)) j i (λ k. filtered_above p (a + 1) m k i) e

pub edges_positive : (test : Kind → Kind → Bool) (kinds : List Kind) (n i : ℕ) → nth (edges test kinds) n ≡ Some i → 0 < i
edges_positive test kinds n i e = filtered_above _ 1 (length kinds - 1) (n - 1) i e

-- both places of an edge are boundaries of the text
pub edge_boundaries : (text : List ℕ) (o : Option ℕ) (last end : ℕ) → IsUtf8 text → Some (last, end) ≡ option_map (edge_bytes (clusters text)) o
    → IsCharBoundary text last × IsCharBoundary text end
edge_boundaries text None last end u e = cc
edge_boundaries text (Some i) last end u e =
    let p : ◌≡◌ {A = ℕ × ℕ} (last, end) (bytes_to (clusters text) (i - 1), bytes_to (clusters text) i) = some_same e in (
      subst (IsCharBoundary text) (sym (ap (λ (x : ℕ × ℕ). x.0) p)) (boundary-bytes_to text (i - 1) u),
      subst (IsCharBoundary text) (sym (ap (λ (x : ℕ × ℕ). x.1) p)) (boundary-bytes_to text i u),
    )

-- the bytes behind the first cluster
bytes_behind : (first : List ℕ) (rest : List (List ℕ)) (i : ℕ) → 0 < i → length first + bytes_to rest (i - 1) ≡ bytes_to (first ∷ rest) i
bytes_behind first rest zero h = absurd (omega arith)
bytes_behind first rest (suc i) h =
    let one : suc i - 1 ≡ i = omega arith in
    ap (λ k. length first + bytes_to rest k) one ∙ sym (length-append first (concat (take i rest)))

bytes_behind_more : (first : List ℕ) (rest : List (List ℕ)) (i : ℕ) → length first + bytes_to rest i ≡ bytes_to (first ∷ rest) (i + 1)
bytes_behind_more first rest i = rw add-one (sym (length-append first (concat (take i rest))))

-- an edge among all clusters but the first
pub edge_behind_is : (cs rest : List (List ℕ)) (first : List ℕ) (o : Option ℕ) (start last end : ℕ) → cs ≡ first ∷ rest → start ≡ length first → ((i : ℕ) → o ≡ Some i → 0 < i)
    → Some (last, end) ≡ option_map (edge_bytes rest) o → Some (start + last, start + end) ≡ option_map (edge_behind_first cs) o
edge_behind_is cs rest first None start last end c s positive e = cc
edge_behind_is cs rest first (Some i) start last end c s positive e =
    let p : ◌≡◌ {A = ℕ × ℕ} (last, end) (bytes_to rest (i - 1), bytes_to rest i) = some_same e in
    let l : start + last ≡ bytes_to cs i =
    ap₂ ◌+◌ s (ap (λ (x : ℕ × ℕ). x.0) p) ∙ bytes_behind first rest i (positive i refl) ∙ ap (λ ps. bytes_to ps i) (sym c) in
    let r : start + end ≡ bytes_to cs (i + 1) =
    ap₂ ◌+◌ s (ap (λ (x : ℕ × ℕ). x.1) p) ∙ bytes_behind_more first rest i ∙ ap (λ ps. bytes_to ps (i + 1)) (sym c) in
    ap₂ (λ x y. Some (x, y)) l r

pub edge_behind_boundaries : (text : List ℕ) (o : Option ℕ) (last end : ℕ) → IsUtf8 text → Some (last, end) ≡ option_map (edge_behind_first (clusters text)) o
    → IsCharBoundary text last × IsCharBoundary text end
edge_behind_boundaries text None last end u e = cc
edge_behind_boundaries text (Some i) last end u e =
    let p : ◌≡◌ {A = ℕ × ℕ} (last, end) (bytes_to (clusters text) i, bytes_to (clusters text) (i + 1)) = some_same e in (
      subst (IsCharBoundary text) (sym (ap (λ (x : ℕ × ℕ). x.0) p)) (boundary-bytes_to text i u),
      subst (IsCharBoundary text) (sym (ap (λ (x : ℕ × ℕ). x.1) p)) (boundary-bytes_to text (i + 1) u),
    )

-- the first cluster of a text and what stands behind it
pub text_behind : (text first : List ℕ) (rest : List (List ℕ)) (behind : List ℕ) → IsUtf8 text → clusters text ≡ first ∷ rest → behind ≡ concat rest
    → length first + length behind ≡ length text
text_behind text first rest behind u c e =
    ap (λ b. length first + length b) e ∙ sym (length-append first (concat rest)) ∙ ap (λ ps. length (concat ps)) (sym c) ∙ ap length (concat-segments (is_grapheme_break true) text u)

-- where an edge among all clusters but the first lies in the text
pub record Behind (text behind : List ℕ) (o : Option ℕ) (last end : ℕ) : Type 0 where
  pub places : Some (length text - length behind + last, length text - length behind + end) ≡ option_map (edge_behind_first (clusters text)) o
  pub start : IsCharBoundary text (length text - length behind + last)
  pub stop : IsCharBoundary text (length text - length behind + end)

pub behind_places : (text first : List ℕ) (rest : List (List ℕ)) (behind : List ℕ) (o : Option ℕ) (last end : ℕ) → IsUtf8 text → clusters text ≡ first ∷ rest → behind ≡ concat rest
    → ((i : ℕ) → o ≡ Some i → 0 < i) → Some (last, end) ≡ option_map (edge_bytes rest) o → Behind text behind o last end
behind_places text first rest behind o last end u c b positive e =
    let start : length text - length behind ≡ length first = omega (arith, text_behind text first rest behind u c b) in
    let is = edge_behind_is (clusters text) rest first o (length text - length behind) last end c start positive e in
    let bounds = edge_behind_boundaries text o (length text - length behind + last) (length text - length behind + end) u is in
    record { places = is; start = bounds.0; stop = bounds.1 }
