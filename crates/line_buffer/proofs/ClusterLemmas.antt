-- Where the clusters of a text begin and end.
use Rattle.std.proofs.Common.{zero, suc, ◌<◌, [], ◌∷◌, get_or, inl, inr, zero-add, ◌≡◌, ℕ, ◌+◌, ◌-◌, ◌≤◌, true, List, ◌++◌, length, take, drop, sym, ap, ◌∙◌, subst, arith, length-append}
use Rattle.std.proofs.Math.Seq.{take-append_seam}
use Rattle.std.proofs.lemmas.Bool.{cases_lt}
use Rattle.std.proofs.lemmas.List.{take_all}
use Rattle.std.proofs.lemmas.Str.{IsCharBoundary-at_seam, IsCharBoundary-end, IsCharBoundary-from_take}
use Rattle.std.specs.List.{concat}
use Rattle.std.specs.Str.{IsCharBoundary, IsUtf8}
use Rattle.unicode_segmentation.proofs.SegmentsLemmas.{concat-segments, All-IsPieceOf, length-with_offsets}
use Rattle.unicode_segmentation.specs.Segments.{with_offsets}
use Rattle.unicode_segmentation.specs.Grapheme.{is_grapheme_break}
use Rattle.line_buffer.proofs.ListLemmas.{concat-cut}
use Rattle.line_buffer.specs.Cluster.{clusters, behind_first, before_last}

-- the first n clusters and the others, joined, are the text
pub clusters-cut : (text : List ℕ) (n : ℕ) → IsUtf8 text → concat (take n (clusters text)) ++ concat (drop n (clusters text)) ≡ text
clusters-cut text n u = concat-cut n (clusters text) ∙ concat-segments (is_grapheme_break true) text u

pub length-behind_first : (text rest : List ℕ) (n : ℕ) → IsUtf8 text → rest ≡ behind_first n text
    → length (concat (take n (clusters text))) + length rest ≡ length text
length-behind_first text rest n u e =
    ap (λ r. length (concat (take n (clusters text))) + length r) e
    ∙ sym (length-append (concat (take n (clusters text))) (behind_first n text)) ∙ ap length (clusters-cut text n u)

pub boundary-behind_first : (text rest : List ℕ) (n : ℕ) → IsUtf8 text → IsUtf8 rest → rest ≡ behind_first n text
    → IsCharBoundary text (length (concat (take n (clusters text))))
boundary-behind_first text rest n u v e =
    IsCharBoundary-at_seam text (concat (take n (clusters text))) (behind_first n text) (sym (clusters-cut text n u)) (subst IsUtf8 e v)

pub boundary-before_last : (text front : List ℕ) (n : ℕ) → IsUtf8 text → IsUtf8 front → front ≡ before_last n text → IsCharBoundary text (length front)
boundary-before_last text front n u v e =
    let m = length (clusters text) - n in
    let cut : front ++ concat (drop m (clusters text)) ≡ text = ap (λ f. f ++ concat (drop m (clusters text))) e ∙ clusters-cut text m u in
    let fits : length front ≤ length text = omega (arith, ap length cut, length-append front (concat (drop m (clusters text)))) in
    let first : take (length front) text ≡ front = ap (take (length front)) (sym cut) ∙ take-append_seam front (concat (drop m (clusters text))) in
    IsCharBoundary-from_take text (length front) u fits (subst IsUtf8 (sym first) v)

-- the offset of a cluster is the length of those before it
offset_of : (from n : ℕ) (cs : List (List ℕ)) (d : ℕ × List ℕ) → n < length cs → (get_or (with_offsets from cs) n d).0 ≡ from + length (concat (take n cs))
unfolding with_offsets
offset_of from n [] d h = absurd (omega arith)
offset_of from zero (c ∷ cs) d h = omega arith
offset_of from (suc n) (c ∷ cs) d h = offset_of (from + length c) n cs d (omega arith) ∙ omega (arith, length-append c (concat (take n cs)))

-- the clusters of a text begin and end on boundaries
pub boundary-bytes_to : (text : List ℕ) (n : ℕ) → IsUtf8 text → IsCharBoundary text (length (concat (take n (clusters text))))
boundary-bytes_to text n u =
    let cs = clusters text in
    let rule = is_grapheme_break true in
    let whole : concat cs ≡ text = concat-segments rule text u in
    elim (cases_lt n (length cs)) [
      | inl within ↦
          let d : ℕ × List ℕ = (0, []) in
          let fits : n < length (with_offsets 0 cs) = omega (arith, length-with_offsets 0 cs) in
          let start = (All-IsPieceOf rule text u n d fits).start in
          let at : (get_or (with_offsets 0 cs) n d).0 ≡ length (concat (take n cs)) = offset_of 0 n cs d within ∙ zero-add (length (concat (take n cs))) in
          subst (IsCharBoundary text) at start
      | inr past ↦
          let all : length (concat (take n cs)) ≡ length text = ap (λ ps. length (concat ps)) (take_all n cs past) ∙ ap length whole in
          subst (IsCharBoundary text) (sym all) (IsCharBoundary-end text)
    ]
