-- So many clusters at an end of a text that is printable ASCII and newlines there.
use Rattle.std.proofs.Common.{◌≡◌, ℕ, zero, suc, ◌+◌, ◌-◌, ◌<◌, true, ◌&&◌, List, [], ◌∷◌, inl, inr, ◌++◌, length, take, drop, get_or, sym, subst, ap, ap₂, ◌∙◌, arith, add-one, length-append}
use Rattle.std.proofs.Math.Seq.{drop-append_seam, take-append_seam}
use Rattle.std.proofs.lemmas.Bool.{and_parts, cases_lt}
use Rattle.std.proofs.lemmas.List.{drop_more, length-drop, length-map, length-take, take_all}
use Rattle.std.proofs.lemmas.List.Folds.{list_all_more}
use Rattle.std.proofs.lemmas.Str.{IsCharBoundary-end, IsUtf8-drop, IsUtf8-take}
use Rattle.std.specs.List.{concat, list_all, slice_range}
use Rattle.std.specs.Str.{IsCharBoundary, IsUtf8}
use Rattle.unicode_segmentation.proofs.SegmentsLemmas.{concat-segments}
use Rattle.unicode_segmentation.specs.Grapheme.{is_grapheme_break}
use Rattle.line_buffer.proofs.PlainClusterLemmas.{boundary-part, clusters-part, clusters-plain}
use Rattle.line_buffer.specs.Cluster.{before_last, behind_first, clusters}
use Rattle.line_buffer.specs.Printable.{is_plain, meets_plain}

-- the clusters of a text, joined, are the text
joined : (text : List ℕ) → IsUtf8 text → concat (clusters text) ≡ text
joined text u = concat-segments (is_grapheme_break true) text u

-- printable ASCII and newlines have as many clusters as characters
count-plain : (text : List ℕ) → list_all is_plain text ≡ true → length (clusters text) ≡ length text
count-plain text plain = ap length (clusters-plain text plain) ∙ length-map text (λ c. c ∷ [])

-- two characters that are plain meet
meet : (text : List ℕ) (k : ℕ) → is_plain (get_or text k 0) ≡ true → is_plain (get_or text (k + 1) 0) ≡ true → meets_plain text (k + 1) ≡ true
meet text k left right =
    let e : k + 1 - 1 ≡ k = omega arith in
    ap₂ ◌&&◌ (ap (λ i. is_plain (get_or text i 0)) e ∙ left) right

behind_more : (text : List ℕ) (k : ℕ) → IsUtf8 text → k + 1 < length text → list_all is_plain (take (k + 1 + 1) text) ≡ true
    → drop (k + 1) text ≡ behind_first (k + 1) text
behind_more text k u within plain =
    let n = k + 1 in
    let last = and_parts (list_all is_plain (take n text)) (is_plain (get_or text n 0)) (sym (list_all_more is_plain text n 0 within) ∙ plain) in
    let next = and_parts (list_all is_plain (take k text)) (is_plain (get_or text k 0)) (sym (list_all_more is_plain text k 0 (omega arith)) ∙ last.0) in
    let meets = meet text k next.1 last.1 in
    let front = clusters (take n text) in
    let back = clusters (drop n text) in
    let count : length front ≡ n = count-plain (take n text) last.0 ∙ omega (arith, length-take n text) in
    sym (ap (λ cs. concat (drop n cs)) (clusters-part text n u (omega arith) within meets)
    ∙ ap (λ m. concat (drop m (front ++ back))) (sym count)
    ∙ ap concat (drop-append_seam front back)
    ∙ joined (drop n text) (IsUtf8-drop text n u (boundary-part text n u within meets)))

-- the text behind its first clusters, where these and the next are plain
pub behind_plain : (text : List ℕ) (n : ℕ) → IsUtf8 text → n < length text → list_all is_plain (take (n + 1) text) ≡ true → drop n text ≡ behind_first n text
behind_plain text zero u within plain = sym (joined text u)
behind_plain text (suc k) u within plain =
    subst (λ n. n < length text → list_all is_plain (take (n + 1) text) ≡ true → drop n text ≡ behind_first n text) (add-one k) (behind_more text k u) within plain

-- the characters beside a place from which, and before which, a text is plain, meet there
meet_at : (text : List ℕ) (k : ℕ) → k + 1 < length text → list_all is_plain (drop k text) ≡ true
    → (meets_plain text (k + 1) ≡ true) × (list_all is_plain (drop (k + 1) text) ≡ true)
meet_at text k within plain =
    let first = and_parts (is_plain (get_or text k 0)) (list_all is_plain (drop (k + 1) text)) (ap (list_all is_plain) (sym (drop_more text k 0 (omega arith))) ∙ plain) in
    let next = and_parts (is_plain (get_or text (k + 1) 0)) (list_all is_plain (drop (k + 1 + 1) text)) (ap (list_all is_plain) (sym (drop_more text (k + 1) 0 within)) ∙ first.1) in
    (meet text k first.0 next.0, first.1)

before_more : (text : List ℕ) (k n : ℕ) → IsUtf8 text → k + 1 + (n + 1) ≡ length text → list_all is_plain (drop k text) ≡ true
    → take (k + 1) text ≡ before_last (n + 1) text
before_more text k n u len plain =
    let end = k + 1 in
    let meets = meet_at text k (omega arith) plain in
    let parts = clusters-part text end u (omega arith) (omega arith) meets.0 in
    let front = clusters (take end text) in
    let back = clusters (drop end text) in
    let count : length back ≡ n + 1 = count-plain (drop end text) meets.1 ∙ omega (arith, length-drop end text) in
    let left : length (clusters text) - (n + 1) ≡ length front = omega (arith, ap length parts, length-append front back, count) in
    sym (ap (λ m. concat (take m (clusters text))) left
    ∙ ap (λ cs. concat (take (length front) cs)) parts
    ∙ ap concat (take-append_seam front back)
    ∙ joined (take end text) (IsUtf8-take text end u (boundary-part text end u (omega arith) meets.0)))

before_some : (text : List ℕ) (k n : ℕ) → IsUtf8 text → k + 1 + n ≡ length text → list_all is_plain (drop k text) ≡ true
    → take (k + 1) text ≡ before_last n text
before_some text k zero u len plain =
    take_all (k + 1) text (omega (arith, len))
    ∙ sym (ap concat (take_all (length (clusters text) - 0) (clusters text) (omega arith)) ∙ joined text u)
before_some text k (suc n) u len plain =
    subst (λ m. k + 1 + m ≡ length text → list_all is_plain (drop k text) ≡ true → take (k + 1) text ≡ before_last m text) (add-one n) (before_more text k n u) len plain

module _ (text : List ℕ) (end n : ℕ) (u : IsUtf8 text) (some : 0 < end) (len : end + n ≡ length text)
    (plain : list_all is_plain (slice_range text (end - 1) (length text)) ≡ true) where
  one : end - 1 + 1 ≡ end
  one = omega arith

  from_last : list_all is_plain (drop (end - 1) text) ≡ true
  from_last = ap (list_all is_plain) (sym (take_all (length text - (end - 1)) (drop (end - 1) text) (omega (arith, length-drop (end - 1) text)))) ∙ plain

  -- the text before its last clusters, where these and the one before are plain
  pub before_plain : slice_range text 0 end ≡ before_last n text
  before_plain =
      let whole : end - 0 ≡ end - 1 + 1 = omega arith in
      ap (λ m. take m text) whole ∙ before_some text (end - 1) n u (omega (arith, len, one)) from_last

  -- a character begins behind it
  pub boundary_plain : IsCharBoundary text end
  boundary_plain = elim (cases_lt end (length text)) [
    | inl within ↦ boundary-part text end u within (subst (λ place. meets_plain text place ≡ true) one (meet_at text (end - 1) (omega (arith, within, one)) from_last).0)
    | inr past ↦ subst (IsCharBoundary text) (omega (arith, len, past)) (IsCharBoundary-end text)
  ]
