-- Texts can be cut into pieces in one way, where no piece begins another.
use Rattle.std.proofs.Common.{◌≡◌, ℕ, Bool, true, List, [], ◌∷◌, ◌++◌, length, drop, refl, sym, ap, ◌∙◌, append_assoc}
use Rattle.std.proofs.Math.Seq.{drop-append_seam}
use Rattle.std.specs.List.{concat, list_all}
use Rattle.line_parts.specs.Pieces.{is_made_of_pieces}
use Rattle.line_parts.proofs.PieceLemmas.{both, made_pieces}

-- what stands behind two equal fronts of one text is the same
pub same_behind : (p q x y : List ℕ) → p ≡ q → p ++ x ≡ q ++ y → x ≡ y
same_behind p q x y same e =
    sym (drop-append_seam p x) ∙ ap (drop (length p)) e ∙ ap (λ l. drop (length l) (q ++ y)) same ∙ drop-append_seam q y

module _ (is_piece : List ℕ → Bool) where
  -- no piece begins another one
  abbrev pub Apart : Type 0
  Apart = (p q x y : List ℕ) → is_piece p ≡ true → is_piece q ≡ true → p ++ x ≡ q ++ y → p ≡ q

  -- no piece begins a text
  abbrev pub Stops : List ℕ → Type 0
  Stops text = (p x : List ℕ) → is_piece p ≡ true → p ++ x ≡ text → ⊥

  one_way : Apart → (ps qs : List (List ℕ)) (s t : List ℕ) → list_all is_piece ps ≡ true → list_all is_piece qs ≡ true → Stops s → Stops t
      → concat ps ++ s ≡ concat qs ++ t → (concat ps ≡ concat qs) × (s ≡ t)
  one_way apart [] [] s t hp hq ss st e = (refl, e)
  one_way apart (p ∷ ps) [] s t hp hq ss st e =
      absurd (st p (concat ps ++ s) (both (is_piece p) (list_all is_piece ps) hp).0 (sym (append_assoc p (concat ps) s) ∙ e))
  one_way apart [] (q ∷ qs) s t hp hq ss st e =
      absurd (ss q (concat qs ++ t) (both (is_piece q) (list_all is_piece qs) hq).0 (sym (append_assoc q (concat qs) t) ∙ sym e))
  one_way apart (p ∷ ps) (q ∷ qs) s t hp hq ss st e =
      let one = both (is_piece p) (list_all is_piece ps) hp in
      let other = both (is_piece q) (list_all is_piece qs) hq in
      let whole : p ++ (concat ps ++ s) ≡ q ++ (concat qs ++ t) = sym (append_assoc p (concat ps) s) ∙ e ∙ append_assoc q (concat qs) t in
      let same = apart p q (concat ps ++ s) (concat qs ++ t) one.0 other.0 whole in
      let rest = one_way apart ps qs s t one.1 other.1 ss st (same_behind p q (concat ps ++ s) (concat qs ++ t) same whole) in
      (ap (λ l. l ++ concat ps) same ∙ ap (λ l. q ++ l) rest.0, rest.1)

  -- where no piece goes on, a text is cut in one way
  pub cut_one_way : Apart → (a b s t : List ℕ) → is_made_of_pieces is_piece a ≡ true → is_made_of_pieces is_piece b ≡ true → Stops s → Stops t
      → a ++ s ≡ b ++ t → (a ≡ b) × (s ≡ t)
  cut_one_way apart a b s t ha hb ss st e =
      let one = made_pieces is_piece a ha in
      let other = made_pieces is_piece b hb in
      let same = one_way apart one.pieces other.pieces s t one.passes other.passes ss st (ap (λ l. l ++ s) one.whole ∙ e ∙ ap (λ l. l ++ t) (sym other.whole)) in
      (sym one.whole ∙ same.0 ∙ other.whole, same.1)
