-- Parts of a list that lose an element at one end.
use Rattle.std.specs.List.{concat, repeat}
use Rattle.std.specs.Prelude.{replicate}
use Rattle.std.proofs.Common.{append_assoc, ◌≡◌, ℕ, ◌+◌, ◌-◌, ◌≤◌, zero, suc, List, [], ◌∷◌, ◌++◌, length, take, drop, refl, ap, sym, ◌∙◌, arith, add-one, length-append}
use Rattle.std.proofs.Math.Seq.{take-append_seam}
use Rattle.std.proofs.lemmas.List.{length-take, take-append-drop}

drop_past : {A : Type 0} (n : ℕ) (xs ys : List A) (x : A) → drop n xs ≡ x ∷ ys → drop (suc n) xs ≡ ys
drop_past zero [] ys x e = cc
drop_past zero (w ∷ ws) ys x e = cc
drop_past (suc n) [] ys x e = cc
drop_past (suc n) (w ∷ ws) ys x e = drop_past n ws ys x e

pub drop_one_more : {A : Type 0} (n : ℕ) (xs ys : List A) (x : A) → drop n xs ≡ x ∷ ys → drop (n + 1) xs ≡ ys
drop_one_more n xs ys x e = rw add-one (drop_past n xs ys x e)

pub drop_nothing_more : {A : Type 0} (n m : ℕ) (xs : List A) → drop n xs ≡ [] → n ≤ m → drop m xs ≡ []
drop_nothing_more n zero [] e h = refl
drop_nothing_more zero zero (x ∷ xs) e h = e
drop_nothing_more (suc n) zero (x ∷ xs) e h = absurd (omega arith)
drop_nothing_more n (suc m) [] e h = refl
drop_nothing_more zero (suc m) (x ∷ xs) e h = cc
drop_nothing_more (suc n) (suc m) (x ∷ xs) e h = drop_nothing_more n m xs e (omega arith)

pub take_within_take : {A : Type 0} (n m : ℕ) (xs : List A) → m ≤ n → take m (take n xs) ≡ take m xs
take_within_take n zero xs h = refl
take_within_take zero (suc m) xs h = absurd (omega arith)
take_within_take (suc n) (suc m) [] h = refl
take_within_take (suc n) (suc m) (x ∷ xs) h = ap (λ ys. x ∷ ys) (take_within_take n m xs (omega arith))

pub take_one_less : {A : Type 0} (n : ℕ) (xs ys : List A) (x : A) → take n xs ≡ ys ++ x ∷ [] → n ≤ length xs → take (n - 1) xs ≡ ys
take_one_less n xs ys x e h =
    let len : n ≡ length ys + 1 = omega (arith, ap length e, length-append ys (x ∷ []), length-take n xs) in
    let short : n - 1 ≡ length ys = omega arith in
    sym (take_within_take n (n - 1) xs (omega arith)) ∙ ap (take (n - 1)) e ∙ rw short (take-append_seam ys (x ∷ []))

pub take_nothing : {A : Type 0} (n m : ℕ) (xs : List A) → take n xs ≡ [] → m ≤ n → take m xs ≡ []
take_nothing n zero xs e h = refl
take_nothing n (suc m) [] e h = refl
take_nothing zero (suc m) (x ∷ xs) e h = absurd (omega arith)
take_nothing (suc n) (suc m) (x ∷ xs) e h = cc

pub concat-append : (xs ys : List (List ℕ)) → concat (xs ++ ys) ≡ concat xs ++ concat ys
concat-append [] ys = refl
concat-append (x ∷ xs) ys = ap (λ zs. x ++ zs) (concat-append xs ys) ∙ sym (append_assoc x (concat xs) (concat ys))

pub concat-cut : (n : ℕ) (xs : List (List ℕ)) → concat (take n xs) ++ concat (drop n xs) ≡ concat xs
concat-cut n xs = sym (concat-append (take n xs) (drop n xs)) ∙ ap concat (take-append-drop n xs)

pub repeat_one : (n x : ℕ) → repeat n (x ∷ []) ≡ replicate n x
repeat_one zero x = refl
repeat_one (suc n) x = ap (λ xs. x ∷ xs) (repeat_one n x)
