-- Texts that are made of pieces, and the pieces.
use Rattle.std.proofs.Common.{◌≡◌, ℕ, Bool, true, false, true≢false, ◌&&◌, ◌||◌, List, [], ◌∷◌, ◌++◌, ◌⊎◌, inl, inr, refl, sym, ap, ◌∙◌, append_assoc, append-nil}
use Rattle.std.specs.Bool.{⊤}
use Rattle.std.specs.List.{concat, flat_map, list_all, list_any}
use Rattle.std.proofs.lemmas.List.Folds.{list_all-append, list_any-append}
use Rattle.line_parts.specs.Pieces.{cuts, is_made_of_pieces, put_before}

pub either : (a b : Bool) → (a || b) ≡ true → (a ≡ true) ⊎ (b ≡ true)
either true b h = inl refl
either false b h = inr h

pub left : (a b : Bool) → a ≡ true → (a || b) ≡ true
left true b h = refl
left false b h = absurd (true≢false (sym h))

pub right : (a b : Bool) → b ≡ true → (a || b) ≡ true
right true b h = refl
right false b h = h

pub both : (a b : Bool) → (a && b) ≡ true → (a ≡ true) × (b ≡ true)
both true b h = (refl, h)
both false b h = absurd (true≢false (sym h))

pub and : (a b : Bool) → a ≡ true → b ≡ true → (a && b) ≡ true
and true b h k = k
and false b h k = h

any_in_each : {X Y : Type 0} (test : Y → Bool) (f : X → List Y) (xs : List X) → list_any test (flat_map f xs) ≡ list_any (λ x. list_any test (f x)) xs
any_in_each test f [] = refl
any_in_each test f (x ∷ xs) =
    list_any-append test (f x) (flat_map f xs) ∙ ap (λ b. list_any test (f x) || b) (any_in_each test f xs)

-- the pieces of a cut
pub record Cut (test : List (List ℕ) → Bool) (text : List ℕ) : Type 0 where
  pub pieces : List (List ℕ)
  pub passes : test pieces ≡ true
  pub whole : concat pieces ≡ text

one_cut : (test : List (List ℕ) → Bool) (c : ℕ) (cs : List ℕ) (pieces : List (List ℕ)) → list_any test (put_before c pieces) ≡ true → concat pieces ≡ cs → Cut test (c ∷ cs)
one_cut test c cs [] h whole = elim (either (test ((c ∷ []) ∷ [])) false h) [
  | inl fits ↦ record { pieces = (c ∷ []) ∷ []; passes = fits; whole = ap (λ t. c ∷ t) whole }
  | inr none ↦ absurd (true≢false (sym none))
]
one_cut test c cs (piece ∷ pieces) h whole = elim (either (test ((c ∷ []) ∷ piece ∷ pieces)) (list_any test (((c ∷ piece) ∷ pieces) ∷ [])) h) [
  | inl fits ↦ record { pieces = (c ∷ []) ∷ piece ∷ pieces; passes = fits; whole = ap (λ t. c ∷ t) whole }
  | inr more ↦ elim (either (test ((c ∷ piece) ∷ pieces)) false more) [
    | inl fits ↦ record { pieces = (c ∷ piece) ∷ pieces; passes = fits; whole = ap (λ t. c ∷ t) whole }
    | inr none ↦ absurd (true≢false (sym none))
  ]
]

cut_of : (test : List (List ℕ) → Bool) (text : List ℕ) → list_any test (cuts text) ≡ true → Cut test text
cut_of test [] h = elim (either (test []) false h) [
  | inl fits ↦ record { pieces = []; passes = fits; whole = refl }
  | inr none ↦ absurd (true≢false (sym none))
]
cut_of test (c ∷ cs) h =
    let cut = cut_of (λ pieces. list_any test (put_before c pieces)) cs (sym (any_in_each test (put_before c) (cuts cs)) ∙ h) in
    one_cut test c cs cut.pieces cut.passes cut.whole

-- no piece is empty
abbrev AllSome : List (List ℕ) → Type 0
AllSome [] = ⊤
AllSome ([] ∷ pieces) = ⊥
AllSome ((c ∷ cs) ∷ pieces) = AllSome pieces

alone : (test : List (List ℕ) → Bool) (c : ℕ) (pieces : List (List ℕ)) → test ((c ∷ []) ∷ pieces) ≡ true → list_any test (put_before c pieces) ≡ true
alone test c [] h = left (test ((c ∷ []) ∷ [])) false h
alone test c (piece ∷ pieces) h = left (test ((c ∷ []) ∷ piece ∷ pieces)) (list_any test (((c ∷ piece) ∷ pieces) ∷ [])) h

cut_before : (c : ℕ) (cs : List ℕ) (pieces : List (List ℕ))
    → ((test : List (List ℕ) → Bool) → test pieces ≡ true → list_any test (cuts (concat pieces)) ≡ true)
    → (test : List (List ℕ) → Bool) → test ((c ∷ cs) ∷ pieces) ≡ true → list_any test (cuts ((c ∷ cs) ++ concat pieces)) ≡ true
cut_before c [] pieces more test h =
    any_in_each test (put_before c) (cuts (concat pieces)) ∙ more (λ ps. list_any test (put_before c ps)) (alone test c pieces h)
cut_before c (d ∷ cs) pieces more test h =
    any_in_each test (put_before c) (cuts ((d ∷ cs) ++ concat pieces))
    ∙ cut_before d cs pieces more (λ ps. list_any test (put_before c ps))
    (right (test ((c ∷ []) ∷ (d ∷ cs) ∷ pieces)) (list_any test (((c ∷ d ∷ cs) ∷ pieces) ∷ [])) (left (test ((c ∷ d ∷ cs) ∷ pieces)) false h))

is_cut : (pieces : List (List ℕ)) → AllSome pieces → (test : List (List ℕ) → Bool) → test pieces ≡ true → list_any test (cuts (concat pieces)) ≡ true
is_cut [] some test h = left (test []) false h
is_cut ([] ∷ pieces) some test h = absurd some
is_cut ((c ∷ cs) ∷ pieces) some test h = cut_before c cs pieces (is_cut pieces some) test h

some_pieces : (is_piece : List ℕ → Bool) (pieces : List (List ℕ)) → is_piece [] ≡ false → list_all is_piece pieces ≡ true → AllSome pieces
some_pieces is_piece [] none pass = tt
some_pieces is_piece ([] ∷ pieces) none pass = absurd (true≢false (sym (both (is_piece []) (list_all is_piece pieces) pass).0 ∙ none))
some_pieces is_piece ((c ∷ cs) ∷ pieces) none pass = some_pieces is_piece pieces none (both (is_piece (c ∷ cs)) (list_all is_piece pieces) pass).1

-- the pieces of a text that is made of them
pub made_pieces : (is_piece : List ℕ → Bool) (text : List ℕ) → is_made_of_pieces is_piece text ≡ true → Cut (list_all is_piece) text
unfolding is_made_of_pieces
made_pieces is_piece text h = cut_of (list_all is_piece) text h

-- a text of such pieces is made of them
pub made_of_pieces : (is_piece : List ℕ → Bool) (pieces : List (List ℕ)) → is_piece [] ≡ false → list_all is_piece pieces ≡ true → is_made_of_pieces is_piece (concat pieces) ≡ true
unfolding is_made_of_pieces
made_of_pieces is_piece pieces none pass = is_cut pieces (some_pieces is_piece pieces none pass) (list_all is_piece) pass

pub made_nil : (is_piece : List ℕ → Bool) → is_made_of_pieces is_piece [] ≡ true
unfolding is_made_of_pieces
made_nil is_piece = refl

pub concat-append : (xs ys : List (List ℕ)) → concat (xs ++ ys) ≡ concat xs ++ concat ys
concat-append [] ys = refl
concat-append (x ∷ xs) ys = ap (λ t. x ++ t) (concat-append xs ys) ∙ sym (append_assoc x (concat xs) (concat ys))

pub made_append : (is_piece : List ℕ → Bool) (xs ys : List ℕ) → is_piece [] ≡ false → is_made_of_pieces is_piece xs ≡ true → is_made_of_pieces is_piece ys ≡ true → is_made_of_pieces is_piece (xs ++ ys) ≡ true
made_append is_piece xs ys none front rest =
    let a = made_pieces is_piece xs front in
    let b = made_pieces is_piece ys rest in
    let pass = list_all-append is_piece a.pieces b.pieces ∙ and (list_all is_piece a.pieces) (list_all is_piece b.pieces) a.passes b.passes in
    let made = made_of_pieces is_piece (a.pieces ++ b.pieces) none pass in
    rw (concat-append a.pieces b.pieces, a.whole, b.whole) at made

pub made_one : (is_piece : List ℕ → Bool) (piece : List ℕ) → is_piece [] ≡ false → is_piece piece ≡ true → is_made_of_pieces is_piece piece ≡ true
made_one is_piece piece none pass =
    let made = made_of_pieces is_piece (piece ∷ []) none (and (is_piece piece) true pass refl) in
    rw (append-nil piece) at made
