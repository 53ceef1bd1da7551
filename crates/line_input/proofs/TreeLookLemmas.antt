-- Facts on what a tree is looked up for.
use Rattle.std.proofs.Common.{arith, ◌≡◌, ◌<◌, ◌+◌, ◌-◌, ◌++◌, ◌∙◌, ◌||◌, ap, sym, refl, ℕ, zero, suc, List, [], ◌∷◌, drop, get_or, length, map, take, Bool, true, false, Option, None, option_map, find, flat_map, length-drop, get_or-drop, length-append, length-take-le, take_at, take-append-drop}
use Rattle.std.specs.List.{list_any, starts_with}
use Rattle.std.specs.Cmp.Lexicographic.{pointwise}
use Rattle.std.specs.Set.{is_member}
use Rattle.std.proofs.lemmas.List.{get_or-map, get_or_default, length-map}
use Rattle.std.proofs.lemmas.List.Folds.{list_any-append, list_any_at}
use Rattle.std.proofs.lemmas.Map.Keys.{IsDistinct-from_apart}
use Rattle.std.proofs.lemmas.Map.Made.{length-from_keys}
use Rattle.std.proofs.lemmas.Slice.Eq.{starts_is}
use Rattle.line_keys.specs.declared.keys.KeyEvent.{KeyEvent}
use Rattle.line_input.specs.Event.{same_key}
use Rattle.line_input.specs.KeyTree.{EachLeads, IsTree, LeadsTo, Shape, beginning_count, nonempty_beginnings, held, value_of, paths}
use Rattle.line_input.proofs.ChordLemmas.{same_key-says}
use Rattle.line_input.proofs.TreeLemmas.{length-paths}
use Rattle.line_input.proofs.TreeHeldLemmas.{held-any, held-at, held-from, held-no, held-none, same_sequence-laws, same_sequence-says}
use Rattle.line_input.proofs.TreePathLemmas.{Placed, at_root, below, front-node, leads, one-node, placed, path}

-- a sequence begins with its front
pub starts-more : (front rest : List KeyEvent) → starts_with same_key (front ++ rest) front ≡ true
starts-more front rest = (starts_is same_key-says (front ++ rest) front (starts_with same_key (front ++ rest) front) refl).1 rest refl

pub starts-rest : (sequence front : List KeyEvent) → starts_with same_key sequence front ≡ true → sequence ≡ front ++ drop (length front) sequence
starts-rest sequence front is = (starts_is same_key-says sequence front (starts_with same_key sequence front) refl).0 is

any-place-by : {A : Type 0} (p : A → Bool) (x : A) (xs : List A) (d : A) (here : Bool) → p x ≡ here → (p x || list_any p xs) ≡ true → (list_any p xs ≡ true → (i : ℕ) × (i < length xs) × (p (get_or xs i d) ≡ true))
    → (i : ℕ) × (i < suc (length xs)) × (p (get_or (x ∷ xs) i d) ≡ true)
any-place-by p x xs d true is any on = (0, omega arith, is)
any-place-by p x xs d false is any on = let at = on (rw is at any) in (suc at.0, omega arith, at.2)

any-place : {A : Type 0} (p : A → Bool) (xs : List A) (d : A) → list_any p xs ≡ true → (i : ℕ) × (i < length xs) × (p (get_or xs i d) ≡ true)
any-place p [] d any = absurd (cc)
any-place p (x ∷ xs) d any = any-place-by p x xs d (p x) refl any (λ there. any-place p xs d there)

any-flat : {A B C : Type 0} (p : C → Bool) (f : B → List C) (g : A → B) (xs : List A) → list_any p (flat_map f (map g xs)) ≡ list_any (λ x. list_any p (f (g x))) xs
any-flat p f g [] = refl
any-flat p f g (x ∷ xs) = list_any-append p (f (g x)) (flat_map f (map g xs)) ∙ ap (λ b. list_any p (f (g x)) || b) (any-flat p f g xs)

length-beginnings : (sequence : List KeyEvent) → length (nonempty_beginnings sequence) ≡ length sequence
length-beginnings [] = refl
length-beginnings (key ∷ sequence) = let rest = length-beginnings sequence in simp length-map (omega arith)

beginning-at : (sequence : List KeyEvent) (i : ℕ) → i < length sequence → get_or (nonempty_beginnings sequence) i [] ≡ take (suc i) sequence
beginning-at [] i less = absurd (omega arith)
beginning-at (key ∷ sequence) zero less = refl
beginning-at (key ∷ sequence) (suc i) less =
    let long = length-beginnings sequence in
    get_or-map (λ (front : List KeyEvent). key ∷ front) (nonempty_beginnings sequence) i [] [] (omega arith) ∙ ap (λ (front : List KeyEvent). key ∷ front) (beginning-at sequence i (omega arith))

-- the beginnings of a sequence are its fronts that are not empty
among-beginnings : (key : KeyEvent) (front rest : List KeyEvent) → list_any (pointwise same_key (key ∷ front)) (nonempty_beginnings ((key ∷ front) ++ rest)) ≡ true
among-beginnings key front rest =
    let whole = (key ∷ front) ++ rest in
    let long = length-beginnings whole in
    let size : length whole ≡ suc (length front) + length rest = ap suc (length-append front rest) ∙ omega arith in
    let at : get_or (nonempty_beginnings whole) (length front) [] ≡ key ∷ front = beginning-at whole (length front) (omega arith) ∙ take_at (key ∷ front) rest (suc (length front)) refl in
    list_any_at (pointwise same_key (key ∷ front)) (nonempty_beginnings whole) (length front) [] (omega arith) ((same_sequence-says (key ∷ front) (get_or (nonempty_beginnings whole) (length front) [])).1 (sym at))

-- a beginning is not empty, and is a front
pub record BeginsWith (sequence front : List KeyEvent) : Type 0 where
  pub some : 0 < length front
  pub rest : List KeyEvent
  pub is : sequence ≡ front ++ rest

from-beginnings : (sequence front : List KeyEvent) → list_any (pointwise same_key front) (nonempty_beginnings sequence) ≡ true → BeginsWith sequence front
from-beginnings sequence front any =
    let at = any-place (pointwise same_key front) (nonempty_beginnings sequence) [] any in
    let long = length-beginnings sequence in
    let under : at.0 < length sequence = omega arith in
    let same : front ≡ take (suc at.0) sequence = (same_sequence-says front (get_or (nonempty_beginnings sequence) at.0 [])).0 at.2 ∙ beginning-at sequence at.0 under in
    let size : length front ≡ suc at.0 = ap length same ∙ length-take-le (suc at.0) sequence (omega arith) in
    record {
      some = omega arith;
      rest = drop (suc at.0) sequence;
      is = sym (take-append-drop (suc at.0) sequence) ∙ ap (λ l. l ++ drop (suc at.0) sequence) (sym same);
    }

front-among : (front rest : List KeyEvent) → (front ≡ [] → ⊥) → list_any (pointwise same_key front) (nonempty_beginnings (front ++ rest)) ≡ true
front-among [] rest some = absurd (some refl)
front-among (key ∷ front) rest some = among-beginnings key front rest

same-answers : (a b : Bool) → (a ≡ true → b ≡ true) → (b ≡ true → a ≡ true) → a ≡ b
same-answers true b to from = sym (to refl)
same-answers false true to from = from refl
same-answers false false to from = refl

not-nil : (front : List KeyEvent) → 0 < length front → front ≡ [] → ⊥
not-nil [] some is = absurd (omega arith)
not-nil (key ∷ front) some is = absurd (cc)

module _ (shape : Shape) (tree : IsTree shape) where
  first-path : 0 < length shape → Placed shape 0 → path shape 0 ≡ []
  first-path some (at_root z w) = w
  first-path some (below parent key is less w) = absurd (omega arith)

  pub root-path : 0 < length shape → path shape 0 ≡ []
  root-path some = first-path some (placed shape tree 0 some)

  module _ {V : Type 0} (values : List (Option V)) (same : length values ≡ length shape) where
    -- a sequence's value is that of its node
    pub value-found : (sequence : List KeyEvent) (node : ℕ) → LeadsTo shape sequence node → value_of (held (paths shape (length shape)) values) sequence ≡ get_or values node None
    value-found sequence node to =
        let long = length-paths shape (length shape) in
        held-at (λ w. pointwise same_key w sequence) (paths shape (length shape)) values node (rw long to.within) ((same_sequence-says (path shape node) sequence).1 to.keys)
        (λ other less is. one-node shape tree other node (rw long at less) to.within ((same_sequence-says (path shape other) sequence).0 is ∙ sym to.keys))

    -- where a sequence leads to no node, it has no value
    pub entry-missing : (sequence : List KeyEvent) → ((node : ℕ) → LeadsTo shape sequence node → ⊥) → find (λ (entry : List KeyEvent × V). pointwise same_key entry.0 sequence) (held (paths shape (length shape)) values) ≡ None
    entry-missing sequence never =
        let long = length-paths shape (length shape) in
        held-none (λ w. pointwise same_key w sequence) (paths shape (length shape)) values
        (λ node less is. never node (record { within = rw long at less; keys = (same_sequence-says (path shape node) sequence).0 is }))

    pub value-missing : (sequence : List KeyEvent) → ((node : ℕ) → LeadsTo shape sequence node → ⊥) → value_of (held (paths shape (length shape)) values) sequence ≡ None
    value-missing sequence never = ap (option_map (λ (entry : List KeyEvent × V). entry.1)) (entry-missing sequence never)

    -- keys that lead to a node begin a sequence that has a value
    pub leads-found : EachLeads shape values → (front : List KeyEvent) (node : ℕ) → LeadsTo shape front node → list_any (λ (entry : List KeyEvent × V). starts_with same_key entry.0 front) (held (paths shape (length shape)) values) ≡ true
    leads-found each front node to =
        let end = leads shape tree values each node to.within in
        let long = length-paths shape (length shape) in
        let starts : starts_with same_key (path shape end.0) front ≡ true = rw (end.5, to.keys) (starts-more front end.2) in
        held-any (λ w. starts_with same_key w front) (paths shape (length shape)) values end.0 end.1 (rw long end.3) end.4 starts

    -- and other keys begin none
    pub leads-missing : (front : List KeyEvent) → ((node : ℕ) → LeadsTo shape front node → ⊥) → list_any (λ (entry : List KeyEvent × V). starts_with same_key entry.0 front) (held (paths shape (length shape)) values) ≡ false
    leads-missing front never =
        let long = length-paths shape (length shape) in
        held-no (λ w. starts_with same_key w front) (paths shape (length shape)) values
        (λ node less is. let at = front-node shape tree node (rw long at less) front (drop (length front) (path shape node)) (starts-rest (path shape node) front is) in never at.0 (record { within = at.1; keys = at.2 }))

    -- the nodes but the root, by their keys
    other-path : (i : ℕ) → get_or (drop 1 (paths shape (length shape))) i [] ≡ path shape (suc i)
    other-path i = get_or-drop 1 (paths shape (length shape)) i [] ∙ ap (path shape) (omega arith)

    length-others : length (drop 1 (paths shape (length shape))) ≡ length shape - 1
    length-others = length-drop 1 (paths shape (length shape)) ∙ ap (λ n. n - 1) (length-paths shape (length shape))

    others-apart : (i j : ℕ) (d : List KeyEvent) → i < j → j < length (drop 1 (paths shape (length shape)))
        → pointwise same_key (get_or (drop 1 (paths shape (length shape))) i d) (get_or (drop 1 (paths shape (length shape))) j d) ≡ false
    others-apart i j d before under =
        let long = length-others in
        let reads : pointwise same_key (get_or (drop 1 (paths shape (length shape))) i d) (get_or (drop 1 (paths shape (length shape))) j d) ≡ pointwise same_key (path shape (suc i)) (path shape (suc j)) =
        rw (get_or_default (drop 1 (paths shape (length shape))) i d [] (omega arith), get_or_default (drop 1 (paths shape (length shape))) j d [] under, other-path i, other-path j) refl in
        reads ∙ same-answers (pointwise same_key (path shape (suc i)) (path shape (suc j))) false
        (λ is. let one = one-node shape tree (suc i) (suc j) (omega arith) (omega arith) ((same_sequence-says (path shape (suc i)) (path shape (suc j))).0 is) in absurd (omega arith))
        (λ is. absurd (cc))

    found-among : EachLeads shape values → (front : List KeyEvent) → is_member (pointwise same_key) (drop 1 (paths shape (length shape))) front ≡ true
        → list_any (λ (entry : List KeyEvent × V). list_any (pointwise same_key front) (nonempty_beginnings entry.0)) (held (paths shape (length shape)) values) ≡ true
    found-among each front is =
        let at = any-place (pointwise same_key front) (drop 1 (paths shape (length shape))) [] is in
        let long = length-others in
        let keys : front ≡ path shape (suc at.0) = (same_sequence-says front (get_or (drop 1 (paths shape (length shape))) at.0 [])).0 at.2 ∙ other-path at.0 in
        let end = leads shape tree values each (suc at.0) (omega arith) in
        let long_paths = length-paths shape (length shape) in
        held-any (λ w. list_any (pointwise same_key front) (nonempty_beginnings w)) (paths shape (length shape)) values end.0 end.1 (rw long_paths end.3) end.4
        (rw (end.5, ← keys) (front-among front end.2 (λ none. let one = one-node shape tree (suc at.0) 0 (omega arith) (omega arith) (sym keys ∙ none ∙ sym (root-path (omega arith))) in absurd (omega arith))))

    among-by : (front : List KeyEvent) (node : ℕ) → node < length shape → path shape node ≡ front → 0 < length front → is_member (pointwise same_key) (drop 1 (paths shape (length shape))) front ≡ true
    among-by front zero within is some = absurd (not-nil front some (sym is ∙ root-path within))
    among-by front (suc node) within is some =
        let long = length-others in
        list_any_at (pointwise same_key front) (drop 1 (paths shape (length shape))) node [] (omega arith)
        ((same_sequence-says front (get_or (drop 1 (paths shape (length shape))) node [])).1 (sym (other-path node ∙ is)))

    among-found : (front : List KeyEvent) → list_any (λ (entry : List KeyEvent × V). list_any (pointwise same_key front) (nonempty_beginnings entry.0)) (held (paths shape (length shape)) values) ≡ true
        → is_member (pointwise same_key) (drop 1 (paths shape (length shape))) front ≡ true
    among-found front is =
        let from = held-from (λ w. list_any (pointwise same_key front) (nonempty_beginnings w)) (paths shape (length shape)) values is in
        let long = length-paths shape (length shape) in
        let begins = from-beginnings (path shape from.0) front from.2 in
        let at = front-node shape tree from.0 (rw long at from.1) front begins.rest begins.is in
        among-by front at.0 at.1 at.2 begins.some

    -- the nodes but the root are as many as the different beginnings
    pub others-counted : EachLeads shape values → length shape - 1 ≡ beginning_count (map (λ (entry : List KeyEvent × V). entry.0) (held (paths shape (length shape)) values))
    others-counted each =
        sym length-others
        ∙ length-from_keys same_sequence-laws (drop 1 (paths shape (length shape))) (flat_map nonempty_beginnings (map (λ (entry : List KeyEvent × V). entry.0) (held (paths shape (length shape)) values)))
        (IsDistinct-from_apart (pointwise same_key) (drop 1 (paths shape (length shape))) others-apart)
        (λ front. same-answers (is_member (pointwise same_key) (drop 1 (paths shape (length shape))) front) (is_member (pointwise same_key) (flat_map nonempty_beginnings (map (λ (entry : List KeyEvent × V). entry.0) (held (paths shape (length shape)) values))) front)
        (λ is. any-flat (pointwise same_key front) nonempty_beginnings (λ (entry : List KeyEvent × V). entry.0) (held (paths shape (length shape)) values) ∙ found-among each front is)
        (λ is. among-found front (sym (any-flat (pointwise same_key front) nonempty_beginnings (λ (entry : List KeyEvent × V). entry.0) (held (paths shape (length shape)) values)) ∙ is)))
