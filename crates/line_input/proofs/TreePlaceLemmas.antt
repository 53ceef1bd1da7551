-- Facts on the places at which children of nodes stand.
use Rattle.std.proofs.Common.{arith, ◌≡◌, ◌<◌, ◌+◌, ◌∙◌, ◌==◌, ap, sym, refl, subst, ℕ, zero, suc, List, [], ◌∷◌, get_or, length, Bool, true, false, Option, Some, None, find, option_map, is_some, eq-eqb, eqb-true}
use Rattle.std.specs.Option.{option_or}
use Rattle.std.proofs.lemmas.List.{get_or_default}
use Rattle.std.proofs.lemmas.Option.{same_Some}
use Rattle.line_keys.specs.declared.keys.KeyEvent.{KeyEvent}
use Rattle.line_input.specs.Event.{same_key}
use Rattle.line_input.specs.KeyTree.{Children, IsChild, IsTree, Shape, child_by, parent_from, parent_of}
use Rattle.line_input.proofs.ChordLemmas.{same_key-says}

pub same_key-refl : (key : KeyEvent) → same_key key key ≡ true
same_key-refl key = (same_key-says key key).1 refl

pub or-none_first : {A : Type 0} (o p : Option A) → option_or o p ≡ None → (o ≡ None) × (p ≡ None)
or-none_first None p none = (refl, none)
or-none_first (Some x) p none = absurd (cc)

pub map-none : {A B : Type 0} (f : A → B) (o : Option A) → option_map f o ≡ None → o ≡ None
map-none f None none = refl
map-none f (Some x) none = absurd (cc)

same-pair : (a b : KeyEvent × ℕ) → a.0 ≡ b.0 → a.1 ≡ b.1 → a ≡ b
same-pair (k, n) (j, m) one two = cc

find-place-by : {A : Type 0} (p : A → Bool) (y : A) (ys : List A) (x d : A) (here : Bool) → p y ≡ here → find p (y ∷ ys) ≡ Some x
    → (find p ys ≡ Some x → (i : ℕ) × (i < length ys) × (get_or ys i d ≡ x) × (p x ≡ true))
    → (i : ℕ) × (i < suc (length ys)) × (get_or (y ∷ ys) i d ≡ x) × (p x ≡ true)
find-place-by p y ys x d true is found on = let same = same_Some y x (rw is at found) in (0, omega arith, same, subst (λ z. p z ≡ true) same is)
find-place-by p y ys x d false is found on = let at = on (rw is at found) in (suc at.0, omega arith, at.2, at.3)

-- what is found stands at a place
find-place : {A : Type 0} (p : A → Bool) (xs : List A) (x d : A) → find p xs ≡ Some x → (i : ℕ) × (i < length xs) × (get_or xs i d ≡ x) × (p x ≡ true)
find-place p [] x d found = absurd (cc)
find-place p (y ∷ ys) x d found = find-place-by p y ys x d (p y) refl found (λ there. find-place p ys x d there)

find-none-by : {A : Type 0} (p : A → Bool) (y : A) (ys : List A) (here : Bool) → p y ≡ here → find p (y ∷ ys) ≡ None → (p y ≡ false) × (find p ys ≡ None)
find-none-by p y ys true is none = let not = rw is at none in absurd (cc)
find-none-by p y ys false is none = (is, rw is at none)

-- where nothing is found, nothing that is looked for stands at any place
find-none : {A : Type 0} (p : A → Bool) (xs : List A) (d : A) (i : ℕ) → find p xs ≡ None → i < length xs → p (get_or xs i d) ≡ false
find-none p [] d i none within = absurd (omega arith)
find-none p (y ∷ ys) d zero none within = (find-none-by p y ys (p y) refl none).0
find-none p (y ∷ ys) d (suc i) none within = find-none p ys d i (find-none-by p y ys (p y) refl none).1 (omega arith)

-- the child that a key leads to stands at a place
pub child-place : (children : Children) (key : KeyEvent) (child : ℕ) → child_by children key ≡ Some child
    → (place : ℕ) × (place < length children) × (get_or children place (key, child) ≡ (key, child))
child-place children key child is = by (find (λ c. same_key c.0 key) children) refl
  where
    by : (found : Option (KeyEvent × ℕ)) → find (λ c. same_key c.0 key) children ≡ found → (place : ℕ) × (place < length children) × (get_or children place (key, child) ≡ (key, child))
    by None none = let not = rw none at is in absurd (cc)
    by (Some c) some =
        let at = find-place (λ (c : KeyEvent × ℕ). same_key c.0 key) children c (key, child) some in
        let number = same_Some c.1 child (rw some at is) in
        (at.0, at.1, at.2 ∙ same-pair c (key, child) ((same_key-says c.0 key).0 at.3) number)

-- where a key leads to no child, none stands behind it
pub child-none : (children : Children) (place : ℕ) (key : KeyEvent) (child : ℕ) → child_by children key ≡ None
    → place < length children → get_or children place (key, child) ≡ (key, child) → ⊥
child-none children place key child none within is =
    let not : same_key (get_or children place (key, child)).0 key ≡ false =
    find-none (λ (c : KeyEvent × ℕ). same_key c.0 key) children (key, child) place (map-none (λ (c : KeyEvent × ℕ). c.1) (find (λ c. same_key c.0 key) children) none) within in
    let same = same_key-refl key in
    let false_is : same_key key key ≡ false = rw is at not in absurd (cc)

-- a node found as a child, counted from the first of some nodes
record Parented (n : ℕ) (shape : Shape) (child node : ℕ) (key : KeyEvent) : Type 0 where
  at : ℕ
  counted : node ≡ n + at
  place : ℕ
  stands : IsChild shape at place key child

parent-place-by : (n : ℕ) (children : Children) (shape : Shape) (child node : ℕ) (key : KeyEvent) (found : Option (KeyEvent × ℕ)) → find (λ c. c.1 == child) children ≡ found
    → parent_from n (children ∷ shape) child ≡ Some (node, key) → (parent_from (suc n) shape child ≡ Some (node, key) → Parented (suc n) shape child node key)
    → Parented n (children ∷ shape) child node key
parent-place-by n children shape child node key None none is on =
    let there = on (rw none at is) in
    let counted = there.counted in
    record { at = suc there.at; counted = omega arith; place = there.place; stands = there.stands }
parent-place-by n children shape child node key (Some c) some is on =
    let at = find-place (λ (c : KeyEvent × ℕ). c.1 == child) children c (key, child) some in
    let both = same_Some (n, c.0) (node, key) (rw some at is) in
    let one : n ≡ node = ap (λ (l : ℕ × KeyEvent). l.0) both in
    let two : c.0 ≡ key = ap (λ (l : ℕ × KeyEvent). l.1) both in
    record { at = 0; counted = omega arith; place = at.0; stands = (at.1, at.2 ∙ same-pair c (key, child) two (eqb-true c.1 child at.3)) }

parent-place : (n : ℕ) (shape : Shape) (child node : ℕ) (key : KeyEvent) → parent_from n shape child ≡ Some (node, key) → Parented n shape child node key
parent-place n [] child node key is = absurd (cc)
parent-place n (children ∷ shape) child node key is =
    parent-place-by n children shape child node key (find (λ c. c.1 == child) children) refl is (λ there. parent-place (suc n) shape child node key there)

-- where a node has no parent, it is a child of none
parent-none_at : (n : ℕ) (shape : Shape) (node place child : ℕ) (key : KeyEvent) → parent_from n shape child ≡ None → IsChild shape node place key child → ⊥
parent-none_at n [] node place child key none at = let within = at.0 in absurd (omega arith)
parent-none_at n (children ∷ shape) zero place child key none at =
    let here = or-none_first (option_map (λ c. (n, c.0)) (find (λ c. c.1 == child) children)) (parent_from (suc n) shape child) none in
    let not : ((get_or children place (key, child)).1 == child) ≡ false =
    find-none (λ (c : KeyEvent × ℕ). c.1 == child) children (key, child) place (map-none (λ (c : KeyEvent × ℕ). (n, c.0)) (find (λ c. c.1 == child) children) here.0) at.0 in
    let same = eq-eqb child child refl in
    let false_is : (child == child) ≡ false = rw at.1 at not in absurd (cc)
parent-none_at n (children ∷ shape) (suc node) place child key none at =
    parent-none_at (suc n) shape node place child key (or-none_first (option_map (λ c. (n, c.0)) (find (λ c. c.1 == child) children)) (parent_from (suc n) shape child) none).1 at

-- what a parent is found for stands among its children
pub found-child : (shape : Shape) (node child : ℕ) (key : KeyEvent) → parent_of shape child ≡ Some (node, key) → (place : ℕ) × IsChild shape node place key child
found-child shape node child key is =
    let at = parent-place 0 shape child node key is in
    let counted = at.counted in
    let same : at.at ≡ node = omega arith in
    (at.place, subst (λ n. IsChild shape n at.place key child) same at.stands)

module _ (shape : Shape) (tree : IsTree shape) where
  -- a child is the one that its key leads to
  pub leads-to_it : (node place child : ℕ) (key : KeyEvent) → IsChild shape node place key child → child_by (get_or shape node []) key ≡ Some child
  leads-to_it node place child key at = by (child_by (get_or shape node []) key) refl
    where
      by : (found : Option ℕ) → child_by (get_or shape node []) key ≡ found → child_by (get_or shape node []) key ≡ Some child
      by None none = absurd (child-none (get_or shape node []) place key child none at.0 at.1)
      by (Some other) some =
          let there = child-place (get_or shape node []) key other some in
          let same = tree.distinct node place there.0 key child other at (there.1, there.2) in
          let pair : get_or (get_or shape node []) place (key, child) ≡ (key, other) =
          get_or_default (get_or shape node []) place (key, child) (key, other) at.0 ∙ ap (λ p. get_or (get_or shape node []) p (key, other)) same ∙ there.2 in
          let number : child ≡ other = ap (λ (c : KeyEvent × ℕ). c.1) (sym at.1 ∙ pair) in
          some ∙ ap Some (sym number)

  -- a child has one parent
  pub parent-is : (node place child : ℕ) (key : KeyEvent) → IsChild shape node place key child → parent_of shape child ≡ Some (node, key)
  parent-is node place child key at = by (parent_of shape child) refl
    where
      by : (found : Option (ℕ × KeyEvent)) → parent_of shape child ≡ found → parent_of shape child ≡ Some (node, key)
      by None none = absurd (parent-none_at 0 shape node place child key none at)
      by (Some (parent, by_key)) some =
          let there = found-child shape parent child by_key some in
          let same = tree.single parent node there.0 place child by_key key there.1 at in
          let inside = there.1.0 in
          let pair : (by_key, child) ≡ (key, child) =
          sym there.1.1 ∙ get_or_default (get_or shape parent []) there.0 (by_key, child) (key, child) inside
          ∙ ap (λ n. get_or (get_or shape n []) there.0 (key, child)) same.0 ∙ ap (λ p. get_or (get_or shape node []) p (key, child)) same.1 ∙ at.1 in
          let by_is : by_key ≡ key = ap (λ (c : KeyEvent × ℕ). c.0) pair in
          some ∙ ap (λ (n : ℕ). Some (n, by_key)) same.0 ∙ ap (λ (k : KeyEvent). Some (node, k)) by_is

  pub parent-distinct : (node child : ℕ) (key : KeyEvent) → parent_of shape child ≡ Some (node, key) → child_by (get_or shape node []) key ≡ Some child
  parent-distinct node child key is = let at = found-child shape node child key is in leads-to_it node at.0 child key at.1

  pub parent-single : (node child : ℕ) (key : KeyEvent) → child_by (get_or shape node []) key ≡ Some child → parent_of shape child ≡ Some (node, key)
  parent-single node child key is = let at = child-place (get_or shape node []) key child is in parent-is node at.0 child key (at.1, at.2)

  pub parent-later : (node child : ℕ) (key : KeyEvent) → parent_of shape child ≡ Some (node, key) → (node < child) × (child < length shape)
  parent-later node child key is = let at = found-child shape node child key is in tree.later node at.0 child key at.1

  pub parent-linked : (child : ℕ) → 0 < child → child < length shape → is_some (parent_of shape child) ≡ true
  parent-linked child more less = let at = tree.linked child more less in ap is_some (parent-is at.0 at.1 child at.2 at.3)
