-- Facts on the nodes of a tree.
use Rattle.std.proofs.Common.{arith, ◌≡◌, ◌≢◌, ◌⊎◌, inl, inr, ◌<◌, ◌+◌, ◌++◌, ◌∙◌, ◌==◌, ap, sym, refl, subst, ℕ, zero, suc, List, [], ◌∷◌, get_or, set, length, Bool, true, false, Option, Some, None, find, option_map, length-append, length-set, eq-eqb, eqb-true}
use Rattle.std.specs.Option.{option_or}
use Rattle.std.proofs.lemmas.List.{get_or_push, get_or_append_left}
use Rattle.std.proofs.lemmas.List.Folds.{find-append}
use Rattle.line_keys.specs.declared.keys.KeyEvent.{KeyEvent}
use Rattle.line_input.specs.KeyTree.{IsChild, IsTree, Shape, child_by, parent_from, parent_of, path_of_child, paths}
use Rattle.line_input.proofs.TreePlaceLemmas.{child-none, map-none, or-none_first, parent-later}

or-none : {A : Type 0} (o : Option A) → option_or o None ≡ o
or-none None = refl
or-none (Some x) = refl

-- one more element is found where it passes and none before it did
pub find-new : {A : Type 0} (p : A → Bool) (xs : List A) (x : A) → find p xs ≡ None → p x ≡ true → find p (xs ++ x ∷ []) ≡ Some x
find-new p xs x none is = rw (find-append p xs (x ∷ []), none, is) refl

pub find-other : {A : Type 0} (p : A → Bool) (xs : List A) (x : A) → p x ≡ false → find p (xs ++ x ∷ []) ≡ find p xs
find-other p xs x not = rw (find-append p xs (x ∷ []), not) (or-none (find p xs))

-- a tree with one more node, the child of a node by a key
abbrev pub grown : Shape → ℕ → KeyEvent → ℕ → Shape
grown shape node key child = set shape node (get_or shape node [] ++ (key, child) ∷ []) ++ [] ∷ []

pub length-grown : (shape : Shape) (node : ℕ) (key : KeyEvent) (child : ℕ) → length (grown shape node key child) ≡ suc (length shape)
length-grown shape node key child = simp (length-append, length-set) (omega arith)

pub leaf-past : (shape : Shape) (node : ℕ) → get_or (shape ++ [] ∷ []) node [] ≡ get_or shape node []
leaf-past [] zero = refl
leaf-past [] (suc node) = refl
leaf-past (children ∷ shape) zero = refl
leaf-past (children ∷ shape) (suc node) = leaf-past shape node

pub children-here : (shape : Shape) (node : ℕ) (key : KeyEvent) (child : ℕ) → node < length shape → get_or (grown shape node key child) node [] ≡ get_or shape node [] ++ (key, child) ∷ []
children-here [] node key child within = absurd (omega arith)
children-here (children ∷ shape) zero key child within = refl
children-here (children ∷ shape) (suc node) key child within = children-here shape node key child (omega arith)

pub children-other : (shape : Shape) (node : ℕ) (key : KeyEvent) (child other : ℕ) → node ≢ other → get_or (grown shape node key child) other [] ≡ get_or shape other []
children-other [] node key child other apart = leaf-past [] other
children-other (children ∷ shape) zero key child zero apart = absurd (apart refl)
children-other (children ∷ shape) zero key child (suc other) apart = leaf-past shape other
children-other (children ∷ shape) (suc node) key child zero apart = refl
children-other (children ∷ shape) (suc node) key child (suc other) apart = children-other shape node key child other (λ e. apart (ap suc e))

parent-past : (n : ℕ) (shape : Shape) (child : ℕ) → parent_from n (shape ++ [] ∷ []) child ≡ parent_from n shape child
parent-past n [] child = refl
parent-past n (children ∷ shape) child = ap (option_or (option_map (λ c. (n, c.0)) (find (λ c. c.1 == child) children))) (parent-past (suc n) shape child)

pub parent-other : (n : ℕ) (shape : Shape) (node : ℕ) (key : KeyEvent) (child other : ℕ) → (child == other) ≡ false → parent_from n (grown shape node key child) other ≡ parent_from n shape other
parent-other n [] node key child other not = parent-past n [] other
parent-other n (children ∷ shape) zero key child other not =
    rw (find-other (λ (c : KeyEvent × ℕ). c.1 == other) children (key, child) not) (ap (option_or (option_map (λ c. (n, c.0)) (find (λ c. c.1 == other) children))) (parent-past (suc n) shape other))
parent-other n (children ∷ shape) (suc node) key child other not =
    ap (option_or (option_map (λ c. (n, c.0)) (find (λ c. c.1 == other) children))) (parent-other (suc n) shape node key child other not)

pub parent-new : (n : ℕ) (shape : Shape) (node : ℕ) (key : KeyEvent) (child : ℕ) → node < length shape → parent_from n shape child ≡ None → parent_from n (grown shape node key child) child ≡ Some (n + node, key)
parent-new n [] node key child within none = absurd (omega arith)
parent-new n (children ∷ shape) zero key child within none =
    let none_here = map-none (λ (c : KeyEvent × ℕ). (n, c.0)) (find (λ c. c.1 == child) children) (or-none_first _ (parent_from (suc n) shape child) none).0 in
    let here : n ≡ n + 0 = omega arith in
    rw (find-new (λ (c : KeyEvent × ℕ). c.1 == child) children (key, child) none_here (eq-eqb child child refl)) (ap (λ (m : ℕ). Some (m, key)) here)
parent-new n (children ∷ shape) (suc node) key child within none =
    let nowhere = or-none_first (option_map (λ c. (n, c.0)) (find (λ c. c.1 == child) children)) (parent_from (suc n) shape child) none in
    let on : suc n + node ≡ n + suc node = omega arith in
    rw nowhere.0 (parent-new (suc n) shape node key child (omega arith) nowhere.1 ∙ ap (λ (m : ℕ). Some (m, key)) on)

-- no node past the last one is a child
pub parent-none : (shape : Shape) → IsTree shape → (parent : Option (ℕ × KeyEvent)) → parent_of shape (length shape) ≡ parent → parent_of shape (length shape) ≡ None
parent-none shape tree None is = is
parent-none shape tree (Some (node, key)) is = let late = parent-later shape tree node (length shape) key is in absurd (omega arith)

pub same-or-not : (a b : ℕ) (same : Bool) → (a == b) ≡ same → (a ≡ b) ⊎ ((a == b) ≡ false)
same-or-not a b true is = inl (eqb-true a b is)
same-or-not a b false is = inr is

pub apart-from : (a b : ℕ) → (a == b) ≡ false → a ≢ b
apart-from a b not same = absurd (cc (eq-eqb a b same))

not-same : (a b : ℕ) → b < a → (a == b) ≡ false
not-same a b less = by (a == b) refl
  where
    by : (same : Bool) → (a == b) ≡ same → (a == b) ≡ false
    by true is = let one = eqb-true a b is in absurd (omega arith)
    by false is = is

pub below-other : (a b : ℕ) → b < suc a → a ≢ b → b < a
below-other a b less apart = omega arith

pub length-paths : (shape : Shape) (n : ℕ) → length (paths shape n) ≡ n
length-paths shape zero = refl
length-paths shape (suc n) = let before = length-paths shape n in simp length-append (omega arith)

path-at-by : (shape : Shape) (n node : ℕ) → (node < n → get_or (paths shape n) node [] ≡ path_of_child (paths shape node) (parent_of shape node)) → node < suc n → (n ≡ node) ⊎ ((n == node) ≡ false)
    → get_or (paths shape (suc n)) node [] ≡ path_of_child (paths shape node) (parent_of shape node)
path-at-by shape n node before less (inl at) =
    subst (λ m. get_or (paths shape (suc n)) m [] ≡ path_of_child (paths shape m) (parent_of shape m)) at
    (get_or_push (paths shape n) (path_of_child (paths shape n) (parent_of shape n)) [] n (length-paths shape n))
path-at-by shape n node before less (inr other) =
    let under : node < n = below-other n node less (apart-from n node other) in
    let long = length-paths shape n in
    get_or_append_left (paths shape n) (path_of_child (paths shape n) (parent_of shape n) ∷ []) [] node (omega arith) ∙ before under

-- the keys that lead to a node, by its parent
pub path-at : (shape : Shape) (n node : ℕ) → node < n → get_or (paths shape n) node [] ≡ path_of_child (paths shape node) (parent_of shape node)
path-at shape zero node less = absurd (omega arith)
path-at shape (suc n) node less = path-at-by shape n node (λ under. path-at shape n node under) less (same-or-not n node (n == node) refl)

pub paths-alike : (shape other : Shape) (n : ℕ) → ((node : ℕ) → node < n → parent_of other node ≡ parent_of shape node) → paths other n ≡ paths shape n
paths-alike shape other zero alike = refl
paths-alike shape other (suc n) alike =
    let before = paths-alike shape other n (λ node less. alike node (omega arith)) in
    let here = alike n (omega arith) in
    rw (before, here) refl

module _ (shape : Shape) (tree : IsTree shape) (node : ℕ) (key : KeyEvent) (within : node < length shape) (free : child_by (get_or shape node []) key ≡ None) where
  parent-of_new : parent_of (grown shape node key (length shape)) (length shape) ≡ Some (node, key)
  parent-of_new = parent-new 0 shape node key (length shape) within (parent-none shape tree (parent_of shape (length shape)) refl) ∙ ap (λ (m : ℕ). Some (m, key)) (omega arith)

  -- the one child more
  record IsNew (parent place child : ℕ) (by : KeyEvent) : Type 0 where
    parent_is : node ≡ parent
    place_is : length (get_or shape node []) ≡ place
    key_is : key ≡ by
    child_is : length shape ≡ child

  old-or-new_here : (place child : ℕ) (by : KeyEvent) → IsChild (grown shape node key (length shape)) node place by child
      → (length (get_or shape node []) ≡ place) ⊎ ((length (get_or shape node []) == place) ≡ false) → IsChild shape node place by child ⊎ IsNew node place child by
  old-or-new_here place child by at (inl last) =
      let there = rw (children-here shape node key (length shape) within) at at.1 in
      let pair : (key, length shape) ≡ (by, child) = sym (get_or_push (get_or shape node []) (key, length shape) (by, child) place last) ∙ there in
      inr (record { parent_is = refl; place_is = last; key_is = ap (λ (c : KeyEvent × ℕ). c.0) pair; child_is = ap (λ (c : KeyEvent × ℕ). c.1) pair })
  old-or-new_here place child by at (inr apart) =
      let inside = rw (children-here shape node key (length shape) within) at at.0 in
      let there = rw (children-here shape node key (length shape) within) at at.1 in
      let long = length-append (get_or shape node []) ((key, length shape) ∷ []) in
      let less : place < length (get_or shape node []) = below-other (length (get_or shape node [])) place (omega arith) (apart-from (length (get_or shape node [])) place apart) in
      inl (less, sym (get_or_append_left (get_or shape node []) ((key, length shape) ∷ []) (by, child) place less) ∙ there)

  -- a child in the tree with one more node is one of before, or that one
  old-or-new : (parent place child : ℕ) (by : KeyEvent) → IsChild (grown shape node key (length shape)) parent place by child
      → (node ≡ parent) ⊎ ((node == parent) ≡ false) → IsChild shape parent place by child ⊎ IsNew parent place child by
  old-or-new parent place child by at (inl here) =
      subst (λ p. IsChild shape p place by child ⊎ IsNew p place child by) here
      (old-or-new_here place child by (subst (λ p. IsChild (grown shape node key (length shape)) p place by child) (sym here) at)
      (same-or-not (length (get_or shape node [])) place (length (get_or shape node []) == place) refl))
  old-or-new parent place child by at (inr apart) =
      inl (rw (children-other shape node key (length shape) parent (apart-from node parent apart)) at at)

  either : (parent place child : ℕ) (by : KeyEvent) → IsChild (grown shape node key (length shape)) parent place by child → IsChild shape parent place by child ⊎ IsNew parent place child by
  either parent place child by at = old-or-new parent place child by at (same-or-not node parent (node == parent) refl)

  -- a child of before is one still
  stays : (parent place child : ℕ) (by : KeyEvent) → IsChild shape parent place by child → (node ≡ parent) ⊎ ((node == parent) ≡ false) → IsChild (grown shape node key (length shape)) parent place by child
  stays parent place child by at (inl here) =
      let was : IsChild shape node place by child = subst (λ p. IsChild shape p place by child) (sym here) at in
      let inside = was.0 in
      let long = length-append (get_or shape node []) ((key, length shape) ∷ []) in
      let less : place < length (get_or shape node [] ++ (key, length shape) ∷ []) = omega arith in
      subst (λ p. IsChild (grown shape node key (length shape)) p place by child) here
      (rw (children-here shape node key (length shape) within) (less, get_or_append_left (get_or shape node []) ((key, length shape) ∷ []) (by, child) place inside ∙ was.1))
  stays parent place child by at (inr apart) = rw (children-other shape node key (length shape) parent (apart-from node parent apart)) at

  new-stands : IsChild (grown shape node key (length shape)) node (length (get_or shape node [])) key (length shape)
  new-stands =
      let long = length-append (get_or shape node []) ((key, length shape) ∷ []) in
      let less : length (get_or shape node []) < length (get_or shape node [] ++ (key, length shape) ∷ []) = omega arith in
      rw (children-here shape node key (length shape) within) (less, get_or_push (get_or shape node []) (key, length shape) (key, length shape) (length (get_or shape node [])) refl)

  taken : (parent place child : ℕ) (by : KeyEvent) → IsChild shape parent place by child → node ≡ parent → key ≡ by → ⊥
  taken parent place child by at here same =
      let there : IsChild shape node place key child = subst (λ p. IsChild shape p place key child) (sym here) (subst (λ k. IsChild shape parent place k child) (sym same) at) in
      child-none (get_or shape node []) place key child free there.0 there.1

  grown-distinct : (parent place other : ℕ) (by : KeyEvent) (one two : ℕ) → IsChild shape parent place by one ⊎ IsNew parent place one by → IsChild shape parent other by two ⊎ IsNew parent other two by → place ≡ other
  grown-distinct parent place other by one two (inl a) (inl b) = tree.distinct parent place other by one two a b
  grown-distinct parent place other by one two (inl a) (inr b) = absurd (taken parent place one by a b.parent_is b.key_is)
  grown-distinct parent place other by one two (inr a) (inl b) = absurd (taken parent other two by b a.parent_is a.key_is)
  grown-distinct parent place other by one two (inr a) (inr b) = sym a.place_is ∙ b.place_is

  grown-single : (parent second place other child : ℕ) (one two : KeyEvent) → IsChild shape parent place one child ⊎ IsNew parent place child one → IsChild shape second other two child ⊎ IsNew second other child two
      → (parent ≡ second) × (place ≡ other)
  grown-single parent second place other child one two (inl a) (inl b) = tree.single parent second place other child one two a b
  grown-single parent second place other child one two (inl a) (inr b) = let late = tree.later parent place child one a in let new = b.child_is in absurd (omega arith)
  grown-single parent second place other child one two (inr a) (inl b) = let late = tree.later second other child two b in let new = a.child_is in absurd (omega arith)
  grown-single parent second place other child one two (inr a) (inr b) = (sym a.parent_is ∙ b.parent_is, sym a.place_is ∙ b.place_is)

  grown-later : (parent place child : ℕ) (by : KeyEvent) → IsChild shape parent place by child ⊎ IsNew parent place child by → (parent < child) × (child < length (grown shape node key (length shape)))
  grown-later parent place child by (inl a) =
      let late = tree.later parent place child by a in
      let long = length-grown shape node key (length shape) in
      (omega arith, omega arith)
  grown-later parent place child by (inr a) =
      let here = a.parent_is in
      let new = a.child_is in
      let long = length-grown shape node key (length shape) in
      (omega arith, omega arith)

  grown-linked : (child : ℕ) → 0 < child → child < length (grown shape node key (length shape)) → (length shape ≡ child) ⊎ ((length shape == child) ≡ false)
      → (parent : ℕ) × (place : ℕ) × (by : KeyEvent) × IsChild (grown shape node key (length shape)) parent place by child
  grown-linked child more less (inl new) =
      (node, length (get_or shape node []), key, subst (λ c. IsChild (grown shape node key (length shape)) node (length (get_or shape node [])) key c) new new-stands)
  grown-linked child more less (inr old) =
      let long = length-grown shape node key (length shape) in
      let before : child < length shape = below-other (length shape) child (omega arith) (apart-from (length shape) child old) in
      let at = tree.linked child more before in
      (at.0, at.1, at.2, stays at.0 at.1 child at.2 at.3 (same-or-not node at.0 (node == at.0) refl))

  -- a tree with one more node is one
  pub tree-grown : IsTree (grown shape node key (length shape))
  tree-grown = record {
    distinct = λ parent place other by one two a b. grown-distinct parent place other by one two (either parent place one by a) (either parent other two by b);
    single = λ parent second place other child one two a b. grown-single parent second place other child one two (either parent place child one a) (either second other child two b);
    later = λ parent place child by a. grown-later parent place child by (either parent place child by a);
    linked = λ child more less. grown-linked child more less (same-or-not (length shape) child (length shape == child) refl);
  }

  -- the keys that lead to its nodes
  pub paths-grown : paths (grown shape node key (length shape)) (length shape) ≡ paths shape (length shape)
  paths-grown = paths-alike shape (grown shape node key (length shape)) (length shape)
      (λ child less. parent-other 0 shape node key (length shape) child (not-same (length shape) child (omega arith)))

  pub path-new : get_or (paths (grown shape node key (length shape)) (suc (length shape))) (length shape) [] ≡ get_or (paths shape (length shape)) node [] ++ key ∷ []
  path-new =
      rw (parent-of_new, paths-grown) (get_or_push (paths shape (length shape)) (get_or (paths shape (length shape)) node [] ++ key ∷ []) [] (length shape) (length-paths shape (length shape)))
