-- Facts on the keys that lead to the nodes of a tree.
use Rattle.std.proofs.Common.{arith, ◌≡◌, ◌<◌, ◌≤◌, ◌+◌, ◌++◌, ◌∙◌, ap, sym, refl, subst, ℕ, zero, suc, List, [], ◌∷◌, get_or, length, true, false, Option, Some, None, is_some, append_assoc, append-nil}
use Rattle.std.proofs.lemmas.List.{same_from_push}
use Rattle.line_keys.specs.declared.keys.KeyEvent.{KeyEvent}
use Rattle.line_input.specs.KeyTree.{Children, EachLeads, IsTree, Shape, child_by, parent_of, paths}
use Rattle.line_input.proofs.TreeLemmas.{path-at}
use Rattle.line_input.proofs.TreePlaceLemmas.{parent-distinct, parent-later, parent-linked, parent-single, same_key-refl}

-- the keys that lead to a node
abbrev pub path : Shape → ℕ → List KeyEvent
path shape node = get_or (paths shape (length shape)) node []

pub nil-not_push : (xs : List KeyEvent) (x : KeyEvent) → [] ≡ xs ++ x ∷ [] → ⊥
nil-not_push [] x is = absurd (cc)
nil-not_push (y ∷ xs) x is = absurd (cc)

nil-not_more : (xs ys : List KeyEvent) (x : KeyEvent) → [] ≡ xs ++ x ∷ ys → ⊥
nil-not_more [] ys x is = absurd (cc)
nil-not_more (y ∷ xs) ys x is = absurd (cc)

-- the last key of some
last-of : (x : KeyEvent) (xs : List KeyEvent) → (ys : List KeyEvent) × (y : KeyEvent) × (x ∷ xs ≡ ys ++ y ∷ [])
last-of x [] = ([], x, refl)
last-of x (z ∷ xs) = let last = last-of z xs in (x ∷ last.0, last.1, ap (λ l. x ∷ l) last.2)

-- the root, or a child with the keys of its parent and one more
pub data Placed (shape : Shape) (node : ℕ) : Type 0 where
  at_root : node ≡ 0 → path shape node ≡ [] → Placed shape node
  below : (parent : ℕ) (key : KeyEvent) → parent_of shape node ≡ Some (parent, key) → parent < node → path shape node ≡ path shape parent ++ key ∷ [] → Placed shape node

module _ (shape : Shape) (tree : IsTree shape) where
  pub path-child : (parent node : ℕ) (key : KeyEvent) → parent_of shape node ≡ Some (parent, key) → path shape node ≡ path shape parent ++ key ∷ []
  path-child parent node key is =
      let late = parent-later shape tree parent node key is in
      let here = path-at shape (length shape) node late.1 in
      let above : get_or (paths shape (length shape)) parent [] ≡ get_or (paths shape node) parent [] =
      path-at shape (length shape) parent (omega arith) ∙ sym (path-at shape node parent late.0) in
      here ∙ rw (is, above) refl

  placed-by : (node : ℕ) → node < length shape → (parent : Option (ℕ × KeyEvent)) → parent_of shape node ≡ parent → Placed shape node
  placed-by zero within None is = at_root refl (path-at shape (length shape) 0 within ∙ rw is refl)
  placed-by (suc node) within None is =
      let linked : is_some (parent_of shape (suc node)) ≡ true = parent-linked shape tree (suc node) (omega arith) within in
      let not : is_some (parent_of shape (suc node)) ≡ false = ap is_some is in absurd (cc)
  placed-by node within (Some (parent, key)) is =
      let late = parent-later shape tree parent node key is in below parent key is late.0 (path-child parent node key is)

  pub placed : (node : ℕ) → node < length shape → Placed shape node
  placed node within = placed-by node within (parent_of shape node) refl

  one-by : (one other : ℕ) → one < length shape → other < length shape → ((p q : ℕ) → p < one → p < length shape → q < length shape → path shape p ≡ path shape q → p ≡ q)
      → Placed shape one → Placed shape other → path shape one ≡ path shape other → one ≡ other
  one-by one other a b before (at_root z w) (at_root y v) same = cc
  one-by one other a b before (at_root z w) (below q j is less v) same = absurd (nil-not_push (path shape q) j (sym w ∙ same ∙ v))
  one-by one other a b before (below p k is less w) (at_root y v) same = absurd (nil-not_push (path shape p) k (sym v ∙ sym same ∙ w))
  one-by one other a b before (below p k is less w) (below q j at more v) same =
      let both = same_from_push (path shape p) (path shape q) k j (sym w ∙ same ∙ v) in
      let alike : p ≡ q = before p q less (omega arith) (omega arith) both.0 in
      let first : child_by (get_or shape p []) k ≡ Some one = parent-distinct shape tree p one k is in
      let second : child_by (get_or shape q []) j ≡ Some other = parent-distinct shape tree q other j at in
      let third : child_by (get_or shape p []) k ≡ Some other =
      subst (λ n. child_by (get_or shape n []) k ≡ Some other) (sym alike) (subst (λ l. child_by (get_or shape q []) l ≡ Some other) (sym both.1) second) in
      let equal : Some one ≡ Some other = sym first ∙ third in cc

  one-within : (fuel one other : ℕ) → one < fuel → one < length shape → other < length shape → path shape one ≡ path shape other → one ≡ other
  one-within zero one other less a b same = absurd (omega arith)
  one-within (suc fuel) one other less a b same =
      one-by one other a b (λ p q lower c d alike. one-within fuel p q (omega arith) c d alike) (placed one a) (placed other b) same

  -- no two nodes have the same keys
  pub one-node : (one other : ℕ) → one < length shape → other < length shape → path shape one ≡ path shape other → one ≡ other
  one-node one other a b same = one-within (suc one) one other (omega arith) a b same

  front-by : (node : ℕ) (front : List KeyEvent) (key : KeyEvent) (rest : List KeyEvent) → path shape node ≡ front ++ key ∷ rest
      → ((p : ℕ) (more : List KeyEvent) → p < node → path shape p ≡ front ++ more → (at : ℕ) × (at < length shape) × (path shape at ≡ front))
      → Placed shape node → (at : ℕ) × (at < length shape) × (path shape at ≡ front)
  front-by node front key rest is before (at_root z w) = absurd (nil-not_more front rest key (sym w ∙ is))
  front-by node front key rest is before (below p k at less w) =
      let last = last-of key rest in
      let whole : path shape p ++ k ∷ [] ≡ (front ++ last.0) ++ last.1 ∷ [] = sym w ∙ is ∙ ap (λ l. front ++ l) last.2 ∙ sym (append_assoc front last.0 (last.1 ∷ [])) in
      before p last.0 less (same_from_push (path shape p) (front ++ last.0) k last.1 whole).0

  front-within : (fuel node : ℕ) → node < fuel → node < length shape → (front rest : List KeyEvent) → path shape node ≡ front ++ rest
      → (at : ℕ) × (at < length shape) × (path shape at ≡ front)
  front-within zero node less within front rest is = absurd (omega arith)
  front-within (suc fuel) node less within front [] is = (node, within, is ∙ append-nil front)
  front-within (suc fuel) node less within front (key ∷ rest) is =
      front-by node front key rest is (λ p more lower at. front-within fuel p (omega arith) (omega arith) front more at) (placed node within)

  -- each beginning of the keys of a node leads to a node
  pub front-node : (node : ℕ) → node < length shape → (front rest : List KeyEvent) → path shape node ≡ front ++ rest → (at : ℕ) × (at < length shape) × (path shape at ≡ front)
  front-node node within front rest is = front-within (suc node) node (omega arith) within front rest is

  absent-by : (node : ℕ) (key : KeyEvent) → node < length shape → child_by (get_or shape node []) key ≡ None → (at : ℕ) → at < length shape → path shape at ≡ path shape node ++ key ∷ [] → Placed shape at → ⊥
  absent-by node key within none at under is (at_root z w) = absurd (nil-not_push (path shape node) key (sym w ∙ is))
  absent-by node key within none at under is (below p k by less w) =
      let both = same_from_push (path shape p) (path shape node) k key (sym w ∙ is) in
      let alike : p ≡ node = one-node p node (omega arith) within both.0 in
      let taken : child_by (get_or shape p []) k ≡ Some at = parent-distinct shape tree p at k by in
      let here : child_by (get_or shape node []) key ≡ Some at =
      subst (λ n. child_by (get_or shape n []) key ≡ Some at) alike (subst (λ l. child_by (get_or shape p []) l ≡ Some at) both.1 taken) in
      let not : None ≡ Some at = sym none ∙ here in absurd (cc)

  -- no keys go on past a node by a key that leads to no child
  pub absent : (node : ℕ) (key : KeyEvent) → node < length shape → child_by (get_or shape node []) key ≡ None → (other : ℕ) → other < length shape → (rest : List KeyEvent) → path shape other ≡ path shape node ++ key ∷ rest → ⊥
  absent node key within none other under rest is =
      let at = front-node other under (path shape node ++ key ∷ []) rest (is ∙ sym (append_assoc (path shape node) (key ∷ []) rest)) in
      absent-by node key within none at.0 at.1 at.2 (placed at.0 at.1)

  module _ {V : Type 0} (values : List (Option V)) (each : EachLeads shape values) where
    leads-by : (node : ℕ) → node < length shape
        → ((child : ℕ) → node < child → child < length shape → (at : ℕ) × (value : V) × (rest : List KeyEvent) × (at < length shape) × (get_or values at None ≡ Some value) × (path shape at ≡ path shape child ++ rest))
        → (children : Children) → get_or shape node [] ≡ children → (own : Option V) → get_or values node None ≡ own
        → (at : ℕ) × (value : V) × (rest : List KeyEvent) × (at < length shape) × (get_or values at None ≡ Some value) × (path shape at ≡ path shape node ++ rest)
    leads-by node within on children is (Some value) own = (node, value, [], within, own, sym (append-nil (path shape node)))
    leads-by node within on [] is None own = let some = each node within own in let none = ap length is in absurd (omega arith)
    leads-by node within on ((key, child) ∷ children) is None own =
        let first : child_by ((key, child) ∷ children) key ≡ Some child = rw (same_key-refl key) refl in
        let by : child_by (get_or shape node []) key ≡ Some child = rw is first in
        let parent = parent-single shape tree node child key by in
        let late = parent-later shape tree node child key parent in
        let end = on child late.0 late.1 in
        (end.0, end.1, key ∷ end.2, end.3, end.4, end.5 ∙ ap (λ l. l ++ end.2) (path-child node child key parent) ∙ append_assoc (path shape node) (key ∷ []) end.2)

    -- each node leads to one with a value
    leads-within : (fuel node : ℕ) → length shape ≤ node + fuel → node < length shape
        → (at : ℕ) × (value : V) × (rest : List KeyEvent) × (at < length shape) × (get_or values at None ≡ Some value) × (path shape at ≡ path shape node ++ rest)
    leads-within zero node far within = absurd (omega arith)
    leads-within (suc fuel) node far within =
        leads-by node within (λ child later under. leads-within fuel child (omega arith) under) (get_or shape node []) refl (get_or values node None) refl

    pub leads : (node : ℕ) → node < length shape
        → (at : ℕ) × (value : V) × (rest : List KeyEvent) × (at < length shape) × (get_or values at None ≡ Some value) × (path shape at ≡ path shape node ++ rest)
    leads node within = leads-within (length shape) node (omega arith) within
