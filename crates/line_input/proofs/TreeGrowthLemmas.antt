-- Facts on a tree that grows.
use Rattle.std.proofs.Common.{arith, ◌≡◌, ◌⊎◌, inl, inr, ◌<◌, ◌++◌, ◌∙◌, ◌==◌, ap, sym, refl, subst, ℕ, zero, suc, List, [], ◌∷◌, get_or, set, length, map, false, Option, Some, None, append_assoc, append-nil, length-append, length-set}
use Rattle.std.proofs.lemmas.List.{get_or_push, get_or_append_left, set_at}
use Rattle.line_keys.specs.declared.keys.KeyEvent.{KeyEvent}
use Rattle.line_input.specs.KeyTree.{EachLeads, IsChild, IsKeyTree, IsTree, Shape, branch, child_by, held, parent_of, path_of_child, paths}
use Rattle.line_input.proofs.TreeLemmas.{apart-from, below-other, children-here, children-other, grown, leaf-past, length-paths, same-or-not, tree-grown, path-new, paths-grown}
use Rattle.line_input.proofs.TreeHeldLemmas.{held-append}
use Rattle.line_input.proofs.TreePathLemmas.{path}

root-childless : (node place child : ℕ) (key : KeyEvent) → IsChild ([] ∷ []) node place key child → ⊥
root-childless zero place child key at = let within = at.0 in absurd (omega arith)
root-childless (suc node) place child key at = let within = at.0 in absurd (omega arith)

-- a tree of the root alone
pub tree-root : IsTree ([] ∷ [])
tree-root = record {
  distinct = λ node place other key one two a b. absurd (root-childless node place one key a);
  single = λ node parent place other child key by a b. absurd (root-childless node place child key a);
  later = λ node place child key a. absurd (root-childless node place child key a);
  linked = λ child more less. absurd (omega arith);
}

length-leaf : (old : Shape) (last : List (KeyEvent × ℕ)) → length (old ++ last ∷ []) ≡ suc (length old)
length-leaf old last = simp length-append (omega arith)

node-or-last : (node last : ℕ) → node < suc last → (last ≡ node) ⊎ ((last == node) ≡ false) → (node < last) ⊎ (last ≡ node)
node-or-last node last less (inl at) = inr at
node-or-last node last less (inr apart) = inl (below-other last node less (apart-from last node apart))

module _ {V : Type 0} where
  -- the values of a branch: one at its end
  abbrev pub branch_values : List KeyEvent → V → List (Option V)
  branch_values rest value = map (λ key. None) rest ++ Some value ∷ []

  -- a tree with its values, and what these are
  pub record Holds (shape : Shape) (values : List (Option V)) (entries : List (List KeyEvent × V)) : Type 0 where
    pub keyed : IsKeyTree shape values
    pub entries_are : held (paths shape (length shape)) values ≡ entries

  end-leads : (old : Shape) (values : List (Option V)) (value : V) → length values ≡ length old → ((node : ℕ) → node < length old → get_or values node None ≡ None → 0 < length (get_or old node []))
      → (node : ℕ) → get_or (values ++ Some value ∷ []) node None ≡ None → (node < length old) ⊎ (length old ≡ node) → 0 < length (get_or (old ++ [] ∷ []) node [])
  end-leads old values value same each node none (inl before) =
      let there : get_or values node None ≡ None = sym (get_or_append_left values (Some value ∷ []) None node (omega arith)) ∙ none in
      rw (get_or_append_left old ([] ∷ []) [] node before) (each node before there)
  end-leads old values value same each node none (inr at) =
      let some : get_or (values ++ Some value ∷ []) node None ≡ Some value = get_or_push values (Some value) None node (same ∙ at) in
      let not : Some value ≡ None = sym some ∙ none in absurd (cc)

  on-leads : (old : Shape) (values : List (Option V)) (key : KeyEvent) → length values ≡ length old → ((node : ℕ) → node < length old → get_or values node None ≡ None → 0 < length (get_or old node []))
      → (node : ℕ) → get_or (values ++ None ∷ []) node None ≡ None → (node < length old) ⊎ (length old ≡ node) → 0 < length (get_or (old ++ ((key, suc (length old)) ∷ []) ∷ []) node [])
  on-leads old values key same each node none (inl before) =
      let there : get_or values node None ≡ None = sym (get_or_append_left values (None ∷ []) None node (omega arith)) ∙ none in
      rw (get_or_append_left old (((key, suc (length old)) ∷ []) ∷ []) [] node before) (each node before there)
  on-leads old values key same each node none (inr at) = rw (get_or_push old ((key, suc (length old)) ∷ []) [] node at) (omega arith)

  -- a last node with no child, from which a branch grows that has a value at its end
  grows : (rest : List KeyEvent) (old : Shape) (values : List (Option V)) (value : V) (front : List KeyEvent) → length values ≡ length old → IsTree (old ++ [] ∷ [])
      → ((node : ℕ) → node < length old → get_or values node None ≡ None → 0 < length (get_or old node []))
      → get_or (paths (old ++ [] ∷ []) (suc (length old))) (length old) [] ≡ front
      → Holds (old ++ branch (length old) rest) (values ++ branch_values rest value) (held (paths (old ++ [] ∷ []) (length old)) values ++ (front ++ rest, value) ∷ [])
  grows [] old values value front same tree each is = record {
    keyed = record {
      tree = tree;
      leads = λ node less none. end-leads old values value same each node none
          (node-or-last node (length old) (rw (length-leaf old []) at less) (same-or-not (length old) node (length old == node) refl));
    };
    entries_are =
        let at : path_of_child (paths (old ++ [] ∷ []) (length old)) (parent_of (old ++ [] ∷ []) (length old)) ≡ front =
        sym (get_or_push (paths (old ++ [] ∷ []) (length old)) (path_of_child (paths (old ++ [] ∷ []) (length old)) (parent_of (old ++ [] ∷ []) (length old))) [] (length old) (length-paths (old ++ [] ∷ []) (length old))) ∙ is in
        ap (λ n. held (paths (old ++ [] ∷ []) n) (values ++ Some value ∷ [])) (length-leaf old [])
        ∙ held-append (paths (old ++ [] ∷ []) (length old)) (path_of_child (paths (old ++ [] ∷ []) (length old)) (parent_of (old ++ [] ∷ []) (length old)) ∷ []) values (Some value ∷ []) (length-paths (old ++ [] ∷ []) (length old) ∙ sym same)
        ∙ ap (λ w. held (paths (old ++ [] ∷ []) (length old)) values ++ (w, value) ∷ []) (at ∙ sym (append-nil front));
  }
  grows (key ∷ rest) old values value front same tree each is =
      let leaf = old ++ [] ∷ [] in
      let next = old ++ ((key, suc (length old)) ∷ []) ∷ [] in
      let long : length leaf ≡ suc (length old) = length-leaf old [] in
      let long_next : length next ≡ suc (length old) = length-leaf old ((key, suc (length old)) ∷ []) in
      let none : get_or leaf (length old) [] ≡ [] = get_or_push old [] [] (length old) refl in
      let free : child_by (get_or leaf (length old) []) key ≡ None = rw none refl in
      let within : length old < length leaf = omega arith in
      let becomes : grown leaf (length old) key (length leaf) ≡ next ++ [] ∷ [] =
      rw (none, long) (ap (λ l. l ++ [] ∷ []) (set_at old [] [] ((key, suc (length old)) ∷ []) (length old) refl)) in
      let front_next : get_or (paths (next ++ [] ∷ []) (suc (length next))) (length next) [] ≡ front ++ key ∷ [] =
      subst (λ s. get_or (paths s (suc (length next))) (length next) [] ≡ front ++ key ∷ []) becomes
      (subst (λ n. get_or (paths (grown leaf (length old) key (length leaf)) (suc n)) n [] ≡ front ++ key ∷ []) (long ∙ sym long_next)
      (path-new leaf tree (length old) key within free ∙ ap (λ w. w ++ key ∷ []) (ap (λ n. get_or (paths leaf n) (length old) []) long ∙ is))) in
      let tree_next : IsTree (next ++ [] ∷ []) = subst (λ s. IsTree s) becomes (tree-grown leaf tree (length old) key within free) in
      let same_next : length (values ++ None ∷ []) ≡ length next = simp length-append (omega arith) in
      let whole = grows rest next (values ++ None ∷ []) value (front ++ key ∷ []) same_next tree_next
      (λ node less empty. on-leads old values key same each node empty (node-or-last node (length old) (rw long_next at less) (same-or-not (length old) node (length old == node) refl))) front_next in
      let shape_is : next ++ branch (length next) rest ≡ old ++ branch (length old) (key ∷ rest) =
      ap (λ n. next ++ branch n rest) long_next ∙ append_assoc old (((key, suc (length old)) ∷ []) ∷ []) (branch (suc (length old)) rest) in
      let values_are : (values ++ None ∷ []) ++ branch_values rest value ≡ values ++ branch_values (key ∷ rest) value = append_assoc values (None ∷ []) (branch_values rest value) in
      let paths_are : paths (next ++ [] ∷ []) (length next) ≡ paths leaf (length old) ++ path_of_child (paths leaf (length old)) (parent_of leaf (length old)) ∷ [] =
      subst (λ s. paths s (length next) ≡ paths leaf (suc (length old))) becomes
      (subst (λ n. paths (grown leaf (length old) key (length leaf)) n ≡ paths leaf (suc (length old))) (long ∙ sym long_next)
      (paths-grown leaf tree (length old) key within free ∙ ap (paths leaf) long)) in
      let before : held (paths (next ++ [] ∷ []) (length next)) (values ++ None ∷ []) ≡ held (paths leaf (length old)) values =
      ap (λ w. held w (values ++ None ∷ [])) paths_are
      ∙ held-append (paths leaf (length old)) (path_of_child (paths leaf (length old)) (parent_of leaf (length old)) ∷ []) values (None ∷ []) (length-paths leaf (length old) ∙ sym same)
      ∙ append-nil (held (paths leaf (length old)) values) in
      let entries_are : held (paths (next ++ [] ∷ []) (length next)) (values ++ None ∷ []) ++ ((front ++ key ∷ []) ++ rest, value) ∷ [] ≡ held (paths leaf (length old)) values ++ (front ++ key ∷ rest, value) ∷ [] =
      ap (λ l. l ++ ((front ++ key ∷ []) ++ rest, value) ∷ []) before ∙ ap (λ w. held (paths leaf (length old)) values ++ (w, value) ∷ []) (append_assoc front (key ∷ []) rest) in
      subst (λ s. Holds s (values ++ branch_values (key ∷ rest) value) (held (paths leaf (length old)) values ++ (front ++ key ∷ rest, value) ∷ [])) shape_is
      (subst (λ v. Holds (next ++ branch (length next) rest) v (held (paths leaf (length old)) values ++ (front ++ key ∷ rest, value) ∷ [])) values_are
      (subst (λ e. Holds (next ++ branch (length next) rest) ((values ++ None ∷ []) ++ branch_values rest value) e) entries_are whole))

  -- the first branch is a tree
  pub branch-holds : (rest : List KeyEvent) (value : V) → Holds (branch 0 rest) (branch_values rest value) ((rest, value) ∷ [])
  branch-holds rest value = grows rest [] [] value [] refl tree-root (λ node less none. absurd (omega arith)) refl

  graft-leads : (shape : Shape) (values : List (Option V)) (node : ℕ) (key : KeyEvent) → node < length shape → EachLeads shape values → (other : ℕ) → other < length shape → get_or values other None ≡ None
      → (node ≡ other) ⊎ ((node == other) ≡ false) → 0 < length (get_or (set shape node (get_or shape node [] ++ (key, length shape) ∷ [])) other [])
  graft-leads shape values node key within each other less none (inl at) =
      subst (λ n. 0 < length (get_or (set shape node (get_or shape node [] ++ (key, length shape) ∷ [])) n [])) at
      (rw (sym (leaf-past (set shape node (get_or shape node [] ++ (key, length shape) ∷ [])) node) ∙ children-here shape node key (length shape) within) (simp length-append (omega arith)))
  graft-leads shape values node key within each other less none (inr apart) =
      rw (sym (leaf-past (set shape node (get_or shape node [] ++ (key, length shape) ∷ [])) other) ∙ children-other shape node key (length shape) other (apart-from node other apart)) (each other less none)

  -- and so is a tree with a branch at a node that the branch's key led nowhere from
  pub graft-holds : (shape : Shape) (values : List (Option V)) → length values ≡ length shape → IsTree shape → EachLeads shape values → (node : ℕ) (key : KeyEvent) (rest : List KeyEvent) (value : V)
      → node < length shape → child_by (get_or shape node []) key ≡ None
      → Holds (set shape node (get_or shape node [] ++ (key, length shape) ∷ []) ++ branch (length shape) rest) (values ++ branch_values rest value)
      (held (paths shape (length shape)) values ++ (path shape node ++ key ∷ rest, value) ∷ [])
  graft-holds shape values same tree each node key rest value within free =
      let old = set shape node (get_or shape node [] ++ (key, length shape) ∷ []) in
      let long : length old ≡ length shape = length-set shape node (get_or shape node [] ++ (key, length shape) ∷ []) in
      let front : get_or (paths (old ++ [] ∷ []) (suc (length old))) (length old) [] ≡ path shape node ++ key ∷ [] =
      ap (λ n. get_or (paths (old ++ [] ∷ []) (suc n)) n []) long ∙ path-new shape tree node key within free in
      let whole = grows rest old values value (path shape node ++ key ∷ []) (same ∙ sym long) (tree-grown shape tree node key within free)
      (λ other less none. graft-leads shape values node key within each other (omega arith) none (same-or-not node other (node == other) refl)) front in
      let entries_are : held (paths (old ++ [] ∷ []) (length old)) values ++ ((path shape node ++ key ∷ []) ++ rest, value) ∷ [] ≡ held (paths shape (length shape)) values ++ (path shape node ++ key ∷ rest, value) ∷ [] =
      ap (λ w. held w values ++ ((path shape node ++ key ∷ []) ++ rest, value) ∷ []) (ap (paths (old ++ [] ∷ [])) long ∙ paths-grown shape tree node key within free)
      ∙ ap (λ w. held (paths shape (length shape)) values ++ (w, value) ∷ []) (append_assoc (path shape node) (key ∷ []) rest) in
      subst (λ s. Holds s (values ++ branch_values rest value) (held (paths shape (length shape)) values ++ (path shape node ++ key ∷ rest, value) ∷ [])) (ap (λ n. old ++ branch n rest) long)
      (subst (λ e. Holds (old ++ branch (length old) rest) (values ++ branch_values rest value) e) entries_are whole)
