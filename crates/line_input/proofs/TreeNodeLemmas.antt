-- Facts on the nodes of a tree as they stand in a vector.
use Rattle.std.proofs.Common.{arith, ◌≡◌, ◌⊎◌, inl, inr, ◌<◌, ◌+◌, ◌++◌, ◌==◌, ◌∙◌, ap, sym, refl, subst, ℕ, List, [], ◌∷◌, drop, get_or, set, length, take, false, Option, Some, None, is_some, IfNone, IfSome, OnErr, Result, Ok, Err}
use Rattle.std.specs.List.{list_any, starts_with}
use Rattle.std.proofs.lemmas.List.{drop_more, get_or-map, get_or_append_left, get_or_default, length-map, length-set, map-append, map-set, set-append_left, set-get_or, take_more}
use Rattle.std.proofs.Common.{get_or-drop, get_or-set_other, get_or-set_same, length-append, length-drop, take_all, take-append-drop}
use Rattle.line_keys.specs.declared.keys.KeyEvent.{KeyEvent}
use Rattle.line_input.specs.Event.{same_key}
use Rattle.line_input.specs.KeyTree.{EachLeads, IsKeyTree, IsTree, LeadsTo, Puts, Shape, branch, child_by, held, shape_of, value_of, values_of, paths}
use Rattle.line_input.specs.declared.bindings.tree.Node.{Node}
use Rattle.line_input.proofs.TreeGrowthLemmas.{Holds, branch_values, graft-holds}
use Rattle.line_input.proofs.TreeHeldLemmas.{puts-push, puts-set}
use Rattle.line_input.proofs.TreeLemmas.{apart-from, length-paths, same-or-not}
use Rattle.line_input.proofs.TreePlaceLemmas.{parent-later, parent-single}
use Rattle.line_input.proofs.TreeLookLemmas.{entry-missing, leads-found, leads-missing, root-path, value-found, value-missing}
use Rattle.line_input.proofs.TreePathLemmas.{absent, one-node, path, path-child}

pub any-err : {T E : Type 0} (result : Result T E) (P : Type 0) → P → OnErr result P
any-err (Ok value) P holds = tt
any-err (Err error) P holds = holds

-- one key more that leads on
pub leads-on : (shape : Shape) → IsTree shape → (sequence : List KeyEvent) (i node child : ℕ) (key : KeyEvent) → i < length sequence → get_or sequence i key ≡ key → LeadsTo shape (take i sequence) node
    → child_by (get_or shape node []) key ≡ Some child → LeadsTo shape (take (i + 1) sequence) child
leads-on shape tree sequence i node child key within is to by =
    let parent = parent-single shape tree node child key by in
    let late = parent-later shape tree node child key parent in
    record {
      within = late.1;
      keys = path-child shape tree node child key parent ∙ ap (λ w. w ++ key ∷ []) to.keys ∙ sym (take_more sequence i key within ∙ ap (λ k. take i sequence ++ k ∷ []) is);
    }

pub whole-leads : (shape : Shape) (sequence : List KeyEvent) (depth node : ℕ) → depth ≡ length sequence → LeadsTo shape (take depth sequence) node → LeadsTo shape sequence node
whole-leads shape sequence depth node all to = subst (λ s. LeadsTo shape s node) (take_all depth sequence (omega arith)) to

never-by : (shape : Shape) → IsTree shape → (sequence : List KeyEvent) (depth reached : ℕ) → depth < length sequence → LeadsTo shape (take depth sequence) reached
    → ((key : KeyEvent) → depth < length sequence → key ≡ get_or sequence depth key → child_by (get_or shape reached []) key ≡ None)
    → (rest : List KeyEvent) → drop depth sequence ≡ rest → (node : ℕ) → LeadsTo shape sequence node → ⊥
never-by shape tree sequence depth reached less to none [] is node all =
    let long = length-drop depth sequence in let short = ap length is in absurd (omega arith)
never-by shape tree sequence depth reached less to none (key ∷ rest) is node all =
    let read : get_or sequence depth key ≡ key = ap (λ n. get_or sequence n key) (omega arith) ∙ sym (get_or-drop depth sequence 0 key) ∙ ap (λ l. get_or l 0 key) is in
    let whole : sequence ≡ take depth sequence ++ key ∷ rest = sym (take-append-drop depth sequence) ∙ ap (λ l. take depth sequence ++ l) is in
    absent shape tree reached key to.within (none key less (sym read)) node all.within rest (all.keys ∙ whole ∙ ap (λ l. l ++ key ∷ rest) (sym to.keys))

-- keys that lead no farther than to some node lead to none
pub never-past : (shape : Shape) → IsTree shape → (sequence : List KeyEvent) (depth reached : ℕ) → depth < length sequence → LeadsTo shape (take depth sequence) reached
    → ((key : KeyEvent) → depth < length sequence → key ≡ get_or sequence depth key → child_by (get_or shape reached []) key ≡ None) → (node : ℕ) → LeadsTo shape sequence node → ⊥
never-past shape tree sequence depth reached less to none node all = never-by shape tree sequence depth reached less to none (drop depth sequence) refl node all

module _ {V : Type 0} where
  pub sizes : (nodes : List (Node V)) → length (values_of nodes) ≡ length (shape_of nodes)
  sizes nodes = length-map nodes (λ (node : Node V). node.value) ∙ sym (length-map nodes (λ (node : Node V). node.children.items))

  -- a node written over with the same children, or the same value
  pub kept-shape : (nodes : List (Node V)) (i : ℕ) (new old : Node V) → i < length nodes → get_or nodes i old ≡ old → new.children.items ≡ old.children.items → shape_of (set nodes i new) ≡ shape_of nodes
  kept-shape nodes i new old within is same =
      map-set (λ (node : Node V). node.children.items) nodes i new
      ∙ ap (set (shape_of nodes) i) (same ∙ ap (λ (node : Node V). node.children.items) (sym is) ∙ sym (get_or-map (λ (node : Node V). node.children.items) nodes i old [] within))
      ∙ set-get_or (shape_of nodes) i []

  pub kept-values : (nodes : List (Node V)) (i : ℕ) (new old : Node V) → i < length nodes → get_or nodes i old ≡ old → new.value ≡ old.value → values_of (set nodes i new) ≡ values_of nodes
  kept-values nodes i new old within is same =
      map-set (λ (node : Node V). node.value) nodes i new
      ∙ ap (set (values_of nodes) i) (same ∙ ap (λ (node : Node V). node.value) (sym is) ∙ sym (get_or-map (λ (node : Node V). node.value) nodes i old None within))
      ∙ set-get_or (values_of nodes) i None

  -- a node written over twice, with more nodes behind all in between
  pub grafted-shape : (nodes more whole : List (Node V)) (i : ℕ) (old first second new : Node V) (key : KeyEvent) (number : ℕ) → i < length nodes → get_or nodes i old ≡ old → first.children.items ≡ old.children.items
      → whole ≡ set nodes i first ++ more → get_or whole i second ≡ second → new.children.items ≡ second.children.items ++ (key, number) ∷ [] → number ≡ length nodes
      → shape_of (set whole i new) ≡ set (shape_of nodes) i (get_or (shape_of nodes) i [] ++ (key, length nodes) ∷ []) ++ shape_of more
  grafted-shape nodes more whole i old first second new key number within is same all at pushed counted =
      let long : length (set nodes i first) ≡ length nodes = length-set nodes i first in
      let under : i < length (set nodes i first) = omega arith in
      let read : get_or whole i second ≡ first = ap (λ w. get_or w i second) all ∙ get_or_append_left (set nodes i first) more second i under ∙ get_or-set_same nodes i first second within in
      let second_is : second.children.items ≡ get_or (shape_of nodes) i [] =
      ap (λ (node : Node V). node.children.items) (sym at ∙ read) ∙ same ∙ ap (λ (node : Node V). node.children.items) (sym is) ∙ sym (get_or-map (λ (node : Node V). node.children.items) nodes i old [] within) in
      let new_is : new.children.items ≡ get_or (shape_of nodes) i [] ++ (key, length nodes) ∷ [] =
      pushed ∙ ap (λ c. c ++ (key, number) ∷ []) second_is ∙ ap (λ n. get_or (shape_of nodes) i [] ++ (key, n) ∷ []) counted in
      let many : i < length (shape_of nodes) = rw (length-map nodes (λ (node : Node V). node.children.items)) within in
      map-set (λ (node : Node V). node.children.items) whole i new
      ∙ ap (λ s. set s i new.children.items) (ap shape_of all ∙ map-append (λ (node : Node V). node.children.items) (set nodes i first) more ∙ ap (λ s. s ++ shape_of more) (kept-shape nodes i first old within is same))
      ∙ set-append_left (shape_of nodes) (shape_of more) i new.children.items many
      ∙ ap (λ c. set (shape_of nodes) i c ++ shape_of more) new_is

  pub grafted-values : (nodes more whole : List (Node V)) (i : ℕ) (old first second new : Node V) → i < length nodes → get_or nodes i old ≡ old → first.value ≡ old.value
      → whole ≡ set nodes i first ++ more → get_or whole i second ≡ second → new.value ≡ second.value
      → values_of (set whole i new) ≡ values_of nodes ++ values_of more
  grafted-values nodes more whole i old first second new within is same all at kept =
      let long : length (set nodes i first) ≡ length nodes = length-set nodes i first in
      let size : length whole ≡ length (set nodes i first) + length more = ap length all ∙ length-append (set nodes i first) more in
      kept-values whole i new second (omega arith) at kept
      ∙ ap values_of all ∙ map-append (λ (node : Node V). node.value) (set nodes i first) more
      ∙ ap (λ v. v ++ values_of more) (kept-values nodes i first old within is same)

  -- what a node that was looked for says of its keys
  pub looked-leads : (nodes : List (Node V)) → IsTree (shape_of nodes) → EachLeads (shape_of nodes) (values_of nodes) → (front : List KeyEvent) (found : Option ℕ)
      → IfSome found (LeadsTo (shape_of nodes) front) → IfNone found ((node : ℕ) → LeadsTo (shape_of nodes) front node → ⊥)
      → is_some found ≡ list_any (λ (entry : List KeyEvent × V). starts_with same_key entry.0 front) (held (paths (shape_of nodes) (length (shape_of nodes))) (values_of nodes))
  looked-leads nodes tree each front (Some node) to never = sym (leads-found (shape_of nodes) tree (values_of nodes) (sizes nodes) each front node to)
  looked-leads nodes tree each front None to never = sym (leads-missing (shape_of nodes) tree (values_of nodes) (sizes nodes) front never)

  pub looked-value : (nodes : List (Node V)) → IsTree (shape_of nodes) → (sequence : List KeyEvent) (node : ℕ) (at : Node V) → LeadsTo (shape_of nodes) sequence node → get_or nodes node at ≡ at
      → at.value ≡ value_of (held (paths (shape_of nodes) (length (shape_of nodes))) (values_of nodes)) sequence
  looked-value nodes tree sequence node at to is =
      let within : node < length nodes = rw (length-map nodes (λ (node : Node V). node.children.items)) at to.within in
      ap (λ (node : Node V). node.value) (sym is) ∙ sym (get_or-map (λ (node : Node V). node.value) nodes node at None within)
      ∙ sym (value-found (shape_of nodes) tree (values_of nodes) (sizes nodes) sequence node to)

  pub looked-none : (nodes : List (Node V)) → IsTree (shape_of nodes) → (sequence : List KeyEvent) → ((node : ℕ) → LeadsTo (shape_of nodes) sequence node → ⊥)
      → value_of (held (paths (shape_of nodes) (length (shape_of nodes))) (values_of nodes)) sequence ≡ None
  looked-none nodes tree sequence never = value-missing (shape_of nodes) tree (values_of nodes) (sizes nodes) sequence never

  -- the values of nodes by their keys
  abbrev pub entries_of : List (Node V) → List (List KeyEvent × V)
  entries_of nodes = held (paths (shape_of nodes) (length (shape_of nodes))) (values_of nodes)

  pub root-leads : (nodes : List (Node V)) → IsTree (shape_of nodes) → 0 < length nodes → LeadsTo (shape_of nodes) [] 0
  root-leads nodes tree some =
      let within : 0 < length (shape_of nodes) = rw (length-map nodes (λ (node : Node V). node.children.items)) some in
      record { within = within; keys = root-path (shape_of nodes) tree within }

  pub leads-to_child : (nodes : List (Node V)) → IsTree (shape_of nodes) → (sequence : List KeyEvent) (i node child : ℕ) (d : KeyEvent) (own : Node V) (found : Option ℕ) → i < length sequence → get_or nodes node own ≡ own
      → LeadsTo (shape_of nodes) (take i sequence) node → found ≡ child_by own.children.items (get_or sequence i d) → found ≡ Some child → LeadsTo (shape_of nodes) (take (i + 1) sequence) child
  leads-to_child nodes tree sequence i node child d own found within is to by at =
      let inside : node < length nodes = rw (length-map nodes (λ (node : Node V). node.children.items)) at to.within in
      let children : get_or (shape_of nodes) node [] ≡ own.children.items = get_or-map (λ (node : Node V). node.children.items) nodes node own [] inside ∙ ap (λ (node : Node V). node.children.items) is in
      let there : child_by (get_or (shape_of nodes) node []) (get_or sequence i d) ≡ Some child = ap (λ c. child_by c (get_or sequence i d)) children ∙ sym by ∙ at in
      leads-on (shape_of nodes) tree sequence i node child (get_or sequence i d) within (get_or_default sequence i (get_or sequence i d) d within) to there

  -- nodes whose children and values are those of others
  pub same-leads : (new old : List (Node V)) → shape_of new ≡ shape_of old → values_of new ≡ values_of old → EachLeads (shape_of old) (values_of old) → EachLeads (shape_of new) (values_of new)
  same-leads new old shape values each =
      subst (λ s. EachLeads s (values_of new)) (sym shape) (subst (λ v. EachLeads (shape_of old) v) (sym values) each)

  pub nodes-hold : (nodes : List (Node V)) (shape : Shape) (values : List (Option V)) (entries : List (List KeyEvent × V)) → shape_of nodes ≡ shape → values_of nodes ≡ values → Holds shape values entries → Holds (shape_of nodes) (values_of nodes) entries
  nodes-hold nodes shape values entries is are holds =
      subst (λ s. Holds s (values_of nodes) entries) (sym is) (subst (λ v. Holds shape v entries) (sym are) holds)

  pub puts-first : (old new : List (Node V)) (before : List (List KeyEvent × V)) (sequence : List KeyEvent) (value : V) → length old ≡ 0 → entries_of old ≡ before → entries_of new ≡ (sequence, value) ∷ [] → Puts before (entries_of new) sequence value
  puts-first [] new before sequence value none is are =
      subst (λ e. Puts e (entries_of new) sequence value) is (subst (λ e. Puts [] e sequence value) (sym are) (puts-push [] sequence value refl))
  puts-first (node ∷ old) new before sequence value none is are = absurd (omega arith)

  pub puts-from : (old before new : List (List KeyEvent × V)) (sequence : List KeyEvent) (value : V) → old ≡ before → Puts old new sequence value → Puts before new sequence value
  puts-from old before new sequence value is puts = subst (λ o. Puts o new sequence value) is puts

  set-leads : (shape : Shape) (values : List (Option V)) (n : ℕ) (value : V) → n < length values → EachLeads shape values → (node : ℕ) → node < length shape → get_or (set values n (Some value)) node None ≡ None
      → (n ≡ node) ⊎ ((n == node) ≡ false) → 0 < length (get_or shape node [])
  set-leads shape values n value within each node less none (inl at) =
      let some : get_or (set values n (Some value)) node None ≡ Some value = ap (λ m. get_or (set values n (Some value)) m None) (sym at) ∙ get_or-set_same values n (Some value) None within in
      let not : Some value ≡ None = sym some ∙ none in absurd (cc)
  set-leads shape values n value within each node less none (inr apart) =
      each node less (sym (get_or-set_other values n node (Some value) None (λ same. apart-from n node apart (sym same))) ∙ none)

  -- nodes that hold one more value, or another one
  pub record Becomes (old new : List (Node V)) (sequence : List KeyEvent) (value : V) : Type 0 where
    pub keyed : IsKeyTree (shape_of new) (values_of new)
    pub puts : Puts (entries_of old) (entries_of new) sequence value

  -- a node that has another value
  pub revalued : (nodes : List (Node V)) → IsTree (shape_of nodes) → EachLeads (shape_of nodes) (values_of nodes) → (sequence : List KeyEvent) (n : ℕ) (new old : Node V) (value : V) → get_or nodes n old ≡ old
      → new.children.items ≡ old.children.items → new.value ≡ Some value → LeadsTo (shape_of nodes) sequence n → Becomes nodes (set nodes n new) sequence value
  revalued nodes tree each sequence n new old value is same some to =
      let inside : n < length nodes = rw (length-map nodes (λ (node : Node V). node.children.items)) at to.within in
      let shape = kept-shape nodes n new old inside is same in
      let values : values_of (set nodes n new) ≡ set (values_of nodes) n (Some value) = map-set (λ (node : Node V). node.value) nodes n new ∙ ap (set (values_of nodes) n) some in
      let many : n < length (values_of nodes) = rw (sizes nodes) to.within in
      let long = length-paths (shape_of nodes) (length (shape_of nodes)) in
      let after : entries_of (set nodes n new) ≡ held (paths (shape_of nodes) (length (shape_of nodes))) (set (values_of nodes) n (Some value)) =
      ap (λ s. held (paths s (length s)) (values_of (set nodes n new))) shape ∙ ap (held (paths (shape_of nodes) (length (shape_of nodes)))) values in
      record {
        keyed = record {
          tree = subst (λ s. IsTree s) (sym shape) tree;
          leads = subst (λ s. EachLeads s (values_of (set nodes n new))) (sym shape) (subst (λ v. EachLeads (shape_of nodes) v) (sym values)
              (λ node less none. set-leads (shape_of nodes) (values_of nodes) n value many each node less none (same-or-not n node (n == node) refl)));
        };
        puts = subst (λ e. Puts (entries_of nodes) e sequence value) (sym after)
            (puts-set (paths (shape_of nodes) (length (shape_of nodes))) (values_of nodes) n value sequence (rw long to.within) (long ∙ sym (sizes nodes)) to.keys
            (λ m less at. one-node (shape_of nodes) tree m n (rw long at less) to.within (at ∙ sym to.keys)));
      }

  -- a branch hung from the last node that keys lead to
  pub grafted : (nodes new more : List (Node V)) → IsTree (shape_of nodes) → EachLeads (shape_of nodes) (values_of nodes) → (sequence : List KeyEvent) (depth node : ℕ) (d : KeyEvent) (value : V)
      → depth < length sequence → LeadsTo (shape_of nodes) (take depth sequence) node
      → ((key : KeyEvent) → depth < length sequence → key ≡ get_or sequence depth key → child_by (get_or (shape_of nodes) node []) key ≡ None)
      → shape_of more ≡ branch (length nodes) (drop (depth + 1) sequence) → values_of more ≡ branch_values (drop (depth + 1) sequence) value
      → shape_of new ≡ set (shape_of nodes) node (get_or (shape_of nodes) node [] ++ (get_or sequence depth d, length nodes) ∷ []) ++ shape_of more
      → values_of new ≡ values_of nodes ++ values_of more → Becomes nodes new sequence value
  grafted nodes new more tree each sequence depth node d value less to none more_shape more_values shape values =
      let key = get_or sequence depth d in
      let rest = drop (depth + 1) sequence in
      let many : length (shape_of nodes) ≡ length nodes = length-map nodes (λ (node : Node V). node.children.items) in
      let free : child_by (get_or (shape_of nodes) node []) key ≡ None = none key less (get_or_default sequence depth d key less) in
      let whole : take depth sequence ++ key ∷ rest ≡ sequence = ap (λ l. take depth sequence ++ l) (sym (drop_more sequence depth d less)) ∙ take-append-drop depth sequence in
      let holds = graft-holds (shape_of nodes) (values_of nodes) (sizes nodes) tree each node key rest value to.within free in
      let shape_is : shape_of new ≡ set (shape_of nodes) node (get_or (shape_of nodes) node [] ++ (key, length (shape_of nodes)) ∷ []) ++ branch (length (shape_of nodes)) rest =
      shape ∙ ap (λ s. set (shape_of nodes) node (get_or (shape_of nodes) node [] ++ (key, length nodes) ∷ []) ++ s) more_shape
      ∙ ap (λ n. set (shape_of nodes) node (get_or (shape_of nodes) node [] ++ (key, n) ∷ []) ++ branch n rest) (sym many) in
      let values_are : values_of new ≡ values_of nodes ++ branch_values rest value = values ∙ ap (λ v. values_of nodes ++ v) more_values in
      let now = nodes-hold new _ _ _ shape_is values_are holds in
      let keys_are : path (shape_of nodes) node ++ key ∷ rest ≡ sequence = ap (λ l. l ++ key ∷ rest) to.keys ∙ whole in
      let entries : entries_of new ≡ entries_of nodes ++ (sequence, value) ∷ [] = now.entries_are ∙ ap (λ s. entries_of nodes ++ (s, value) ∷ []) keys_are in
      record {
        keyed = now.keyed;
        puts = subst (λ e. Puts (entries_of nodes) e sequence value) (sym entries)
            (puts-push (entries_of nodes) sequence value (entry-missing (shape_of nodes) tree (values_of nodes) (sizes nodes) sequence (never-past (shape_of nodes) tree sequence depth node less to none)));
      }
