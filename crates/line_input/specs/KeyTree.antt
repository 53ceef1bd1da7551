-- Trees on keys: sequences that begin with the same keys share the nodes of those keys.
use Rattle.std.specs.Prelude.{◌≡◌, ◌<◌, ◌==◌, ℕ, zero, suc, if◌then◌else◌, Bool, true, List, [], ◌∷◌, ◌++◌, find, get_or, length, map, Option, None, Some, option_map}
use Rattle.std.specs.List.{flat_map, list_all}
use Rattle.std.specs.Cmp.Lexicographic.{pointwise}
use Rattle.std.specs.Option.{option_or}
use Rattle.std.specs.Set.{distinct_count}
use Rattle.line_keys.specs.declared.keys.KeyEvent.{KeyEvent}
use Rattle.line_input.specs.Event.{same_key}
use Rattle.line_input.specs.declared.bindings.tree.Node.{Node}

-- the children of a node: the number of each, and the key that leads to it
abbrev pub Children : Type 0
Children = List (KeyEvent × ℕ)

-- the nodes of a tree by their numbers, as the children of each; node 0 is the root
abbrev pub Shape : Type 0
Shape = List Children

-- the child that a key leads to
abbrev pub child_by : Children → KeyEvent → Option ℕ
child_by children key = option_map (λ child. child.1) (find (λ child. same_key child.0 key) children)

-- the parent of a node, and the key that leads from it; nodes are counted from `n`
abbrev pub parent_from : ℕ → Shape → ℕ → Option (ℕ × KeyEvent)
parent_from n [] node = None
parent_from n (children ∷ shape) node =
    option_or (option_map (λ child. (n, child.0)) (find (λ child. child.1 == node) children)) (parent_from (suc n) shape node)

-- the parent of a node, and the key that leads from it
abbrev pub parent_of : Shape → ℕ → Option (ℕ × KeyEvent)
parent_of = parent_from 0

-- a child of a node stands at this place among the node's children, with the key that leads to it
abbrev pub IsChild : Shape → ℕ → ℕ → KeyEvent → ℕ → Type 0
IsChild shape node place key child = (place < length (get_or shape node []))
    × (get_or (get_or shape node []) place (key, child) ≡ (key, child))

-- the nodes are a tree
pub record IsTree (shape : Shape) : Type 0 where
  -- the keys of a node's children are distinct
  pub distinct : (node place other : ℕ) (key : KeyEvent) (one two : ℕ)
      → IsChild shape node place key one → IsChild shape node other key two → place ≡ other
  -- a node is a child at no more than one place
  pub single : (node parent place other child : ℕ) (key by : KeyEvent)
      → IsChild shape node place key child → IsChild shape parent other by child
      → (node ≡ parent) × (place ≡ other)
  -- a child is one of the nodes, and comes later than its parent
  pub later : (node place child : ℕ) (key : KeyEvent) → IsChild shape node place key child
      → (node < child) × (child < length shape)
  -- each node but the root is a child
  pub linked : (child : ℕ) → 0 < child → child < length shape
      → (node : ℕ) × (place : ℕ) × (key : KeyEvent) × IsChild shape node place key child

-- the keys that lead to one more node, after those of its parent
abbrev pub path_of_child : List (List KeyEvent) → Option (ℕ × KeyEvent) → List KeyEvent
path_of_child paths None = []
path_of_child paths (Some (node, key)) = get_or paths node [] ++ key ∷ []

-- the keys that lead from the root to each of the first nodes
abbrev pub paths : Shape → ℕ → List (List KeyEvent)
paths shape zero = []
paths shape (suc node) = paths shape node ++ path_of_child (paths shape node) (parent_of shape node) ∷ []

-- keys lead from the root to a node
pub record LeadsTo (shape : Shape) (sequence : List KeyEvent) (node : ℕ) : Type 0 where
  pub within : node < length shape
  pub keys : get_or (paths shape (length shape)) node [] ≡ sequence

module _ {V : Type 0} where
  -- the children of each node
  abbrev pub shape_of : List (Node V) → Shape
  shape_of nodes = map (λ node. node.children.items) nodes

  -- the value of each node, where it has one
  abbrev pub values_of : List (Node V) → List (Option V)
  values_of nodes = map (λ node. node.value) nodes

  -- the values that nodes have, each with the keys that lead to it
  abbrev pub held : List (List KeyEvent) → List (Option V) → List (List KeyEvent × V)
  held (path ∷ others) (Some value ∷ values) = (path, value) ∷ held others values
  held (path ∷ others) (None ∷ values) = held others values
  held _ _ = []

  -- the value of a sequence
  abbrev pub value_of : List (List KeyEvent × V) → List KeyEvent → Option V
  value_of entries sequence = option_map (λ entry. entry.1) (find (λ entry. pointwise same_key entry.0 sequence) entries)

  -- each node has a value, or a child
  abbrev pub EachLeads : Shape → List (Option V) → Type 0
  EachLeads shape values = (node : ℕ) → node < length shape → get_or values node None ≡ None
      → 0 < length (get_or shape node [])

  -- the nodes are those of a map: a tree, in which each node leads to a value
  pub record IsKeyTree (shape : Shape) (values : List (Option V)) : Type 0 where
    pub tree : IsTree shape
    pub leads : EachLeads shape values

  -- one sequence has this value, and each other one has what it had; a test that all old values pass, and this one, all new ones pass
  pub record Puts (old new : List (List KeyEvent × V)) (sequence : List KeyEvent) (value : V) : Type 0 where
    pub values : (other : List KeyEvent) → value_of new other
        ≡ (if pointwise same_key sequence other then Some value else value_of old other)
    pub all : (test : V → Bool) → list_all (λ entry. test entry.1) old ≡ true → test value ≡ true
        → list_all (λ entry. test entry.1) new ≡ true

-- the beginnings of a sequence that are not empty, the shortest first
abbrev pub nonempty_beginnings : List KeyEvent → List (List KeyEvent)
nonempty_beginnings [] = []
nonempty_beginnings (key ∷ sequence) = (key ∷ []) ∷ map (λ front. key ∷ front) (nonempty_beginnings sequence)

-- the number of different beginnings of sequences, the empty one not counted
abbrev pub beginning_count : List (List KeyEvent) → ℕ
beginning_count sequences = distinct_count (pointwise same_key) (flat_map nonempty_beginnings sequences)

-- nodes one after another by these keys, counted from `first`, of which the last one has no child
abbrev pub branch : ℕ → List KeyEvent → Shape
branch first [] = [] ∷ []
branch first (key ∷ sequence) = ((key, suc first) ∷ []) ∷ branch (suc first) sequence
