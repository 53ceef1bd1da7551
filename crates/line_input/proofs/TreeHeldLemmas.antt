-- Facts on the values that the nodes of a tree have.
use Rattle.std.proofs.Common.{arith, ◌≡◌, ◌<◌, ◌++◌, ◌∙◌, ◌&&◌, ◌||◌, ap, sym, refl, subst, ℕ, zero, suc, List, [], ◌∷◌, get_or, set, length, Bool, true, false, cond, if◌then◌else◌, Option, Some, None, option_map, find, Decides, get_or-set_same}
use Rattle.std.specs.List.{list_all, list_any}
use Rattle.std.specs.Cmp.{IsEquivalence}
use Rattle.std.specs.Cmp.Lexicographic.{pointwise}
use Rattle.std.proofs.lemmas.Bool.Decides.{same_from_decides}
use Rattle.std.proofs.lemmas.List.Folds.{list_all-append}
use Rattle.std.proofs.lemmas.Slice.Eq.{slice_eq-Decides}
use Rattle.line_keys.specs.declared.keys.KeyEvent.{KeyEvent}
use Rattle.line_input.specs.Event.{same_key}
use Rattle.line_input.specs.KeyTree.{Puts, held, value_of}
use Rattle.line_input.proofs.ChordLemmas.{same_key-says}
use Rattle.line_input.proofs.TreeLemmas.{find-new, find-other}

-- the test of sequences decides whether they are equal
pub same_sequence-says : (a b : List KeyEvent) → Decides (pointwise same_key a b) (a ≡ b)
same_sequence-says a b = slice_eq-Decides same_key-says a b (pointwise same_key a b) refl

pub same_sequence-laws : IsEquivalence (pointwise same_key)
same_sequence-laws = record {
  refl = λ x. (same_sequence-says x x).1 refl;
  symm = λ x y. same_from_decides (pointwise same_key x y) (pointwise same_key y x) (same_sequence-says x y)
      (λ e. sym ((same_sequence-says y x).0 e), λ e. (same_sequence-says y x).1 (sym e));
  congr = λ x y z e. ap (λ w. pointwise same_key w z) ((same_sequence-says x y).0 e);
}

and-both : (a b : Bool) → a ≡ true → b ≡ true → (a && b) ≡ true
and-both true b one two = two
and-both false b one two = absurd (cc)

and-parts : (a b : Bool) → (a && b) ≡ true → (a ≡ true) × (b ≡ true)
and-parts true b both = (refl, both)
and-parts false b both = absurd (cc)

or-second : (a b : Bool) → b ≡ true → (a || b) ≡ true
or-second true b is = refl
or-second false b is = is

cond-none : {A : Type 0} (b : Bool) (x : A) (rest : Option A) → (b ≡ true → ⊥) → rest ≡ None → cond b (Some x) rest ≡ None
cond-none true x rest never none = absurd (never refl)
cond-none false x rest never none = none

cond-past : {A B : Type 0} (f : A → B) (b : Bool) (x : A) (rest : Option A) (y : Option B) → (b ≡ true → ⊥) → option_map f rest ≡ y → option_map f (cond b (Some x) rest) ≡ y
cond-past f true x rest y never is = absurd (never refl)
cond-past f false x rest y never is = is

or-no : (a b : Bool) → (a ≡ true → ⊥) → b ≡ false → (a || b) ≡ false
or-no true b never not = absurd (never refl)
or-no false b never not = not

set-read : {A : Type 0} (xs : List (Option A)) (n : ℕ) (x : Option A) → n < length xs → get_or (set xs n x) n None ≡ x
set-read xs n x within = get_or-set_same xs n x None within

module _ {V : Type 0} where
  pub held-append : (paths others : List (List KeyEvent)) (values rest : List (Option V)) → length paths ≡ length values → held (paths ++ others) (values ++ rest) ≡ held paths values ++ held others rest
  held-append [] others [] rest same = refl
  held-append [] others (value ∷ values) rest same = absurd (omega arith)
  held-append (path ∷ paths) others [] rest same = absurd (omega arith)
  held-append (path ∷ paths) others (Some value ∷ values) rest same = ap (λ l. (path, value) ∷ l) (held-append paths others values rest (omega arith))
  held-append (path ∷ paths) others (None ∷ values) rest same = held-append paths others values rest (omega arith)

  module _ (test : List KeyEvent → Bool) where
    -- no value whose keys pass is found where no keys pass
    pub held-none : (paths : List (List KeyEvent)) (values : List (Option V)) → ((n : ℕ) → n < length paths → test (get_or paths n []) ≡ true → ⊥)
        → find (λ (entry : List KeyEvent × V). test entry.0) (held paths values) ≡ None
    held-none [] values never = refl
    held-none (path ∷ paths) [] never = refl
    held-none (path ∷ paths) (Some value ∷ values) never =
        cond-none (test path) (path, value) (find (λ (entry : List KeyEvent × V). test entry.0) (held paths values)) (never 0 (omega arith)) (held-none paths values (λ n less. never (suc n) (omega arith)))
    held-none (path ∷ paths) (None ∷ values) never = held-none paths values (λ n less. never (suc n) (omega arith))

    -- the value of the node whose keys alone pass is found
    pub held-at : (paths : List (List KeyEvent)) (values : List (Option V)) (n : ℕ) → n < length paths → test (get_or paths n []) ≡ true
        → ((m : ℕ) → m < length paths → test (get_or paths m []) ≡ true → m ≡ n)
        → option_map (λ (entry : List KeyEvent × V). entry.1) (find (λ (entry : List KeyEvent × V). test entry.0) (held paths values)) ≡ get_or values n None
    held-at [] values n within is one = absurd (omega arith)
    held-at (path ∷ paths) [] n within is one = refl
    held-at (path ∷ paths) (Some value ∷ values) zero within is one = rw is refl
    held-at (path ∷ paths) (None ∷ values) zero within is one =
        ap (option_map (λ (entry : List KeyEvent × V). entry.1)) (held-none paths values (λ m less at. let no = one (suc m) (omega arith) at in absurd (omega arith)))
    held-at (path ∷ paths) (Some value ∷ values) (suc n) within is one =
        cond-past (λ (entry : List KeyEvent × V). entry.1) (test path) (path, value) (find (λ (entry : List KeyEvent × V). test entry.0) (held paths values)) (get_or values n None)
        (λ at. let no = one 0 (omega arith) at in absurd (omega arith))
        (held-at paths values n (omega arith) is (λ m less there. let same = one (suc m) (omega arith) there in omega arith))
    held-at (path ∷ paths) (None ∷ values) (suc n) within is one = held-at paths values n (omega arith) is (λ m less there. let same = one (suc m) (omega arith) there in omega arith)

    -- a value whose keys pass
    pub held-any : (paths : List (List KeyEvent)) (values : List (Option V)) (n : ℕ) (value : V) → n < length paths → get_or values n None ≡ Some value → test (get_or paths n []) ≡ true
        → list_any (λ (entry : List KeyEvent × V). test entry.0) (held paths values) ≡ true
    held-any [] values n value within at is = absurd (omega arith)
    held-any (path ∷ paths) [] n value within at is = absurd (cc)
    held-any (path ∷ paths) (Some own ∷ values) zero value within at is = rw is refl
    held-any (path ∷ paths) (None ∷ values) zero value within at is = absurd (cc)
    held-any (path ∷ paths) (Some own ∷ values) (suc n) value within at is = or-second (test path) (list_any (λ (entry : List KeyEvent × V). test entry.0) (held paths values)) (held-any paths values n value (omega arith) at is)
    held-any (path ∷ paths) (None ∷ values) (suc n) value within at is = held-any paths values n value (omega arith) at is

    pub held-no : (paths : List (List KeyEvent)) (values : List (Option V)) → ((n : ℕ) → n < length paths → test (get_or paths n []) ≡ true → ⊥)
        → list_any (λ (entry : List KeyEvent × V). test entry.0) (held paths values) ≡ false
    held-no [] values never = refl
    held-no (path ∷ paths) [] never = refl
    held-no (path ∷ paths) (Some value ∷ values) never =
        or-no (test path) (list_any (λ (entry : List KeyEvent × V). test entry.0) (held paths values)) (never 0 (omega arith)) (held-no paths values (λ n less. never (suc n) (omega arith)))
    held-no (path ∷ paths) (None ∷ values) never = held-no paths values (λ n less. never (suc n) (omega arith))

    from-head : (path : List KeyEvent) (value : V) (found : Bool) (rest : Bool) (N : Type 0) → test path ≡ found → (test path || rest) ≡ true → (test path ≡ true → N) → (rest ≡ true → N) → N
    from-head path value true rest N is any here there = here is
    from-head path value false rest N is any here there = there (rw is at any)

    -- where a value's keys pass, there is a node that has it
    pub held-from : (paths : List (List KeyEvent)) (values : List (Option V)) → list_any (λ (entry : List KeyEvent × V). test entry.0) (held paths values) ≡ true
        → (n : ℕ) × (n < length paths) × (test (get_or paths n []) ≡ true)
    held-from [] values any = absurd (cc)
    held-from (path ∷ paths) [] any = absurd (cc)
    held-from (path ∷ paths) (Some value ∷ values) any =
        from-head path value (test path) (list_any (λ (entry : List KeyEvent × V). test entry.0) (held paths values)) ((n : ℕ) × (n < suc (length paths)) × (test (get_or (path ∷ paths) n []) ≡ true)) refl any
        (λ here. (0, omega arith, here)) (λ there. let at = held-from paths values there in (suc at.0, omega arith, at.2))
    held-from (path ∷ paths) (None ∷ values) any = let at = held-from paths values any in (suc at.0, omega arith, at.2)

    -- a value put at a node whose keys pass is found before others, and at one whose keys fail it changes nothing
    held-set_other : (paths : List (List KeyEvent)) (values : List (Option V)) (n : ℕ) (value : V) → test (get_or paths n []) ≡ false
        → find (λ (entry : List KeyEvent × V). test entry.0) (held paths (set values n (Some value))) ≡ find (λ (entry : List KeyEvent × V). test entry.0) (held paths values)
    held-set_other [] values n value not = refl
    held-set_other (path ∷ paths) [] n value not = refl
    held-set_other (path ∷ paths) (Some own ∷ values) zero value not = rw not refl
    held-set_other (path ∷ paths) (None ∷ values) zero value not = rw not refl
    held-set_other (path ∷ paths) (Some own ∷ values) (suc n) value not = ap (λ (r : Option (List KeyEvent × V)). cond (test path) (Some (path, own)) r) (held-set_other paths values n value not)
    held-set_other (path ∷ paths) (None ∷ values) (suc n) value not = held-set_other paths values n value not

  held-set_all : (test : V → Bool) (paths : List (List KeyEvent)) (values : List (Option V)) (n : ℕ) (value : V) → list_all (λ (entry : List KeyEvent × V). test entry.1) (held paths values) ≡ true → test value ≡ true
      → list_all (λ (entry : List KeyEvent × V). test entry.1) (held paths (set values n (Some value))) ≡ true
  held-set_all test [] values n value all is = refl
  held-set_all test (path ∷ paths) [] n value all is = refl
  held-set_all test (path ∷ paths) (Some own ∷ values) zero value all is =
      and-both (test value) (list_all (λ (entry : List KeyEvent × V). test entry.1) (held paths values)) is (and-parts (test own) (list_all (λ (entry : List KeyEvent × V). test entry.1) (held paths values)) all).1
  held-set_all test (path ∷ paths) (None ∷ values) zero value all is = and-both (test value) (list_all (λ (entry : List KeyEvent × V). test entry.1) (held paths values)) is all
  held-set_all test (path ∷ paths) (Some own ∷ values) (suc n) value all is =
      let parts = and-parts (test own) (list_all (λ (entry : List KeyEvent × V). test entry.1) (held paths values)) all in
      and-both (test own) (list_all (λ (entry : List KeyEvent × V). test entry.1) (held paths (set values n (Some value)))) parts.0 (held-set_all test paths values n value parts.1 is)
  held-set_all test (path ∷ paths) (None ∷ values) (suc n) value all is = held-set_all test paths values n value all is

  -- a value put at a node
  pub puts-set : (paths : List (List KeyEvent)) (values : List (Option V)) (n : ℕ) (value : V) (sequence : List KeyEvent) → n < length paths → length paths ≡ length values → get_or paths n [] ≡ sequence
      → ((m : ℕ) → m < length paths → get_or paths m [] ≡ sequence → m ≡ n)
      → Puts (held paths values) (held paths (set values n (Some value))) sequence value
  puts-set paths values n value sequence within same is one = record {
    values = λ other. by other (pointwise same_key sequence other) refl;
    all = λ test all at. held-set_all test paths values n value all at;
  }
    where
      by : (other : List KeyEvent) (b : Bool) → pointwise same_key sequence other ≡ b → value_of (held paths (set values n (Some value))) other ≡ (if pointwise same_key sequence other then Some value else value_of (held paths values) other)
      by other true at =
          let equal : sequence ≡ other = (same_sequence-says sequence other).0 at in
          rw at (held-at (λ w. pointwise same_key w other) paths (set values n (Some value)) n within ((same_sequence-says (get_or paths n []) other).1 (is ∙ equal))
          (λ m less there. one m less ((same_sequence-says (get_or paths m []) other).0 there ∙ sym equal)) ∙ set-read values n (Some value) (omega arith))
      by other false at =
          rw at (ap (option_map (λ (entry : List KeyEvent × V). entry.1)) (held-set_other (λ w. pointwise same_key w other) paths values n value (rw is at)))

  -- a value put behind all
  pub puts-push : (entries : List (List KeyEvent × V)) (sequence : List KeyEvent) (value : V) → find (λ (entry : List KeyEvent × V). pointwise same_key entry.0 sequence) entries ≡ None
      → Puts entries (entries ++ (sequence, value) ∷ []) sequence value
  puts-push entries sequence value none = record {
    values = λ other. by other (pointwise same_key sequence other) refl;
    all = λ test all at. list_all-append (λ (entry : List KeyEvent × V). test entry.1) entries ((sequence, value) ∷ []) ∙ and-both (list_all (λ (entry : List KeyEvent × V). test entry.1) entries) (test value && true) all (and-both (test value) true at refl);
  }
    where
      by : (other : List KeyEvent) (b : Bool) → pointwise same_key sequence other ≡ b → value_of (entries ++ (sequence, value) ∷ []) other ≡ (if pointwise same_key sequence other then Some value else value_of entries other)
      by other true at =
          let equal : sequence ≡ other = (same_sequence-says sequence other).0 at in
          let none_there : find (λ (entry : List KeyEvent × V). pointwise same_key entry.0 other) entries ≡ None =
          subst (λ s. find (λ (entry : List KeyEvent × V). pointwise same_key entry.0 s) entries ≡ None) equal none in
          rw at (ap (option_map (λ (entry : List KeyEvent × V). entry.1)) (find-new (λ (entry : List KeyEvent × V). pointwise same_key entry.0 other) entries (sequence, value) none_there at))
      by other false at = rw at (ap (option_map (λ (entry : List KeyEvent × V). entry.1)) (find-other (λ (entry : List KeyEvent × V). pointwise same_key entry.0 other) entries (sequence, value) at))
