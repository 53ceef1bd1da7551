-- The entries of one group, while characters are typed: taking them back gives the text that the group began with.
use Rattle.std.proofs.Common.{◌≡◌, ℕ, ◌+◌, ◌≤◌, ◌<◌, ◌==◌, Bool, true, false, cond, List, [], ◌∷◌, ◌++◌, length, take, drop, refl, sym, ap, ap₂, ◌∙◌, subst, nat_lt, arith, inl, inr, append_assoc, append-nil, length-append}
use Rattle.std.proofs.Math.Seq.{drop-append_seam}
use Rattle.std.proofs.lemmas.Bool.Decides.{eqb_tells}
use Rattle.std.proofs.lemmas.List.{length-take-le, take-append-drop, take-append-le}
use Rattle.std.proofs.lemmas.Str.{length-encode}
use Rattle.std.specs.Char.{encode_utf8}
use Rattle.std.specs.List.{insert_slice, list_all, remove_range, repeat}
use Rattle.line_buffer.proofs.ListLemmas.{take_within_take}
use Rattle.line_buffer.specs.Changes.{Entry, begins, deleted, ends, inserted, replaced, with_insert, with_joined_insert, with_typed}
use Rattle.line_buffer.specs.Character.{is_alphanumeric}
use Rattle.line_buffer.specs.Line.{Line}
use Rattle.line_buffer.specs.Undo.{all_taken_back, is_change}

-- entries taken back from a text, wherever the cursor is, give this one
abbrev pub TakesBack : List Entry → List ℕ → List ℕ → Type 0
TakesBack entries text start = (cursor : ℕ) → (all_taken_back entries (record { text = text; cursor = cursor })).text ≡ start

pub takes-back : (entries : List Entry) (l : Line) (text start : List ℕ) → l.text ≡ text → TakesBack entries text start → (all_taken_back entries l).text ≡ start
takes-back entries l text start is back =
    ap (λ x. (all_taken_back entries (record { text = x; cursor = l.cursor })).text) is ∙ back l.cursor

-- ---- a text that comes in

module _ (text t : List ℕ) (p : ℕ) (within : p ≤ length text) where
  front : length (take p text) ≡ p
  front = length-take-le p text within

  -- without what came in behind a place before it
  removed : (at stop : ℕ) → at ≤ p → stop ≡ p + length t → remove_range (insert_slice text p t) at stop ≡ take at text ++ drop p text
  removed at stop low end =
      let here : length (take p text ++ t) ≡ stop = length-append (take p text) t ∙ omega (arith, front, end) in
      let before : take at (insert_slice text p t) ≡ take at text =
      ap (take at) (append_assoc (take p text) t (drop p text)) ∙ take-append-le at (take p text) (t ++ drop p text) (omega (arith, front)) ∙ take_within_take p at text low in
      let behind : drop stop (insert_slice text p t) ≡ drop p text =
      ap (λ k. drop k ((take p text ++ t) ++ drop p text)) (sym here) ∙ drop-append_seam (take p text ++ t) (drop p text) in
      ap₂ ◌++◌ before behind

  plainly : (entries : List Entry) (start : List ℕ) → TakesBack entries text start → TakesBack (inserted p t ∷ entries) (insert_slice text p t) start
  plainly entries start back cursor =
      ap (λ x. (all_taken_back entries (record { text = x; cursor = p })).text) (removed p (p + length t) (omega arith) refl ∙ take-append-drop p text)
      ∙ back p

  joined : (at : ℕ) (old : List ℕ) (entries : List Entry) (start : List ℕ) → at + length old ≡ p → TakesBack (inserted at old ∷ entries) text start
      → TakesBack (inserted at (old ++ t) ∷ entries) (insert_slice text p t) start
  joined at old entries start ends_there back cursor =
      let stop : at + length (old ++ t) ≡ p + length t = omega (arith, length-append old t, ends_there) in
      ap (λ x. (all_taken_back entries (record { text = x; cursor = at })).text)
      (removed at (at + length (old ++ t)) (omega (arith, ends_there)) stop ∙ ap (λ q. take at text ++ drop q text) (sym ends_there))
      ∙ back 0

-- ---- what an entry that is added leaves of a group

-- the entries that are added to: behind the group's begin they stand as alone, they are changes, at least one, and taking them back
-- from the new text gives what the old ones gave
pub record GrownBy (add : List Entry → List Entry) (inside : List Entry) (text text' : List ℕ) : Type 0 where
  pub stands : (older : List Entry) → add (inside ++ begins ∷ older) ≡ add inside ++ begins ∷ older
  pub some : 0 < length (add inside)
  pub all : list_all is_change (add inside) ≡ true
  pub back : (start : List ℕ) → TakesBack inside text start → TakesBack (add inside) text' start

-- where the text that comes in leaves an entry of its own
insert-grows : (text : List ℕ) (p : ℕ) → p ≤ length text → (t : List ℕ) → 0 < length t → (inside : List Entry) → list_all is_change inside ≡ true
    → GrownBy (λ es. with_insert p t es) inside text (insert_slice text p t)
insert-grows text p within [] some inside all = absurd (omega (arith, some))
insert-grows text p within (b ∷ bs) some inside all =
    record { stands = λ older. refl; some = omega arith; all = all; back = plainly text (b ∷ bs) p within inside }

-- one entry in the place of another, or before it
stands_in : (b : Bool) (x y z : Entry) (es r : List Entry) → cond b (x ∷ (es ++ r)) (y ∷ z ∷ (es ++ r)) ≡ cond b (x ∷ es) (y ∷ z ∷ es) ++ r
stands_in true x y z es r = refl
stands_in false x y z es r = refl

some_in : (b : Bool) (x y z : Entry) (es : List Entry) → 0 < length (cond b (x ∷ es) (y ∷ z ∷ es))
some_in true x y z es = omega arith
some_in false x y z es = omega arith

all_in : (b : Bool) (x y z : Entry) (es : List Entry) → list_all is_change (x ∷ es) ≡ true → list_all is_change (y ∷ z ∷ es) ≡ true
    → list_all is_change (cond b (x ∷ es) (y ∷ z ∷ es)) ≡ true
all_in true x y z es one two = one
all_in false x y z es one two = two

-- where it joins the newest entry
join-grows : (text : List ℕ) (p : ℕ) → p ≤ length text → (t : List ℕ) (inside : List Entry) → list_all is_change inside ≡ true
    → GrownBy (λ es. with_joined_insert p t es) inside text (insert_slice text p t)
join-grows text p within t [] all = record { stands = λ older. refl; some = omega arith; all = refl; back = plainly text t p within [] }
join-grows text p within t (begins ∷ es) all = record { stands = λ older. refl; some = omega arith; all = all; back = plainly text t p within (begins ∷ es) }
join-grows text p within t (ends ∷ es) all = record { stands = λ older. refl; some = omega arith; all = all; back = plainly text t p within (ends ∷ es) }
join-grows text p within t (deleted at o ∷ es) all = record { stands = λ older. refl; some = omega arith; all = all; back = plainly text t p within (deleted at o ∷ es) }
join-grows text p within t (replaced at o n ∷ es) all = record { stands = λ older. refl; some = omega arith; all = all; back = plainly text t p within (replaced at o n ∷ es) }
join-grows text p within t (inserted at old ∷ es) all =
    let one : Entry = inserted at (old ++ t) in
    let new : Entry = inserted p t in
    let joins : Bool = at + length old == p in
    record {
      stands = λ older. stands_in joins one new (inserted at old) es (begins ∷ older);
      some = some_in joins one new (inserted at old) es;
      all = all_in joins one new (inserted at old) es all all;
      back = λ start back. elim (eqb_tells (at + length old) p) [
        | inl same ↦ rw same.0 (joined text t p within at old es start same.1 back)
        | inr other ↦ rw other.0 (plainly text t p within (inserted at old ∷ es) start back)
      ];
    }

-- a typed character is at least one byte
some_bytes : (c : ℕ) → 0 < length (encode_utf8 c)
some_bytes c = by_length (nat_lt c 0x80) (nat_lt c 0x800) (nat_lt c 0x1_0000) (length-encode c)
  where
    by_length : (a b d : Bool) → length (encode_utf8 c) ≡ cond a 1 (cond b 2 (cond d 3 4)) → 0 < length (encode_utf8 c)
    by_length true b d is = omega (arith, is)
    by_length false true d is = omega (arith, is)
    by_length false false true is = omega (arith, is)
    by_length false false false is = omega (arith, is)

-- a typed character
pub typed-grows : (text : List ℕ) (p : ℕ) → p ≤ length text → (c : ℕ) (inside : List Entry) → list_all is_change inside ≡ true
    → GrownBy (λ es. with_typed p c 1 es) inside text (insert_slice text p (repeat 1 (encode_utf8 c)))
typed-grows text p within c inside all = by_kind (is_alphanumeric c)
  where
    once : repeat 1 (encode_utf8 c) ≡ encode_utf8 c
    once = append-nil (encode_utf8 c)

    by_kind : (joins : Bool) → GrownBy (λ es. cond joins (with_joined_insert p (encode_utf8 c) es) (with_insert p (repeat 1 (encode_utf8 c)) es))
        inside text (insert_slice text p (repeat 1 (encode_utf8 c)))
    by_kind true = subst (λ x. GrownBy (λ es. with_joined_insert p (encode_utf8 c) es) inside text (insert_slice text p x)) (sym once) (join-grows text p within (encode_utf8 c) inside all)
    by_kind false = insert-grows text p within (repeat 1 (encode_utf8 c)) (omega (arith, ap length once, some_bytes c)) inside all
