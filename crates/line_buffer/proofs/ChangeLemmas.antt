-- The newest entries of a list of changes.
use Rattle.std.proofs.Common.{◌+◌, length, slice_index_or, slice_set, take, min, replicate, drop, ap₂, ◌≡◌, ℕ, ◌-◌, ◌<◌, zero, suc, Bool, true, false, List, [], ◌∷◌, ◌++◌, map, reverse, Result, Ok, Err, OnOk, refl, sym, ap, ◌∙◌, arith}
use Rattle.std.proofs.lemmas.List.{drop_all, length-map, length-reverse, reverse-append, map-append, set-get_or, set_split}
use Rattle.std.proofs.lemmas.Result.{IfOk-at_ok}
use Rattle.line_buffer.specs.declared.undo.change.Change.{Change}
use Rattle.line_buffer.specs.Changes.{Entry, begins, ends, inserted, deleted, replaced, Changes, newest_begins, begins_in_a_row, closed, without_begins}
use Rattle.std.proofs.lemmas.Bool.Decides.{nat_tests}
use Rattle.std.specs.Prelude.{nat_lt, if◌then◌else◌}
use Rattle.line_buffer.specs.Edit.{on_entries}
use Rattle.line_buffer.specs.KeptChanges.{entry_of, entries_of}

pub entries_of-push : (changes : List Change) (c : Change) → entries_of (changes ++ c ∷ []) ≡ entry_of c ∷ entries_of changes
entries_of-push changes c = ap reverse (map-append entry_of changes (c ∷ [])) ∙ reverse-append (map entry_of changes) (entry_of c ∷ [])

pub entries_of-length : (changes : List Change) → length (entries_of changes) ≡ length changes
entries_of-length changes = length-reverse (map entry_of changes) ∙ length-map changes entry_of

-- the changes are the older ones and an edited newest one
pub edited : (changes : List Change) (n : ℕ) (new : Change) → n + 1 ≡ length changes
    → entries_of (slice_set changes n new) ≡ entry_of new ∷ entries_of (take n changes)
edited changes n new e =
    let none : drop (suc n) changes ≡ [] = drop_all (suc n) changes (omega arith) in
    ap entries_of (set_split changes n new (omega arith) ∙ ap (λ cs. take n changes ++ new ∷ cs) none) ∙ entries_of-push (take n changes) new

pub unedited : (changes : List Change) (n : ℕ) (old : Change) → n + 1 ≡ length changes → old ≡ slice_index_or changes n old
    → entries_of changes ≡ entry_of old ∷ entries_of (take n changes)
unedited changes n old e is = ap entries_of (sym (set-get_or changes n old)) ∙ ap (λ c. entries_of (slice_set changes n c)) (sym is) ∙ edited changes n old e

-- what an addition makes of the changes, where it makes this of the newest one and stays the same on the older ones
with_newest : (changes : List Change) (n g : ℕ) (old new : Change) (add put : List Entry → List Entry) (c : Changes) → n + 1 ≡ length changes
    → old ≡ slice_index_or changes n old → record { entries = entries_of changes; open_groups = g } ≡ c
    → ((older : List Entry) → add (entry_of old ∷ older) ≡ put (entry_of new ∷ older))
    → on_entries put (record { entries = entries_of (slice_set changes n new); open_groups = g }) ≡ on_entries add c
with_newest changes n g old new add put c e is kept joins =
    let older = entries_of (take n changes) in
    let made : List Entry → Changes = λ es. record { entries = es; open_groups = g } in
    ap (λ es. made (put es)) (edited changes n new e) ∙ ap made (sym (joins older)) ∙ sym (ap (λ es. made (add es)) (unedited changes n old e is)) ∙ ap (on_entries add) kept

-- the newest change took an addition in
pub newest_joined : (joined : Bool) (changes : List Change) (n g : ℕ) (old new : Change) (add : List Entry → List Entry) (other : Entry) (c : Changes)
    → n + 1 ≡ length changes → old ≡ slice_index_or changes n old → record { entries = entries_of changes; open_groups = g } ≡ c
    → ((older : List Entry) → add (entry_of old ∷ older) ≡ (if joined then entry_of new ∷ older else other ∷ entry_of new ∷ older)) → joined ≡ true
    → record { entries = entries_of (slice_set changes n new); open_groups = g } ≡ on_entries add c
newest_joined true changes n g old new add other c e is kept joins e₁ = with_newest changes n g old new add (λ es. es) c e is kept joins
newest_joined false changes n g old new add other c e is kept joins e₁ = cc

-- the newest change took nothing in, and another comes before it
pub newest_stays : (joined : Bool) (changes : List Change) (n g : ℕ) (old new : Change) (add : List Entry → List Entry) (other : Entry) (c : Changes)
    → n + 1 ≡ length changes → old ≡ slice_index_or changes n old → record { entries = entries_of changes; open_groups = g } ≡ c
    → ((older : List Entry) → add (entry_of old ∷ older) ≡ (if joined then entry_of new ∷ older else other ∷ entry_of new ∷ older)) → joined ≡ false
    → on_entries (λ es. other ∷ es) (record { entries = entries_of (slice_set changes n new); open_groups = g }) ≡ on_entries add c
newest_stays true changes n g old new add other c e is kept joins e₁ = cc
newest_stays false changes n g old new add other c e is kept joins e₁ = with_newest changes n g old new add (λ es. other ∷ es) c e is kept joins

none_left : (n : ℕ) → false ≡ nat_lt 0 n → n ≡ 0
none_left n e = grind (arith, nat_tests)

-- there is no change, and an addition makes one entry
pub none_newest : (changes : List Change) (g : ℕ) (add : List Entry → List Entry) (other : Entry) (c : Changes) → false ≡ nat_lt 0 (length changes)
    → record { entries = entries_of changes; open_groups = g } ≡ c → add [] ≡ other ∷ []
    → on_entries (λ es. other ∷ es) (record { entries = entries_of changes; open_groups = g }) ≡ on_entries add c
none_newest [] g add other c e kept first = ap (λ es. record { entries = es; open_groups = g }) (sym first) ∙ ap (on_entries add) kept
none_newest (x ∷ xs) g add other c e kept first = absurd (omega (arith, none_left (length (x ∷ xs)) e))

is_begin : (e : Entry) (entries : List Entry) → newest_begins (e ∷ entries) ≡ true → e ≡ begins
is_begin begins entries h = refl
is_begin ends entries h = cc
is_begin (inserted _ _) entries h = cc
is_begin (deleted _ _) entries h = cc
is_begin (replaced _ _ _) entries h = cc

pub newest_taken : (before after : List Change) (c : Change) → before ≡ after ++ c ∷ [] → newest_begins (entries_of before) ≡ true
    → entries_of before ≡ begins ∷ entries_of after
newest_taken before after c e h =
    let pushed : entries_of before ≡ entry_of c ∷ entries_of after = ap entries_of e ∙ entries_of-push after c in
    let first : entry_of c ≡ begins = is_begin (entry_of c) (entries_of after) (sym (ap newest_begins pushed) ∙ h) in
    pushed ∙ ap (λ x. x ∷ entries_of after) first

-- a begin that goes is one of those in a row
pub without_begins-one : (n : ℕ) (before after : List Entry) → 0 < n → before ≡ begins ∷ after
    → without_begins (record { entries = before; open_groups = n }) ≡ without_begins (record { entries = after; open_groups = n - 1 })
without_begins-one n before after h e =
    let row = begins_in_a_row after in
    let gone : min n (suc row) ≡ suc (min (n - 1) row) = omega arith in
    let left : n - suc row ≡ n - 1 - row = omega arith in
    let made : List Entry → ℕ → Changes = λ es m. record { entries = es; open_groups = m } in
    ap (λ es. without_begins (made es n)) e ∙ ap₂ made (ap (λ k. drop k (begins ∷ after)) gone) left

-- closing groups one by one
abbrev pub closed_singly : ℕ → List Entry → List Entry
closed_singly (suc n) (begins ∷ entries) = closed_singly n entries
closed_singly n entries = replicate n ends ++ entries

closed_plain : (n : ℕ) (entries : List Entry) → begins_in_a_row entries ≡ 0 → closed n entries ≡ replicate n ends ++ entries
closed_plain n entries z =
    let gone : min n (begins_in_a_row entries) ≡ 0 = omega (arith, z) in
    let left : n - begins_in_a_row entries ≡ n = omega (arith, z) in
    ap₂ (λ m k. replicate m ends ++ drop k entries) left gone

pub closed-singly : (n : ℕ) (entries : List Entry) → closed n entries ≡ closed_singly n entries
closed-singly zero entries =
    let gone : min 0 (begins_in_a_row entries) ≡ 0 = omega arith in
    let left : 0 - begins_in_a_row entries ≡ 0 = omega arith in
    ap₂ (λ m k. replicate m ends ++ drop k entries) left gone
closed-singly (suc n) [] = closed_plain (suc n) [] refl
closed-singly (suc n) (begins ∷ es) =
    let row = begins_in_a_row es in
    let gone : min (suc n) (suc row) ≡ suc (min n row) = omega arith in
    let left : suc n - suc row ≡ n - row = omega arith in
    ap₂ (λ m k. replicate m ends ++ drop k (begins ∷ es)) left gone ∙ closed-singly n es
closed-singly (suc n) (ends ∷ es) = closed_plain (suc n) (ends ∷ es) refl
closed-singly (suc n) (inserted x y ∷ es) = closed_plain (suc n) (inserted x y ∷ es) refl
closed-singly (suc n) (deleted x y ∷ es) = closed_plain (suc n) (deleted x y ∷ es) refl
closed-singly (suc n) (replaced x y z ∷ es) = closed_plain (suc n) (replaced x y z ∷ es) refl

-- ---- for calls whose outcome is settled: its changes are given up where it is an error

-- what a call ensures of a success holds where its settled outcome is one
pub once_settled : {T E P : Type 0} (r outcome : Result T E) (x : T) → r ≡ outcome → r ≡ Ok x → OnOk outcome P → P
once_settled {P = P} r outcome x same ok p = IfOk-at_ok (λ _. P) (sym same ∙ ok) p

-- what holds holds after a success
pub on_any : {T E P : Type 0} (r : Result T E) → P → OnOk r P
on_any (Ok x) p = p
on_any (Err e) p = tt

-- what was recorded is left after a success
pub left_settled : {T E : Type 0} (r outcome : Result T E) (before recorded left : Changes) (add : List Entry → List Entry)
    → r ≡ outcome → OnOk r (left ≡ recorded) → OnOk outcome (recorded ≡ on_entries add before) → OnOk r (left ≡ on_entries add before)
left_settled (Ok x) (Ok y) before recorded left add same l r = l ∙ r
left_settled (Ok x) (Err e) before recorded left add same l r = cc
left_settled (Err e) outcome before recorded left add same l r = tt
