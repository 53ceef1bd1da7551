-- Among any newest entries stand at most so many more begins than ends as groups are open.
use Rattle.std.proofs.Common.{min, ◌^◌, nat_le, ◌&&◌, length-append, replicate, max, ◌≡◌, ℕ, ◌+◌, ◌-◌, ◌<◌, ◌≤◌, zero, suc, Bool, true, false, cond, List, [], ◌∷◌, ◌++◌, length, drop, filter, Option, Some, None, Result, Ok, Err, OnOk, take, unwrap_or, ◌⊎◌, inl, inr, refl, sym, ap, ap₂, ◌∙◌, subst, arith}
use Rattle.std.specs.Fn.{iterate}
use Rattle.std.specs.List.{range_with_len, slice_get, slice_index_or, slice_set, count_by, list_all}
use Rattle.std.proofs.Math.Seq.{drop-length, take-nil}
use Rattle.std.proofs.lemmas.Bool.{leb-true}
use Rattle.std.proofs.lemmas.List.{length-take}
use Rattle.std.proofs.lemmas.List.Sums.{count_by-le-length, sum_by-append}
use Rattle.line_buffer.specs.Changes.{Changes, Entry, begun, ended, closed, begins, ends, inserted, deleted, replaced}
use Rattle.line_buffer.specs.Line.{Line}
use Rattle.line_buffer.specs.Undo.{taken_back, GroupsFit, NoGroupOpen, UndoesStepByStep, after_undo, all_taken_back, is_begin, is_change, is_end, is_step, newest_steps, steps_len, without_steps}
use Rattle.line_buffer.proofs.ChangeLemmas.{closed-singly, closed_singly, edited, entries_of-length, entries_of-push, unedited}
use Rattle.line_buffer.specs.KeptChanges.{entries_of, entry_of}
use Rattle.line_buffer.specs.EntryKind.{closed_by, opened_by, taken_kind}
use Rattle.line_buffer.specs.declared.undo.change.Change.{Change}
use Rattle.line_buffer.specs.declared.undo.steps.Taken.TheVariants as Kind
use Rattle.line_buffer.proofs.StepLemmas.{count_by-front, step_by_step}
use Rattle.line_buffer.proofs.UndoLemmas.{closed-kind, one_if, opened-kind}
use Rattle.line_buffer.proofs.WordLemmas.{filter-yes, filter-no}

-- at most n more begins than ends among any newest entries
abbrev pub Fit : List Entry → ℕ → Type 0
Fit entries n = (k : ℕ) → count_by is_begin (take k entries) ≤ count_by is_end (take k entries) + n

nothing_fits : (n : ℕ) → Fit [] n
nothing_fits n k = rw (take-nil k) (omega arith)

-- ---- an entry that was added or edited

count_first : (p : Entry → Bool) (e : Entry) (entries : List Entry) (k : ℕ) → count_by p (take (suc k) (e ∷ entries)) ≡ 0 + one_if (p e) + count_by p (take k entries)
count_first p e entries k = sum_by-append (λ x. cond (p x) 1 0) (e ∷ []) (take k entries)

count_no : (p : Entry → Bool) (e : Entry) (entries : List Entry) (k : ℕ) → p e ≡ false → count_by p (take (suc k) (e ∷ entries)) ≡ count_by p (take k entries)
count_no p e entries k t = let none : one_if (p e) ≡ 0 = ap one_if t in omega (arith, count_first p e entries k)

count_yes : (p : Entry → Bool) (e : Entry) (entries : List Entry) (k : ℕ) → p e ≡ true → count_by p (take (suc k) (e ∷ entries)) ≡ 1 + count_by p (take k entries)
count_yes p e entries k t = let one : one_if (p e) ≡ 1 = ap one_if t in omega (arith, count_first p e entries k)

-- an entry of text comes before the others
text_on : (e : Entry) (entries : List Entry) (n : ℕ) → taken_kind e ≡ Kind.Change → Fit entries n → Fit (e ∷ entries) n
text_on e entries n t h zero = omega arith
text_on e entries n t h (suc k) =
    let opened : one_if (is_begin e) ≡ 0 = sym (opened-kind e) ∙ ap opened_by t in
    let shut : one_if (is_end e) ≡ 0 = sym (closed-kind e) ∙ ap closed_by t in
    omega (arith, h k, opened, shut, count_first is_begin e entries k, count_first is_end e entries k)

-- an entry comes in place of one of its kind
kind_kept : (e e' : Entry) (entries : List Entry) (n : ℕ) → taken_kind e' ≡ taken_kind e → Fit (e ∷ entries) n → Fit (e' ∷ entries) n
kind_kept e e' entries n t h zero = omega arith
kind_kept e e' entries n t h (suc k) =
    let opened : one_if (is_begin e') ≡ one_if (is_begin e) = sym (opened-kind e') ∙ ap opened_by t ∙ opened-kind e in
    let shut : one_if (is_end e') ≡ one_if (is_end e) = sym (closed-kind e') ∙ ap closed_by t ∙ closed-kind e in
    omega (
      arith,
      h (suc k),
      opened,
      shut,
      count_first is_begin e entries k,
      count_first is_end e entries k,
      count_first is_begin e' entries k,
      count_first is_end e' entries k,
    )

-- the kept changes, and how many groups are open
abbrev pub kept : List Change → ℕ → Changes
kept changes n = record { entries = entries_of changes; open_groups = n }

-- a change of the text was added
pub added_fits : (changes changes' : List Change) (n : ℕ) (c : Change) → changes' ≡ changes ++ c ∷ [] → taken_kind (entry_of c) ≡ Kind.Change → GroupsFit (kept changes n) → GroupsFit (kept changes' n)
added_fits changes changes' n c e t h = record {
  fit = subst (λ es. Fit es n) (sym (ap entries_of e ∙ entries_of-push changes c)) (text_on (entry_of c) (entries_of changes) n t h.fit);
}

-- the newest change was edited, and is of its kind
pub edited_fits : (changes : List Change) (i n : ℕ) (old new : Change) → i + 1 ≡ length changes → old ≡ slice_index_or changes i old → taken_kind (entry_of new) ≡ taken_kind (entry_of old)
    → GroupsFit (kept changes n) → GroupsFit (kept (slice_set changes i new) n)
edited_fits changes i n old new e is t h =
    let before = subst (λ es. Fit es n) (unedited changes i old e is) h.fit in
    record { fit = subst (λ es. Fit es n) (sym (edited changes i new e)) (kind_kept (entry_of old) (entry_of new) (entries_of (take i changes)) n t before) }

-- ---- groups that are closed or begun

end_on : (entries : List Entry) (n : ℕ) → Fit entries (suc n) → Fit (ends ∷ entries) n
end_on entries n h zero = omega arith
end_on entries n h (suc k) = omega (arith, h k, count_no is_begin ends entries k refl, count_yes is_end ends entries k refl)

begin_off : (entries : List Entry) (n : ℕ) → Fit (begins ∷ entries) (suc n) → Fit entries n
begin_off entries n h k = omega (arith, h (suc k), count_yes is_begin begins entries k refl, count_no is_end begins entries k refl)

-- ---- steps that are taken back

got_of : (p : ℕ → Bool) (xs : List ℕ) (x i v : ℕ) (b : Bool) → p x ≡ b → ((j : ℕ) → slice_get (filter p xs) j ≡ Some v → p v ≡ true) → slice_get (filter p (x ∷ xs)) i ≡ Some v → p v ≡ true
got_of p xs x i v false t more e = more i (ap (λ l. slice_get l i) (sym (filter-no p x xs t)) ∙ e)
got_of p xs x zero v true t more e =
    let here : Some x ≡ Some v = ap (λ l. slice_get l 0) (sym (filter-yes p x xs t)) ∙ e in
    let same : x ≡ v = (cc) in
    subst (λ w. p w ≡ true) same t
got_of p xs x (suc i) v true t more e = more i (ap (λ l. slice_get l (suc i)) (sym (filter-yes p x xs t)) ∙ e)

got_passes : (p : ℕ → Bool) (xs : List ℕ) (i v : ℕ) → slice_get (filter p xs) i ≡ Some v → p v ≡ true
got_passes p [] i v e = cc
got_passes p (x ∷ xs) i v e = got_of p xs x i v (p x) refl (λ j. got_passes p xs j v) e

-- a step ends there, or all is taken
step_or_all : (entries : List Entry) (o : Option ℕ) (s : ℕ) → ((v : ℕ) → o ≡ Some v → is_step entries v ≡ true) → unwrap_or o (length entries) ≡ s → (s ≡ length entries) ⊎ (is_step entries s ≡ true)
step_or_all entries None s h e = inl (sym e)
step_or_all entries (Some v) s h e = inr (subst (λ w. is_step entries w ≡ true) e (h v refl))

fit_behind : (entries : List Entry) (n s : ℕ) → Fit entries n → (s ≡ length entries) ⊎ (is_step entries s ≡ true) → Fit (drop s entries) n
fit_behind entries n s h (inl all) = subst (λ es. Fit es n) (sym (ap (λ k. drop k entries) all ∙ drop-length entries)) (nothing_fits n)
fit_behind entries n s h (inr step) = λ k. omega (arith, h (s + k), leb-true (count_by is_end (take s entries)) (count_by is_begin (take s entries)) step, count_by-front is_begin entries s k, count_by-front is_end entries s k)

fit_undone : (entries : List Entry) (n m : ℕ) → Fit entries n → Fit (drop (steps_len entries m) entries) n
fit_undone entries n m h =
    fit_behind entries n (steps_len entries m) h
    (step_or_all entries (slice_get (filter (is_step entries) (range_with_len 1 (length entries))) (max m 1 - 1)) (steps_len entries m)
    (λ v e. got_passes (is_step entries) (range_with_len 1 (length entries)) (max m 1 - 1) v e) refl)

-- ---- for calls: what they leave fits, since a success fits and an error leaves nothing

-- an end was added for an open group
pub end_fits : (changes changes' : List Change) (n : ℕ) (c : Change) → changes' ≡ changes ++ c ∷ [] → entry_of c ≡ ends → 0 < n → GroupsFit (kept changes n) → GroupsFit (kept changes' (n - 1))
end_fits changes changes' n c e is some h =
    let one : n ≡ suc (n - 1) = omega arith in
    record {
      fit =
          subst (λ es. Fit es (n - 1)) (sym (ap entries_of e ∙ entries_of-push changes c ∙ ap (λ x. x ∷ entries_of changes) is))
          (end_on (entries_of changes) (n - 1) (subst (λ m. Fit (entries_of changes) m) one h.fit));
    }

ends_shift : (n : ℕ) (entries : List Entry) → replicate n ends ++ ends ∷ entries ≡ ends ∷ (replicate n ends ++ entries)
ends_shift zero entries = refl
ends_shift (suc n) entries = ap (λ es. ends ∷ es) (ends_shift n entries)

-- an end was added, and with the ends that are still to come there are as many
pub end_added : (changes changes' : List Change) (n : ℕ) (c : Change) → changes' ≡ changes ++ c ∷ [] → entry_of c ≡ ends → 0 < n
    → replicate (n - 1) ends ++ entries_of changes' ≡ replicate n ends ++ entries_of changes
end_added changes changes' n c e is some =
    let one : n ≡ suc (n - 1) = omega arith in
    ap (λ es. replicate (n - 1) ends ++ es) (ap entries_of e ∙ entries_of-push changes c ∙ ap (λ x. x ∷ entries_of changes) is)
    ∙ ends_shift (n - 1) (entries_of changes) ∙ sym (ap (λ k. replicate k ends ++ entries_of changes) one)

begin_on : (entries : List Entry) (n m : ℕ) → min (n + 1) (length entries + 1) ≤ m → Fit entries n → Fit (begins ∷ entries) m
begin_on entries n m le h zero = omega arith
begin_on entries n m le h (suc k) =
    let within : count_by is_begin (take k entries) ≤ length entries = omega (arith, count_by-le-length is_begin (take k entries), length-take k entries) in
    omega (arith, h k, within, le, count_yes is_begin begins entries k refl, count_no is_end begins entries k refl)

-- a begin was added, and the count of open groups stays where it is past the number of changes
pub begun_fits : (changes changes' : List Change) (n m : ℕ) (c : Change) → changes' ≡ changes ++ c ∷ [] → entry_of c ≡ begins → min (n + 1) (length changes + 1) ≤ m
    → GroupsFit (kept changes n) → GroupsFit (kept changes' m)
begun_fits changes changes' n m c e is le h =
    let long : min (n + 1) (length (entries_of changes) + 1) ≤ m = omega (arith, le, entries_of-length changes) in
    record {
      fit =
          subst (λ es. Fit es m) (sym (ap entries_of e ∙ entries_of-push changes c ∙ ap (λ x. x ∷ entries_of changes) is))
          (begin_on (entries_of changes) n m long h.fit);
    }

-- a begin of an open group was taken away
pub begin_fits : (entries : List Entry) (changes : List Change) (n : ℕ) → entries ≡ begins ∷ entries_of changes → 0 < n → Fit entries n → GroupsFit (kept changes (n - 1))
begin_fits entries changes n e some h =
    let one : n ≡ suc (n - 1) = omega arith in
    record { fit = begin_off (entries_of changes) (n - 1) (subst (λ m. Fit (begins ∷ entries_of changes) m) one (subst (λ es. Fit es n) e h)) }

-- steps were taken back
pub undone_fits : (entries : List Entry) (changes : List Change) (n m : ℕ) → entries_of changes ≡ drop (steps_len entries m) entries → Fit entries n → GroupsFit (kept changes n)
undone_fits entries changes n m e h = record { fit = subst (λ es. Fit es n) (sym e) (fit_undone entries n m h) }

steps_len-max : (entries : List Entry) (n : ℕ) → steps_len entries n ≡ steps_len entries (max n 1)
steps_len-max entries n =
    let same : max (max n 1) 1 ≡ max n 1 = omega arith in
    sym (ap (λ m. unwrap_or (slice_get (filter (is_step entries) (range_with_len 1 (length entries))) (m - 1)) (length entries)) same)

-- the line and the changes once m steps were taken back, one for n = 0
pub undone_parts : (entries : List Entry) (changes : List Change) (n m g : ℕ) (old new : Line) → m ≡ max n 1 → new ≡ all_taken_back (newest_steps m entries) old
    → entries_of changes ≡ drop (steps_len entries m) entries
    → (new ≡ all_taken_back (newest_steps n entries) old) × (kept changes g ≡ without_steps n (record { entries = entries; open_groups = g }))
undone_parts entries changes n m g old new e l d =
    let same : steps_len entries m ≡ steps_len entries n = ap (steps_len entries) e ∙ sym (steps_len-max entries n) in (
      l ∙ ap (λ k. all_taken_back (take k entries) old) same,
      ap (λ es. let c : Changes = record { entries = es; open_groups = g } in c) (d ∙ ap (λ k. drop k entries) same),
    )

-- where the count of open groups is 0 no group is open
pub none_open : (c : Changes) → GroupsFit c → c.open_groups ≡ 0 → NoGroupOpen c.entries
none_open c h zero_open k = omega (arith, h.fit k)

steps_same : (entries : List Entry) (l : Line) (n : ℕ) → after_undo n (entries, l) ≡ after_undo (max n 1) (entries, l)
steps_same entries l n = ap (λ k. let left : List Entry × Line = (drop k entries, all_taken_back (take k entries) l) in left) (steps_len-max entries n)

many_steps : (m : ℕ) (entries : List Entry) (l : Line) → 0 < m → NoGroupOpen entries → after_undo m (entries, l) ≡ iterate (after_undo 1) m (entries, l)
many_steps zero entries l some h = absurd (omega arith)
many_steps (suc m) entries l some h = (step_by_step m entries l h).0

undone_on : {T E : Type 0} (r : Result T E) (n : ℕ) (old new : Line) (c c' : Changes) → GroupsFit c → OnOk r (new ≡ all_taken_back (newest_steps n c.entries) old) → OnOk r (c' ≡ without_steps n c)
    → c.open_groups ≡ 0 → OnOk r (◌≡◌ {A = List Entry × Line} (c'.entries, new) (iterate (after_undo 1) (max n 1) (c.entries, old)))
undone_on (Err e) n old new c c' h l k z = tt
undone_on (Ok x) n old new c c' h l k z =
    let made : ◌≡◌ {A = List Entry × Line} (c'.entries, new) (after_undo n (c.entries, old)) = ap₂ (λ (d : Changes) (m : Line). let left : List Entry × Line = (d.entries, m) in left) k l in
    made ∙ steps_same c.entries old n ∙ many_steps (max n 1) c.entries old (omega arith) (none_open c h z)

pub undone_step_by_step : {T E : Type 0} (r : Result T E) (n : ℕ) (old new : Line) (c c' : Changes) → GroupsFit c → OnOk r (new ≡ all_taken_back (newest_steps n c.entries) old) → OnOk r (c' ≡ without_steps n c)
    → UndoesStepByStep r n old new c c'
undone_step_by_step r n old new c c' h l k = record { steps = undone_on r n old new c c' h l k }

-- ---- a group that is closed is one step

-- the first number of a range that passes
first_passes : (p : ℕ → Bool) (a d m : ℕ) → d < m → ((j : ℕ) → j < d → p (a + j) ≡ false) → p (a + d) ≡ true → slice_get (filter p (range_with_len a m)) 0 ≡ Some (a + d)
first_passes p a d zero h below here = absurd (omega arith)
first_passes p a zero (suc m) h below here =
    let same : a + 0 ≡ a = omega arith in
    let passes : p a ≡ true = subst (λ k. p k ≡ true) same here in
    ap (λ l. slice_get l 0) (filter-yes p a (range_with_len (a + 1) m) passes) ∙ ap Some (sym same)
first_passes p a (suc d) (suc m) h below here =
    let same : a + 0 ≡ a = omega arith in
    let next : a + 1 + d ≡ a + suc d = omega arith in
    let fails : p a ≡ false = subst (λ k. p k ≡ false) same (below 0 (omega arith)) in
    ap (λ l. slice_get l 0) (filter-no p a (range_with_len (a + 1) m) fails)
    ∙ first_passes p (a + 1) d m (omega arith) (λ j b. let on : a + suc j ≡ a + 1 + j = omega arith in subst (λ k. p k ≡ false) on (below (suc j) (omega arith))) (subst (λ k. p k ≡ true) (sym next) here)
    ∙ ap Some next

-- an entry of text neither begins nor ends a group
no_begin : (e : Entry) → is_change e ≡ true → is_begin e ≡ false
no_begin begins h = cc
no_begin ends h = cc
no_begin (inserted x y) h = refl
no_begin (deleted x y) h = refl
no_begin (replaced x y z) h = refl

no_end : (e : Entry) → is_change e ≡ true → is_end e ≡ false
no_end begins h = cc
no_end ends h = cc
no_end (inserted x y) h = refl
no_end (deleted x y) h = refl
no_end (replaced x y z) h = refl

both : (a b : Bool) → (a && b) ≡ true → (a ≡ true) × (b ≡ true)
both true b h = (refl, h)
both false b h = cc

all_change : (e : Entry) (es : List Entry) → list_all is_change (e ∷ es) ≡ true → (is_change e ≡ true) × (list_all is_change es ≡ true)
all_change e es h = both (is_change e) (list_all is_change es) h

-- among entries of text stands neither, and behind them what comes there
count_inside : (p : Entry → Bool) → ((e : Entry) → is_change e ≡ true → p e ≡ false) → (inside rest : List Entry) (j : ℕ) → j ≤ length inside → list_all is_change inside ≡ true
    → count_by p (take j (inside ++ rest)) ≡ 0
count_inside p none inside rest zero h t = refl
count_inside p none [] rest (suc j) h t = absurd (omega arith)
count_inside p none (e ∷ es) rest (suc j) h t =
    let split = all_change e es t in
    count_no p e (es ++ rest) j (none e split.0) ∙ count_inside p none es rest j (omega arith) split.1

count_behind : (p : Entry → Bool) → ((e : Entry) → is_change e ≡ true → p e ≡ false) → (inside rest : List Entry) (e : Entry) → list_all is_change inside ≡ true
    → count_by p (take (suc (length inside)) (inside ++ e ∷ rest)) ≡ 0 + one_if (p e) + 0
count_behind p none [] rest e t = count_first p e rest 0
count_behind p none (x ∷ es) rest e t =
    let split = all_change x es t in
    count_no p x (es ++ e ∷ rest) (suc (length es)) (none x split.0) ∙ count_behind p none es rest e split.1

-- the newest entry is no begin, so an end is added
one_end_singly : (inside rest : List Entry) → 0 < length inside → list_all is_change inside ≡ true → closed_singly 1 (inside ++ rest) ≡ ends ∷ (inside ++ rest)
one_end_singly [] rest some t = absurd (omega arith)
one_end_singly (begins ∷ es) rest some t = cc
one_end_singly (ends ∷ es) rest some t = refl
one_end_singly (inserted x y ∷ es) rest some t = refl
one_end_singly (deleted x y ∷ es) rest some t = refl
one_end_singly (replaced x y z ∷ es) rest some t = refl

one_end : (inside rest : List Entry) → 0 < length inside → list_all is_change inside ≡ true → closed 1 (inside ++ rest) ≡ ends ∷ (inside ++ rest)
one_end inside rest some t = closed-singly 1 (inside ++ rest) ∙ one_end_singly inside rest some t

taken_behind : (inside : List Entry) (l : Line) → all_taken_back (inside ++ begins ∷ []) l ≡ all_taken_back inside l
taken_behind [] l = refl
taken_behind (e ∷ es) l = taken_behind es (taken_back e l)

take_group : (inside rest : List Entry) → take (suc (length inside)) (inside ++ begins ∷ rest) ≡ inside ++ begins ∷ []
take_group [] rest = refl
take_group (e ∷ es) rest = ap (λ x. e ∷ x) (take_group es rest)

drop_group : (inside rest : List Entry) → drop (suc (length inside)) (inside ++ begins ∷ rest) ≡ rest
drop_group [] rest = refl
drop_group (e ∷ es) rest = drop_group es rest

pub closed_group : (c : Changes) (inside : List Entry) (l : Line) → c.open_groups ≡ 0 → 0 < length inside → list_all is_change inside ≡ true
    → after_undo 1 ((ended (record (begun c) { entries = inside ++ (begun c).entries })).entries, l) ≡ (c.entries, all_taken_back inside l)
closed_group c inside l z some t =
    let rest = begins ∷ c.entries in
    let all = ends ∷ (inside ++ rest) in
    let d = suc (length inside) in
    let one : min (c.open_groups + 1) (2 ^ 64 - 1) ≡ 1 = ap (λ n. min (n + 1) (2 ^ 64 - 1)) z in
    let shut : closed (min (c.open_groups + 1) (2 ^ 64 - 1)) (inside ++ rest) ≡ all = ap (λ n. closed n (inside ++ rest)) one ∙ one_end inside rest some t in
    let below : (j : ℕ) → j < d → is_step all (1 + j) ≡ false = λ j h.
    let suc_j : 1 + j ≡ suc j = omega arith in
    let opened = count_no is_begin ends (inside ++ rest) j refl ∙ count_inside is_begin no_begin inside rest j (omega arith) t in
    let shuts = count_yes is_end ends (inside ++ rest) j refl ∙ ap (λ n. 1 + n) (count_inside is_end no_end inside rest j (omega arith) t) in
    ap (is_step all) suc_j ∙ ap₂ nat_le shuts opened in
    let here : is_step all (1 + d) ≡ true =
    let suc_d : 1 + d ≡ suc d = omega arith in
    let opened = count_no is_begin ends (inside ++ rest) d refl ∙ count_behind is_begin no_begin inside c.entries begins t in
    let shuts = count_yes is_end ends (inside ++ rest) d refl ∙ ap (λ n. 1 + n) (count_behind is_end no_end inside c.entries begins t) in
    ap (is_step all) suc_d ∙ ap₂ nat_le shuts opened in
    let within : d < length all = omega (arith, length-append inside rest) in
    let len : steps_len all 1 ≡ suc d = ap (λ o. unwrap_or o (length all)) (first_passes (is_step all) 1 d (length all) within below here) ∙ (let suc_d : 1 + d ≡ suc d = omega arith in suc_d) in
    let left : List Entry → ℕ → List Entry × Line = λ es k. (drop k es, all_taken_back (take k es) l) in
    ap (λ es. left es (steps_len es 1)) shut ∙ ap (left all) len
    ∙ ap₂ (λ (es : List Entry) (m : Line). let pair : List Entry × Line = (es, m) in pair) (drop_group inside c.entries) (ap (λ es. all_taken_back es l) (take_group inside c.entries) ∙ taken_behind inside l)
