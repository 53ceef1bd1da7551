-- Taking changes back, one by one.
use Rattle.std.proofs.Common.{replicate, nat_le, max, ◌≡◌, ℕ, ◌+◌, ◌-◌, ◌<◌, ◌≤◌, ◌≢◌, zero, suc, Bool, true, false, cond, ◌||◌, List, [], ◌∷◌, ◌++◌, length, take, drop, filter, Some, None, unwrap_or, refl, sym, ap, ap₂, ◌∙◌, subst, arith, add-one}
use Rattle.std.specs.List.{range_with_len, slice_get, list_any, count_by}
use Rattle.std.proofs.lemmas.List.Folds.{list_any-append}
use Rattle.std.proofs.lemmas.List.Sums.{sum_by_push}
use Rattle.line_buffer.specs.Changes.{Entry, Changes, with_entries, closed, ended, begins, ends, inserted, deleted, replaced}
use Rattle.line_buffer.specs.Line.{Line}
use Rattle.line_buffer.specs.Undo.{StillTells, Tells, TellsOf, taken_back, all_taken_back, is_begin, is_end, is_change, is_step, steps_len}
use Rattle.line_buffer.specs.EntryKind.{closed_by, is_text, newest_kind, opened_by, taken_kind}
use Rattle.line_buffer.specs.Word.{nth}
use Rattle.line_buffer.specs.declared.undo.steps.Taken.{Taken}
use Rattle.line_buffer.proofs.WordPlaces.{some_same}
use Rattle.line_buffer.proofs.ListLemmas.{drop_one_more}
use Rattle.line_buffer.proofs.WordLemmas.{drop_within, drop_end, filter-yes, filter-no}
use Rattle.line_buffer.proofs.ChangeLemmas.{closed-singly, closed_singly}

-- ---- the entries that were taken so far

take_past : {A : Type 0} (k : ℕ) (xs ys : List A) (x : A) → drop k xs ≡ x ∷ ys → take (suc k) xs ≡ take k xs ++ x ∷ []
take_past zero [] ys x e = cc
take_past zero (w ∷ ws) ys x e = let same : w ≡ x = (cc) in ap (λ v. v ∷ []) same
take_past (suc k) [] ys x e = cc
take_past (suc k) (w ∷ ws) ys x e = ap (λ vs. w ∷ vs) (take_past k ws ys x e)

take_one_more : {A : Type 0} (k : ℕ) (xs ys : List A) (x : A) → drop k xs ≡ x ∷ ys → take (k + 1) xs ≡ take k xs ++ x ∷ []
take_one_more k xs ys x e = rw add-one (take_past k xs ys x e)

all_taken_back-push : (entries : List Entry) (e : Entry) (l : Line) → all_taken_back (entries ++ e ∷ []) l ≡ taken_back e (all_taken_back entries l)
all_taken_back-push [] e l = refl
all_taken_back-push (x ∷ entries) e l = all_taken_back-push entries e (taken_back x l)

or_false : (b : Bool) → (b || false) ≡ b
or_false true = refl
or_false false = refl

list_any-push : (p : Entry → Bool) (entries : List Entry) (e : Entry) → list_any p (entries ++ e ∷ []) ≡ (list_any p entries || p e)
list_any-push p entries e = list_any-append p entries (e ∷ []) ∙ ap (λ b. list_any p entries || b) (or_false (p e))

-- the number that a test adds to a count
abbrev pub one_if : Bool → ℕ
one_if b = cond b 1 0

count_by-push : (p : Entry → Bool) (entries : List Entry) (e : Entry) → count_by p (entries ++ e ∷ []) ≡ count_by p entries + one_if (p e)
count_by-push p entries e = sum_by_push (λ x. cond (p x) 1 0) entries e

-- the first k entries were taken back
pub record Took (all : List Entry) (start : Line) (k : ℕ) (left : List Entry) (line : Line) (opened closed : ℕ) (undone : Bool) : Type 0 where
  pub within : k ≤ length all
  pub left_is : left ≡ drop k all
  pub line_is : line ≡ all_taken_back (take k all) start
  pub tells : Tells left line.text
  pub begins_is : opened ≡ count_by is_begin (take k all)
  pub ends_is : closed ≡ count_by is_end (take k all)
  pub undone_is : undone ≡ list_any is_change (take k all)

pub took-one : (all : List Entry) (start : Line) (k : ℕ) (left left' : List Entry) (line line' : Line) (e : Entry) (opened closed opened' closed' : ℕ) (undone undone' : Bool)
    → Took all start k left line opened closed undone → left ≡ e ∷ left' → line' ≡ taken_back e line
    → opened' ≡ opened + one_if (is_begin e) → closed' ≡ closed + one_if (is_end e) → undone' ≡ (undone || is_change e)
    → Took all start (k + 1) left' line' opened' closed' undone'
took-one all start k left left' line line' e opened closed opened' closed' undone undone' t l i b n u =
    let more = take_one_more k all left' e (sym t.left_is ∙ l) in
    let here = subst (λ es. Tells es line.text) l t.tells in
    record {
      within = rw add-one (drop_within k all left' e (sym t.left_is ∙ l));
      left_is = sym (drop_one_more k all left' e (sym t.left_is ∙ l));
      line_is = i ∙ ap (taken_back e) t.line_is ∙ sym (ap (λ es. all_taken_back es start) more ∙ all_taken_back-push (take k all) e start);
      tells = subst (λ (m : Line). Tells left' m.text) (sym i) (record { start = here.start; told = here.told.1 });
      begins_is = b ∙ ap (λ c. c + one_if (is_begin e)) t.begins_is ∙ sym (ap (count_by is_begin) more ∙ count_by-push is_begin (take k all) e);
      ends_is = n ∙ ap (λ c. c + one_if (is_end e)) t.ends_is ∙ sym (ap (count_by is_end) more ∙ count_by-push is_end (take k all) e);
      undone_is = u ∙ ap (λ c. c || is_change e) t.undone_is ∙ sym (ap (list_any is_change) more ∙ list_any-push is_change (take k all) e);
    }

-- ---- the steps that are still to come

-- the steps behind the first k entries
abbrev pub steps_from : List Entry → ℕ → List ℕ
steps_from all k = filter (is_step all) (range_with_len (k + 1) (length all - k))

steps_from-yes : (all : List Entry) (k : ℕ) → k < length all → is_step all (k + 1) ≡ true → steps_from all k ≡ (k + 1) ∷ steps_from all (k + 1)
steps_from-yes all k h t = let more : length all - k ≡ suc (length all - (k + 1)) = omega arith in rw more (filter-yes (is_step all) (k + 1) (range_with_len (k + 1 + 1) (length all - (k + 1))) t)

steps_from-no : (all : List Entry) (k : ℕ) → k < length all → is_step all (k + 1) ≡ false → steps_from all k ≡ steps_from all (k + 1)
steps_from-no all k h t = let more : length all - k ≡ suc (length all - (k + 1)) = omega arith in rw more (filter-no (is_step all) (k + 1) (range_with_len (k + 1 + 1) (length all - (k + 1))) t)

pub steps-no : (all : List Entry) (n k left : ℕ) → k < length all → slice_get (steps_from all k) (left - 1) ≡ nth (steps_from all 0) n → is_step all (k + 1) ≡ false
    → slice_get (steps_from all (k + 1)) (left - 1) ≡ nth (steps_from all 0) n
steps-no all n k left h target t = ap (λ xs. slice_get xs (left - 1)) (sym (steps_from-no all k h t)) ∙ target

pub steps-past : (all : List Entry) (n k left : ℕ) → k < length all → 0 < left → left ≢ 1 → slice_get (steps_from all k) (left - 1) ≡ nth (steps_from all 0) n → is_step all (k + 1) ≡ true
    → slice_get (steps_from all (k + 1)) (left - 1 - 1) ≡ nth (steps_from all 0) n
steps-past all n k left h some l target t =
    let many : left - 1 ≡ suc (left - 1 - 1) = omega arith in
    sym (ap (λ xs. slice_get xs (left - 1)) (steps_from-yes all k h t) ∙ ap (slice_get ((k + 1) ∷ steps_from all (k + 1))) many) ∙ target

pub steps-found : (all : List Entry) (n k left : ℕ) → k < length all → left ≡ 1 → slice_get (steps_from all k) (left - 1) ≡ nth (steps_from all 0) n → is_step all (k + 1) ≡ true
    → unwrap_or (nth (steps_from all 0) n) (length all) ≡ k + 1
steps-found all n k left h l target t =
    let first : left - 1 ≡ 0 = omega arith in
    ap (λ o. unwrap_or o (length all)) (sym target ∙ ap (λ xs. slice_get xs (left - 1)) (steps_from-yes all k h t) ∙ ap (slice_get ((k + 1) ∷ steps_from all (k + 1))) first)

-- ---- one entry more

pub opened-kind : (e : Entry) → opened_by (taken_kind e) ≡ one_if (is_begin e)
opened-kind begins = refl
opened-kind ends = refl
opened-kind (inserted _ _) = refl
opened-kind (deleted _ _) = refl
opened-kind (replaced _ _ _) = refl

pub closed-kind : (e : Entry) → closed_by (taken_kind e) ≡ one_if (is_end e)
closed-kind begins = refl
closed-kind ends = refl
closed-kind (inserted _ _) = refl
closed-kind (deleted _ _) = refl
closed-kind (replaced _ _ _) = refl

text-kind : (e : Entry) → is_text (taken_kind e) ≡ is_change e
text-kind begins = refl
text-kind ends = refl
text-kind (inserted _ _) = refl
text-kind (deleted _ _) = refl
text-kind (replaced _ _ _) = refl

nothing : (left : List Entry) → None ≡ newest_kind left → left ≡ []
nothing [] e = refl
nothing (x ∷ left) e = cc

-- the next entry was taken
pub took-next : (all : List Entry) (start : Line) (k : ℕ) (left : List Entry) (line : Line) (opened closed : ℕ) (undone : Bool) (taken : Taken) (line' : Line) (opened' closed' : ℕ) (undone' : Bool)
    → Took all start k left line opened closed undone → Some taken ≡ newest_kind left → line' ≡ all_taken_back (take 1 left) line
    → opened' ≡ opened + opened_by taken → closed' ≡ closed + closed_by taken → undone' ≡ (undone || is_text taken)
    → Took all start (k + 1) (drop 1 left) line' opened' closed' undone'
took-next all start k [] line opened closed undone taken line' opened' closed' undone' t e l o c u = cc
took-next all start k (x ∷ left) line opened closed undone taken line' opened' closed' undone' t e l o c u =
    let is : taken ≡ taken_kind x = some_same e in
    took-one all start k (x ∷ left) left line line' x opened closed opened' closed' undone undone' t refl l
    (o ∙ ap (λ v. opened + v) (ap opened_by is ∙ opened-kind x)) (c ∙ ap (λ v. closed + v) (ap closed_by is ∙ closed-kind x))
    (u ∙ ap (λ v. undone || v) (ap is_text is ∙ text-kind x))

-- an entry is a step by the counts of what was taken
pub took-step : (all : List Entry) (start : Line) (k : ℕ) (left : List Entry) (line : Line) (opened closed : ℕ) (undone : Bool) (b : Bool) → Took all start k left line opened closed undone
    → nat_le closed opened ≡ b → is_step all k ≡ b
took-step all start k left line opened closed undone b t h = sym (ap₂ nat_le t.ends_is t.begins_is) ∙ h

-- nothing was left to take
pub took-none : (all : List Entry) (start : Line) (k : ℕ) (left : List Entry) (line : Line) (opened closed : ℕ) (undone : Bool) → Took all start k left line opened closed undone
    → None ≡ newest_kind left → length all ≤ k
took-none all start k left line opened closed undone t e = drop_end k all (sym t.left_is ∙ nothing left e)

-- so many entries make n steps
pub steps_len-is : (all : List Entry) (n v : ℕ) → 0 < n → unwrap_or (nth (steps_from all 0) n) (length all) ≡ v → steps_len all n ≡ v
steps_len-is all n v h e =
    let more : max n 1 ≡ n = omega arith in
    let whole : length all - 0 ≡ length all = omega arith in
    ap (λ m. unwrap_or (nth (filter (is_step all) (range_with_len 1 (length all))) m) (length all)) more
    ∙ sym (ap (λ k. unwrap_or (nth (filter (is_step all) (range_with_len 1 k)) n) (length all)) whole) ∙ e

-- ---- what is left still tells

tells-ends : (n : ℕ) (entries : List Entry) (text start : List ℕ) → TellsOf entries text start → TellsOf (replicate n ends ++ entries) text start
tells-ends zero entries text start told = told
tells-ends (suc n) entries text start told = (tt, tells-ends n entries text start told)

tells-closed : (n : ℕ) (entries : List Entry) (text start : List ℕ) → TellsOf entries text start → TellsOf (closed_singly n entries) text start
tells-closed zero entries text start told = told
tells-closed (suc n) [] text start told = tells-ends (suc n) [] text start told
tells-closed (suc n) (begins ∷ entries) text start told = tells-closed n entries text start told.1
tells-closed (suc n) (ends ∷ entries) text start told = tells-ends (suc n) (ends ∷ entries) text start told
tells-closed (suc n) (inserted x y ∷ entries) text start told = tells-ends (suc n) (inserted x y ∷ entries) text start told
tells-closed (suc n) (deleted x y ∷ entries) text start told = tells-ends (suc n) (deleted x y ∷ entries) text start told
tells-closed (suc n) (replaced x y z ∷ entries) text start told = tells-ends (suc n) (replaced x y z ∷ entries) text start told

pub still-ended : (old new : Changes) → new ≡ ended old → (text : List ℕ) → StillTells old.entries text new.entries text
still-ended old new e text = record { tells = λ start told. subst (λ (c : Changes). TellsOf c.entries text start) (sym e) (subst (λ es. TellsOf es text start) (sym (closed-singly old.open_groups old.entries)) (tells-closed old.open_groups old.entries text start told)) }

tells-undone : (k : ℕ) (entries : List Entry) (l : Line) (start : List ℕ) → TellsOf entries l.text start → TellsOf (drop k entries) (all_taken_back (take k entries) l).text start
tells-undone zero entries l start told = told
tells-undone (suc k) [] l start told = told
tells-undone (suc k) (e ∷ entries) l start told = tells-undone k entries (taken_back e l) start told.1

pub still-undone : (k : ℕ) (old new : Changes) (line line' : Line) → new ≡ with_entries old (drop k old.entries) → line' ≡ all_taken_back (take k old.entries) line
    → StillTells old.entries line.text new.entries line'.text
still-undone k old new line line' e l = record {
  tells = λ start told. rw (ap (λ (c : Changes). c.entries) e, ap (λ (m : Line). m.text) l) (tells-undone k old.entries line start told);
}
