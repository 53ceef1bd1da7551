-- Entries that tell of a text still do once the text changed and an entry was added.
use Rattle.std.proofs.Common.{◌≡◌, ℕ, ◌+◌, ◌-◌, ◌≤◌, Bool, true, false, cond, List, [], ◌∷◌, ◌++◌, length, take, drop, Result, Ok, Err, OnOk, OnErr, refl, sym, ap, ap₂, ◌∙◌, subst, arith, inl, inr, append_assoc, append-nil, length-append, length-drop}
use Rattle.std.proofs.Math.Seq.{take-append_seam, drop-append_seam, drop-append-add, drop-length}
use Rattle.std.proofs.lemmas.Bool.Decides.{eqb_tells}
use Rattle.std.proofs.lemmas.List.{length-take-le, take-append-drop, drop-drop, take_all}
use Rattle.std.proofs.Math.Seq.{take-add}
use Rattle.std.proofs.lemmas.Str.{IsCharBoundary-at_seam, IsUtf8-drop, IsCharBoundary-start, IsCharBoundary-end, IsUtf8-nil}
use Rattle.std.specs.Char.{encode_utf8}
use Rattle.std.specs.List.{remove_range, insert_slice, replace_range, slice_range}
use Rattle.std.specs.Str.{IsCharBoundary, IsUtf8}
use Rattle.line_buffer.proofs.BoundaryLemmas.{boundary_of_same_front}
use Rattle.line_buffer.proofs.ListLemmas.{take_within_take}
use Rattle.line_buffer.specs.Character.{is_alphanumeric, is_one_alphanumeric}
use Rattle.line_buffer.specs.Changes.{Changes, Entry, no_changes, begins, ends, inserted, deleted, replaced, with_insert, with_joined_insert, with_delete, with_joined_delete, with_replace, with_typed}
use Rattle.line_buffer.specs.Line.{Line}
use Rattle.line_buffer.specs.Undo.{KeepsFront, KeepsTold, KeepsToldAnywhere, StillTells, TellTheSame, Tells, TellsOf}

-- ---- cutting a text in three

taken : (a r : List ℕ) (p : ℕ) → p ≡ length a → take p (a ++ r) ≡ a
taken a r p h = ap (λ k. take k (a ++ r)) h ∙ take-append_seam a r

dropped : (a r : List ℕ) (p : ℕ) → p ≡ length a → drop p (a ++ r) ≡ r
dropped a r p h = ap (λ k. drop k (a ++ r)) h ∙ drop-append_seam a r

dropped_more : (a o c : List ℕ) (q : ℕ) → q ≡ length a + length o → drop q (a ++ (o ++ c)) ≡ c
dropped_more a o c q h = ap (λ k. drop k (a ++ (o ++ c))) h ∙ drop-append-add a (o ++ c) (length o) ∙ drop-append_seam o c

replaced_is : (a o n c : List ℕ) (p q : ℕ) → p ≡ length a → q ≡ length a + length o → replace_range (a ++ (o ++ c)) p q n ≡ a ++ (n ++ c)
replaced_is a o n c p q h k = ap₂ (λ f r. (f ++ n) ++ r) (taken a (o ++ c) p h) (dropped_more a o c q k) ∙ append_assoc a n c

inserted_is : (a n c : List ℕ) (p : ℕ) → p ≡ length a → insert_slice (a ++ c) p n ≡ a ++ (n ++ c)
inserted_is a n c p h = ap₂ (λ f r. (f ++ n) ++ r) (taken a c p h) (dropped a c p h) ∙ append_assoc a n c

removed_is : (a o c : List ℕ) (p q : ℕ) → p ≡ length a → q ≡ length a + length o → remove_range (a ++ (o ++ c)) p q ≡ a ++ c
removed_is a o c p q h k = ap₂ ◌++◌ (taken a (o ++ c) p h) (dropped_more a o c q k)

sliced_is : (a n c : List ℕ) (p q : ℕ) → p ≡ length a → q ≡ length a + length n → slice_range (a ++ (n ++ c)) p q ≡ n
sliced_is a n c p q h k =
    let wide : q - p ≡ length n = omega arith in
    ap₂ take wide (dropped a (n ++ c) p h) ∙ take-append_seam n c

-- a text in three parts, by the places between them
cut_in_three : (text : List ℕ) (p q : ℕ) → p ≤ q → q ≤ length text → text ≡ take p text ++ (slice_range text p q ++ drop q text)
cut_in_three text p q h k =
    let back : p + (q - p) ≡ q = omega arith in
    let rest : drop (q - p) (drop p text) ≡ drop q text = drop-drop (q - p) p text ∙ ap (λ i. drop i text) back in
    sym (take-append-drop p text) ∙ ap (λ r. take p text ++ r) (sym (take-append-drop (q - p) (drop p text)) ∙ ap (λ r. slice_range text p q ++ r) rest)

-- ---- one entry

module _ (entries : List Entry) (start base text a c : List ℕ) (p : ℕ) (at : p ≡ length a) (told : TellsOf entries base start) where
  tells-inserted : (n : List ℕ) → base ≡ a ++ c → text ≡ a ++ (n ++ c) → IsCharBoundary text p → IsCharBoundary text (p + length n) → TellsOf (inserted p n ∷ entries) text start
  tells-inserted n b t s e =
      let end : p + length n ≡ length a + length n = ap (λ k. k + length n) at in (
        record { is = ap (λ x. slice_range x p (p + length n)) t ∙ sliced_is a n c p (p + length n) at end; start = s; stop = e },
        subst (λ x. TellsOf entries x start) (b ∙ sym (ap (λ x. remove_range x p (p + length n)) t ∙ removed_is a n c p (p + length n) at end)) told,
      )

  tells-deleted : (o : List ℕ) → base ≡ a ++ (o ++ c) → text ≡ a ++ c → IsCharBoundary text p → TellsOf (deleted p o ∷ entries) text start
  tells-deleted o b t s =
      (s, subst (λ x. TellsOf entries x start) (b ∙ sym (ap (λ x. insert_slice x p o) t ∙ inserted_is a o c p at)) told)

  tells-replaced : (o n : List ℕ) → base ≡ a ++ (o ++ c) → text ≡ a ++ (n ++ c) → IsCharBoundary text p → IsCharBoundary text (p + length n) → TellsOf (replaced p o n ∷ entries) text start
  tells-replaced o n b t s e =
      let end : p + length n ≡ length a + length n = ap (λ k. k + length n) at in (
        record { is = ap (λ x. slice_range x p (p + length n)) t ∙ sliced_is a n c p (p + length n) at end; start = s; stop = e },
        subst (λ x. TellsOf entries x start) (b ∙ sym (ap (λ x. replace_range x p (p + length n) o) t ∙ replaced_is a n o c p (p + length n) at end)) told,
      )

-- ---- a text that comes in

module _ (start text text' t : List ℕ) (p : ℕ) (within : p ≤ length text) (is : text' ≡ insert_slice text p t)
    (front : (i : ℕ) → IsCharBoundary text i → i ≤ p → IsCharBoundary text' i) (here : IsCharBoundary text p) (stop : IsCharBoundary text' (p + length t)) where
  place_is : p ≡ length (take p text)
  place_is = sym (length-take-le p text within)

  text_is : text' ≡ take p text ++ (t ++ drop p text)
  text_is = is ∙ append_assoc (take p text) t (drop p text)

  plain-insert : (entries : List Entry) → TellsOf entries text start → TellsOf (inserted p t ∷ entries) text' start
  plain-insert entries told =
      tells-inserted entries start text text' (take p text) (drop p text) p place_is told t (sym (take-append-drop p text)) text_is (front p here (omega arith)) stop

  front_is : (at : ℕ) (old : List ℕ) → at ≤ p → at + length old ≡ p → slice_range text at (at + length old) ≡ old → take p text ≡ take at text ++ old
  front_is at old low e s =
      let back : at + (p - at) ≡ p = omega arith in
      ap (λ k. take k text) (sym back) ∙ take-add at (p - at) text ∙ ap (λ m. take at text ++ m) (sym (ap (slice_range text at) e) ∙ s)

  joins : (at : ℕ) (old : List ℕ) (rest : List Entry) → at + length old ≡ p → TellsOf (inserted at old ∷ rest) text start → TellsOf (inserted at (old ++ t) ∷ rest) text' start
  joins at old rest e told =
      let stands = told.0 in
      let low : at ≤ p = omega arith in
      let place : at ≡ length (take at text) = sym (length-take-le at text (omega arith)) in
      let cut : text ≡ take at text ++ (old ++ drop p text) =
      cut_in_three text at p low within ∙ ap (λ m. take at text ++ (m ++ drop p text)) (sym (ap (slice_range text at) e) ∙ stands.is) in
      let base : remove_range text at (at + length old) ≡ take at text ++ drop p text = ap (λ q. take at text ++ drop q text) e in
      let now : text' ≡ take at text ++ ((old ++ t) ++ drop p text) =
      is ∙ ap (λ f. (f ++ t) ++ drop p text) (front_is at old low e stands.is) ∙ ap (λ x. x ++ drop p text) (append_assoc (take at text) old t) ∙ append_assoc (take at text) (old ++ t) (drop p text) in
      let end : at + length (old ++ t) ≡ p + length t = omega (arith, length-append old t) in
      tells-inserted rest start (remove_range text at (at + length old)) text' (take at text) (drop p text) at place told.1 (old ++ t) base now (front at stands.start low) (rw end stop)

  pub tells-joined_insert : (entries : List Entry) → TellsOf entries text start → TellsOf (with_joined_insert p t entries) text' start
  tells-joined_insert [] told = plain-insert [] told
  tells-joined_insert (begins ∷ rest) told = plain-insert (begins ∷ rest) told
  tells-joined_insert (ends ∷ rest) told = plain-insert (ends ∷ rest) told
  tells-joined_insert (deleted x y ∷ rest) told = plain-insert (deleted x y ∷ rest) told
  tells-joined_insert (replaced x y z ∷ rest) told = plain-insert (replaced x y z ∷ rest) told
  tells-joined_insert (inserted at old ∷ rest) told =
      elim (eqb_tells (at + length old) p) [
        | inl same ↦ rw same.0 (joins at old rest same.1 told)
        | inr other ↦ rw other.0 (plain-insert (inserted at old ∷ rest) told)
      ]

pub tells-insert : (start text text' t : List ℕ) (p : ℕ) → p ≤ length text → text' ≡ insert_slice text p t → ((i : ℕ) → IsCharBoundary text i → i ≤ p → IsCharBoundary text' i)
    → IsCharBoundary text p → IsCharBoundary text' (p + length t) → (entries : List Entry) → TellsOf entries text start → TellsOf (with_insert p t entries) text' start
tells-insert start text text' [] p within is front here stop entries told =
    subst (λ x. TellsOf entries x start) (sym (is ∙ ap (λ f. f ++ drop p text) (append-nil (take p text)) ∙ take-append-drop p text)) told
tells-insert start text text' (b ∷ bs) p within is front here stop entries told = plain-insert start text text' (b ∷ bs) p within is front here stop entries told

-- ---- a text that goes

module _ (start text text' : List ℕ) (p q : ℕ) (low : p ≤ q) (within : q ≤ length text) (is : text' ≡ remove_range text p q)
    (front : (i : ℕ) → IsCharBoundary text i → i ≤ p → IsCharBoundary text' i) (here : IsCharBoundary text p) where
  gone : List ℕ
  gone = slice_range text p q

  start_is : p ≡ length (take p text)
  start_is = sym (length-take-le p text (omega arith))

  plain-delete : (entries : List Entry) → TellsOf entries text start → TellsOf (deleted p (slice_range text p q) ∷ entries) text' start
  plain-delete entries told =
      tells-deleted entries start text text' (take p text) (drop q text) p start_is told (slice_range text p q) (cut_in_three text p q low within) is (front p here (omega arith))

  joins-after : (old : List ℕ) (rest : List Entry) → TellsOf (deleted p old ∷ rest) text start → TellsOf (deleted p (old ++ slice_range text p q) ∷ rest) text' start
  joins-after old rest told =
      let base : insert_slice text p old ≡ take p text ++ ((old ++ slice_range text p q) ++ drop q text) =
      ap (λ x. insert_slice x p old) (cut_in_three text p q low within) ∙ inserted_is (take p text) old (slice_range text p q ++ drop q text) p start_is
      ∙ ap (λ r. take p text ++ r) (sym (append_assoc old (slice_range text p q) (drop q text))) in
      tells-deleted rest start (insert_slice text p old) text' (take p text) (drop q text) p start_is told.1 (old ++ slice_range text p q) base is (front p here (omega arith))

  joins-before : (old : List ℕ) (rest : List Entry) → TellsOf (deleted q old ∷ rest) text start → TellsOf (deleted p (slice_range text p q ++ old) ∷ rest) text' start
  joins-before old rest told =
      let a = take p text in
      let s = slice_range text p q in
      let c = drop q text in
      let cut = cut_in_three text p q low within in
      let wide : q ≡ length (a ++ s) = omega (arith, length-append a s, length-append s c, length-append a (s ++ c), ap length cut, length-drop q text) in
      let base : insert_slice text q old ≡ a ++ ((s ++ old) ++ c) =
      ap (λ x. insert_slice x q old) (cut ∙ sym (append_assoc a s c)) ∙ inserted_is (a ++ s) old c q wide
      ∙ append_assoc a s (old ++ c) ∙ ap (λ r. a ++ r) (sym (append_assoc s old c)) in
      tells-deleted rest start (insert_slice text q old) text' a c p start_is told.1 (s ++ old) base is (front p here (omega arith))

  pub tells-joined_delete : (entries : List Entry) → TellsOf entries text start → TellsOf (with_joined_delete p (slice_range text p q) entries) text' start
  tells-joined_delete [] told = plain-delete [] told
  tells-joined_delete (begins ∷ rest) told = plain-delete (begins ∷ rest) told
  tells-joined_delete (ends ∷ rest) told = plain-delete (ends ∷ rest) told
  tells-joined_delete (inserted x y ∷ rest) told = plain-delete (inserted x y ∷ rest) told
  tells-joined_delete (replaced x y z ∷ rest) told = plain-delete (replaced x y z ∷ rest) told
  tells-joined_delete (deleted at old ∷ rest) told =
      elim (eqb_tells at p) [
        | inl same ↦ rw same.0 (rw same.1 (joins-after old rest (subst (λ k. TellsOf (deleted k old ∷ rest) text start) same.1 told)))
        | inr other ↦ elim (eqb_tells (p + length (slice_range text p q)) at) [
          | inl ends_here ↦
              let cut = cut_in_three text p q low within in
              let there : at ≡ q = omega (arith, ends_here.1, start_is, length-append (slice_range text p q) (drop q text), length-append (take p text) (slice_range text p q ++ drop q text), ap length cut, length-drop q text) in
              rw (other.0, ends_here.0) (joins-before old rest (subst (λ k. TellsOf (deleted k old ∷ rest) text start) there told))
          | inr nowhere ↦ rw (other.0, nowhere.0) (plain-delete (deleted at old ∷ rest) told)
        ]
      ]

by_kind : (b : Bool) (start text : List ℕ) (xs ys : List Entry) → TellsOf xs text start → TellsOf ys text start → TellsOf (cond b xs ys) text start
by_kind true start text xs ys x y = x
by_kind false start text xs ys x y = y

pub tells-delete : (start text text' gone : List ℕ) (p q : ℕ) → p ≤ q → q ≤ length text → text' ≡ remove_range text p q → ((i : ℕ) → IsCharBoundary text i → i ≤ p → IsCharBoundary text' i)
    → IsCharBoundary text p → gone ≡ slice_range text p q → (entries : List Entry) → TellsOf entries text start → TellsOf (with_delete p gone entries) text' start
tells-delete start text text' [] p q low within is front here g entries told =
    let cut = cut_in_three text p q low within in
    let same : text ≡ text' = cut ∙ ap (λ m. take p text ++ (m ++ drop q text)) (sym g) ∙ sym is in
    subst (λ x. TellsOf entries x start) same told
tells-delete start text text' (b ∷ bs) p q low within is front here g entries told = by_kind (is_one_alphanumeric (b ∷ bs)) start text' (with_joined_delete p (b ∷ bs) entries) (deleted p (b ∷ bs) ∷ entries)
    (subst (λ x. TellsOf (with_joined_delete p x entries) text' start) (sym g) (tells-joined_delete start text text' p q low within is front here entries told))
    (subst (λ x. TellsOf (deleted p x ∷ entries) text' start) (sym g) (plain-delete start text text' p q low within is front here entries told))

-- ---- a text that comes for another

module _ (start text text' new : List ℕ) (p q : ℕ) (low : p ≤ q) (within : q ≤ length text) (is : text' ≡ replace_range text p q new)
    (front : (i : ℕ) → IsCharBoundary text i → i ≤ p → IsCharBoundary text' i) (here : IsCharBoundary text p) (stop : IsCharBoundary text' (p + length new)) where
  begin_is : p ≡ length (take p text)
  begin_is = sym (length-take-le p text (omega arith))

  now_is : text' ≡ take p text ++ (new ++ drop q text)
  now_is = is ∙ append_assoc (take p text) new (drop q text)

  plain-replace : (entries : List Entry) → TellsOf entries text start → TellsOf (replaced p (slice_range text p q) new ∷ entries) text' start
  plain-replace entries told =
      tells-replaced entries start text text' (take p text) (drop q text) p begin_is told (slice_range text p q) new (cut_in_three text p q low within) now_is (front p here (omega arith)) stop

  joins-replace : (at : ℕ) (old last : List ℕ) (rest : List Entry) → at + length last ≡ p → TellsOf (replaced at old last ∷ rest) text start
      → TellsOf (replaced at (old ++ slice_range text p q) (last ++ new) ∷ rest) text' start
  joins-replace at old last rest e told =
      let stands = told.0 in
      let s = slice_range text p q in
      let c = drop q text in
      let a = take at text in
      let below : at ≤ p = omega arith in
      let place : at ≡ length a = sym (length-take-le at text (omega arith)) in
      let back : at + (p - at) ≡ p = omega arith in
      let fore : take p text ≡ a ++ last =
      ap (λ k. take k text) (sym back) ∙ take-add at (p - at) text ∙ ap (λ m. a ++ m) (sym (ap (slice_range text at) e) ∙ stands.is) in
      let cut : text ≡ a ++ (last ++ (s ++ c)) = cut_in_three text p q low within ∙ ap (λ f. f ++ (s ++ c)) fore ∙ append_assoc a last (s ++ c) in
      let width : at + length last ≡ length a + length last = ap (λ k. k + length last) place in
      let base : replace_range text at (at + length last) old ≡ a ++ ((old ++ s) ++ c) =
      ap (λ x. replace_range x at (at + length last) old) cut ∙ replaced_is a last old (s ++ c) at (at + length last) place width
      ∙ ap (λ r. a ++ r) (sym (append_assoc old s c)) in
      let now : text' ≡ a ++ ((last ++ new) ++ c) =
      now_is ∙ ap (λ f. f ++ (new ++ c)) fore ∙ append_assoc a last (new ++ c) ∙ ap (λ r. a ++ r) (sym (append_assoc last new c)) in
      let end : at + length (last ++ new) ≡ p + length new = omega (arith, length-append last new) in
      tells-replaced rest start (replace_range text at (at + length last) old) text' a c at place told.1 (old ++ s) (last ++ new) base now (front at stands.start below) (rw end stop)

  pub tells-replace : (entries : List Entry) → TellsOf entries text start → TellsOf (with_replace p (slice_range text p q) new entries) text' start
  tells-replace [] told = plain-replace [] told
  tells-replace (begins ∷ rest) told = plain-replace (begins ∷ rest) told
  tells-replace (ends ∷ rest) told = plain-replace (ends ∷ rest) told
  tells-replace (inserted x y ∷ rest) told = plain-replace (inserted x y ∷ rest) told
  tells-replace (deleted x y ∷ rest) told = plain-replace (deleted x y ∷ rest) told
  tells-replace (replaced at old last ∷ rest) told =
      elim (eqb_tells (at + length last) p) [
        | inl same ↦ rw same.0 (joins-replace at old last rest same.1 told)
        | inr other ↦ rw other.0 (plain-replace (replaced at old last ∷ rest) told)
      ]

-- ---- for calls: a boundary of the old text up to the change is one of the new text

pub same_front : (text text' : List ℕ) (p : ℕ) → IsUtf8 text → IsUtf8 text' → p ≤ length text' → take p text' ≡ take p text
    → (i : ℕ) → IsCharBoundary text i → i ≤ p → IsCharBoundary text' i
same_front text text' p u u' w e i b h =
    boundary_of_same_front text text' i u u' b (omega arith) (sym (take_within_take p i text' h) ∙ ap (take i) e ∙ take_within_take p i text h)

pub front-replaced : (text text' new : List ℕ) (p q : ℕ) → IsUtf8 text → IsUtf8 text' → text' ≡ replace_range text p q new → p ≤ length text → KeepsFront text text' p
front-replaced text text' new p q u u' e w =
    let len : p ≡ length (take p text) = sym (length-take-le p text w) in
    let cut = e ∙ append_assoc (take p text) new (drop q text) in
    let fits : p ≤ length text' = omega (arith, ap length cut, length-append (take p text) (new ++ drop q text)) in
    record { keeps = same_front text text' p u u' fits (ap (take p) cut ∙ taken (take p text) (new ++ drop q text) p len) }

pub still-inserted : (old : List Entry) (text text' t : List ℕ) (p : ℕ) → p ≤ length text → text' ≡ insert_slice text p t → KeepsFront text text' p
    → IsCharBoundary text p → IsCharBoundary text' (p + length t) → StillTells old text (with_insert p t old) text'
still-inserted old text text' t p w e f h s = record { tells = λ start told. tells-insert start text text' t p w e f.keeps h s old told }

pub still-joined : (old : List Entry) (text text' t : List ℕ) (p : ℕ) → p ≤ length text → text' ≡ insert_slice text p t → KeepsFront text text' p
    → IsCharBoundary text p → IsCharBoundary text' (p + length t) → StillTells old text (with_joined_insert p t old) text'
still-joined old text text' t p w e f h s = record { tells = λ start told. tells-joined_insert start text text' t p w e f.keeps h s old told }

pub still-deleted : (old : List Entry) (text text' gone : List ℕ) (p q : ℕ) → p ≤ q → q ≤ length text → text' ≡ remove_range text p q → KeepsFront text text' p
    → IsCharBoundary text p → gone ≡ slice_range text p q → StillTells old text (with_delete p gone old) text'
still-deleted old text text' gone p q l w e f h g = record { tells = λ start told. tells-delete start text text' gone p q l w e f.keeps h g old told }

pub still-replaced : (old : List Entry) (text text' new : List ℕ) (p q : ℕ) → p ≤ q → q ≤ length text → text' ≡ replace_range text p q new → KeepsFront text text' p
    → IsCharBoundary text p → IsCharBoundary text' (p + length new) → StillTells old text (with_replace p (slice_range text p q) new old) text'
still-replaced old text text' new p q l w e f h s = record { tells = λ start told. tells-replace start text text' new p q l w e f.keeps h s old told }

typed_kind : (b : Bool) (old : List Entry) (text text' t : List ℕ) (p : ℕ) → StillTells old text (with_joined_insert p t old) text' → StillTells old text (with_insert p t old) text'
    → StillTells old text (cond b (with_joined_insert p t old) (with_insert p (t ++ []) old)) text'
typed_kind true old text text' t p j i = j
typed_kind false old text text' t p j i = subst (λ x. StillTells old text (with_insert p x old) text') (sym (append-nil t)) i

pub still-typed : (old : List Entry) (text text' : List ℕ) (p c : ℕ) → p ≤ length text → text' ≡ insert_slice text p (encode_utf8 c) → KeepsFront text text' p
    → IsCharBoundary text p → IsCharBoundary text' (p + length (encode_utf8 c)) → StillTells old text (with_typed p c 1 old) text'
still-typed old text text' p c w e f h s =
    typed_kind (is_alphanumeric c) old text text' (encode_utf8 c) p (still-joined old text text' (encode_utf8 c) p w e f h s) (still-inserted old text text' (encode_utf8 c) p w e f h s)

-- everything goes, and another text comes
whole_slice : (text : List ℕ) → slice_range text 0 (length text) ≡ text
whole_slice text = let all : length text - 0 ≡ length text = omega arith in take_all (length text - 0) text (omega arith)

pub still-updated : (old : List Entry) (text text' : List ℕ) → IsUtf8 text → IsUtf8 text' → StillTells old text (with_insert 0 text' (with_delete 0 text old)) text'
still-updated old text text' u u' =
    let gone = still-deleted old text [] text 0 (length text) (omega arith) (omega arith) (sym (drop-length text)) (record { keeps = λ i b h. (omega arith, λ k. absurd (omega arith)) })
    (IsCharBoundary-start text u) (sym (whole_slice text)) in
    let came = still-inserted (with_delete 0 text old) [] text' text' 0 (omega arith) (sym (append-nil text'))
    (record { keeps = λ i b h. let zero : i ≡ 0 = omega arith in subst (IsCharBoundary text') (sym zero) (IsCharBoundary-start text' u') }) (IsCharBoundary-start [] IsUtf8-nil)
    (let all : 0 + length text' ≡ length text' = omega arith in subst (IsCharBoundary text') (sym all) (IsCharBoundary-end text')) in
    record { tells = λ start told. came.tells start (gone.tells start told) }

pub behind_insert : (text text' t : List ℕ) (p : ℕ) → IsUtf8 text → IsCharBoundary text p → text' ≡ insert_slice text p t → IsCharBoundary text' (p + length t)
behind_insert text text' t p u b e =
    let len : length (take p text ++ t) ≡ p + length t = omega (arith, length-append (take p text) t, length-take-le p text b.0) in
    subst (IsCharBoundary text') len (IsCharBoundary-at_seam text' (take p text ++ t) (drop p text) e (IsUtf8-drop text p u b))

-- ---- for what holds a line and its changes: after any call, an error too, the entries tell of the line

told_on : {T E : Type 0} (r : Result T E) (old new : Changes) (line line' : Line) → OnOk r (StillTells old.entries line.text new.entries line'.text) → OnErr r (new ≡ no_changes)
    → Tells old.entries line.text → Tells new.entries line'.text
told_on (Ok x) old new line line' t n h = record { start = h.start; told = t.tells h.start h.told }
told_on (Err e) old new line line' t n h = rw n (record { start = line'.text; told = refl })

pub told_kept : {T E : Type 0} (r : Result T E) (old new : Changes) (line line' : Line) → KeepsTold r old line new line' → Tells old.entries line.text → Tells new.entries line'.text
told_kept r old new line line' k h = told_on r old new line line' k.tells k.err h

told_on_anywhere : {T E : Type 0} (r : Result T E) (old new : Changes) (text : List ℕ) → OnOk r (TellTheSame old.entries new.entries) → OnErr r (new ≡ no_changes)
    → Tells old.entries text → Tells new.entries text
told_on_anywhere (Ok x) old new text t n h = record { start = h.start; told = (t.of text).tells h.start h.told }
told_on_anywhere (Err e) old new text t n h = rw n (record { start = text; told = refl })

pub told_kept_anywhere : {T E : Type 0} (r : Result T E) (old new : Changes) (line : Line) → KeepsToldAnywhere r old new → Tells old.entries line.text → Tells new.entries line.text
told_kept_anywhere r old new line k h = told_on_anywhere r old new line.text k.tells k.err h
