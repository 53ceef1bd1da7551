-- A line that gets a text at its front, or loses one there.
use Rattle.std.proofs.Common.{◌≡◌, ℕ, get_or, ◌+◌, ◌-◌, ◌<◌, ◌≤◌, zero, suc, true, false, List, [], ◌∷◌, ◌++◌, length, take, drop, refl, sym, ap, ap₂, ◌∙◌, subst, arith, inl, inr, append_assoc, length-append, length-drop}
use Rattle.std.proofs.lemmas.Bool.{cases_lt}
use Rattle.std.proofs.lemmas.Bool.Decides.{eqb_tells}
use Rattle.std.proofs.lemmas.List.{take_at, drop_at, drop-drop, get_or-append-add, get_or-drop, get_or-take, length-replicate, drop-append-le, take-append-le, take-append-drop, length-take-le}
use Rattle.std.proofs.lemmas.List.Folds.{length-prefix_len}
use Rattle.std.proofs.lemmas.List.Sums.{prefix_len-le-length}
use Rattle.std.specs.Prelude.{max, option_map, replicate, unwrap_or}
use Rattle.std.specs.Char.{is_newline}
use Rattle.std.specs.List.{insert_slice, prefix_len, remove_range, slice_range}
use Rattle.std.specs.Str.{IsCharBoundary, NonePass}
use Rattle.line_buffer.proofs.IndentLemmas.{among_past, among_within, moved_behind, moved_from, prefix_at}
use Rattle.line_buffer.specs.Indent.{blank_front, shifted, with_line_shifted}
use Rattle.line_buffer.specs.Line.{Line, is_no_newline}
use Rattle.line_buffer.specs.Lines.{line_from, line_stop, next_line}

-- ---- the line that begins at a place

none_first : (bs : List ℕ) → NonePass is_newline (take (prefix_len is_no_newline bs) bs)
none_first [] = tt
none_first (b ∷ bs) =
    let one : 1 + prefix_len is_no_newline bs ≡ suc (prefix_len is_no_newline bs) = omega arith in
    elim (eqb_tells b 10) [ inl w ↦ rw w.0 tt | inr w ↦ rw (w.0, one) (w.0, none_first bs) ]

stops_first : (bs : List ℕ) → prefix_len is_no_newline (drop (prefix_len is_no_newline bs) bs) ≡ 0
stops_first [] = refl
stops_first (b ∷ bs) =
    let one : 1 + prefix_len is_no_newline bs ≡ suc (prefix_len is_no_newline bs) = omega arith in
    elim (eqb_tells b 10) [ inl w ↦ rw w.0 (rw w.0) | inr w ↦ rw (w.0, one) (stops_first bs) ]

none_drop : (n : ℕ) (bs : List ℕ) → NonePass is_newline bs → NonePass is_newline (drop n bs)
none_drop zero bs h = h
none_drop (suc n) [] h = tt
none_drop (suc n) (b ∷ bs) h = none_drop n bs h.1

pub length-line_from : (text : List ℕ) (start : ℕ) → length (line_from text start) ≡ prefix_len is_no_newline (drop start text)
length-line_from text start = length-prefix_len is_no_newline (drop start text)

pub line_fits : (text : List ℕ) (start : ℕ) → start ≤ length text → start + length (line_from text start) ≤ length text
line_fits text start h = omega (arith, length-line_from text start, prefix_len-le-length is_no_newline (drop start text), length-drop start text)

-- the part of a text from a place on that its first line takes
pub line_is : (text rest line : List ℕ) (start len : ℕ) → rest ≡ drop start text → len ≡ prefix_len is_no_newline rest → line ≡ slice_range rest 0 len → line ≡ line_from text start
line_is text rest line start len r l e =
    let all : len - 0 ≡ len = omega arith in
    e ∙ ap (λ n. take n rest) (all ∙ l) ∙ ap (λ x. take (prefix_len is_no_newline x) x) r

behind_line : (text : List ℕ) (start : ℕ) → drop (start + length (line_from text start)) text ≡ drop (prefix_len is_no_newline (drop start text)) (drop start text)
behind_line text start = ap (λ n. drop (start + n) text) (length-line_from text start) ∙ sym (drop-drop (prefix_len is_no_newline (drop start text)) start text)

split_line : (text : List ℕ) (start : ℕ) → drop start text ≡ line_from text start ++ drop (start + length (line_from text start)) text
split_line text start =
    sym (take-append-drop (prefix_len is_no_newline (drop start text)) (drop start text)) ∙ ap (λ r. line_from text start ++ r) (sym (behind_line text start))

-- the place where a line ends has no more of it before its newline
pub ends_line : (text : List ℕ) (place : ℕ) → prefix_len is_no_newline (drop (place + prefix_len is_no_newline (drop place text)) text) ≡ 0
ends_line text place = ap (prefix_len is_no_newline) (sym (drop-drop (prefix_len is_no_newline (drop place text)) place text)) ∙ stops_first (drop place text)

-- ---- a boundary behind a change

-- a boundary from a place on is one of each text that goes on as from that place
boundary_behind : (text text' front : List ℕ) (place i : ℕ) → text' ≡ front ++ drop place text → IsCharBoundary text i → place ≤ i → IsCharBoundary text' (length front + (i - place))
boundary_behind text text' front place i e b h =
    let k = i - place in
    let back : place + k ≡ i = omega arith in
    let byte : get_or text' (length front + k) 0 ≡ get_or text i 0 =
    ap (λ s. get_or s (length front + k) 0) e ∙ get_or-append-add front (drop place text) k 0 ∙ get_or-drop place text k 0 ∙ ap (λ n. get_or text n 0) back in
    let len : length text' ≡ length front + (length text - place) = ap length e ∙ length-append front (drop place text) ∙ ap (λ n. length front + n) (length-drop place text) in
    (omega (arith, b.0), λ in_text high. rw byte (b.1 (omega arith) (rw (← byte) high)))

-- a boundary before a place is one of each text that begins alike up to that place
boundary_ahead : (text text' : List ℕ) (place i : ℕ) → take place text' ≡ take place text → place ≤ length text' → place ≤ length text → i < place → IsCharBoundary text i → IsCharBoundary text' i
boundary_ahead text text' place i e w w' h b =
    let byte : get_or text' i 0 ≡ get_or text i 0 = sym (get_or-take place text' i 0 h) ∙ ap (λ s. get_or s i 0) e ∙ get_or-take place text i 0 h in
    (omega arith, λ in_text high. rw byte (b.1 (omega arith) (rw (← byte) high)))

-- ---- a text at the front

module _ (text t : List ℕ) (start : ℕ) (within : start ≤ length text) where
  pub text_with_front : insert_slice text start t ≡ take start text ++ ((t ++ line_from text start) ++ drop (start + length (line_from text start)) text)
  text_with_front =
      let line = line_from text start in
      let rest = drop (start + length line) text in
      append_assoc (take start text) t (drop start text) ∙ ap (λ r. take start text ++ r) (ap (λ r. t ++ r) (split_line text start) ∙ sym (append_assoc t line rest))

  pub end_with_front : (text' : List ℕ) → text' ≡ insert_slice text start t
      → start + length t + prefix_len is_no_newline (drop (start + length t) text') ≡ start + length (t ++ line_from text start)
  end_with_front text' e =
      let len : length (take start text ++ t) ≡ start + length t = omega (arith, length-append (take start text) t, length-take-le start text within) in
      let same : drop (start + length t) text' ≡ drop start text = ap (drop (start + length t)) e ∙ drop_at (take start text ++ t) (drop start text) (start + length t) len in
      omega (arith, ap (prefix_len is_no_newline) same, length-line_from text start, length-append t (line_from text start))

pub cursor_with_front : (amount start : ℕ) (line : List ℕ) (cursor : ℕ) → start ≤ cursor → moved_from false amount start (line ∷ []) cursor ≡ cursor + amount
cursor_with_front amount start line cursor h =
    let len : length (shifted false amount line) ≡ amount + length line = omega (arith, length-append (replicate amount 32) line, length-replicate {A = ℕ} amount 32) in
    moved_behind false amount start (line ∷ []) cursor h
    ∙ elim (cases_lt (length line) (cursor - start)) [
      | inl past ↦ ap (λ m. start + m) (among_past false amount line [] (cursor - start) past) ∙ omega arith
      | inr within ↦ ap (λ m. start + m) (among_within false amount line [] (cursor - start) within) ∙ omega arith
    ]

-- the cursor is as far from the text's end as it was
pub cursor_back_with_front : (text text' t : List ℕ) (start cursor : ℕ) (line : List ℕ) → start ≤ cursor → cursor ≤ length text → text' ≡ insert_slice text start t
    → length text' - (length text - cursor) ≡ moved_from false (length t) start (line ∷ []) cursor
cursor_back_with_front text text' t start cursor line h w e =
    let len : length text' ≡ length text + length t =
    omega (arith, ap length e, length-append (take start text ++ t) (drop start text), length-append (take start text) t, length-take-le start text (omega arith), length-drop start text) in
    omega (arith, cursor_with_front (length t) start line cursor h)

pub line_with_front : (l : Line) (t : List ℕ) (start cursor : ℕ) → start ≤ length l.text → t ≡ replicate (length t) 32 → cursor ≡ moved_from false (length t) start (line_from l.text start ∷ []) l.cursor
    → record { text = insert_slice l.text start t; cursor = cursor } ≡ with_line_shifted false (length t) l start (line_from l.text start)
line_with_front l t start cursor within spaces e =
    let line = line_from l.text start in
    let text = text_with_front l.text t start within ∙ ap (λ x. take start l.text ++ ((x ++ line) ++ drop (start + length line) l.text)) spaces in
    let to_line = λ (a : List ℕ) (c : ℕ). let made : Line = record { text = a; cursor = c } in made in
    ap₂ to_line text e

-- ---- a text that goes from the front

module _ (text : List ℕ) (start lost : ℕ) (within : start ≤ length text) (fits : lost ≤ length (line_from text start)) where
  rest_without_front : drop (start + lost) text ≡ drop lost (line_from text start) ++ drop (start + length (line_from text start)) text
  rest_without_front =
      let rest = drop (start + length (line_from text start)) text in
      sym (drop-drop lost start text) ∙ ap (drop lost) (split_line text start) ∙ drop-append-le lost (line_from text start) rest fits

  pub text_without_front : remove_range text start (start + lost) ≡ take start text ++ (drop lost (line_from text start) ++ drop (start + length (line_from text start)) text)
  text_without_front = ap (λ r. take start text ++ r) rest_without_front

  pub end_without_front : (text' : List ℕ) → text' ≡ remove_range text start (start + lost) → start + prefix_len is_no_newline (drop start text') ≡ start + length (drop lost (line_from text start))
  end_without_front text' e =
      let line = line_from text start in
      let rest = drop (start + length line) text in
      let same : drop start text' ≡ drop lost line ++ rest =
      ap (drop start) e ∙ drop_at (take start text) (drop (start + lost) text) start (length-take-le start text within) ∙ rest_without_front in
      let stops : prefix_len is_no_newline rest ≡ 0 = ap (prefix_len is_no_newline) (behind_line text start) ∙ stops_first (drop start text) in
      ap (λ n. start + n) (ap (prefix_len is_no_newline) same ∙ prefix_at (drop lost line) rest (none_drop lost line (none_first (drop start text))) stops)

  pub gone_from_front : slice_range text start (start + lost) ≡ take lost (line_from text start)
  gone_from_front =
      let rest = drop (start + length (line_from text start)) text in
      let width : start + lost - start ≡ lost = omega arith in
      ap₂ take width (split_line text start) ∙ take-append-le lost (line_from text start) rest fits

  pub boundary_without_front : (text' : List ℕ) (i : ℕ) → text' ≡ remove_range text start (start + lost) → IsCharBoundary text i → start + lost ≤ i → IsCharBoundary text' (i - lost)
  boundary_without_front text' i e b h =
      let len : length (take start text) + (i - (start + lost)) ≡ i - lost = omega (arith, length-take-le start text within) in
      subst (IsCharBoundary text') len (boundary_behind text text' (take start text) (start + lost) i e b h)

  pub boundary_before_loss : (text' : List ℕ) (i : ℕ) → text' ≡ remove_range text start (start + lost) → IsCharBoundary text i → i < start → IsCharBoundary text' i
  boundary_before_loss text' i e b h =
      let len : length (take start text) ≡ start = length-take-le start text within in
      let fits : start ≤ length text' = omega (arith, ap length e, length-append (take start text) (drop (start + lost) text)) in
      boundary_ahead text text' start i (ap (take start) e ∙ take_at (take start text) (drop (start + lost) text) start len) fits within h b

pub cursor_without_front : (amount start : ℕ) (line : List ℕ) (cursor : ℕ) → start ≤ cursor → length (blank_front amount line) ≤ length line
    → moved_from true amount start (line ∷ []) cursor ≡ start + (cursor - start - length (blank_front amount line))
cursor_without_front amount start line cursor h fits =
    let lost = length (blank_front amount line) in
    moved_behind true amount start (line ∷ []) cursor h
    ∙ elim (cases_lt (length line) (cursor - start)) [
      | inl past ↦ ap (λ m. start + m) (among_past true amount line [] (cursor - start) past) ∙ omega (arith, length-drop lost line)
      | inr within ↦ ap (λ m. start + m) (among_within true amount line [] (cursor - start) within)
    ]

-- the cursor is as far from the text's end as it was, but not before the line
pub cursor_back_without_front : (text text' : List ℕ) (amount start cursor lost : ℕ) (line : List ℕ) → start ≤ cursor → cursor ≤ length text → start + lost ≤ length text → lost ≡ length (blank_front amount line)
    → lost ≤ length line → text' ≡ remove_range text start (start + lost) → max (length text' - (length text - cursor)) start ≡ moved_from true amount start (line ∷ []) cursor
cursor_back_without_front text text' amount start cursor lost line h w in_text is fits e =
    let len : length text' ≡ length text - lost =
    omega (arith, ap length e, length-append (take start text) (drop (start + lost) text), length-take-le start text (omega arith), length-drop (start + lost) text) in
    omega (arith, cursor_without_front amount start line cursor h (omega arith))

pub boundary_back_without_front : (text text' : List ℕ) (start lost cursor : ℕ) → start ≤ length text → lost ≤ length (line_from text start) → text' ≡ remove_range text start (start + lost)
    → IsCharBoundary text cursor → IsCharBoundary text' start → start ≤ cursor → IsCharBoundary text' (max (length text' - (length text - cursor)) start)
boundary_back_without_front text text' start lost cursor within fits e b there h =
    let in_text = line_fits text start within in
    let len : length text' ≡ length text - lost =
    omega (arith, ap length e, length-append (take start text) (drop (start + lost) text), length-take-le start text within, length-drop (start + lost) text) in
    elim (cases_lt cursor (start + lost)) [
      | inl lost_too ↦ let place : max (length text' - (length text - cursor)) start ≡ start = omega (arith, b.0) in rw place there
      | inr kept ↦ let place : max (length text' - (length text - cursor)) start ≡ cursor - lost = omega (arith, b.0) in rw place (boundary_without_front text start lost within fits text' cursor e b kept)
    ]

pub line_without_front : (l : Line) (amount start lost cursor : ℕ) → start ≤ length l.text → lost ≤ length (line_from l.text start) → lost ≡ length (blank_front amount (line_from l.text start))
    → cursor ≡ moved_from true amount start (line_from l.text start ∷ []) l.cursor
    → record { text = remove_range l.text start (start + lost); cursor = cursor } ≡ with_line_shifted true amount l start (line_from l.text start)
line_without_front l amount start lost cursor within fits is e =
    let line = line_from l.text start in
    let text = text_without_front l.text start lost within fits ∙ ap (λ n. take start l.text ++ (drop n line ++ drop (start + length line) l.text)) is in
    let to_line = λ (a : List ℕ) (c : ℕ). let made : Line = record { text = a; cursor = c } in made in
    ap₂ to_line text e

-- the line behind a newline begins one byte on
pub next_start : (text more : List ℕ) (stop : ℕ) → drop stop text ≡ 10 ∷ more → line_stop text stop ≡ stop + 1
next_start text more stop e =
    ap (λ r. unwrap_or (option_map (λ bytes. stop + bytes) (next_line r)) (length text)) e
    ∙ elim (eqb_tells 0 (length (10 ∷ more))) [ inl w ↦ absurd (omega arith) | inr w ↦ rw w.0 ]
