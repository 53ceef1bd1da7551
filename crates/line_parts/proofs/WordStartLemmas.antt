-- Where words begin.
use Rattle.std.proofs.Common.{◌≡◌, ℕ, ◌+◌, ◌-◌, ◌<◌, ◌≤◌, Bool, true, false, true≢false, not, ◌&&◌, if◌then◌else◌, List, [], ◌∷◌, ◌++◌, length, take, drop, get_or, reverse, Option, Some, ⊎_elim, refl, sym, ap, ◌∙◌, arith, append_assoc, append-nil, zero-add, length-append, bytes_eq, eqb, subst}
use lib.Utf8.{scalar, scalars, encodes, encode}
use Rattle.std.specs.Char.{IsScalar}
use Rattle.std.specs.List.{concat, flat_map, list_all, range_with_len}
use Rattle.std.specs.Str.{IsCharBoundary, IsUtf8, chars}
use Rattle.std.proofs.lemmas.Str.{IsCharBoundary-at_seam, IsCharBoundary-from_take, IsUtf8-append, IsUtf8-drop, IsUtf8-nil, chars-append, len_utf8_bounds, length-encode, chars-encodes, chars-nil, cons_from_encodes, encodes-append, encodes-chars, scalars-chars}
use Rattle.std.proofs.lemmas.Bool.{cases_Bool}
use Rattle.std.proofs.lemmas.List.{drop-append-le, reverse-append, reverse-reverse, take-append-drop}
use Rattle.std.proofs.Math.Seq.{drop-append-add, drop-append_seam, take-append_seam}
use Rattle.std.proofs.lemmas.List.FromFn.{get_or-range_with_len, length-range_with_len}
use Rattle.std.proofs.lemmas.List.Sums.{position_or_len_is}
use Rattle.line_parts.specs.Quoting.{ends_in}
use Rattle.line_parts.specs.Escape.{escaped, escaped_char, is_escape, is_word_piece, offset_at, word_start}
use Rattle.line_parts.specs.Pieces.{is_made_of_pieces}
use Rattle.line_parts.specs.declared.completion.escapes.Quote.TheVariants as quote
use Rattle.line_parts.proofs.WordLemmas.{is_same}
use Rattle.line_parts.proofs.PieceLemmas.{and, both, made_append, made_nil, made_one, made_pieces}

-- whether characters, read from the last one back, are pieces of a word
abbrev back_word : Option ℕ → (ℕ → Bool) → List ℕ → Bool
back_word escape is_break [] = true
back_word escape is_break (c ∷ []) = not (is_break c)
back_word escape is_break (c ∷ d ∷ cs) =
    if is_break c then is_escape escape d && back_word escape is_break cs else back_word escape is_break (d ∷ cs)

drop_zero : (cs : List ℕ) → drop 0 cs ≡ cs
drop_zero [] = refl
drop_zero (c ∷ cs) = refl

drop_behind : (front : List ℕ) (c : ℕ) (tail : List ℕ) → drop (length front + 1) (front ++ c ∷ tail) ≡ tail
drop_behind front c tail = drop-append-add front (c ∷ tail) 1 ∙ drop_zero tail

module _ (escape : Option ℕ) (is_break : ℕ → Bool) where
  no_break : (c : ℕ) → not (is_break c) ≡ true → is_break c ≡ false
  no_break c h = ⊎_elim (λ breaks. absurd (true≢false (sym h ∙ ap not breaks))) (λ other. other) (cases_Bool (is_break c))

  back_break : (c d : ℕ) (cs : List ℕ) → is_break c ≡ true → back_word escape is_break (c ∷ d ∷ cs) ≡ (is_escape escape d && back_word escape is_break cs)
  back_break c d cs h = rw h refl

  back_other : (c d : ℕ) (cs : List ℕ) → is_break c ≡ false → back_word escape is_break (c ∷ d ∷ cs) ≡ back_word escape is_break (d ∷ cs)
  back_other c d cs h = rw h refl

  back_plain : (c : ℕ) (cs : List ℕ) → is_break c ≡ false → back_word escape is_break (c ∷ cs) ≡ back_word escape is_break cs
  back_plain c [] h = rw h refl
  back_plain c (d ∷ cs) h = back_other c d cs h

  back_append : (xs ys : List ℕ) → back_word escape is_break xs ≡ true → back_word escape is_break ys ≡ true → back_word escape is_break (xs ++ ys) ≡ true
  back_append [] ys h k = k
  back_append (c ∷ []) ys h k = back_plain c ys (no_break c h) ∙ k
  back_append (c ∷ d ∷ cs) ys h k = ⊎_elim
      (λ breaks. let parts = both (is_escape escape d) (back_word escape is_break cs) (sym (back_break c d cs breaks) ∙ h) in
      back_break c d (cs ++ ys) breaks ∙ and (is_escape escape d) (back_word escape is_break (cs ++ ys)) parts.0 (back_append cs ys parts.1 k))
      (λ other. back_other c d (cs ++ ys) other ∙ back_append (d ∷ cs) ys (sym (back_other c d cs other) ∙ h) k)
      (cases_Bool (is_break c))

  back_behind : (xs ys : List ℕ) → back_word escape is_break (xs ++ ys) ≡ true → back_word escape is_break xs ≡ true → back_word escape is_break ys ≡ true
  back_behind [] ys h k = h
  back_behind (c ∷ []) ys h k = sym (back_plain c ys (no_break c k)) ∙ h
  back_behind (c ∷ d ∷ cs) ys h k = ⊎_elim
      (λ breaks. let all = both (is_escape escape d) (back_word escape is_break (cs ++ ys)) (sym (back_break c d (cs ++ ys) breaks) ∙ h) in
      let front = both (is_escape escape d) (back_word escape is_break cs) (sym (back_break c d cs breaks) ∙ k) in
      back_behind cs ys all.1 front.1)
      (λ other. back_behind (d ∷ cs) ys (sym (back_other c d (cs ++ ys) other) ∙ h) (sym (back_other c d cs other) ∙ k))
      (cases_Bool (is_break c))

  back_piece : (piece : List ℕ) → is_word_piece escape is_break piece ≡ true → back_word escape is_break (reverse piece) ≡ true
  back_piece [] h = absurd (true≢false (sym h))
  back_piece (c ∷ []) h = h
  back_piece (c ∷ d ∷ []) h =
      let parts = both (is_escape escape c) (is_break d) h in
      back_break d c [] parts.1 ∙ and (is_escape escape c) true parts.0 refl
  back_piece (c ∷ d ∷ e ∷ cs) h = absurd (true≢false (sym h))

  back_pieces : (pieces : List (List ℕ)) → list_all (is_word_piece escape is_break) pieces ≡ true → back_word escape is_break (reverse (concat pieces)) ≡ true
  back_pieces [] pass = refl
  back_pieces (piece ∷ pieces) pass =
      let parts = both (is_word_piece escape is_break piece) (list_all (is_word_piece escape is_break) pieces) pass in
      ap (back_word escape is_break) (reverse-append piece (concat pieces))
      ∙ back_append (reverse (concat pieces)) (reverse piece) (back_pieces pieces parts.1) (back_piece piece parts.0)

  -- what is made of pieces of a word is so from its end back
  back_made : (cs : List ℕ) → is_made_of_pieces (is_word_piece escape is_break) cs ≡ true → back_word escape is_break (reverse cs) ≡ true
  back_made cs made =
      let cut = made_pieces (is_word_piece escape is_break) cs made in
      ap (λ t. back_word escape is_break (reverse t)) (sym cut.whole) ∙ back_pieces cut.pieces cut.passes

  -- a break character that is not escaped
  pub NotEscaped : List ℕ → Type 0
  NotEscaped front = (c : ℕ) (cs : List ℕ) → reverse front ≡ c ∷ cs → is_escape escape c ≡ false

  stuck : (back : List ℕ) (c : ℕ) → is_break c ≡ true → ((d : ℕ) (ds : List ℕ) → back ≡ d ∷ ds → is_escape escape d ≡ false) → back_word escape is_break (c ∷ back) ≡ true → ⊥
  stuck [] c breaks alone h = true≢false (sym h ∙ ap not breaks)
  stuck (d ∷ ds) c breaks alone h =
      true≢false (sym (both (is_escape escape d) (back_word escape is_break ds) (sym (back_break c d ds breaks) ∙ h)).0 ∙ alone d ds refl)

  -- no word begins before it
  no_word_before : (front : List ℕ) (c : ℕ) (tail : List ℕ) → is_break c ≡ true → NotEscaped front → is_made_of_pieces (is_word_piece escape is_break) tail ≡ true
      → is_made_of_pieces (is_word_piece escape is_break) (front ++ c ∷ tail) ≡ true → ⊥
  unfolding NotEscaped
  no_word_before front c tail breaks alone word made =
      let all = back_made (front ++ c ∷ tail) made in
      let split : reverse (front ++ c ∷ tail) ≡ reverse tail ++ (c ∷ reverse front) =
      reverse-append front (c ∷ tail) ∙ ap (λ t. t ++ reverse front) (reverse-append (c ∷ []) tail) ∙ append_assoc (reverse tail) (c ∷ []) (reverse front) in
      stuck (reverse front) c breaks alone
      (back_behind (reverse tail) (c ∷ reverse front) (ap (back_word escape is_break) (sym split) ∙ all) (back_made tail word))

  -- what stands before a break character, from a place on
  still_alone : (front : List ℕ) (place : ℕ) → NotEscaped front → NotEscaped (drop place front)
  unfolding NotEscaped
  still_alone front place alone c cs is =
      alone c (cs ++ reverse (take place front))
      (ap reverse (sym (take-append-drop place front)) ∙ reverse-append (take place front) (drop place front) ∙ ap (λ t. t ++ reverse (take place front)) is)

  false_if : (b : Bool) → (b ≡ true → ⊥) → b ≡ false
  false_if true h = absurd (h refl)
  false_if false h = refl

  word_start_is : (cs : List ℕ) (place : ℕ) → place ≤ length cs → ((k : ℕ) → k < place → is_made_of_pieces (is_word_piece escape is_break) (drop k cs) ≡ true → ⊥)
      → is_made_of_pieces (is_word_piece escape is_break) (drop place cs) ≡ true → word_start escape is_break cs ≡ place
  word_start_is cs place within below here =
      let passes : ℕ → Bool = λ k. is_made_of_pieces (is_word_piece escape is_break) (drop k cs) in
      let numbers : List ℕ = range_with_len 0 (length cs) in
      let len : length numbers ≡ length cs = length-range_with_len 0 (length cs) in
      let number : (k : ℕ) → k < length cs → get_or numbers k 0 ≡ k = λ k lt. get_or-range_with_len 0 (length cs) k 0 lt ∙ zero-add k in
      position_or_len_is passes numbers place 0 (omega (arith, within, len))
      (λ k lt. ap passes (number k (omega (arith, lt, within))) ∙ false_if (passes k) (below k lt))
      (λ lt. ap passes (number place (omega (arith, lt, len))) ∙ here)

  -- the last word begins behind a break character that is not escaped
  pub starts_behind : (front : List ℕ) (c : ℕ) (tail : List ℕ) → is_break c ≡ true → NotEscaped front → is_made_of_pieces (is_word_piece escape is_break) tail ≡ true
      → word_start escape is_break (front ++ c ∷ tail) ≡ length front + 1
  starts_behind front c tail breaks alone word =
      word_start_is (front ++ c ∷ tail) (length front + 1) (omega (arith, length-append front (c ∷ tail)))
      (λ k lt made. no_word_before (drop k front) c tail breaks (still_alone front k alone) word
      (ap (is_made_of_pieces (is_word_piece escape is_break)) (sym (drop-append-le k front (c ∷ tail) (omega (arith, lt)))) ∙ made))
      (ap (is_made_of_pieces (is_word_piece escape is_break)) (drop_behind front c tail) ∙ word)

  -- or with the text
  pub starts_at_start : (cs : List ℕ) → is_made_of_pieces (is_word_piece escape is_break) cs ≡ true → word_start escape is_break cs ≡ 0
  starts_at_start cs word = word_start_is cs 0 (omega arith) (λ k lt made. absurd (omega (arith, lt))) (ap (is_made_of_pieces (is_word_piece escape is_break)) (drop_zero cs) ∙ word)

made_escaped : (escape : ℕ) (is_break : ℕ → Bool) (cs : List ℕ) → is_made_of_pieces (is_word_piece (Some escape) is_break) (flat_map (escaped_char escape is_break) cs) ≡ true
made_escaped escape is_break [] = made_nil (is_word_piece (Some escape) is_break)
made_escaped escape is_break (c ∷ cs) =
    let is_piece : List ℕ → Bool = is_word_piece (Some escape) is_break in
    made_append is_piece (escaped_char escape is_break c) (flat_map (escaped_char escape is_break) cs) refl
    (made_one is_piece (escaped_char escape is_break c) refl (⊎_elim
    (λ breaks. rw breaks (and (eqb escape escape) (is_break c) (is_same refl) breaks))
    (λ other. rw other (ap not other))
    (cases_Bool (is_break c))))
    (made_escaped escape is_break cs)

last_is : (cs : List ℕ) (c e : ℕ) → ends_in e (cs ++ c ∷ []) ≡ eqb c e
last_is cs c e =
    let at : length (cs ++ c ∷ []) - 1 ≡ length cs = omega (arith, length-append cs (c ∷ [])) in
    ap (λ n. bytes_eq (drop n (cs ++ c ∷ [])) (e ∷ [])) at ∙ ap (λ t. bytes_eq t (e ∷ [])) (drop-append_seam cs (c ∷ [])) ∙ and_true (eqb c e)
  where
    and_true : (b : Bool) → (b && true) ≡ b
    and_true true = refl
    and_true false = refl

alone_if : (escape : ℕ) (is_break : ℕ → Bool) (before : List ℕ) → ends_in escape before ≡ false → NotEscaped (Some escape) is_break before
unfolding NotEscaped
alone_if escape is_break before other c cs is =
    let split : before ≡ reverse cs ++ c ∷ [] = sym (reverse-reverse before) ∙ ap reverse is ∙ reverse-append (c ∷ []) cs in
    sym (last_is (reverse cs) c escape) ∙ ap (ends_in escape) (sym split) ∙ other

-- an escaped text behind a break character is the last word
pub escaped_word : (escape break : ℕ) (is_break : ℕ → Bool) (before text : List ℕ) → is_break break ≡ true → ends_in escape before ≡ false
    → word_start (Some escape) is_break (before ++ break ∷ escaped (Some escape) is_break quote.None text) ≡ length before + 1
escaped_word escape break is_break before text breaks alone =
    starts_behind (Some escape) is_break before break (flat_map (escaped_char escape is_break) text) breaks (alone_if escape is_break before alone) (made_escaped escape is_break text)

-- a text up to which a scan from its end has come: what it passed is made of pieces of a word, by
-- whatever test the answers came
pub record BackTo (Answers : (ℕ → Bool) → Type 0) (escape : Option ℕ) (text rest : List ℕ) : Type 0 where
  pub tail : List ℕ
  pub rest_utf8 : IsUtf8 rest
  pub utf8 : IsUtf8 tail
  pub splits : text ≡ rest ++ tail
  pub word : (is_break : ℕ → Bool) → Answers is_break → is_made_of_pieces (is_word_piece escape is_break) (chars tail) ≡ true

-- one more character from the end
pub last_char : (c : ℕ) (rest more : List ℕ) → IsUtf8 rest → IsUtf8 more → rest ≡ more ++ encode c → (chars rest ≡ chars more ++ c ∷ []) × IsScalar c × IsUtf8 (encode c)
last_char c rest more utf8 front is =
    let seam : drop (length more) rest ≡ encode c = ap (drop (length more)) is ∙ drop-append_seam more (encode c) in
    let start : take (length more) rest ≡ more = ap (take (length more)) is ∙ take-append_seam more (encode c) in
    let within : length more ≤ length rest = omega (arith, ap length is, length-append more (encode c)) in
    let boundary = IsCharBoundary-from_take rest (length more) utf8 within (subst IsUtf8 (sym start) front) in
    let alone : IsUtf8 (encode c) = subst IsUtf8 seam (IsUtf8-drop rest (length more) utf8 boundary) in
    let cut = cons_from_encodes alone.0 [] c (alone.1.1 ∙ sym (append-nil (encode c))) in
    let good : scalar c ≡ true = (both (scalar c) (scalars cut.0) (ap scalars (sym cut.1) ∙ alone.1.0)).0 in
    let one : chars (encode c) ≡ c ∷ [] = ap chars (sym (append-nil (encode c))) ∙ chars-encodes (c ∷ []) (and (scalar c) true good refl) in
    (ap chars is ∙ chars-append more (encode c) front ∙ ap (λ t. chars more ++ t) one, good, alone)

one_char : (c : ℕ) → IsScalar c → chars (encode c) ≡ c ∷ []
one_char c good = ap chars (sym (append-nil (encode c))) ∙ chars-encodes (c ∷ []) (and (scalar c) true good refl)

take_zero : (cs : List ℕ) → take 0 cs ≡ []
take_zero [] = refl
take_zero (c ∷ cs) = refl

-- where no escape character ends a text
not_escaped : (escape : Option ℕ) (is_break : ℕ → Bool) (more : List ℕ) → IsUtf8 more
    → ((d : ℕ) (behind : List ℕ) → IsUtf8 behind → more ≡ behind ++ encode d → is_escape escape d ≡ false) → NotEscaped escape is_break (chars more)
unfolding NotEscaped
not_escaped escape is_break more utf8 alone d ds is =
    let split : chars more ≡ reverse ds ++ d ∷ [] = sym (reverse-reverse (chars more)) ∙ ap reverse is ∙ reverse-append (d ∷ []) ds in
    let good : scalars (reverse ds ++ d ∷ []) ≡ true = ap scalars (sym split) ∙ scalars-chars more utf8 in
    alone d (encodes (reverse ds)) (reverse ds, (scalars_front (reverse ds) (d ∷ []) good, refl))
    (sym (encodes-chars more utf8) ∙ ap encodes split ∙ encodes-append (reverse ds) (d ∷ []) ∙ ap (λ t. encodes (reverse ds) ++ t) (append-nil (encode d)))
  where
    scalars_front : (xs ys : List ℕ) → scalars (xs ++ ys) ≡ true → scalars xs ≡ true
    scalars_front [] ys h = refl
    scalars_front (x ∷ xs) ys h = let parts = both (scalar x) (scalars (xs ++ ys)) h in and (scalar x) (scalars xs) parts.0 (scalars_front xs ys parts.1)

module _ (Answers : (ℕ → Bool) → Type 0) (escape : Option ℕ) (text rest : List ℕ) where
  pub back_start : IsUtf8 text → BackTo Answers escape text text
  back_start utf8 = record {
    tail = [];
    rest_utf8 = utf8;
    utf8 = IsUtf8-nil;
    splits = sym (append-nil text);
    word = λ is_break answers. ap (is_made_of_pieces (is_word_piece escape is_break)) chars-nil ∙ made_nil (is_word_piece escape is_break);
  }

  -- past a character that breaks no words
  pub back_over : (c : ℕ) (more : List ℕ) (breaks : Bool) → BackTo Answers escape text rest → IsUtf8 more → rest ≡ more ++ encode c
      → ((is_break : ℕ → Bool) → Answers is_break → IsScalar c → breaks ≡ is_break c) → breaks ≡ false → BackTo Answers escape text more
  back_over c more breaks so utf8 is answers other =
      let last = last_char c rest more so.rest_utf8 utf8 is in
      record {
        tail = encode c ++ so.tail;
        rest_utf8 = utf8;
        utf8 = IsUtf8-append (encode c) so.tail last.2 so.utf8;
        splits = so.splits ∙ ap (λ t. t ++ so.tail) is ∙ append_assoc more (encode c) so.tail;
        word = λ is_break known.
            let is_piece : List ℕ → Bool = is_word_piece escape is_break in
            ap (is_made_of_pieces is_piece) (chars-append (encode c) so.tail last.2 ∙ ap (λ t. t ++ chars so.tail) (one_char c last.1))
            ∙ made_append is_piece (c ∷ []) (chars so.tail) refl (made_one is_piece (c ∷ []) refl (ap not (sym (answers is_break known last.1) ∙ other))) (so.word is_break known);
      }

  -- past an escape character and a break character
  pub back_pair : (c d : ℕ) (more behind : List ℕ) (breaks : Bool) → BackTo Answers escape text rest → IsUtf8 more → rest ≡ more ++ encode c
      → ((is_break : ℕ → Bool) → Answers is_break → IsScalar c → breaks ≡ is_break c) → breaks ≡ true
      → IsUtf8 behind → more ≡ behind ++ encode d → is_escape escape d ≡ true → BackTo Answers escape text behind
  back_pair c d more behind breaks so utf8 is answers here front is_more escapes =
      let last = last_char c rest more so.rest_utf8 utf8 is in
      let before = last_char d more behind utf8 front is_more in
      let pair : chars ((encode d ++ encode c) ++ so.tail) ≡ (d ∷ c ∷ []) ++ chars so.tail =
      chars-append (encode d ++ encode c) so.tail (IsUtf8-append (encode d) (encode c) before.2 last.2)
      ∙ ap (λ t. t ++ chars so.tail) (chars-append (encode d) (encode c) before.2 ∙ ap (λ t. t ++ chars (encode c)) (one_char d before.1) ∙ ap (λ t. d ∷ t) (one_char c last.1)) in
      record {
        tail = (encode d ++ encode c) ++ so.tail;
        rest_utf8 = front;
        utf8 = IsUtf8-append (encode d ++ encode c) so.tail (IsUtf8-append (encode d) (encode c) before.2 last.2) so.utf8;
        splits = so.splits ∙ ap (λ t. t ++ so.tail) (is ∙ ap (λ t. t ++ encode c) is_more ∙ append_assoc behind (encode d) (encode c)) ∙ append_assoc behind (encode d ++ encode c) so.tail;
        word = λ is_break known.
            let is_piece : List ℕ → Bool = is_word_piece escape is_break in
            ap (is_made_of_pieces is_piece) pair
            ∙ made_append is_piece (d ∷ c ∷ []) (chars so.tail) refl
            (made_one is_piece (d ∷ c ∷ []) refl (and (is_escape escape d) (is_break c) escapes (sym (answers is_break known last.1) ∙ here))) (so.word is_break known);
      }

  -- the word begins behind a break character that is not escaped
  pub word_behind : (c : ℕ) (more : List ℕ) (breaks : Bool) → BackTo Answers escape text rest → IsUtf8 more → rest ≡ more ++ encode c
      → ((is_break : ℕ → Bool) → Answers is_break → IsScalar c → breaks ≡ is_break c) → breaks ≡ true
      → ((d : ℕ) (behind : List ℕ) → IsUtf8 behind → more ≡ behind ++ encode d → is_escape escape d ≡ false)
      → (is_break : ℕ → Bool) → Answers is_break → length rest ≡ offset_at (chars text) (word_start escape is_break (chars text))
  word_behind c more breaks so utf8 is answers here alone is_break known =
      let last = last_char c rest more so.rest_utf8 utf8 is in
      let all : chars text ≡ chars more ++ c ∷ chars so.tail =
      ap chars so.splits ∙ chars-append rest so.tail so.rest_utf8 ∙ ap (λ t. t ++ chars so.tail) last.0 ∙ append_assoc (chars more) (c ∷ []) (chars so.tail) in
      let start : word_start escape is_break (chars text) ≡ length (chars more) + 1 =
      ap (word_start escape is_break) all
      ∙ starts_behind escape is_break (chars more) c (chars so.tail) (sym (answers is_break known last.1) ∙ here) (not_escaped escape is_break more utf8 alone) (so.word is_break known) in
      let front : take (length (chars more) + 1) (chars text) ≡ chars rest =
      ap (take (length (chars more) + 1)) (all ∙ sym (append_assoc (chars more) (c ∷ []) (chars so.tail)))
      ∙ ap (λ n. take n ((chars more ++ c ∷ []) ++ chars so.tail)) (sym (length-append (chars more) (c ∷ [])))
      ∙ take-append_seam (chars more ++ c ∷ []) (chars so.tail) ∙ sym last.0 in
      sym (ap (offset_at (chars text)) start ∙ ap (λ t. length (encodes t)) front ∙ ap length (encodes-chars rest so.rest_utf8))

  -- the text is one word
  pub word_whole : BackTo Answers escape text rest → rest ≡ [] → (is_break : ℕ → Bool) → Answers is_break → 0 ≡ offset_at (chars text) (word_start escape is_break (chars text))
  word_whole so none is_break known =
      let all : text ≡ so.tail = so.splits ∙ ap (λ t. t ++ so.tail) none in
      let start : word_start escape is_break (chars text) ≡ 0 =
      starts_at_start escape is_break (chars text) (ap (λ t. is_made_of_pieces (is_word_piece escape is_break) (chars t)) all ∙ so.word is_break known) in
      sym (ap (offset_at (chars text)) start ∙ ap (λ t. length (encodes t)) (take_zero (chars text)))

  pub boundary_behind : BackTo Answers escape text rest → IsCharBoundary text (length rest)
  boundary_behind so = IsCharBoundary-at_seam text rest so.tail so.splits so.utf8

-- ---- a text whose last character is the escape character

same_end : (xs ys : List ℕ) (c d : ℕ) → xs ++ c ∷ [] ≡ ys ++ d ∷ [] → c ≡ d
same_end xs ys c d same =
    let cut : c ∷ reverse xs ≡ d ∷ reverse ys = sym (reverse-append xs (c ∷ [])) ∙ ap reverse same ∙ reverse-append ys (d ∷ []) in cc

-- every way to take off the last character ends in the same one
pub ends_otherwise : (escape : Option ℕ) (c d : ℕ) (text front behind : List ℕ) → IsUtf8 text → IsUtf8 front → text ≡ front ++ encode c → is_escape escape c ≡ false
    → IsUtf8 behind → text ≡ behind ++ encode d → is_escape escape d ≡ false
ends_otherwise escape c d text front behind utf8 good is other more is_more =
    ap (is_escape escape) (same_end (chars behind) (chars front) d c (sym (last_char d text behind utf8 more is_more).0 ∙ (last_char c text front utf8 good is).0)) ∙ other

pub ends_nowhere : (d : ℕ) (text behind : List ℕ) → text ≡ [] → text ≡ behind ++ encode d → ⊥
ends_nowhere d text behind none is =
    absurd (omega (arith, ap length (sym none ∙ is), length-append behind (encode d), length-encode d, len_utf8_bounds d))

pub shorter_back : (c : ℕ) (rest more : List ℕ) → rest ≡ more ++ encode c → length more < length rest
shorter_back c rest more is = omega (arith, ap length is, length-append more (encode c), length-encode c, len_utf8_bounds c)
