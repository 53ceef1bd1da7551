-- Characters of a text that are found one after another.
use Rattle.std.proofs.Common.{◌≡◌, ℕ, ◌+◌, ◌-◌, ◌≤◌, suc, Bool, true, false, ◌==◌, cond, List, [], ◌∷◌, ◌++◌, length, map, filter, reverse, take, drop, get_or, Option, Some, None, IfSome, refl, sym, ap, ap₂, ◌∙◌, subst, arith, zero-add, length-append, append-nil, append_assoc, drop-drop, take-append-drop}
use Rattle.std.proofs.Math.Seq.{take-append_seam, get_or-append_seam}
use Rattle.std.proofs.lemmas.List.{length-take-le, reverse-append, take_all}
use Rattle.std.proofs.lemmas.Str.{IsUtf8-take, IsUtf8-drop, IsCharBoundary-end, IsCharBoundary-from_rest, IsCharBoundary-start, chars_from_encodes, chars_past_char, chars-append, encodes-append, encodes-chars, length-encode}
use Rattle.std.specs.Char.{encode_utf8, len_utf8}
use Rattle.std.specs.List.{last_or, range_with_len, slice_range}
use Rattle.std.specs.Str.{chars, IsCharBoundary, IsUtf8, NonePass, NoCharPasses, encode_utf8_all}
use Rattle.std.specs.Str.Pattern.{FindsChar, HasCharAt, RFindsChar}
use Rattle.line_buffer.proofs.BoundaryLemmas.{boundary_in_front}
use Rattle.line_buffer.proofs.ListLemmas.{take_within_take}
use Rattle.line_buffer.specs.Search.{behind_char, chars_to, nth_or_last, places_of}

-- where a character begins among some that begin at a place
abbrev pub found_in : ℕ → List ℕ → ℕ → List ℕ
found_in c [] place = []
found_in c (x ∷ xs) place = cond (x == c) (place ∷ found_in c xs (place + length (encode_utf8 x))) (found_in c xs (place + length (encode_utf8 x)))

-- the same, by the characters that stand before
found_behind : (c : ℕ) (old cs : List ℕ) → map (chars_to (old ++ cs)) (filter (λ i. get_or (old ++ cs) i 0 == c) (range_with_len (length old) (length cs)))
    ≡ found_in c cs (length (encode_utf8_all old))
found_behind c old [] = refl
found_behind c old (x ∷ xs) =
    let all = old ++ x ∷ xs in
    let test : ℕ → Bool = λ i. get_or all i 0 == c in
    let here : get_or all (length old) 0 ≡ x = get_or-append_seam old x xs 0 in
    let place : chars_to all (length old) ≡ length (encode_utf8_all old) = ap (λ ys. length (encode_utf8_all ys)) (take-append_seam old (x ∷ xs)) in
    let longer : (old ++ x ∷ []) ++ xs ≡ all = append_assoc old (x ∷ []) xs in
    let one : length (old ++ x ∷ []) ≡ length old + 1 = length-append old (x ∷ []) in
    let bytes : length (encode_utf8_all (old ++ x ∷ [])) ≡ length (encode_utf8_all old) + length (encode_utf8 x) =
    ap length (encodes-append old (x ∷ [])) ∙ length-append (encode_utf8_all old) (encode_utf8_all (x ∷ []))
    ∙ ap (λ ys. length (encode_utf8_all old) + length ys) (append-nil (encode_utf8 x)) in
    let rest : map (chars_to all) (filter test (range_with_len (length old + 1) (length xs))) ≡ found_in c xs (length (encode_utf8_all old) + length (encode_utf8 x)) =
    ap₂ (λ ys k. map (chars_to ys) (filter (λ i. get_or ys i 0 == c) (range_with_len k (length xs)))) (sym longer) (sym one)
    ∙ found_behind c (old ++ x ∷ []) xs ∙ ap (found_in c xs) bytes in
    by (x == c) refl here place rest
  where
    by : (b : Bool) → (x == c) ≡ b → get_or (old ++ x ∷ xs) (length old) 0 ≡ x → chars_to (old ++ x ∷ xs) (length old) ≡ length (encode_utf8_all old)
        → map (chars_to (old ++ x ∷ xs)) (filter (λ i. get_or (old ++ x ∷ xs) i 0 == c) (range_with_len (length old + 1) (length xs))) ≡ found_in c xs (length (encode_utf8_all old) + length (encode_utf8 x))
        → map (chars_to (old ++ x ∷ xs)) (filter (λ i. get_or (old ++ x ∷ xs) i 0 == c) (range_with_len (length old) (suc (length xs)))) ≡ found_in c (x ∷ xs) (length (encode_utf8_all old))
    by true t here place rest = rw (here, t) (ap₂ (λ p ps. p ∷ ps) place rest)
    by false t here place rest = rw (here, t) rest

-- the places of a character, one by one
places_of-found : (c : ℕ) (text : List ℕ) → places_of c text ≡ found_in c (chars text) 0
places_of-found c text = found_behind c [] (chars text)

found_in-append : (c : ℕ) (xs ys : List ℕ) (place : ℕ) → found_in c (xs ++ ys) place ≡ found_in c xs place ++ found_in c ys (place + length (encode_utf8_all xs))
found_in-append c [] ys place = ap (found_in c ys) (omega arith)
found_in-append c (x ∷ xs) ys place =
    let wide : length (encode_utf8_all (x ∷ xs)) ≡ length (encode_utf8 x) + length (encode_utf8_all xs) = length-append (encode_utf8 x) (encode_utf8_all xs) in
    let behind : place + length (encode_utf8 x) + length (encode_utf8_all xs) ≡ place + length (encode_utf8_all (x ∷ xs)) = omega arith in
    by (x == c) refl (found_in-append c xs ys (place + length (encode_utf8 x)) ∙ ap (λ p. found_in c xs (place + length (encode_utf8 x)) ++ found_in c ys p) behind)
  where
    by : (b : Bool) → (x == c) ≡ b
        → found_in c (xs ++ ys) (place + length (encode_utf8 x)) ≡ found_in c xs (place + length (encode_utf8 x)) ++ found_in c ys (place + length (encode_utf8_all (x ∷ xs)))
        → found_in c (x ∷ xs ++ ys) place ≡ found_in c (x ∷ xs) place ++ found_in c ys (place + length (encode_utf8_all (x ∷ xs)))
    by true t e = rw t (ap (λ ps. place ∷ ps) e)
    by false t e = rw t e

found_in-none : (c : ℕ) (cs : List ℕ) (place : ℕ) → NonePass (λ d. d == c) cs → found_in c cs place ≡ []
found_in-none c [] place h = refl
found_in-none c (x ∷ xs) place h = rw h.0 (found_in-none c xs (place + length (encode_utf8 x)) h.1)

same_char : (c : ℕ) → (c == c) ≡ true
same_char c = grind arith

none_pass : (c : ℕ) (text : List ℕ) → IsUtf8 text → NoCharPasses (λ d. d == c) text → NonePass (λ d. d == c) (chars text)
none_pass c text u n = subst (NonePass (λ d. d == c)) (chars_from_encodes n.0 text u n.1) n.2

-- a text is cut around a character of it
chars_around : (c i j : ℕ) (text : List ℕ) → IsUtf8 text → IsCharBoundary text i → HasCharAt c text i j → chars text ≡ chars (take i text) ++ c ∷ chars (drop j text)
chars_around c i j text u b at =
    ap chars (sym (take-append-drop i text)) ∙ chars-append (take i text) (drop i text) (IsUtf8-take text i u b)
    ∙ ap (λ r. chars (take i text) ++ r) (chars_past_char (drop i text) (drop j text) c (IsUtf8-drop text i u b) at.split)

-- the first place is that of the character, and the others lie behind it
found_first : (c i j place : ℕ) (text : List ℕ) → IsUtf8 text → IsCharBoundary text i → FindsChar c text (Some (i, j))
    → found_in c (chars text) place ≡ (place + i) ∷ found_in c (chars (drop j text)) (place + j)
found_first c i j place text u b f =
    let front : IsUtf8 (take i text) = IsUtf8-take text i u b in
    let len : length (encode_utf8_all (chars (take i text))) ≡ i = ap length (encodes-chars (take i text) front) ∙ length-take-le i text b.0 in
    let none : found_in c (chars (take i text)) place ≡ [] = found_in-none c (chars (take i text)) place (none_pass c (take i text) front f.0) in
    let behind : place + i + length (encode_utf8 c) ≡ place + j = omega (arith, f.1.ends, length-encode c) in
    ap (λ cs. found_in c cs place) (chars_around c i j text u b f.1) ∙ found_in-append c (chars (take i text)) (c ∷ chars (drop j text)) place
    ∙ ap₂ (λ ps n. ps ++ found_in c (c ∷ chars (drop j text)) (place + n)) none len
    ∙ rw (same_char c) (ap (λ p. (place + i) ∷ found_in c (chars (drop j text)) p) behind)

-- the last place is that of the character, and the others lie before it
found_last : (c i j : ℕ) (text : List ℕ) → IsUtf8 text → IsCharBoundary text i → IsCharBoundary text j → RFindsChar c text (Some (i, j))
    → found_in c (chars text) 0 ≡ found_in c (chars (take i text)) 0 ++ i ∷ []
found_last c i j text u b d f =
    let front : IsUtf8 (take i text) = IsUtf8-take text i u b in
    let len : 0 + length (encode_utf8_all (chars (take i text))) ≡ i =
    zero-add (length (encode_utf8_all (chars (take i text)))) ∙ ap length (encodes-chars (take i text) front) ∙ length-take-le i text b.0 in
    let none : found_in c (chars (drop j text)) (i + length (encode_utf8 c)) ≡ [] =
    found_in-none c (chars (drop j text)) (i + length (encode_utf8 c)) (none_pass c (drop j text) (IsUtf8-drop text j u d) f.0) in
    ap (λ cs. found_in c cs 0) (chars_around c i j text u b f.1) ∙ found_in-append c (chars (take i text)) (c ∷ chars (drop j text)) 0
    ∙ ap (λ n. found_in c (chars (take i text)) 0 ++ found_in c (c ∷ chars (drop j text)) n) len
    ∙ rw (same_char c) (ap (λ ps. found_in c (chars (take i text)) 0 ++ i ∷ ps) none)

-- the last of a list
last_pushed : (o : Option ℕ) (xs : List ℕ) (x : ℕ) → last_or o (xs ++ x ∷ []) ≡ Some x
last_pushed o [] x = refl
last_pushed o (y ∷ xs) x = last_pushed (Some y) xs x

taken : (done others : List ℕ) (n : ℕ) → length done ≡ n → last_or None done ≡ nth_or_last (done ++ others) n
taken done others n e = ap (last_or None) (sym (take-append_seam done others) ∙ ap (λ k. take k (done ++ others)) e)

taken_all : (done : List ℕ) (n : ℕ) → length done ≤ n → last_or None done ≡ nth_or_last (done ++ []) n
taken_all done n h = ap (last_or None) (sym (take_all n done h) ∙ ap (take n) (sym (append-nil done)))

-- of the places, k were found, the last of them last
pub record Found (c : ℕ) (places : List ℕ) (text : List ℕ) (k : ℕ) (found : Option ℕ) (left : List ℕ) : Type 0 where
  pub done : List ℕ
  pub count : length done ≡ k
  pub all : places ≡ done ++ left
  pub found_is : found ≡ last_or None done
  pub start : IfSome found (λ place. IsCharBoundary text place)
  pub behind : IfSome found (λ place. IsCharBoundary text (behind_char c place))

found-start : (c : ℕ) (places text : List ℕ) → Found c places text 0 None places
found-start c places text = record { done = []; count = refl; all = refl; found_is = refl; start = tt; behind = tt }

found-next : (c : ℕ) (places text : List ℕ) (k : ℕ) (found : Option ℕ) (left left' : List ℕ) (place : ℕ) → Found c places text k found left → left ≡ place ∷ left'
    → IsCharBoundary text place → IsCharBoundary text (behind_char c place) → Found c places text (k + 1) (Some place) left'
found-next c places text k found left left' place f e b d = record {
  done = f.done ++ place ∷ [];
  count = length-append f.done (place ∷ []) ∙ ap (λ n. n + 1) f.count;
  all = f.all ∙ ap (λ ps. f.done ++ ps) e ∙ sym (append_assoc f.done (place ∷ []) left');
  found_is = sym (last_pushed None f.done place);
  start = b;
  behind = d;
}

found-fewer : (c : ℕ) (places text : List ℕ) (k n : ℕ) (found : Option ℕ) (left : List ℕ) → Found c places text k found left → left ≡ [] → k ≤ n → found ≡ nth_or_last places n
found-fewer c places text k n found left f e h =
    let short : length f.done ≤ n = omega (arith, f.count) in
    f.found_is ∙ taken_all f.done n short ∙ ap (λ ps. nth_or_last ps n) (sym (f.all ∙ ap (λ ps. f.done ++ ps) e))

-- on from the text's start: the places from a byte on are still to be found
abbrev pub FoundOn : ℕ → List ℕ → ℕ → Option ℕ → ℕ → Type 0
FoundOn c text k found from = IsCharBoundary text from × Found c (places_of c text) text k found (found_in c (chars (drop from text)) from)

pub on-start : (c : ℕ) (text : List ℕ) → IsUtf8 text → FoundOn c text 0 None 0
on-start c text u = (IsCharBoundary-start text u, subst (Found c (places_of c text) text 0 None) (places_of-found c text) (found-start c (places_of c text) text))

module _ (c : ℕ) (text : List ℕ) (k : ℕ) (found : Option ℕ) (from : ℕ) (u : IsUtf8 text) (f : FoundOn c text k found from) where
  pub on-next : (rest : List ℕ) (i j width : ℕ) → rest ≡ drop from text → FindsChar c rest (Some (i, j)) → IsCharBoundary rest i → IsCharBoundary rest j → width ≡ len_utf8 c
      → FoundOn c text (k + 1) (Some (from + i)) (from + (i + width))
  on-next rest' i j width e s' b' d' w =
      let s = subst (λ t. FindsChar c t (Some (i, j))) e s' in
      let b = subst (λ t. IsCharBoundary t i) e b' in
      let d = subst (λ t. IsCharBoundary t j) e d' in
      let rest : IsUtf8 (drop from text) = IsUtf8-drop text from u f.0 in
      let behind : from + j ≡ from + (i + width) = omega (arith, s.1.ends) in
      let end : from + (i + width) ≡ from + i + len_utf8 c = omega arith in
      let here : IsCharBoundary text (from + i) = IsCharBoundary-from_rest text from i f.0.0 b in
      let there : IsCharBoundary text (from + (i + width)) = subst (IsCharBoundary text) behind (IsCharBoundary-from_rest text from j f.0.0 d) in
      let left = found_first c i j from (drop from text) rest b s
      ∙ ap₂ (λ t p. (from + i) ∷ found_in c (chars t) p) (drop-drop j from text ∙ ap (λ n. drop n text) behind) behind in
      (there, found-next c (places_of c text) text k found _ _ (from + i) f.1 left here (subst (IsCharBoundary text) end there))

  pub on-none : (rest : List ℕ) (n : ℕ) → rest ≡ drop from text → NoCharPasses (λ d. d == c) rest → k ≤ n → found ≡ nth_or_last (places_of c text) n
  on-none rest n e s h =
      let none = subst (NoCharPasses (λ d. d == c)) e s in
      found-fewer c (places_of c text) text k n found _ f.1 (found_in-none c _ from (none_pass c (drop from text) (IsUtf8-drop text from u f.0) none)) h

pub front_range : (to : ℕ) (text : List ℕ) → slice_range text 0 to ≡ take to text
front_range to text = let all : to - 0 ≡ to = omega arith in ap (λ n. take n text) all

-- back from the text's end: the places before a byte are still to be found
abbrev pub FoundBack : ℕ → List ℕ → ℕ → Option ℕ → ℕ → Type 0
FoundBack c text k found to = IsCharBoundary text to × Found c (reverse (places_of c text)) text k found (reverse (found_in c (chars (take to text)) 0))

pub back-start : (c : ℕ) (text : List ℕ) → FoundBack c text 0 None (length text)
back-start c text =
    let whole = places_of-found c text ∙ ap (λ t. found_in c (chars t) 0) (sym (take_all (length text) text (omega arith))) in
    (IsCharBoundary-end text, subst (λ ps. Found c (reverse (places_of c text)) text 0 None (reverse ps)) whole (found-start c (reverse (places_of c text)) text))

module _ (c : ℕ) (text : List ℕ) (k : ℕ) (found : Option ℕ) (to : ℕ) (u : IsUtf8 text) (f : FoundBack c text k found to) where
  pub back-next : (rest : List ℕ) (i j : ℕ) → rest ≡ take to text → RFindsChar c rest (Some (i, j)) → IsCharBoundary rest i → IsCharBoundary rest j
      → FoundBack c text (k + 1) (Some i) i
  back-next rest i j e s' b' d' =
      let s = subst (λ t. RFindsChar c t (Some (i, j))) e s' in
      let b = subst (λ t. IsCharBoundary t i) e b' in
      let d = subst (λ t. IsCharBoundary t j) e d' in
      let front : IsUtf8 (take to text) = IsUtf8-take text to u f.0 in
      let before : i ≤ to = omega (arith, b.0, length-take-le to text f.0.0) in
      let behind : j ≡ i + len_utf8 c = s.1.ends in
      let here : IsCharBoundary text i = boundary_in_front text to i f.0 b in
      let there : IsCharBoundary text (i + len_utf8 c) = subst (IsCharBoundary text) behind (boundary_in_front text to j f.0 d) in
      let last = found_last c i j (take to text) front b d s ∙ ap (λ t. found_in c (chars t) 0 ++ i ∷ []) (take_within_take to i text before) in
      let left = ap reverse last ∙ reverse-append (found_in c (chars (take i text)) 0) (i ∷ []) in
      (here, found-next c (reverse (places_of c text)) text k found _ _ i f.1 left here there)

  pub back-none : (rest : List ℕ) (n : ℕ) → rest ≡ take to text → NoCharPasses (λ d. d == c) rest → k ≤ n → found ≡ nth_or_last (reverse (places_of c text)) n
  back-none rest n e s h =
      let none = subst (NoCharPasses (λ d. d == c)) e s in
      found-fewer c (reverse (places_of c text)) text k n found _ f.1
      (ap reverse (found_in-none c _ 0 (none_pass c (take to text) (IsUtf8-take text to u f.0) none))) h
