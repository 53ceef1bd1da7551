-- The white space at a text's front, taken character by character.
use Rattle.std.proofs.Common.{◌≡◌, ℕ, ◌-◌, zero, suc, true, false, cond, List, [], ◌∷◌, ◌++◌, length, take, refl, sym, ap, ◌∙◌, arith, append-nil, append_assoc, length-append}
use Rattle.std.proofs.lemmas.List.{take_at}
use Rattle.std.proofs.lemmas.List.Sums.{take_while-cons}
use Rattle.std.proofs.lemmas.Str.{chars-nil, chars_past_char, IsCharBoundary-at_seam, IsUtf8-past_char}
use Rattle.std.specs.Char.{encode_utf8, is_whitespace}
use Rattle.std.specs.List.{take_while}
use Rattle.std.specs.Str.{chars, encode_utf8_all, IsCharBoundary, IsUtf8}
use Rattle.line_buffer.specs.Indent.{blank_front}

-- what is left of a text, and of how many of its blanks are wanted, once some were taken
pub record Blanks (amount : ℕ) (text rest : List ℕ) (left len : ℕ) : Type 0 where
  pub front : List ℕ
  pub text_is : text ≡ front ++ rest
  pub len_is : len ≡ length front
  pub blank_is : blank_front amount text ≡ front ++ blank_front left rest
  pub rest_is_text : IsUtf8 rest

nothing_taken : (n : ℕ) → encode_utf8_all (take n []) ≡ []
nothing_taken zero = refl
nothing_taken (suc n) = refl

pub blank-none : (left : ℕ) (rest : List ℕ) → left ≡ 0 → blank_front left rest ≡ []
blank-none left rest e = rw e

pub blank-end : (left : ℕ) (rest : List ℕ) → length rest ≡ 0 → blank_front left rest ≡ []
blank-end left [] e = ap (λ cs. encode_utf8_all (take left (take_while is_whitespace cs))) chars-nil ∙ nothing_taken left
blank-end left (b ∷ bs) e = absurd (omega arith)

pub blank-other : (left : ℕ) (rest after : List ℕ) (c : ℕ) → IsUtf8 rest → rest ≡ encode_utf8 c ++ after → is_whitespace c ≡ false → blank_front left rest ≡ []
blank-other left rest after c u e other =
    ap (λ cs. encode_utf8_all (take left (take_while is_whitespace cs))) (chars_past_char rest after c u e)
    ∙ ap (λ cs. encode_utf8_all (take left cs)) (take_while-cons is_whitespace c (chars after))
    ∙ ap (λ b. encode_utf8_all (take left (cond b (c ∷ take_while is_whitespace (chars after)) []))) other ∙ nothing_taken left

blank-more : (left : ℕ) (rest after : List ℕ) (c : ℕ) → IsUtf8 rest → rest ≡ encode_utf8 c ++ after → is_whitespace c ≡ true
    → blank_front (suc left) rest ≡ encode_utf8 c ++ blank_front left after
blank-more left rest after c u e white =
    ap (λ cs. encode_utf8_all (take (suc left) (take_while is_whitespace cs))) (chars_past_char rest after c u e)
    ∙ ap (λ cs. encode_utf8_all (take (suc left) cs)) (take_while-cons is_whitespace c (chars after))
    ∙ ap (λ b. encode_utf8_all (take (suc left) (cond b (c ∷ take_while is_whitespace (chars after)) []))) white

pub blanks-more : (amount : ℕ) (text rest after : List ℕ) (left less len c : ℕ) → Blanks amount text rest left len → left ≡ suc less → rest ≡ encode_utf8 c ++ after → is_whitespace c ≡ true
    → Blanks amount text after less (length text - length after)
blanks-more amount text rest after left less len c b one e white =
    let text_is : text ≡ (b.front ++ encode_utf8 c) ++ after = b.text_is ∙ ap (λ r. b.front ++ r) e ∙ sym (append_assoc b.front (encode_utf8 c) after) in
    record {
      front = b.front ++ encode_utf8 c;
      text_is = text_is;
      len_is = omega (arith, ap length text_is, length-append (b.front ++ encode_utf8 c) after);
      blank_is = b.blank_is ∙ ap (λ n. b.front ++ blank_front n rest) one ∙ ap (λ r. b.front ++ r) (blank-more less rest after c b.rest_is_text e white)
          ∙ sym (append_assoc b.front (encode_utf8 c) (blank_front less after));
      rest_is_text = IsUtf8-past_char rest after c b.rest_is_text e;
    }

-- the blanks of a text were all taken: how long they are, where they end, and which bytes
pub record Taken (amount : ℕ) (text : List ℕ) (len : ℕ) : Type 0 where
  pub len_is : len ≡ length (blank_front amount text)
  pub boundary : IsCharBoundary text len
  pub bytes : take len text ≡ blank_front amount text

pub blanks-done : (amount : ℕ) (text rest : List ℕ) (left len : ℕ) → Blanks amount text rest left len → blank_front left rest ≡ [] → Taken amount text len
blanks-done amount text rest left len b none =
    let all : blank_front amount text ≡ b.front = b.blank_is ∙ ap (λ r. b.front ++ r) none ∙ append-nil b.front in
    record {
      len_is = b.len_is ∙ sym (ap length all);
      boundary = rw b.len_is (IsCharBoundary-at_seam text b.front rest b.text_is b.rest_is_text);
      bytes = ap (take len) b.text_is ∙ take_at b.front rest len (sym b.len_is) ∙ sym all;
    }
