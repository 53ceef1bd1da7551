-- Texts cut at zero width joiners.
use Rattle.std.proofs.Common.{false, ◌≡◌, ℕ, ◌+◌, ◌*◌, ◌^◌, ◌<◌, ◌≤◌, inl, inr, length, length-append, min, List, [], ◌∷◌, ◌++◌, map, take, drop, refl, sym, ap, ap₂, ◌∙◌, subst, arith, append-nil, None}
use Rattle.std.specs.List.{slice_split, onto_first, sum_by}
use Rattle.std.specs.Str.{chars, IsCharBoundary, IsUtf8, NonePass, NoCharPasses, encode_utf8_all}
use Rattle.std.specs.Char.{encode_utf8}
use Rattle.std.specs.Str.Pattern.{FindsChar, SplitsAroundMatch}
use Rattle.std.proofs.lemmas.Bool.{cases_lt}
use Rattle.std.proofs.lemmas.Bool.Decides.{nat_tests}
use Rattle.std.proofs.lemmas.List.{take-append-drop}
use Rattle.std.proofs.lemmas.List.Sums.{sum_by-cons}
use Rattle.std.proofs.lemmas.List.Splits.{slice_split-cons_yes, slice_split-cons_no}
use Rattle.std.proofs.lemmas.Str.{IsUtf8-drop, chars-append, chars-encodes, chars_from_encodes, encodes-chars, len_utf8_bounds, length-encode}
use Rattle.unicode_width.specs.Width.{char_width}
use Rattle.unicode_width.proofs.Rules.{width_or_zero-le}
use Rattle.line_buffer.specs.Width.{columns_as_one, columns_of_char, is_joiner}

pub map-same : {A : Type 0} (xs : List A) → map (λ x. x) xs ≡ xs
map-same [] = refl
map-same (x ∷ xs) = ap (λ ys. x ∷ ys) (map-same xs)

split_at : (cs rest : List ℕ) → NonePass is_joiner cs → slice_split is_joiner (cs ++ 0x200D ∷ rest) ≡ cs ∷ slice_split is_joiner rest
split_at [] rest h = slice_split-cons_yes is_joiner 0x200D rest refl
split_at (c ∷ cs) rest h = slice_split-cons_no is_joiner c (cs ++ 0x200D ∷ rest) h.0 ∙ ap (onto_first c) (split_at cs rest h.1)

pub split_none : (cs : List ℕ) → NonePass is_joiner cs → slice_split is_joiner cs ≡ cs ∷ []
split_none [] h = refl
split_none (c ∷ cs) h = slice_split-cons_no is_joiner c cs h.0 ∙ ap (onto_first c) (split_none cs h.1)

none_pass : (text : List ℕ) → IsUtf8 text → NoCharPasses is_joiner text → NonePass is_joiner (chars text)
none_pass text u n = subst (NonePass is_joiner) (chars_from_encodes n.0 text u n.1) n.2

pub pieces-none : (text : List ℕ) → IsUtf8 text → FindsChar 0x200D text None → slice_split is_joiner (chars text) ≡ chars text ∷ []
pieces-none text u n = split_none (chars text) (none_pass text u n)

pub pieces-some : (text front behind : List ℕ) → IsUtf8 front → SplitsAroundMatch (FindsChar 0x200D) text front behind
    → slice_split is_joiner (chars text) ≡ chars front ∷ slice_split is_joiner (chars behind)
pieces-some text front behind u s =
    let joiner : encode_utf8_all (0x200D ∷ []) ≡ encode_utf8 0x200D = append-nil (encode_utf8 0x200D) in
    let whole : front ++ (encode_utf8_all (0x200D ∷ []) ++ behind) ≡ text =
    ap₂ (λ f b. f ++ (encode_utf8_all (0x200D ∷ []) ++ b)) s.3 s.4 ∙ ap (λ e. take s.0 text ++ (e ++ drop s.1 text)) joiner
    ∙ ap (λ r. take s.0 text ++ r) (sym s.2.1.split) ∙ take-append-drop s.0 text in
    let read : chars text ≡ chars front ++ 0x200D ∷ chars behind =
    ap chars (sym whole) ∙ chars-append front (encode_utf8_all (0x200D ∷ []) ++ behind) u
    ∙ ap (λ r. chars front ++ r) (chars-append (encode_utf8_all (0x200D ∷ [])) behind (0x200D ∷ [], (refl, refl))
    ∙ ap (λ r. r ++ chars behind) (chars-encodes (0x200D ∷ []) refl)) in
    ap (slice_split is_joiner) read ∙ split_at (chars front) (chars behind) (none_pass front u (subst (NoCharPasses is_joiner) (sym s.3) s.2.0))

-- the columns that are still to come are those of the first piece and of the others
pub fewer_columns : (text front behind : List ℕ) → IsUtf8 front → SplitsAroundMatch (FindsChar 0x200D) text front behind
    → sum_by columns_as_one (slice_split is_joiner (chars text)) ≡ columns_as_one (chars front) + sum_by columns_as_one (slice_split is_joiner (chars behind))
fewer_columns text front behind u s =
    ap (sum_by columns_as_one) (pieces-some text front behind u s) ∙ sum_by-cons columns_as_one (chars front) (slice_split is_joiner (chars behind))

pub last_columns : (text : List ℕ) → IsUtf8 text → FindsChar 0x200D text None
    → sum_by columns_as_one (slice_split is_joiner (chars text)) ≡ columns_as_one (chars text)
last_columns text u n =
    let e = ap (sum_by columns_as_one) (pieces-none text u n) ∙ sum_by-cons columns_as_one (chars text) [] in
    omega arith

-- the bytes of a piece and of what is behind it are those of the text
pub fewer_bytes : (text front behind : List ℕ) → SplitsAroundMatch (FindsChar 0x200D) text front behind → length front + length behind ≤ length text
fewer_bytes text front behind s =
    let joiner : encode_utf8_all (0x200D ∷ []) ≡ encode_utf8 0x200D = append-nil (encode_utf8 0x200D) in
    let whole : front ++ (encode_utf8_all (0x200D ∷ []) ++ behind) ≡ text =
    ap₂ (λ f b. f ++ (encode_utf8_all (0x200D ∷ []) ++ b)) s.3 s.4 ∙ ap (λ e. take s.0 text ++ (e ++ drop s.1 text)) joiner
    ∙ ap (λ r. take s.0 text ++ r) (sym s.2.1.split) ∙ take-append-drop s.0 text in
    omega (arith, ap length whole, length-append front (encode_utf8_all (0x200D ∷ []) ++ behind), length-append (encode_utf8_all (0x200D ∷ [])) behind)

-- ---- the columns of each character by itself

one_column : (c : ℕ) → c < 0x7F → columns_of_char c ≤ 1
unfolding char_width
one_column c h = grind (arith, nat_tests)

no_column : (c : ℕ) → 0x7F ≤ c → c < 0x80 → columns_of_char c ≡ 0
unfolding char_width
no_column c low high = grind (arith, nat_tests)

two_bytes : (c : ℕ) → 0x80 ≤ c → 2 ≤ length (encode_utf8 c)
two_bytes c h = grind (arith, nat_tests, length-encode c)

columns_in_bytes : (c : ℕ) → columns_of_char c ≤ 2 * length (encode_utf8 c)
columns_in_bytes c =
    elim (cases_lt c 0x7F) [
      | inl low ↦ omega (arith, one_column c low, length-encode c, (len_utf8_bounds c).0)
      | inr high ↦
          elim (cases_lt c 0x80) [
            | inl below ↦ omega (arith, no_column c high below)
            | inr above ↦ omega (arith, width_or_zero-le false c, two_bytes c above)
          ]
    ]

all_in_bytes : (cs : List ℕ) → sum_by columns_of_char cs ≤ 2 * length (encode_utf8_all cs)
all_in_bytes [] = omega arith
all_in_bytes (c ∷ cs) = omega (arith, sum_by-cons columns_of_char c cs, columns_in_bytes c, all_in_bytes cs, length-append (encode_utf8 c) (encode_utf8_all cs))

-- the columns of a text in memory are a number that a machine word holds
pub all_columns : (text : List ℕ) → IsUtf8 text → length text < 2 ^ 63 → min (sum_by columns_of_char (chars text)) 18446744073709551615 ≡ sum_by columns_of_char (chars text)
all_columns text u h = omega (arith, all_in_bytes (chars text), ap length (encodes-chars text u))

pub behind_is_text : (text front behind : List ℕ) → IsUtf8 text → SplitsAroundMatch (FindsChar 0x200D) text front behind → IsUtf8 behind
behind_is_text text front behind u s =
    subst IsUtf8 (sym s.4) (IsUtf8-drop text s.1 u (subst (IsCharBoundary text) (sym s.2.1.ends) s.2.1.after))
