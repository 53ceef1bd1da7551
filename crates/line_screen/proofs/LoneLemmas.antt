-- Characters that join no other take a place as many columns on as they have.
use Rattle.std.proofs.Common.{◌≡◌, ◌≢◌, ℕ, ◌+◌, ◌-◌, ◌<◌, min, Bool, true, false, cond, not, ◌&&◌, ◌==◌, eqb, List, [], ◌∷◌, length, drop, get_or, map, refl, sym, ap, ap₂, ◌∙◌, arith, ⊎_elim, append-nil}
use Rattle.std.specs.Cmp.Lexicographic.{pointwise}
use Rattle.std.specs.List.{fold, list_all}
use Rattle.std.specs.Prelude.{encode_utf8, encode_utf8_all}
use Rattle.std.specs.Str.{IsUtf8, chars, NoCharPasses}
use Rattle.std.proofs.lemmas.Bool.{and_parts, cases_lt}
use Rattle.std.proofs.lemmas.Bool.Decides.{nat_tests}
use Rattle.std.proofs.lemmas.List.{drop_all, drop_more}
use Rattle.std.proofs.lemmas.Str.{NoCharPasses-byte, chars-encodes, scalars-chars}
use Rattle.unicode_segmentation.proofs.TextLemmas.{encode_utf8_nonempty}
use Rattle.unicode_width.specs.Width.{str_width}
use lib.Utf8.{scalar, scalars}
use Rattle.line_buffer.proofs.PlainClusterLemmas.{clusters-alone}
use Rattle.line_buffer.specs.Cluster.{clusters, stands_alone}
use Rattle.line_buffer.specs.Width.{IsLone, columns_as_one}
use Rattle.line_buffer.specs.declared.layout.Position.{Position}
use Rattle.line_screen.specs.Measure.{advanced, after_cluster, columns_of, ends_row, start_below}

-- a character that stands alone and is no newline
abbrev pub is_lone : ℕ → Bool
is_lone c = stands_alone c && not (c == 10)

-- the place after it
abbrev pub after_one : ℕ → Position → ℕ → Position
after_one columns p c = advanced columns (min (columns_as_one (c ∷ [])) columns) p

-- only a newline ends in the byte of one
ends-lone : (c : ℕ) → (c == 10) ≡ false → ends_row (encode_utf8_all (c ∷ [])) ≡ false
ends-lone c other =
    let xs = encode_utf8_all (c ∷ []) in
    let same : xs ≡ encode_utf8 c = append-nil (encode_utf8 c) in
    let some : 0 < length xs = omega (arith, ap length same, encode_utf8_nonempty c) in
    let b = get_or xs (length xs - 1) 0 in
    let last : drop (length xs - 1) xs ≡ b ∷ [] =
    drop_more xs (length xs - 1) 0 (omega arith) ∙ ap (λ t. b ∷ t) (drop_all (length xs - 1 + 1) xs (omega arith)) in
    let none : NoCharPasses (λ x. x == 10) xs = (c ∷ [], refl, (other, tt)) in
    let byte : (b == 10) ≡ false =
    ⊎_elim (λ low. NoCharPasses-byte (λ x. x == 10) xs (length xs - 1) none (omega arith) low) (λ high. grind (arith, nat_tests, high)) (cases_lt b 128) in
    ap (pointwise eqb (10 ∷ [])) last ∙ grind (arith, nat_tests, byte)

step-lone : (columns c : ℕ) (p : Position) → scalars (c ∷ []) ≡ true → (c == 10) ≡ false → after_cluster columns p (encode_utf8_all (c ∷ [])) ≡ after_one columns p c
step-lone columns c p s other =
    let width : columns_of columns (encode_utf8_all (c ∷ [])) ≡ min (columns_as_one (c ∷ [])) columns = ap (λ cs. min (str_width false cs) columns) (chars-encodes (c ∷ []) s) in
    ap₂ (λ b n. cond b (start_below p) (advanced columns n p)) (ends-lone c other) width

not_true : (b : Bool) → not b ≡ true → b ≡ false
not_true true h = cc
not_true false h = refl

fold-lone : (columns : ℕ) (cs : List ℕ) (p : Position) → scalars cs ≡ true → list_all is_lone cs ≡ true
    → fold (after_cluster columns) p (map (λ c. encode_utf8_all (c ∷ [])) cs) ≡ fold (after_one columns) p cs
fold-lone columns [] p s h = refl
fold-lone columns (c ∷ cs) p s h =
    let each = and_parts (scalar c) (scalars cs) s in
    let parts = and_parts (is_lone c) (list_all is_lone cs) h in
    let one = and_parts (stands_alone c) (not (c == 10)) parts.0 in
    ap (λ q. fold (after_cluster columns) q (map (λ c. encode_utf8_all (c ∷ [])) cs))
    (step-lone columns c p (ap (λ b. b && true) each.0) (not_true (c == 10) one.1))
    ∙ fold-lone columns cs (after_one columns p c) each.1 parts.1

all-alone : (cs : List ℕ) → list_all is_lone cs ≡ true → list_all stands_alone cs ≡ true
all-alone [] h = refl
all-alone (c ∷ cs) h =
    let parts = and_parts (is_lone c) (list_all is_lone cs) h in
    ap₂ ◌&&◌ (and_parts (stands_alone c) (not (c == 10)) parts.0).0 (all-alone cs parts.1)

-- so does a text of them
pub after-lone : (columns : ℕ) (p : Position) (text : List ℕ) → IsUtf8 text → list_all is_lone (chars text) ≡ true
    → fold (after_one columns) p (chars text) ≡ fold (after_cluster columns) p (clusters text)
after-lone columns p text u h =
    sym (ap (fold (after_cluster columns) p) (clusters-alone text (all-alone (chars text) h))
    ∙ fold-lone columns (chars text) p (scalars-chars text u) h)

-- one more of them
pub lone : (c width : ℕ) → IsLone c width → is_lone c ≡ true
lone c width is = ap₂ ◌&&◌ is.0 (not_newline c is.2)
  where
    not_newline : (c : ℕ) → c ≢ 10 → not (c == 10) ≡ true
    not_newline c h = grind (arith, nat_tests, h)
