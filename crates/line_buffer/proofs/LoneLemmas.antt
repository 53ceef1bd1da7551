-- The characters of the tables join no other, and take one column or two.
use Rattle.std.proofs.Common.{◌≡◌, ℕ, ◌<◌, Bool, true, false, not, ◌&&◌, ◌||◌, nat_le, List, [], ◌∷◌, refl, ap, ◌∙◌, arith}
use Rattle.std.specs.List.{list_any}
use Rattle.std.proofs.lemmas.Bool.{and_parts}
use Rattle.std.proofs.lemmas.Bool.Decides.{nat_tests}
use Rattle.ucd_table.specs.Rows.{Range, in_ranges}
use Rattle.ucd_table.proofs.Stepped.{of_ranges, zip_stepped}
use Rattle.ucd_table.proofs.Facts.{Stepped-everywhere}
use Rattle.ucd_breaks.specs.GraphemeClusterBreak.{grapheme_cluster_break}
use Rattle.ucd_breaks.proofs.GraphemeClusterBreakLemmas.{grapheme_cluster_break_stepped}
use Rattle.ucd_breaks.proofs.Computing.{ucd_breaks}
use Rattle.ucd_derived.specs.IndicConjunctBreak.{indic_conjunct_break}
use Rattle.ucd_derived.proofs.Computing.{ucd_derived}
use Rattle.ucd_derived.proofs.IndicConjunctBreakLemmas.{indic_conjunct_break_stepped}
use Rattle.unicode_width.specs.Kind.{kind}
use Rattle.unicode_width.specs.Width.{alone, of_kind, past_emoji, step, str_width}
use Rattle.unicode_width.specs.declared.kind.Kind.{Kind}
use Rattle.unicode_width.specs.declared.kind.Kind.TheVariants as kinds
use Rattle.unicode_width.proofs.Computing.{unicode_width}
use Rattle.unicode_width.proofs.KindLemmas.{kind_stepped}
use Rattle.unicode_width.proofs.Rules.{str_width-printable}
use Rattle.line_buffer.proofs.PlainClusterLemmas.{alone-plain}
use Rattle.line_buffer.specs.Cluster.{is_apart, is_no_conjunct, stands_alone}
use Rattle.line_buffer.specs.Printable.{is_plain, is_printable}
use Rattle.line_buffer.specs.Width.{IsLone}
use Rattle.line_buffer.specs.declared.lone.TheConstants.{NARROW, WIDE}

abbrev is_one : Kind → Bool
is_one kinds.Narrow = true
is_one kinds.Ambiguous = true
is_one _ = false

abbrev is_two : Kind → Bool
is_two kinds.Wide = true
is_two kinds.Emoji = true
is_two _ = false

one_column : (c : ℕ) (k : Kind) → is_one k ≡ true → (of_kind false c k).0 ≡ 1
one_column c kinds.Narrow h = refl
one_column c kinds.Ambiguous h = refl
one_column c _ h = cc

two_columns : (c : ℕ) (k : Kind) → is_two k ≡ true → (of_kind false c k).0 ≡ 2
two_columns c kinds.Wide h = refl
two_columns c kinds.Emoji h = refl
two_columns c _ h = cc

-- past the control characters
abbrev high : List Range
high = (0xA1, 0x10FFFF) ∷ []

narrow_high : (c : ℕ) → (not (in_ranges NARROW c) || in_ranges high c) ≡ true
unfolding unicode_width
narrow_high =
    Stepped-everywhere (λ c. not (in_ranges NARROW c) || in_ranges high c)
    (zip_stepped (λ l h. not l || h) (in_ranges NARROW) (in_ranges high) (of_ranges NARROW refl) (of_ranges high refl))
    refl

wide_high : (c : ℕ) → (not (in_ranges WIDE c) || in_ranges high c) ≡ true
unfolding unicode_width
wide_high =
    Stepped-everywhere (λ c. not (in_ranges WIDE c) || in_ranges high c)
    (zip_stepped (λ l h. not l || h) (in_ranges WIDE) (in_ranges high) (of_ranges WIDE refl) (of_ranges high refl))
    refl

-- in which of the two tables a character is, and what has to hold of it there
abbrev Listed : Type 0
Listed = Bool × Bool

abbrev keeps_to : Listed → Bool → Kind → Bool
keeps_to l alone k = (not l.0 || (alone && is_one k)) && (not l.1 || (alone && is_two k))

abbrev listed : ℕ → Listed
listed c = (in_ranges NARROW c, in_ranges WIDE c)

-- one computation over the large tables serves both of the small ones
tables_keep : (c : ℕ) → keeps_to (listed c) (stands_alone c) (kind c) ≡ true
unfolding unicode_width ucd_breaks ucd_derived
tables_keep =
    Stepped-everywhere (λ c. keeps_to (listed c) (stands_alone c) (kind c))
    (zip_stepped (λ (p : Listed × Bool) (k : Kind). keeps_to p.0 p.1 k) (λ c. (listed c, stands_alone c)) kind
    (zip_stepped (λ (l : Listed) (a : Bool). (l, a)) listed stands_alone
    (zip_stepped (λ (n w : Bool). (n, w)) (in_ranges NARROW) (in_ranges WIDE) (of_ranges NARROW refl) (of_ranges WIDE refl))
    (zip_stepped (λ v w. is_apart v && is_no_conjunct w) grapheme_cluster_break indic_conjunct_break grapheme_cluster_break_stepped indic_conjunct_break_stepped))
    kind_stepped)
    refl

-- past the control characters a character by itself takes its own columns
own_columns : (c : ℕ) → 0xA0 < c → str_width false (c ∷ []) ≡ (of_kind false c (kind c)).0
unfolding str_width step past_emoji alone
own_columns c h = grind (arith, nat_tests)

past_controls : (c : ℕ) → in_ranges high c ≡ true → 0xA0 < c
unfolding in_ranges
past_controls c h = grind (arith, nat_tests)

implied : (a b : Bool) → (not a || b) ≡ true → a ≡ true → b ≡ true
implied true b h e = h
implied false b h e = cc

-- what a table tells of a character
pub lone : (c n : ℕ) (b : Bool) → (b ≡ true → (of_kind false c (kind c)).0 ≡ n) → (stands_alone c && b) ≡ true → in_ranges high c ≡ true → IsLone c n
lone c n b columns h up =
    let parts = and_parts (stands_alone c) b h in
    let past = past_controls c up in
    (parts.0, own_columns c past ∙ columns parts.1, λ feed. omega (arith, past, feed))

in_narrow : (c : ℕ) → in_ranges NARROW c ≡ list_any (λ range. nat_le range.0 c && nat_le c range.1) NARROW
unfolding in_ranges
in_narrow c = refl

in_wide : (c : ℕ) → in_ranges WIDE c ≡ list_any (λ range. nat_le range.0 c && nat_le c range.1) WIDE
unfolding in_ranges
in_wide c = refl

pub narrow : (c : ℕ) → list_any (λ range. nat_le range.0 c && nat_le c range.1) NARROW ≡ true → IsLone c 1
narrow c h =
    let here = in_narrow c ∙ h in
    let kept = and_parts (not (in_ranges NARROW c) || (stands_alone c && is_one (kind c))) _ (tables_keep c) in
    lone c 1 (is_one (kind c)) (one_column c (kind c)) (implied (in_ranges NARROW c) _ kept.0 here) (implied (in_ranges NARROW c) _ (narrow_high c) here)

pub wide : (c : ℕ) → list_any (λ range. nat_le range.0 c && nat_le c range.1) WIDE ≡ true → IsLone c 2
wide c h =
    let here = in_wide c ∙ h in
    let kept = and_parts (not (in_ranges NARROW c) || (stands_alone c && is_one (kind c))) _ (tables_keep c) in
    lone c 2 (is_two (kind c)) (two_columns c (kind c)) (implied (in_ranges WIDE c) _ kept.1 here) (implied (in_ranges WIDE c) _ (wide_high c) here)

plain_one : (c : ℕ) → is_printable c ≡ true → is_plain c ≡ true
plain_one c h = grind (arith, nat_tests)

pub printable : (c : ℕ) → is_printable c ≡ true → IsLone c 1
printable c h = (
  alone-plain c (plain_one c h),
  str_width-printable false (c ∷ []) (ap (λ b. b && true) h),
  λ feed. grind (arith, nat_tests, h, feed),
)
