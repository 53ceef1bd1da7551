-- Where the columns of a text are those up to a flag and those of the flags behind it.
use Rattle.std.proofs.Common.{◌≡◌, ◌⊎◌, inl, inr, ℕ, ◌+◌, Bool, true, false, not, ◌||◌, List, [], ◌∷◌, ◌++◌, length, refl, sym, ap, ap₂, ◌∙◌, arith, append-nil, append_assoc}
use Rattle.std.specs.List.{list_all, slice_split, sum_by}
use Rattle.std.specs.Str.{chars, IsUtf8, NonePass}
use Rattle.std.proofs.lemmas.Bool.{and_parts}
use Rattle.std.proofs.lemmas.Bool.Decides.{nat_tests}
use Rattle.std.proofs.lemmas.List.Sums.{sum_by-append, sum_by-cons}
use Rattle.std.proofs.lemmas.List.Splits.{slice_split-cons_yes, slice_split-cons_no}
use Rattle.std.proofs.lemmas.Str.{chars-append}
use Rattle.ucd_table.specs.Rows.{Range, in_ranges}
use Rattle.ucd_table.proofs.Stepped.{of_ranges, zip_stepped}
use Rattle.ucd_table.proofs.Facts.{Stepped-everywhere}
use Rattle.unicode_width.specs.Kind.{kind}
use Rattle.unicode_width.specs.Width.{before, plain, of_kind, alone, joins, past_selectors, in_context, past_emoji, step, read_before, str_width, is_indicator}
use Rattle.unicode_width.specs.declared.kind.Kind.{Kind}
use Rattle.unicode_width.specs.declared.kind.Kind.TheVariants as kinds
use Rattle.unicode_width.specs.declared.state.After.TheVariants.{RegionalIndicator, RegionalIndicators}
use Rattle.unicode_width.specs.declared.state.State.{State}
use Rattle.unicode_width.proofs.Computing.{unicode_width}
use Rattle.unicode_width.proofs.KindLemmas.{kind_stepped}
use Rattle.line_buffer.proofs.PartLemmas.{led, led-joiner, led-none, led-onto, joiner_or_not, chars_width, width_of_chars, parts_at, AddUp-end}
use Rattle.line_buffer.proofs.SeamLemmas.{implied, read-append, read_from}
use Rattle.line_buffer.proofs.WidthLemmas.{split_none}
use Rattle.line_buffer.specs.Width.{columns_as_one, columns_of_char, is_joiner, AddUp, EndsInFlag, PartsAt}
use Rattle.line_buffer.specs.declared.layout.GraphemeClusterMode.{GraphemeClusterMode}
use Rattle.line_buffer.specs.declared.layout.GraphemeClusterMode.TheVariants.{Unicode, WcWidth, NoZwj}

-- ---- what a regional indicator leaves

abbrev is_regional : Kind → Bool
is_regional kinds.RegionalIndicator = true
is_regional _ = false

abbrev indicators : List Range
indicators = (0x1F1E6, 0x1F1FF) ∷ []

indicators_regional : (c : ℕ) → (not (in_ranges indicators c) || is_regional (kind c)) ≡ true
unfolding unicode_width
indicators_regional =
    Stepped-everywhere (λ c. not (in_ranges indicators c) || is_regional (kind c))
    (zip_stepped (λ l k. not l || is_regional k) (in_ranges indicators) kind (of_ranges indicators refl) kind_stepped)
    refl

in_indicators : (c : ℕ) → is_indicator c ≡ true → in_ranges indicators c ≡ true
unfolding in_ranges
in_indicators c h = grind (arith, nat_tests)

of_regional : (c : ℕ) (k : Kind) → is_regional k ≡ true → of_kind false c k ≡ (1, before RegionalIndicator)
of_regional c kinds.Zero h = cc
of_regional c kinds.Narrow h = cc
of_regional c kinds.Wide h = cc
of_regional c kinds.Ambiguous h = cc
of_regional c kinds.Alef h = cc
of_regional c kinds.KhmerLetter h = cc
of_regional c kinds.TifinaghConsonant h = cc
of_regional c kinds.LisuTone h = cc
of_regional c kinds.RegionalIndicator h = refl
of_regional c kinds.EmojiModifier h = cc
of_regional c kinds.Emoji h = cc
of_regional c kinds.Single h = cc

alone_indicator : (c : ℕ) → is_indicator c ≡ true → alone false c ≡ (1, before RegionalIndicator)
unfolding alone
alone_indicator c h = of_regional c (kind c) (implied (in_ranges indicators c) (is_regional (kind c)) (indicators_regional c) (in_indicators c h))

-- the state before a text of regional indicators
abbrev Waving : State → Type 0
Waving s = (s ≡ plain) ⊎ ((s ≡ before RegionalIndicator) ⊎ (s ≡ before RegionalIndicators))

step-none : (c n : ℕ) → is_indicator c ≡ true → step false c (n, plain) ≡ (n + 1, before RegionalIndicator)
unfolding step past_emoji
step-none c n h = grind (arith, nat_tests, alone_indicator c h)

step-one : (c n : ℕ) → is_indicator c ≡ true → step false c (n, before RegionalIndicator) ≡ (n + 1, before RegionalIndicators)
unfolding step past_emoji in_context past_selectors joins
step-one c n h = grind (arith, nat_tests)

step-more : (c n : ℕ) → is_indicator c ≡ true → step false c (n, before RegionalIndicators) ≡ (n + 1, before RegionalIndicators)
unfolding step past_emoji in_context past_selectors joins
step-more c n h = grind (arith, nat_tests)

step-waving : (c n : ℕ) (s : State) → is_indicator c ≡ true → Waving s → Waving (step false c (n, s)).1
step-waving c n s h (inl e) = inr (inl (ap (λ x. (step false c (n, x)).1) e ∙ ap (λ r. r.1) (step-none c n h)))
step-waving c n s h (inr (inl e)) = inr (inr (ap (λ x. (step false c (n, x)).1) e ∙ ap (λ r. r.1) (step-one c n h)))
step-waving c n s h (inr (inr e)) = inr (inr (ap (λ x. (step false c (n, x)).1) e ∙ ap (λ r. r.1) (step-more c n h)))

read-waving : (cs : List ℕ) → list_all is_indicator cs ≡ true → Waving (read_before false cs (0, plain)).1
read-waving [] h = inl refl
read-waving (c ∷ cs) h =
    let parts = and_parts (is_indicator c) (list_all is_indicator cs) h in
    let r = read_before false cs (0, plain) in
    step-waving c r.0 r.1 parts.0 (read-waving cs parts.1)

-- a flag leaves the same, however many indicators stand behind it
two-steps : (a b n : ℕ) (s : State) → is_indicator a ≡ true → is_indicator b ≡ true → Waving s
    → step false a (step false b (n, s)) ≡ (n + 1 + 1, before RegionalIndicators)
two-steps a b n s h i (inl e) = ap (λ x. step false a (step false b (n, x))) e ∙ ap (step false a) (step-none b n i) ∙ step-one a (n + 1) h
two-steps a b n s h i (inr (inl e)) = ap (λ x. step false a (step false b (n, x))) e ∙ ap (step false a) (step-one b n i) ∙ step-more a (n + 1) h
two-steps a b n s h i (inr (inr e)) = ap (λ x. step false a (step false b (n, x))) e ∙ ap (step false a) (step-more b n i) ∙ step-more a (n + 1) h

-- ---- where a flag ends

module _ (a b : ℕ) (cs : List ℕ) (h : is_indicator a ≡ true) (i : is_indicator b ≡ true) (all : list_all is_indicator cs ≡ true) where
  abbrev flag : List ℕ
  flag = a ∷ b ∷ []

  flag-meets : (front : List ℕ) → columns_as_one ((front ++ flag) ++ cs) ≡ columns_as_one (front ++ flag) + columns_as_one cs
  unfolding str_width
  flag-meets front =
      let r = read_before false cs (0, plain) in
      ap (λ x. x.0) (read-append (front ++ flag) cs (0, plain) ∙ read-append front flag r
      ∙ ap (read_before false front) (two-steps a b r.0 r.1 h i (read-waving cs all) ∙ sym (two-steps a b r.0 plain h i (inl refl)))
      ∙ sym (read-append front flag (r.0, plain)))
      ∙ read_from (front ++ flag) r.0

  no_joiner : (ds : List ℕ) → list_all is_indicator ds ≡ true → NonePass is_joiner ds
  no_joiner [] e = tt
  no_joiner (d ∷ ds) e =
      let parts = and_parts (is_indicator d) (list_all is_indicator ds) e in
      let apart : is_joiner d ≡ false = grind (arith, nat_tests, parts.0) in
      (apart, no_joiner ds parts.1)

  flag-none : NonePass is_joiner flag
  flag-none = (grind (arith, nat_tests), (grind (arith, nat_tests), tt))

  all-none : NonePass is_joiner (flag ++ cs)
  all-none = (flag-none.0, (flag-none.1.0, no_joiner cs all))

  led-flag : (us front : List ℕ) → led front (slice_split is_joiner (us ++ (flag ++ cs))) ≡ led front (slice_split is_joiner (us ++ flag)) + columns_as_one cs
  led-flag [] front =
      let whole : led front (slice_split is_joiner (flag ++ cs)) ≡ columns_as_one (front ++ (flag ++ cs)) + 0 = ap (led front) (split_none (flag ++ cs) all-none) in
      let own : led front (slice_split is_joiner flag) ≡ columns_as_one (front ++ flag) + 0 = ap (led front) (split_none flag flag-none) in
      let sum = ap columns_as_one (sym (append_assoc front flag cs)) ∙ flag-meets front in
      omega (arith, whole, own, sum)
  led-flag (x ∷ us) front =
      elim (joiner_or_not x) [
        | inl joins ↦
            rw (slice_split-cons_yes is_joiner x (us ++ (flag ++ cs)) joins, slice_split-cons_yes is_joiner x (us ++ flag) joins)
            (let ih = led-flag us [] in
            let one = led-joiner front (slice_split is_joiner (us ++ (flag ++ cs))) in
            let two = led-joiner front (slice_split is_joiner (us ++ flag)) in
            omega (arith, ih, one, two))
        | inr apart ↦
            rw (slice_split-cons_no is_joiner x (us ++ (flag ++ cs)) apart, slice_split-cons_no is_joiner x (us ++ flag) apart)
            (led-onto front x (slice_split is_joiner (us ++ (flag ++ cs))) ∙ led-flag us (front ++ x ∷ [])
            ∙ ap (λ n. n + columns_as_one cs) (sym (led-onto front x (slice_split is_joiner (us ++ flag)))))
      ]

  own_piece : columns_as_one cs ≡ sum_by columns_as_one (slice_split is_joiner cs)
  own_piece =
      let e = ap (sum_by columns_as_one) (split_none cs (no_joiner cs all)) ∙ sum_by-cons columns_as_one cs [] in
      omega (arith, e)

  chars-flag : (mode : GraphemeClusterMode) (us : List ℕ) → chars_width mode ((us ++ flag) ++ cs) ≡ chars_width mode (us ++ flag) + chars_width mode cs
  chars-flag Unicode us = flag-meets us
  chars-flag WcWidth us = sum_by-append columns_of_char (us ++ flag) cs
  chars-flag NoZwj us =
      ap (λ l. sum_by columns_as_one (slice_split is_joiner l)) (append_assoc us flag cs)
      ∙ sym (led-none (slice_split is_joiner (us ++ (flag ++ cs)))) ∙ led-flag us []
      ∙ ap₂ (λ m n. m + n) (led-none (slice_split is_joiner (us ++ flag))) own_piece

pub parts_behind_flag : (front behind : List ℕ) → IsUtf8 front → EndsInFlag front → list_all is_indicator (chars behind) ≡ true → PartsAt front behind (length front)
parts_behind_flag front behind u f all =
    let sum : AddUp front behind = λ mode.
    width_of_chars mode (front ++ behind)
    ∙ ap (chars_width mode) (chars-append front behind u ∙ ap (λ xs. xs ++ chars behind) f.ends)
    ∙ chars-flag f.first f.second (chars behind) f.one f.two all mode f.before
    ∙ ap (λ xs. chars_width mode xs + chars_width mode (chars behind)) (sym f.ends)
    ∙ sym (ap₂ (λ m n. m + n) (width_of_chars mode front) (width_of_chars mode behind)) in
    parts_at front behind front [] u u (append-nil front) sum (AddUp-end front)
