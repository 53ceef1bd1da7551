-- Between two characters of printable ASCII or newlines clusters part, whatever stands before and behind.
use Rattle.std.proofs.Common.{◌≡◌, ℕ, ◌+◌, ◌-◌, ◌<◌, Bool, true, false, cond, not, ◌&&◌, ◌||◌, List, [], ◌∷◌, ◌++◌, length, map, take, drop, get_or, unwrap_or, refl, subst, sym, ap, ap₂, ◌∙◌, arith, append-nil, append_assoc}
use Rattle.std.specs.List.{list_all}
use Rattle.std.specs.Prelude.{encode_utf8_all}
use Rattle.std.specs.Str.{chars, IsAscii, IsUtf8, IsCharBoundary}
use Rattle.std.proofs.lemmas.Bool.{and_parts}
use Rattle.std.proofs.lemmas.Bool.Decides.{nat_tests}
use Rattle.std.proofs.lemmas.Str.{IsCharBoundary-after_ascii, IsCharBoundary-before_ascii, IsUtf8-from_ascii, IsUtf8-take, chars-IsAscii, chars-append, chars-nil}
use Rattle.std.proofs.lemmas.List.{drop_all, drop_more, get_or-take, length-take, map-append, take-append-drop, take_all, take_more}
use Rattle.std.proofs.lemmas.Str.Ascii.{IsAscii-cons, IsAscii-nil, encodes-IsAscii}
use Rattle.ucd_table.proofs.Facts.{Stepped-below}
use Rattle.ucd_breaks.specs.GraphemeClusterBreak.{grapheme_cluster_break}
use Rattle.ucd_breaks.specs.declared.GraphemeClusterBreak.{GraphemeClusterBreak}
use Rattle.ucd_breaks.specs.declared.GraphemeClusterBreak.TheVariants.{Other, Lf}
use Rattle.ucd_breaks.proofs.GraphemeClusterBreakLemmas.{grapheme_cluster_break_stepped}
use Rattle.ucd_breaks.proofs.Computing.{ucd_breaks}
use Rattle.ucd_derived.specs.IndicConjunctBreak.{indic_conjunct_break}
use Rattle.ucd_derived.specs.declared.IndicConjunctBreak.{IndicConjunctBreak}
use Rattle.ucd_derived.specs.declared.IndicConjunctBreak.TheVariants as InCb
use Rattle.ucd_derived.proofs.Computing.{ucd_derived}
use Rattle.ucd_derived.proofs.IndicConjunctBreakLemmas.{indic_conjunct_break_stepped}
use Rattle.ucd_emoji.specs.Binary.{is_extended_pictographic}
use Rattle.unicode_segmentation.specs.Segments.{prepend, cut, segments}
use Rattle.unicode_segmentation.specs.Grapheme.{break_by_pair, ends_in_half_flag, ends_in_linker, ends_in_pictograph, is_consonant, is_extend, is_grapheme_break, is_regional, is_zwj, joins_conjunct, joins_emoji, joins_flag}
use Rattle.line_buffer.specs.Cluster.{PartsClusters, clusters, is_apart, is_no_conjunct, stands_alone}
use Rattle.line_buffer.specs.Printable.{is_plain, meets_plain}

-- ---- what a plain character is to the rules

implied : (a b : Bool) → (not a || b) ≡ true → a ≡ true → b ≡ true
implied true b h e = h
implied false b h e = cc

apart-plain : (c : ℕ) → is_plain c ≡ true → is_apart (grapheme_cluster_break c) ≡ true
unfolding ucd_breaks
apart-plain c h =
    let early : c < 0x7F = grind (arith, nat_tests) in
    implied (is_plain c) _ (Stepped-below grapheme_cluster_break grapheme_cluster_break_stepped (λ x v. not (is_plain x) || is_apart v) 0x7F refl c early) h

no_conjunct-plain : (c : ℕ) → is_plain c ≡ true → is_no_conjunct (indic_conjunct_break c) ≡ true
unfolding ucd_derived
no_conjunct-plain c h =
    let early : c < 0x7F = grind (arith, nat_tests) in
    implied (is_plain c) _ (Stepped-below indic_conjunct_break indic_conjunct_break_stepped (λ x v. not (is_plain x) || is_no_conjunct v) 0x7F refl c early) h

-- printable ASCII and newlines stand alone
pub alone-plain : (c : ℕ) → is_plain c ≡ true → stands_alone c ≡ true
alone-plain c h = ap₂ ◌&&◌ (apart-plain c h) (no_conjunct-plain c h)

apart : (c : ℕ) → stands_alone c ≡ true → is_apart (grapheme_cluster_break c) ≡ true
apart c h = (and_parts (is_apart (grapheme_cluster_break c)) (is_no_conjunct (indic_conjunct_break c)) h).0

no_conjunct : (c : ℕ) → stands_alone c ≡ true → is_no_conjunct (indic_conjunct_break c) ≡ true
no_conjunct c h = (and_parts (is_apart (grapheme_cluster_break c)) (is_no_conjunct (indic_conjunct_break c)) h).1

no_extend : (v : GraphemeClusterBreak) → is_apart v ≡ true → (is_extend v ≡ false) × (is_zwj v ≡ false) × (is_regional v ≡ false)
no_extend Other h = (refl, refl, refl)
no_extend Lf h = (refl, refl, refl)
no_extend _ h = cc

no_linker : (v : IndicConjunctBreak) (vs : List IndicConjunctBreak) → is_no_conjunct v ≡ true → ends_in_linker (v ∷ vs) ≡ false
unfolding ends_in_linker
no_linker InCb.None vs h = refl
no_linker _ vs h = cc

linker-more : (v : IndicConjunctBreak) (vs ws : List IndicConjunctBreak) → ends_in_linker vs ≡ ends_in_linker ws → ends_in_linker (v ∷ vs) ≡ ends_in_linker (v ∷ ws)
unfolding ends_in_linker
linker-more InCb.Linker vs ws h = refl
linker-more InCb.Extend vs ws h = h
linker-more InCb.Consonant vs ws h = refl
linker-more InCb.None vs ws h = refl

-- ---- what stands before a plain character is not read behind it

module _ (d : ℕ) (plain : stands_alone d ≡ true) where
  linker-behind : (ws past : List ℕ) → ends_in_linker (map indic_conjunct_break (ws ++ d ∷ past)) ≡ ends_in_linker (map indic_conjunct_break (ws ++ d ∷ []))
  linker-behind [] past = no_linker _ _ (no_conjunct d plain) ∙ sym (no_linker _ _ (no_conjunct d plain))
  linker-behind (w ∷ ws) past = linker-more (indic_conjunct_break w) _ _ (linker-behind ws past)

  pictograph-behind : (ws past : List ℕ) → ends_in_pictograph (ws ++ d ∷ past) ≡ ends_in_pictograph (ws ++ d ∷ [])
  unfolding ends_in_pictograph
  pictograph-behind [] past =
      let none = (no_extend (grapheme_cluster_break d) (apart d plain)).0 in
      ap (λ b. is_extended_pictographic d || (b && ends_in_pictograph past)) none
      ∙ sym (ap (λ b. is_extended_pictographic d || (b && ends_in_pictograph [])) none)
  pictograph-behind (w ∷ ws) past =
      ap (λ b. is_extended_pictographic w || (is_extend (grapheme_cluster_break w) && b)) (pictograph-behind ws past)

  flag-behind : (ws past : List ℕ) → ends_in_half_flag (ws ++ d ∷ past) ≡ ends_in_half_flag (ws ++ d ∷ [])
  unfolding ends_in_half_flag
  flag-behind [] past =
      let none = (no_extend (grapheme_cluster_break d) (apart d plain)).2 in
      ap (λ b. b && not (ends_in_half_flag past)) none ∙ sym (ap (λ b. b && not (ends_in_half_flag [])) none)
  flag-behind (w ∷ ws) past = ap (λ b. is_regional (grapheme_cluster_break w) && not b) (flag-behind ws past)

  emoji-behind : (ws past : List ℕ) (next : ℕ) → joins_emoji (ws ++ d ∷ past) next ≡ joins_emoji (ws ++ d ∷ []) next
  emoji-behind [] past next =
      let none = (no_extend (grapheme_cluster_break d) (apart d plain)).1 in
      ap (λ b. b && ends_in_pictograph past && is_extended_pictographic next) none
      ∙ sym (ap (λ b. b && ends_in_pictograph [] && is_extended_pictographic next) none)
  emoji-behind (w ∷ ws) past next = ap (λ b. is_zwj (grapheme_cluster_break w) && b && is_extended_pictographic next) (pictograph-behind ws past)

  joins-behind : (ws past : List ℕ) (next : ℕ)
      → ((joins_conjunct (ws ++ d ∷ past) next || joins_emoji (ws ++ d ∷ past) next) || joins_flag (ws ++ d ∷ past) next)
      ≡ ((joins_conjunct (ws ++ d ∷ []) next || joins_emoji (ws ++ d ∷ []) next) || joins_flag (ws ++ d ∷ []) next)
  joins-behind ws past next =
      ap₂ (λ a b. a || b)
      (ap₂ (λ a b. a || b) (ap (λ b. b && is_consonant (indic_conjunct_break next)) (linker-behind ws past)) (emoji-behind ws past next))
      (ap (λ b. b && is_regional (grapheme_cluster_break next)) (flag-behind ws past))

  rule-behind : (ws past after : List ℕ) → is_grapheme_break true (ws ++ d ∷ past) after ≡ is_grapheme_break true (ws ++ d ∷ []) after
  unfolding is_grapheme_break
  rule-behind [] past [] = refl
  rule-behind (w ∷ ws) past [] = refl
  rule-behind [] past (next ∷ after) =
      ap (λ j. unwrap_or (break_by_pair true (grapheme_cluster_break d) (grapheme_cluster_break next)) (not j)) (joins-behind [] past next)
  rule-behind (w ∷ ws) past (next ∷ after) =
      ap (λ j. unwrap_or (break_by_pair true (grapheme_cluster_break w) (grapheme_cluster_break next)) (not j)) (joins-behind (w ∷ ws) past next)

  cut-behind : (ws past cs after : List ℕ) → cut (is_grapheme_break true) (ws ++ d ∷ past) cs after ≡ cut (is_grapheme_break true) (ws ++ d ∷ []) cs after
  unfolding cut
  cut-behind ws past [] after = refl
  cut-behind ws past (c ∷ cs) after =
      ap₂ (λ b rest. cond b ((c ∷ []) ∷ rest) (prepend (c ∷ []) rest)) (rule-behind (c ∷ ws) past (cs ++ after)) (cut-behind (c ∷ ws) past cs after)

  cut-from : (before cs : List ℕ) → cut (is_grapheme_break true) before (d ∷ cs) [] ≡ cut (is_grapheme_break true) [] (d ∷ cs) []
  unfolding cut
  cut-from before cs =
      ap₂ (λ b rest. cond b ((d ∷ []) ∷ rest) (prepend (d ∷ []) rest)) (rule-behind [] before (cs ++ [])) (cut-behind [] before cs [])

-- ---- two plain characters never share a cluster

break-pair : (v w : GraphemeClusterBreak) (b : Bool) → is_apart v ≡ true → is_apart w ≡ true → b ≡ true → unwrap_or (break_by_pair true v w) b ≡ true
break-pair Other Other b p q h = h
break-pair Other Lf b p q h = refl
break-pair Lf Other b p q h = refl
break-pair Lf Lf b p q h = refl
break-pair _ _ b p q h = cc

consonant-none : (v : IndicConjunctBreak) → is_no_conjunct v ≡ true → is_consonant v ≡ false
consonant-none InCb.None h = refl
consonant-none _ h = cc

and-false : (a b : Bool) → b ≡ false → (a && b) ≡ false
and-false true b h = h
and-false false b h = refl

break-alone : (before : List ℕ) (c d : ℕ) (after : List ℕ) → stands_alone c ≡ true → stands_alone d ≡ true → is_grapheme_break true (c ∷ before) (d ∷ after) ≡ true
unfolding is_grapheme_break
break-alone before c d after left right =
    let conjunct : joins_conjunct (c ∷ before) d ≡ false = and-false _ _ (consonant-none (indic_conjunct_break d) (no_conjunct d right)) in
    let emoji : joins_emoji (c ∷ before) d ≡ false =
    ap (λ b. b && ends_in_pictograph before && is_extended_pictographic d) (no_extend (grapheme_cluster_break c) (apart c left)).1 in
    let flag : joins_flag (c ∷ before) d ≡ false = and-false _ _ (no_extend (grapheme_cluster_break d) (apart d right)).2 in
    break-pair (grapheme_cluster_break c) (grapheme_cluster_break d) _ (apart c left) (apart d right)
    (ap not (ap₂ (λ a b. a || b) (ap₂ (λ a b. a || b) conjunct emoji) flag))

-- ---- so they are clusters of their own

-- each character as a cluster of its own
abbrev pub singly : List ℕ → List (List ℕ)
singly cs = map (λ c. c ∷ []) cs

cut-alone : (before cs : List ℕ) → list_all stands_alone cs ≡ true → cut (is_grapheme_break true) before cs [] ≡ singly cs
unfolding cut is_grapheme_break
cut-alone before [] h = refl
cut-alone before (c ∷ []) h = refl
cut-alone before (c ∷ (d ∷ cs)) h =
    let parts = and_parts (stands_alone c) (list_all stands_alone (d ∷ cs)) h in
    let next = and_parts (stands_alone d) (list_all stands_alone cs) parts.1 in
    let rest = cut (is_grapheme_break true) (c ∷ before) (d ∷ cs) [] in
    ap (λ b. cond b ((c ∷ []) ∷ rest) (prepend (c ∷ []) rest)) (break-alone before c d (cs ++ []) parts.0 next.0)
    ∙ ap (λ ps. (c ∷ []) ∷ ps) (cut-alone (c ∷ before) (d ∷ cs) parts.1)

all-alone : (cs : List ℕ) → list_all is_plain cs ≡ true → list_all stands_alone cs ≡ true
all-alone [] h = refl
all-alone (c ∷ cs) h =
    let parts = and_parts (is_plain c) (list_all is_plain cs) h in
    ap₂ ◌&&◌ (alone-plain c parts.0) (all-alone cs parts.1)

map-singly : (cs : List ℕ) → map encode_utf8_all (singly cs) ≡ map (λ c. encode_utf8_all (c ∷ [])) cs
map-singly [] = refl
map-singly (c ∷ cs) = ap (λ ps. encode_utf8_all (c ∷ []) ∷ ps) (map-singly cs)

-- the clusters of characters that stand alone are these
pub clusters-alone : (text : List ℕ) → list_all stands_alone (chars text) ≡ true → clusters text ≡ map (λ c. encode_utf8_all (c ∷ [])) (chars text)
unfolding segments
clusters-alone text h = ap (map encode_utf8_all) (cut-alone [] (chars text) h) ∙ map-singly (chars text)

plain-below : (c : ℕ) → is_plain c ≡ true → c < 128
plain-below c h = grind (arith, nat_tests)

pub IsAscii-plain : (cs : List ℕ) → list_all is_plain cs ≡ true → IsAscii cs
IsAscii-plain [] h = IsAscii-nil
IsAscii-plain (c ∷ cs) h =
    let parts = and_parts (is_plain c) (list_all is_plain cs) h in
    IsAscii-cons c cs (plain-below c parts.0) (IsAscii-plain cs parts.1)

encode-singly : (cs : List ℕ) → list_all is_plain cs ≡ true → map encode_utf8_all (singly cs) ≡ singly cs
encode-singly [] h = refl
encode-singly (c ∷ cs) h =
    let parts = and_parts (is_plain c) (list_all is_plain cs) h in
    ap₂ (λ p ps. p ∷ ps) (encodes-IsAscii (c ∷ []) (IsAscii-cons c [] (plain-below c parts.0) IsAscii-nil)) (encode-singly cs parts.1)

-- the clusters of printable ASCII and newlines are its characters
pub clusters-plain : (text : List ℕ) → list_all is_plain text ≡ true → clusters text ≡ singly text
unfolding segments
clusters-plain text h =
    ap (λ cs. map encode_utf8_all (cut (is_grapheme_break true) [] cs [])) (chars-IsAscii text (IsAscii-plain text h))
    ∙ ap (map encode_utf8_all) (cut-alone [] text (all-alone text h)) ∙ encode-singly text h

-- ---- so a text is cut there as its two parts are

-- a character is put in front of the first of several pieces
attach-append : (b : Bool) (part piece : List ℕ) (pieces more : List (List ℕ))
    → cond b (part ∷ ((piece ∷ pieces) ++ more)) (prepend part ((piece ∷ pieces) ++ more)) ≡ cond b (part ∷ (piece ∷ pieces)) (prepend part (piece ∷ pieces)) ++ more
attach-append true part piece pieces more = refl
attach-append false part piece pieces more = refl

-- a text with a character has a piece
begins : (before : List ℕ) (c : ℕ) (cs after : List ℕ)
    → (piece : List ℕ) × (pieces : List (List ℕ)) × (cut (is_grapheme_break true) before (c ∷ cs) after ≡ piece ∷ pieces)
unfolding cut
begins before c cs after = first (is_grapheme_break true (c ∷ before) (cs ++ after)) (cut (is_grapheme_break true) (c ∷ before) cs after)
  where
    first : (b : Bool) (rest : List (List ℕ)) → (piece : List ℕ) × (pieces : List (List ℕ)) × (cond b ((c ∷ []) ∷ rest) (prepend (c ∷ []) rest) ≡ piece ∷ pieces)
    first true rest = (c ∷ [], rest, refl)
    first false [] = (c ∷ [], [], refl)
    first false (p ∷ ps) = ((c ∷ []) ++ p, ps, refl)

module _ (c d : ℕ) (ys : List ℕ) (left : stands_alone c ≡ true) (right : stands_alone d ≡ true) where
  -- behind a character the rule reads one more
  same-head : (before xs : List ℕ) (x : ℕ)
      → is_grapheme_break true (x ∷ before) ((xs ++ c ∷ (d ∷ ys)) ++ []) ≡ is_grapheme_break true (x ∷ before) ((xs ++ c ∷ []) ++ [])
  unfolding is_grapheme_break
  same-head before [] x = refl
  same-head before (y ∷ xs) x = refl

  cut-parts : (before xs : List ℕ)
      → cut (is_grapheme_break true) before (xs ++ c ∷ (d ∷ ys)) []
      ≡ cut (is_grapheme_break true) before (xs ++ c ∷ []) [] ++ cut (is_grapheme_break true) [] (d ∷ ys) []
  unfolding cut is_grapheme_break
  cut-parts before [] =
      ap₂ (λ b rest. cond b ((c ∷ []) ∷ rest) (prepend (c ∷ []) rest)) (break-alone before c d (ys ++ []) left right) (cut-from d right (c ∷ before) ys)
  cut-parts before (x ∷ xs) =
      let b = is_grapheme_break true (x ∷ before) ((xs ++ c ∷ []) ++ []) in
      let more = cut (is_grapheme_break true) [] (d ∷ ys) [] in
      let some = some_piece (x ∷ before) xs in
      ap₂ (λ b rest. cond b ((x ∷ []) ∷ rest) (prepend (x ∷ []) rest)) (same-head before xs x) (cut-parts (x ∷ before) xs)
      ∙ ap (λ ps. cond b ((x ∷ []) ∷ (ps ++ more)) (prepend (x ∷ []) (ps ++ more))) some.2
      ∙ attach-append b (x ∷ []) some.0 some.1 more
      ∙ ap (λ ps. cond b ((x ∷ []) ∷ ps) (prepend (x ∷ []) ps) ++ more) (sym some.2)
    where
      some_piece : (before xs : List ℕ) → (piece : List ℕ) × (pieces : List (List ℕ)) × (cut (is_grapheme_break true) before (xs ++ c ∷ []) [] ≡ piece ∷ pieces)
      some_piece before [] = begins before c [] []
      some_piece before (y ∷ ys) = begins before y (ys ++ c ∷ []) []

-- where a text ends in a character that stands alone, and another begins with one, their clusters part
pub clusters-meet : (front back xs ys : List ℕ) (c d : ℕ) → IsUtf8 front → chars front ≡ xs ++ c ∷ [] → chars back ≡ d ∷ ys
    → stands_alone c ≡ true → stands_alone d ≡ true → clusters (front ++ back) ≡ clusters front ++ clusters back
unfolding segments
clusters-meet front back xs ys c d u first last left right =
    let rule = is_grapheme_break true in
    let whole : chars (front ++ back) ≡ xs ++ c ∷ (d ∷ ys) =
    chars-append front back u ∙ ap₂ ◌++◌ first last ∙ append_assoc xs (c ∷ []) (d ∷ ys) in
    ap (λ cs. map encode_utf8_all (cut rule [] cs [])) whole
    ∙ ap (map encode_utf8_all) (cut-parts c d ys left right [] xs)
    ∙ map-append encode_utf8_all (cut rule [] (xs ++ c ∷ []) []) (cut rule [] (d ∷ ys) [])
    ∙ ap₂ (λ p q. map encode_utf8_all (cut rule [] p []) ++ map encode_utf8_all (cut rule [] q [])) (sym first) (sym last)

-- between two plain characters the clusters of a text part
parts-behind : (text : List ℕ) (k : ℕ) → IsUtf8 text → k + 1 < length text → is_plain (get_or text k 0) ≡ true → is_plain (get_or text (k + 1) 0) ≡ true
    → PartsClusters text (k + 1)
parts-behind text k u within left right =
    let c = get_or text k 0 in
    let d = get_or text (k + 1) 0 in
    let early : c < 128 = grind (arith, nat_tests) in
    let next : d < 128 = grind (arith, nat_tests) in
    let front : chars (take (k + 1) text) ≡ chars (take k text) ++ c ∷ [] =
    ap chars (take_more text k 0 (omega arith))
    ∙ chars-append (take k text) (c ∷ []) (IsUtf8-take text k u (IsCharBoundary-before_ascii text k (omega arith) early))
    ∙ ap (λ cs. chars (take k text) ++ cs) (chars-IsAscii (c ∷ []) (IsAscii-cons c [] early IsAscii-nil)) in
    let alone : IsAscii (d ∷ []) = IsAscii-cons d [] next IsAscii-nil in
    let back : chars (drop (k + 1) text) ≡ d ∷ chars (drop (k + 1 + 1) text) =
    ap chars (drop_more text (k + 1) 0 within) ∙ chars-append (d ∷ []) (drop (k + 1 + 1) text) (IsUtf8-from_ascii (d ∷ []) alone)
    ∙ ap (λ cs. cs ++ chars (drop (k + 1 + 1) text)) (chars-IsAscii (d ∷ []) alone) in
    ap clusters (sym (take-append-drop (k + 1) text))
    ∙ clusters-meet (take (k + 1) text) (drop (k + 1) text) (chars (take k text)) (chars (drop (k + 1 + 1) text)) c d
    (IsUtf8-take text (k + 1) u (IsCharBoundary-after_ascii text k u (omega arith) early)) front back (alone-plain c left) (alone-plain d right)

-- the same of the place between them
pub clusters-part : (text : List ℕ) (place : ℕ) → IsUtf8 text → 0 < place → place < length text → meets_plain text place ≡ true → PartsClusters text place
clusters-part text place u some within meets =
    let e : place - 1 + 1 ≡ place = omega arith in
    let both = and_parts (is_plain (get_or text (place - 1) 0)) (is_plain (get_or text place 0)) meets in
    subst (PartsClusters text) e
    (parts-behind text (place - 1) u (omega arith) both.0 (ap (λ n. is_plain (get_or text n 0)) e ∙ both.1))

-- and a character begins there
pub boundary-part : (text : List ℕ) (place : ℕ) → IsUtf8 text → place < length text → meets_plain text place ≡ true → IsCharBoundary text place
boundary-part text place u within meets =
    let both = and_parts (is_plain (get_or text (place - 1) 0)) (is_plain (get_or text place 0)) meets in
    let c = get_or text place 0 in
    let plain : is_plain c ≡ true = both.1 in
    let early : c < 128 = grind (arith, nat_tests) in
    IsCharBoundary-before_ascii text place within early

-- a text has the clusters of all of it
pub clusters-whole : (text : List ℕ) → PartsClusters text (length text)
unfolding segments cut
clusters-whole text =
    sym (ap₂ (λ p q. clusters p ++ clusters q) (take_all (length text) text (omega arith)) (drop_all (length text) text (omega arith))
    ∙ ap (λ cs. clusters text ++ map encode_utf8_all (cut (is_grapheme_break true) [] cs [])) chars-nil
    ∙ append-nil (clusters text))

-- and none before its first character
pub clusters-none : (text : List ℕ) → PartsClusters text 0
unfolding segments cut
clusters-none text = sym (ap (λ cs. map encode_utf8_all (cut (is_grapheme_break true) [] cs []) ++ clusters text) chars-nil)

-- the same within the first bytes of a text
pub clusters-part_before : (text : List ℕ) (end place : ℕ) → IsUtf8 text → IsCharBoundary text end → 0 < place → place < end
    → meets_plain text place ≡ true → PartsClusters (take end text) place
clusters-part_before text end place u boundary some within meets =
    clusters-part (take end text) place (IsUtf8-take text end u boundary) some (omega (arith, length-take end text, boundary.0))
    (ap₂ (λ c d. is_plain c && is_plain d) (get_or-take end text (place - 1) 0 (omega arith)) (get_or-take end text place 0 within) ∙ meets)
