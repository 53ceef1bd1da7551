-- Where the columns of a text are those before a place and those from it.
use Rattle.std.proofs.Common.{◌≡◌, ◌≢◌, ◌⊎◌, inl, inr, ℕ, zero, suc, ◌+◌, ◌≤◌, Bool, true, false, not, cond, ◌&&◌, ◌||◌, ◌==◌, nat_le, List, [], ◌∷◌, ◌++◌, length, Option, Some, None, refl, sym, ap, ◌∙◌, arith, append-nil, zero-add}
use Rattle.std.specs.Int.{is_in_range}
use Rattle.std.specs.List.{list_all, list_any}
use Rattle.std.specs.Prelude.{replicate}
use Rattle.std.proofs.lemmas.Bool.Decides.{nat_tests}
use Rattle.std.proofs.lemmas.Bool.{and_left, and_parts, and_right, cond_both, eqb-true, not-true, or_parts}
use Rattle.ucd_table.specs.Rows.{Range, in_ranges}
use Rattle.ucd_table.proofs.Stepped.{of_ranges, zip_stepped}
use Rattle.ucd_table.proofs.Facts.{Stepped-everywhere}
use Rattle.line_buffer.specs.Width.{BeginsAnew}
use Rattle.line_buffer.specs.declared.seams.TheConstants.{LETTERS}
use Rattle.unicode_width.specs.Kind.{kind, is_ligature_transparent, is_text_presentation_base}
use Rattle.unicode_width.specs.Width.{before, plain, of_kind, alone, joins, before_alef, before_joiner, first_of, in_emoji, in_ligature, in_tags, is_emoji, is_emoji_modifier_base, is_indicator, is_lam, is_tag_digit, is_tag_letter, is_tifinagh, Reading, added, joined_or, skips_marks, if_kept, is_line_feed, is_quote, is_plain, past_selectors, in_context, past_emoji, step, read_before, str_width}
use Rattle.unicode_width.specs.declared.kind.Kind.{Kind}
use Rattle.unicode_width.specs.declared.kind.Kind.TheVariants as kinds
use Rattle.unicode_width.specs.declared.state.After.{After}
use Rattle.unicode_width.specs.declared.state.After.TheVariants.{Nothing, LineFeed, EmojiModifier, RegionalIndicator, RegionalIndicators, Emoji, ZwjEmoji, KeycapZwjEmoji, IndicatorZwj, EvenIndicatorsZwj, OddIndicatorsZwj, TagEnd, TagDigit1, TagDigit2, TagDigit3, TagLetter1, TagLetter2, TagLetter3, TagLetter4, TagLetter5, TagLetter6, KiratE, KiratAi, Alef, Solidus, SolidusAlef, Lamed, ZwjLamed, Ya, ZwjYa, VowelZwjYa, Tifinagh, ZwjTifinagh, JoinerTifinagh, LisuTone, OrkhonI, ZwjOrkhonI, KhmerLetter}
use Rattle.unicode_width.specs.declared.state.State.{State}
use Rattle.unicode_width.specs.declared.state.Change.{Change}
use Rattle.unicode_width.specs.declared.state.Change.TheVariants.{Same}
use Rattle.unicode_width.proofs.Computing.{unicode_width}
use Rattle.unicode_width.proofs.KindLemmas.{kind_stepped, is_ligature_transparent_stepped}
use Rattle.unicode_width.proofs.Rules.{str_width-append_simple, str_width-printable, is_simple}
use Rattle.unicode_width.proofs.WidthLemmas.{read_before-printable}

-- characters that take one column or two by themselves
abbrev pub is_visible : Kind → Bool
is_visible kinds.Narrow = true
is_visible kinds.Wide = true
is_visible kinds.Ambiguous = true
is_visible kinds.Emoji = true
is_visible _ = false

abbrev letters : List Range
letters = LETTERS

letters_visible : (c : ℕ) → (not (in_ranges letters c) || (is_visible (kind c) && not (is_ligature_transparent c))) ≡ true
unfolding unicode_width
letters_visible =
    Stepped-everywhere (λ c. not (in_ranges letters c) || (is_visible (kind c) && not (is_ligature_transparent c)))
    (zip_stepped (λ l v. not l || v) (in_ranges letters) (λ c. is_visible (kind c) && not (is_ligature_transparent c))
    (of_ranges letters refl)
    (zip_stepped (λ k t. is_visible k && not t) kind is_ligature_transparent kind_stepped is_ligature_transparent_stepped))
    refl

-- the characters that read what follows them, or leave more than an emoji for what precedes them
abbrev joining : List Range
joining =
    (0x0A, 0x0A) ∷ (0x1A17, 0x1A17) ∷ (0x200D, 0x200D) ∷ (0x20E3, 0x20E3) ∷ (0x2D7F, 0x2D7F) ∷ (0xFE00, 0xFE0F)
    ∷ (0x16D67, 0x16D68) ∷ (0x1F1E6, 0x1F1FF) ∷ (0x1F3FB, 0x1F3FF) ∷ (0xE0030, 0xE007F)
    ∷ []

letters_apart : (c : ℕ) → (not (in_ranges letters c) || not (in_ranges joining c)) ≡ true
unfolding unicode_width
letters_apart =
    Stepped-everywhere (λ c. not (in_ranges letters c) || not (in_ranges joining c))
    (zip_stepped (λ l j. not l || not j) (in_ranges letters) (in_ranges joining) (of_ranges letters refl) (of_ranges joining refl))
    refl

-- ---- what a letter leaves for the character before it

abbrev is_settled : After → Bool
is_settled Nothing = true
is_settled Emoji = true
is_settled _ = false

abbrev settles : Option (Change × After) → Bool
settles None = true
settles (Some j) = is_settled j.1

-- the state in which only a joiner can join what follows
abbrev Settled : State → Type 0
Settled s = (s ≡ plain) ⊎ (s ≡ before Emoji)

Settled-before : (after : After) → is_settled after ≡ true → Settled (before after)
Settled-before Nothing h = inl refl
Settled-before LineFeed h = cc
Settled-before EmojiModifier h = cc
Settled-before RegionalIndicator h = cc
Settled-before RegionalIndicators h = cc
Settled-before Emoji h = inr refl
Settled-before ZwjEmoji h = cc
Settled-before KeycapZwjEmoji h = cc
Settled-before IndicatorZwj h = cc
Settled-before EvenIndicatorsZwj h = cc
Settled-before OddIndicatorsZwj h = cc
Settled-before TagEnd h = cc
Settled-before TagDigit1 h = cc
Settled-before TagDigit2 h = cc
Settled-before TagDigit3 h = cc
Settled-before TagLetter1 h = cc
Settled-before TagLetter2 h = cc
Settled-before TagLetter3 h = cc
Settled-before TagLetter4 h = cc
Settled-before TagLetter5 h = cc
Settled-before TagLetter6 h = cc
Settled-before KiratE h = cc
Settled-before KiratAi h = cc
Settled-before Alef h = cc
Settled-before Solidus h = cc
Settled-before SolidusAlef h = cc
Settled-before Lamed h = cc
Settled-before ZwjLamed h = cc
Settled-before Ya h = cc
Settled-before ZwjYa h = cc
Settled-before VowelZwjYa h = cc
Settled-before Tifinagh h = cc
Settled-before ZwjTifinagh h = cc
Settled-before JoinerTifinagh h = cc
Settled-before LisuTone h = cc
Settled-before OrkhonI h = cc
Settled-before ZwjOrkhonI h = cc
Settled-before KhmerLetter h = cc

Settled-of_kind : (c : ℕ) (k : Kind) → is_visible k ≡ true → Settled (of_kind false c k).1
Settled-of_kind c kinds.Zero h = cc
Settled-of_kind c kinds.Narrow h = inl refl
Settled-of_kind c kinds.Wide h = inl refl
Settled-of_kind c kinds.Ambiguous h = inl refl
Settled-of_kind c kinds.Alef h = cc
Settled-of_kind c kinds.KhmerLetter h = cc
Settled-of_kind c kinds.TifinaghConsonant h = cc
Settled-of_kind c kinds.LisuTone h = cc
Settled-of_kind c kinds.RegionalIndicator h = cc
Settled-of_kind c kinds.EmojiModifier h = cc
Settled-of_kind c kinds.Emoji h = inr refl
Settled-of_kind c kinds.Single h = cc

some_columns : (c : ℕ) (k : Kind) → is_visible k ≡ true → ((of_kind false c k).0 == 0) ≡ false
some_columns c kinds.Zero h = cc
some_columns c kinds.Narrow h = refl
some_columns c kinds.Wide h = refl
some_columns c kinds.Ambiguous h = refl
some_columns c kinds.Alef h = cc
some_columns c kinds.KhmerLetter h = cc
some_columns c kinds.TifinaghConsonant h = cc
some_columns c kinds.LisuTone h = cc
some_columns c kinds.RegionalIndicator h = cc
some_columns c kinds.EmojiModifier h = cc
some_columns c kinds.Emoji h = refl
some_columns c kinds.Single h = cc

-- the tests of what joins, none of which a letter passes
record Apart (c : ℕ) : Type 0 where
  line_feed : (c == 0x0A) ≡ false
  ya : (c == 0x1A17) ≡ false
  joiner : (c == 0x200D) ≡ false
  keycap : (c == 0x20E3) ≡ false
  tifinagh : (c == 0x2D7F) ≡ false
  selector : is_in_range 0xFE00 0xFE0F c ≡ false
  kirat : is_in_range 0x16D67 0x16D68 c ≡ false
  indicator : is_indicator c ≡ false
  modifier : is_in_range 0x1F3FB 0x1F3FF c ≡ false
  tag : is_in_range 0xE0030 0xE007F c ≡ false

-- a range that lies in another
within-not : (a b x y c : ℕ) → a ≤ x → y ≤ b → is_in_range a b c ≡ false → is_in_range x y c ≡ false
within-not a b x y c low high h = grind (arith, nat_tests)

-- a number of a range
one-not : (a b n c : ℕ) → a ≤ n → n ≤ b → is_in_range a b c ≡ false → (c == n) ≡ false
one-not a b n c low high h = grind (arith, nat_tests)

equal-not : (n c : ℕ) → is_in_range n n c ≡ false → (c == n) ≡ false
equal-not n c h = one-not n n n c (omega arith) (omega arith) h

Apart-outside : (c : ℕ) → in_ranges joining c ≡ false → Apart c
unfolding in_ranges
Apart-outside c h =
    let from_ya = or_parts _ _ (or_parts _ _ h).1 in
    let from_joiner = or_parts _ _ from_ya.1 in
    let from_keycap = or_parts _ _ from_joiner.1 in
    let from_tifinagh = or_parts _ _ from_keycap.1 in
    let from_selector = or_parts _ _ from_tifinagh.1 in
    let from_kirat = or_parts _ _ from_selector.1 in
    let from_indicator = or_parts _ _ from_kirat.1 in
    let from_modifier = or_parts _ _ from_indicator.1 in
    record {
      line_feed = equal-not 0x0A c (or_parts _ _ h).0;
      ya = equal-not 0x1A17 c from_ya.0;
      joiner = equal-not 0x200D c from_joiner.0;
      keycap = equal-not 0x20E3 c from_keycap.0;
      tifinagh = equal-not 0x2D7F c from_tifinagh.0;
      selector = from_selector.0;
      kirat = from_kirat.0;
      indicator = from_indicator.0;
      modifier = from_modifier.0;
      tag = (or_parts _ _ from_modifier.1).0;
    }

-- what settles on either side of a test does so behind it
settles-cond : (b : Bool) (x y : Option (Change × After)) → settles x ≡ true → settles y ≡ true → settles (cond b x y) ≡ true
settles-cond true x y h i = h
settles-cond false x y h i = i

settles-unless : (b : Bool) (x y : Option (Change × After)) → b ≡ false → settles y ≡ true → settles (cond b x y) ≡ true
settles-unless true x y e h = cc
settles-unless false x y e h = h

settles-first : (x y : Option (Change × After)) → settles x ≡ true → settles y ≡ true → settles (first_of x y) ≡ true
settles-first None y h i = i
settles-first (Some j) y h i = h

settles-ligature : (after : After) (c : ℕ) → Apart c → settles (in_ligature after c) ≡ true
settles-ligature ZwjLamed c l = settles-cond (c == 0x05D0) _ _ refl refl
settles-ligature KhmerLetter c l = settles-cond (c == 0x17D2) _ _ refl refl
settles-ligature ZwjYa c l = settles-unless (c == 0x1A17) _ _ l.ya refl
settles-ligature VowelZwjYa c l = settles-cond (c == 0x1A15) _ _ refl refl
settles-ligature Tifinagh c l = settles-unless (c == 0x2D7F) _ _ l.tifinagh refl
settles-ligature ZwjTifinagh c l = settles-unless (c == 0x2D7F) _ _ l.tifinagh (settles-cond (is_tifinagh c) _ _ refl refl)
settles-ligature JoinerTifinagh c l = settles-cond (is_tifinagh c) _ _ refl refl
settles-ligature LisuTone c l = settles-cond (is_in_range 0xA4F8 0xA4FB c) _ _ refl refl
settles-ligature ZwjOrkhonI c l = settles-cond (c == 0x10C32) _ _ refl refl
settles-ligature KiratE c l =
    settles-cond (c == 0x16D63) _ _ refl
    (settles-unless (c == 0x16D67) _ _ (one-not 0x16D67 0x16D68 0x16D67 c (omega arith) (omega arith) l.kirat)
    (settles-unless (c == 0x16D68) _ _ (one-not 0x16D67 0x16D68 0x16D68 c (omega arith) (omega arith) l.kirat)
    (settles-cond (c == 0x16D69) _ _ refl refl)))
settles-ligature KiratAi c l = settles-cond (c == 0x16D63) _ _ refl refl
settles-ligature _ c l = refl

settles-emoji : (after : After) (c : ℕ) → Apart c → settles (in_emoji after c) ≡ true
settles-emoji RegionalIndicator c l = settles-unless (is_indicator c) _ _ l.indicator refl
settles-emoji RegionalIndicators c l = settles-unless (is_indicator c) _ _ l.indicator (settles-unless (c == 0x200D) _ _ l.joiner refl)
settles-emoji Emoji c l = settles-unless (c == 0x200D) _ _ l.joiner refl
settles-emoji IndicatorZwj c l = settles-unless (is_indicator c) _ _ l.indicator refl
settles-emoji EvenIndicatorsZwj c l = settles-unless (c == 0x200D) _ _ l.joiner (settles-unless (is_indicator c) _ _ l.indicator refl)
settles-emoji OddIndicatorsZwj c l = settles-unless (c == 0x200D) _ _ l.joiner (settles-unless (is_indicator c) _ _ l.indicator refl)
settles-emoji _ c l = refl

no_tag : (c : ℕ) → Apart c → (is_tag_letter c ≡ false) × (is_tag_digit c ≡ false)
no_tag c l = (
  within-not 0xE0030 0xE007F 0xE0061 0xE007A c (omega arith) (omega arith) l.tag,
  within-not 0xE0030 0xE007F 0xE0030 0xE0039 c (omega arith) (omega arith) l.tag,
)

-- where neither a letter nor a digit of a tag stands
settles-no_tag : (c : ℕ) (x y z : Option (Change × After)) → Apart c → settles z ≡ true → settles (cond (is_tag_letter c) x (cond (is_tag_digit c) y z)) ≡ true
settles-no_tag c x y z l h = settles-unless (is_tag_letter c) _ _ (no_tag c l).0 (settles-unless (is_tag_digit c) _ _ (no_tag c l).1 h)

settles-tags : (after : After) (c : ℕ) → Apart c → settles (in_tags after c) ≡ true
settles-tags TagEnd c l = settles-no_tag c _ _ _ l refl
settles-tags TagLetter1 c l = settles-no_tag c _ _ _ l refl
settles-tags TagLetter2 c l = settles-no_tag c _ _ _ l refl
settles-tags TagLetter3 c l = settles-no_tag c _ _ _ l (settles-cond (c == 0x1F3F4) _ _ refl refl)
settles-tags TagLetter4 c l = settles-no_tag c _ _ _ l (settles-cond (c == 0x1F3F4) _ _ refl refl)
settles-tags TagLetter5 c l = settles-unless (is_tag_letter c) _ _ (no_tag c l).0 (settles-cond (c == 0x1F3F4) _ _ refl refl)
settles-tags TagLetter6 c l = settles-cond (c == 0x1F3F4) _ _ refl refl
settles-tags TagDigit1 c l = settles-unless (is_tag_digit c) _ _ (no_tag c l).1 refl
settles-tags TagDigit2 c l = settles-unless (is_tag_digit c) _ _ (no_tag c l).1 refl
settles-tags TagDigit3 c l = settles-cond (c == 0x1F3F4) _ _ refl refl
settles-tags _ c l = refl

settles-joiner : (c : ℕ) → Apart c → settles (before_joiner c) ≡ true
settles-joiner c l =
    settles-unless (c == 0x20E3) _ _ l.keycap
    (settles-unless (is_indicator c) _ _ l.indicator
    (settles-unless (is_in_range 0x1F3FB 0x1F3FF c) _ _ l.modifier
    (settles-unless (c == 0xE007F) _ _ (one-not 0xE0030 0xE007F 0xE007F c (omega arith) (omega arith) l.tag)
    (settles-cond (is_emoji (kind c)) _ _ refl refl))))

settles-alef : (c : ℕ) → ((alone false c).0 == 0) ≡ false → settles (before_alef false c) ≡ true
unfolding before_alef
settles-alef c w = settles-cond (is_lam c) _ _ refl (settles-unless _ _ _ (and_left _ _ w) refl)

joins-settles : (after : After) (c : ℕ) → Apart c → ((alone false c).0 == 0) ≡ false → settles (joins false after c) ≡ true
unfolding joins
joins-settles Alef c l w = settles-alef c w
joins-settles SolidusAlef c l w = refl
joins-settles EmojiModifier c l w = settles-cond (is_emoji_modifier_base c) _ _ refl (settles-unless (c == 0x200D) _ _ l.joiner refl)
joins-settles ZwjEmoji c l w = settles-joiner c l
joins-settles after c l w =
    settles-first (in_ligature after c) (first_of (in_emoji after c) (in_tags after c)) (settles-ligature after c l)
    (settles-first (in_emoji after c) (in_tags after c) (settles-emoji after c l) (settles-tags after c l))

-- a character past the controls that is a letter
record Letter (c : ℕ) : Type 0 where
  visible : is_visible (kind c) ≡ true
  solid : is_ligature_transparent c ≡ false
  apart : Apart c

abbrev LeavesSettled : Reading → Type 0
LeavesSettled r = Settled r.1

settled-cond : (b : Bool) (x y : Reading) → (b ≡ true → LeavesSettled x) → LeavesSettled y → LeavesSettled (cond b x y)
settled-cond true x y p q = p refl
settled-cond false x y p q = q

settled-unless : (b : Bool) (x y : Reading) → b ≡ false → LeavesSettled y → LeavesSettled (cond b x y)
settled-unless true x y e q = cc
settled-unless false x y e q = q

settled-when : (b : Bool) (x y : Reading) → b ≡ true → LeavesSettled x → LeavesSettled (cond b x y)
settled-when true x y e q = q
settled-when false x y e q = cc

settled-joined : (total : ℕ) (j : Option (Change × After)) (own : ℕ × State) → settles j ≡ true → Settled own.1 → LeavesSettled (joined_or total j own)
settled-joined total None own h p = p
settled-joined total (Some (change, next)) own h p = Settled-before next h

Settled-alone : (c : ℕ) → Letter c → Settled (alone false c).1
unfolding alone
Settled-alone c l = Settled-of_kind c (kind c) l.visible

has_columns : (c : ℕ) → Letter c → ((alone false c).0 == 0) ≡ false
unfolding alone
has_columns c l = some_columns c (kind c) l.visible

settled-past_selectors : (c total : ℕ) (after : After) → Letter c → LeavesSettled (past_selectors false c total after)
unfolding past_selectors
settled-past_selectors c total after l =
    settled-unless (skips_marks after && (c == 0x200D)) _ _ (and_right _ _ l.apart.joiner)
    (settled-unless (skips_marks after && is_ligature_transparent c) _ _ (and_right _ _ l.solid)
    (settled-joined total (joins false after c) (alone false c) (joins-settles after c l.apart (has_columns c l)) (Settled-alone c l)))

settled-in_context : (c total : ℕ) (s : State) → Letter c → LeavesSettled (in_context false c total s)
unfolding in_context
settled-in_context c total s l =
    let selector : (n : ℕ) → 0xFE00 ≤ n → n ≤ 0xFE0F → (c == n) ≡ false = λ n low high. one-not 0xFE00 0xFE0F n c low high l.apart.selector in
    settled-unless (c == 0xFE0F) _ _ (selector 0xFE0F (omega arith) (omega arith))
    (settled-unless (c == 0xFE01) _ _ (selector 0xFE01 (omega arith) (omega arith))
    (settled-unless (c == 0xFE0E) _ _ (selector 0xFE0E (omega arith) (omega arith))
    (settled-cond (s.text && is_text_presentation_base c) _ _ (λ _. inl refl)
    (settled-cond (s.quote && is_quote c) _ _ (λ _. inl refl) (settled-past_selectors c total s.after l)))))

-- a control character or one of ASCII, or a letter past them
abbrev Starts : ℕ → Type 0
Starts c = (nat_le c 0xA0 ≡ true) ⊎ Letter c

settled-high : (c total : ℕ) (s : State) → Starts c → LeavesSettled (cond (nat_le c 0xA0) (total + 1, plain) (cond (is_plain s) (added total (alone false c)) (in_context false c total s)))
settled-high c total s (inl low) = settled-when (nat_le c 0xA0) _ _ low (inl refl)
settled-high c total s (inr l) =
    settled-cond (nat_le c 0xA0) _ _ (λ _. inl refl)
    (settled-cond (is_plain s) _ _ (λ _. Settled-alone c l) (settled-in_context c total s l))

settled-past_emoji : (c total : ℕ) (s : State) → (c == 0x0A) ≡ false → Starts c → LeavesSettled (past_emoji false c total s)
unfolding past_emoji
settled-past_emoji c total s h starts =
    settled-unless (c == 0x0A) _ _ h
    (settled-cond ((c == 0x0D) && is_line_feed s.after) _ _ (λ _. inl refl) (settled-high c total s starts))

settled-step : (c : ℕ) (r : Reading) → (c == 0x0A) ≡ false → Starts c → LeavesSettled (step false c r)
unfolding step
settled-step c (total, s) h starts =
    settled-cond (not s.emoji) _ _ (λ _. settled-past_emoji c total s h starts)
    (settled-cond _ _ _ (λ _. inr refl)
    (settled-past_emoji c total (record (if_kept s) { emoji = false }) h starts))

-- ---- where two texts meet

emoji_selector : alone false 0xFE0F ≡ (0, record plain { emoji = true })
unfolding unicode_width
emoji_selector = refl

quote_selector : alone false 0xFE01 ≡ (0, record plain { quote = true })
unfolding unicode_width
quote_selector = refl

text_selector : alone false 0xFE0E ≡ (0, record plain { text = true })
unfolding unicode_width
text_selector = refl

-- a character that is no joiner takes its own columns before an emoji
own-before_emoji : (a total : ℕ) → (a == 0x200D) ≡ false → in_context false a total (before Emoji) ≡ added total (alone false a)
unfolding in_context past_selectors joins
own-before_emoji a total h =
    let own : Reading → Type 0 = λ r. r ≡ added total (alone false a) in
    let none : total + 0 ≡ total = omega arith in
    let of_selector : (n : ℕ) (s : State) → alone false n ≡ (0, s) → (a == n) ≡ true → own (total, s) =
    λ n s is e. sym (ap (λ x. added total (alone false x)) (eqb-true a n e) ∙ ap (added total) is ∙ ap (λ (m : ℕ). (m, s)) none) in
    cond_both (a == 0xFE0F) _ _ own (of_selector 0xFE0F _ emoji_selector)
    (λ _. cond_both (a == 0xFE01) _ _ own (of_selector 0xFE01 _ quote_selector)
    (λ _. cond_both (a == 0xFE0E) _ _ own (of_selector 0xFE0E _ text_selector)
    (λ _. ap (λ b. joined_or total (first_of None (first_of (cond b (Some (Same, ZwjEmoji)) None) None)) (alone false a)) h)))

step-before_emoji : (a total : ℕ) → (a == 0x200D) ≡ false → step false a (total, before Emoji) ≡ step false a (total, plain)
unfolding step past_emoji
step-before_emoji a total h =
    ap (λ r. cond (a == 0x0A) (total + 1, before LineFeed) (cond ((a == 0x0D) && false) (total, plain) (cond (nat_le a 0xA0) (total + 1, plain) r)))
    (own-before_emoji a total h)

step-settled : (a total : ℕ) (s : State) → (a == 0x200D) ≡ false → Settled s → step false a (total, s) ≡ step false a (total, plain)
step-settled a total s h (inl e) = ap (λ x. step false a (total, x)) e
step-settled a total s h (inr e) = ap (λ x. step false a (total, x)) e ∙ step-before_emoji a total h

pub read-append : (xs ys : List ℕ) (r : Reading) → read_before false (xs ++ ys) r ≡ read_before false xs (read_before false ys r)
read-append [] ys r = refl
read-append (x ∷ xs) ys r = ap (step false x) (read-append xs ys r)

abbrev spaces : ℕ → List ℕ
spaces n = replicate n 0x20

printable_spaces : (n : ℕ) → list_all (is_in_range 0x20 0x7E) (spaces n) ≡ true
printable_spaces zero = refl
printable_spaces (suc n) = printable_spaces n

simple_spaces : (n : ℕ) → list_all is_simple (spaces n) ≡ true
simple_spaces zero = refl
simple_spaces (suc n) = simple_spaces n

length-spaces : (n : ℕ) → length (spaces n) ≡ n
length-spaces zero = refl
length-spaces (suc n) = ap suc (length-spaces n)

read_spaces : (n : ℕ) → read_before false (spaces n) (0, plain) ≡ (n, plain)
read_spaces n =
    ap (λ l. read_before false l (0, plain)) (sym (append-nil (spaces n)))
    ∙ sym (read_before-printable false (spaces n) [] 0 (printable_spaces n) refl)
    ∙ ap (λ m. (m, plain)) (zero-add (length (spaces n)) ∙ length-spaces n)

-- what is read from a number of columns on adds to it
pub read_from : (xs : List ℕ) (n : ℕ) → (read_before false xs (n, plain)).0 ≡ str_width false xs + n
unfolding str_width
read_from xs n =
    ap (λ r. (read_before false xs r).0) (sym (read_spaces n)) ∙ ap (λ r. r.0) (sym (read-append xs (spaces n) (0, plain)))
    ∙ str_width-append_simple false xs (spaces n) (simple_spaces n)
    ∙ ap (λ m. str_width false xs + m) (str_width-printable false (spaces n) (printable_spaces n) ∙ length-spaces n)

str_width-meet : (front behind : List ℕ) (a c : ℕ) → (a == 0x200D) ≡ false → (c == 0x0A) ≡ false → Starts c
    → str_width false ((front ++ a ∷ []) ++ c ∷ behind) ≡ str_width false (front ++ a ∷ []) + str_width false (c ∷ behind)
unfolding str_width
str_width-meet front behind a c h n starts =
    let r = step false c (read_before false behind (0, plain)) in
    let settled = settled-step c (read_before false behind (0, plain)) n starts in
    ap (λ x. x.0) (read-append (front ++ a ∷ []) (c ∷ behind) (0, plain) ∙ read-append front (a ∷ []) r
    ∙ ap (read_before false front) (step-settled a r.0 r.1 h settled) ∙ sym (read-append front (a ∷ []) (r.0, plain)))
    ∙ read_from (front ++ a ∷ []) r.0

pub implied : (a b : Bool) → (not a || b) ≡ true → a ≡ true → b ≡ true
implied true b h e = h
implied false b h e = cc

letter : (c : ℕ) → in_ranges letters c ≡ true → Letter c
letter c h =
    let seen = and_parts (is_visible (kind c)) (not (is_ligature_transparent c)) (implied (in_ranges letters c) _ (letters_visible c) h) in
    record {
      visible = seen.0;
      solid = not-true (is_ligature_transparent c) seen.1;
      apart = Apart-outside c (not-true (in_ranges joining c) (implied (in_ranges letters c) _ (letters_apart c) h));
    }

any_range : (c : ℕ) → in_ranges letters c ≡ list_any (λ range. nat_le range.0 c && nat_le c range.1) LETTERS
unfolding in_ranges
any_range c = refl

pub letter_begins_anew : (c : ℕ) → list_any (λ range. nat_le range.0 c && nat_le c range.1) LETTERS ≡ true → BeginsAnew c
letter_begins_anew c h = λ front behind before j.
    let l = letter c (any_range c ∙ h) in str_width-meet front behind before c j l.apart.line_feed (inr l)

pub low_begins_anew : (c : ℕ) → c ≤ 0xA0 → c ≢ 0x0A → BeginsAnew c
low_begins_anew c low other = λ front behind before j. str_width-meet front behind before c j (grind (arith, nat_tests)) (inl (grind (arith, nat_tests)))
