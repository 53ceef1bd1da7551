-- What pauses settle.
use Rattle.std.proofs.Common.{◌≡◌, refl, sym, ◌∙◌, ap, ap₂, subst, arith, ℕ, zero, suc, ◌+◌, ◌<◌, ◌≤◌, Bool, true, false, List, [], ◌∷◌, length, map, ◌==◌, ◌||◌, not, if◌then◌else◌, nat_lt}
use Rattle.std.specs.Prelude.{encode_utf8_all}
use Rattle.std.specs.Char.{encode_utf8}
use Rattle.std.specs.Str.{all_scalars}
use Rattle.std.proofs.lemmas.Bool.{and_parts}
use Rattle.std.proofs.lemmas.Bool.Decides.{nat_tests}
use Rattle.line_keys.specs.Item.{key}
use Rattle.line_keys.specs.Key.{event, event_of}
use Rattle.line_keys.specs.declared.keys.KeyCode.TheVariants.{Esc}
use Rattle.line_keys.specs.declared.keys.TheConstants.Modifiers.{NONE}
use Rattle.line_screen.specs.KeyQueue.{Queued}
use Rattle.line_term.specs.Begun.{cut, ends_before, gives, goes_on_as_text, lasts, leads_to, opening_step, char_step, waits}
use Rattle.line_term.specs.Decoder.{Enqueues, DecoderState, after_pauses, begins_no_char, cut_char, flushed, followed_by, given_turn, is_waiting, items_of, leaves, longest_silence, read, read_char, settle, settled_all, waited}
use Rattle.line_term.specs.DecoderLaws.{FlushSettles, SilenceSettles, TextIsTypedAfterSilence, has_no_escape}
use Rattle.line_term.specs.Sequence.{cut_off}
use Rattle.line_term.specs.declared.begun.Begun.{Begun}
use Rattle.line_term.specs.declared.begun.Begun.TheVariants.{Nothing, Escape, Opening, Device}
use Rattle.line_term.specs.declared.begun.Begun.TheVariants as begun
use Rattle.line_term.specs.declared.begun.Step.{Step}
use Rattle.line_term.specs.declared.sequence.Given.TheVariants.{Key}
use Rattle.line_term.proofs.BackLemmas.{and_false, begun_next, cut_has_none, next, none_by_length, settled_by}
use Rattle.line_term.proofs.ReadingLemmas.{pieces, reads_char}
use Rattle.line_term.proofs.TypingLemmas.{is_false, typed, types_one}

-- ---- what does not last

-- what ends before a character leaves nothing that lasts, unless it did
pub brief_cut : (b : Begun) (c : ℕ) → ends_before b c ≡ true → lasts b ≡ false → lasts (cut b c).begun ≡ false
brief_cut (begun.Sequence s) c ends brief = by_escape (c == 27) where
  by_escape : (escape : Bool)
      → lasts (if escape then gives Nothing (cut_off s) else gives (begun.Sequence (record s { alt = false })) (Key (event Esc NONE))).begun ≡ false
  by_escape true = refl
  by_escape false = brief
brief_cut (Opening sign) c ends brief = refl
brief_cut (Device escape) c ends brief = refl
brief_cut Nothing c ends brief = refl
brief_cut (Escape twice) c ends brief = refl
brief_cut _ c ends brief = absurd (cc)

-- the same, where a character was not read to its end
pub brief_cut_by : (b : Begun) (given : Step) (c : ℕ) (old middle new : DecoderState) (before between : Queued) → old.begun ≡ b → given ≡ cut b c
    → true ≡ ends_before b c → Enqueues (given_turn given old) middle before between → new.begun ≡ middle.begun → lasts old.begun ≡ false → lasts new.begun ≡ false
brief_cut_by b given c old middle new before between is cuts ends first same brief =
    ap lasts (same ∙ ap (λ s. s.begun) first.left ∙ ap (λ t. t.begun) cuts) ∙ brief_cut b c (sym ends) (ap lasts (sym is) ∙ brief)

no_text : (sign : ℕ) → goes_on_as_text sign 0xFFFD ≡ false
no_text sign = by_sign (sign == 93) (sign == 95) where
  by_sign : (a b : Bool) → (if a then false else if b then false else false) ≡ false
  by_sign true b = refl
  by_sign false true = refl
  by_sign false false = refl

-- U+FFFD leaves nothing that lasts
gone : (b : Begun) → lasts b ≡ false → lasts (next 0xFFFD b) ≡ false
gone Nothing brief = refl
gone (Escape true) brief = refl
gone (Escape false) brief = refl
gone (begun.Sequence s) brief =
    ap (λ x. lasts (if x then (char_step (cut (begun.Sequence s) 0xFFFD).begun 0xFFFD).begun else Nothing)) (and_false s.alt)
gone (Opening sign) brief = ap (λ x. lasts (if not x then Nothing else (opening_step sign 0xFFFD).begun)) (no_text sign)
gone (Device true) brief = refl
gone (Device false) brief = refl
gone _ brief = absurd (cc)

cut_gone : (s : DecoderState) → lasts s.begun ≡ false → lasts (cut_char s).after.begun ≡ false
cut_gone s brief = by_length (length s.pending == 0) where
  by_length : (b : Bool) → lasts (if b then leaves s else begins_no_char (read_char 0xFFFD s)).after.begun ≡ false
  by_length true = brief
  by_length false = ap lasts (begun_next 0xFFFD s) ∙ gone s.begun brief

is_true : (b : Bool) → not b ≡ false → b ≡ true
is_true true e = refl
is_true false e = absurd (cc)

-- and a pause
settled_over : (u : DecoderState) (b : Begun) → u.begun ≡ b → lasts b ≡ false → (settle u).after.begun ≡ Nothing
settled_over u b e brief =
    subst (λ v. (settle v).after.begun ≡ Nothing) (sym (ap {A = Begun} (λ x. record u { begun = x }) e)) (by_begun b brief)
  where
    by_begun : (x : Begun) → lasts x ≡ false → (settle (record u { begun = x })).after.begun ≡ Nothing
    by_begun Nothing h = refl
    by_begun (Escape true) h = refl
    by_begun (Escape false) h = refl
    by_begun (begun.Sequence s) h =
        ap (λ x. (given_turn (if x then gives Nothing (cut_off s) else leads_to (begun.Sequence s)) (record u { begun = begun.Sequence s })).after.begun)
        (is_true s.bare h)
    by_begun (Opening sign) h = refl
    by_begun (Device true) h = refl
    by_begun (Device false) h = refl
    by_begun _ h = absurd (cc)

-- no byte of a character is left, and nothing has begun
abbrev pub IsOver : DecoderState → Type 0
IsOver s = (s.begun ≡ Nothing) × (s.pending ≡ [])

all_over : (s : DecoderState) → lasts s.begun ≡ false → IsOver (settled_all s).after
all_over s brief =
    let u = (cut_char s).after in
    let none = ap (λ bs. length bs == 0) (settled_by u u.begun refl).1 ∙ cut_has_none s in
    (settled_over u u.begun refl (cut_gone s brief), none_by_length (settled_all s).after.pending none)

brief_over : (s : DecoderState) → lasts s.begun ≡ false → IsOver (flushed s).after
brief_over s brief = subst (λ b. IsOver (if b then waited s else settled_all s).after) (sym brief) (all_over s brief)

waits_not : (s : DecoderState) → IsOver s → is_waiting s ≡ false
waits_not s over = ap₂ (λ bs b. not (length bs == 0) || waits b) over.1 over.0

pub flush_settles : FlushSettles
flush_settles s brief = waits_not (flushed s).after (brief_over s brief)

-- ---- pause after pause

over_is : (s : DecoderState) → IsOver s → s ≡ record s { pending = []; begun = Nothing }
over_is s over = ap₂ (λ p b. record s { pending = p; begun = b }) over.1 over.0

stays_at : (n : ℕ) (t : DecoderState) → let u = record t { pending = []; begun = Nothing } in after_pauses n u ≡ u
unfolding after_pauses
stays_at zero t = refl
stays_at (suc n) t = stays_at n t

stays : (n : ℕ) (s : DecoderState) → IsOver s → IsOver (after_pauses n s)
stays n s over =
    let u = record s { pending = []; begun = Nothing } in
    let same = ap (after_pauses n) (over_is s over) ∙ stays_at n s in
    (ap (λ v. v.begun) same, ap (λ v. v.pending) same)

-- one more pause, and the others
one_more : (n : ℕ) (s : DecoderState) → after_pauses (suc n) s ≡ after_pauses n (flushed s).after
unfolding after_pauses
one_more n s = refl

-- a pause in what lasts is counted, or ends it
paused : (n : ℕ) (s : DecoderState) → lasts s.begun ≡ true
    → (s.pauses + 1 < longest_silence → IsOver (after_pauses n (record s { pasted = []; pauses = s.pauses + 1 }))) → IsOver (after_pauses (suc n) s)
paused n s long others =
    subst IsOver (sym (one_more n s ∙ ap (λ b. after_pauses n (if b then waited s else settled_all s).after) long))
    (by_count (nat_lt (s.pauses + 1) longest_silence) refl)
  where
    by_count : (b : Bool) → nat_lt (s.pauses + 1) longest_silence ≡ b
        → IsOver (after_pauses n (if b then record s { pasted = []; pauses = s.pauses + 1 } else record s { pasted = []; pending = []; begun = Nothing; pauses = 0 }))
    by_count true e = others (grind (arith, nat_tests))
    by_count false e = stays n (record s { pasted = []; pending = []; begun = Nothing; pauses = 0 }) (refl, refl)

-- what lasts has ended after the last one
lasting : (n : ℕ) (s : DecoderState) → lasts s.begun ≡ true → longest_silence ≤ s.pauses + suc n → IsOver (after_pauses (suc n) s)
lasting zero s long enough = paused zero s long (λ few. absurd (omega arith))
lasting (suc n) s long enough =
    paused (suc n) s long (λ few. lasting n (record s { pasted = []; pauses = s.pauses + 1 }) long (omega arith))

silent : (s : DecoderState) → IsOver (after_pauses longest_silence s)
silent s = by_lasting (lasts s.begun) refl where
  by_lasting : (b : Bool) → lasts s.begun ≡ b → IsOver (after_pauses longest_silence s)
  by_lasting true long = lasting 19 s long (omega arith)
  by_lasting false brief = subst IsOver (sym (one_more 19 s)) (stays 19 (flushed s).after (brief_over s brief))

pub silence_settles : SilenceSettles
silence_settles s = waits_not (after_pauses longest_silence s) (silent s)

-- ---- typed then

typed_from : (t : DecoderState) (cs : List ℕ) → all_scalars cs ≡ true → has_no_escape cs ≡ true
    → items_of (record t { pending = []; begun = Nothing }) (encode_utf8_all cs) ≡ map (λ c. key (event_of c NONE)) cs
unfolding read
typed_from t [] scalars none = refl
typed_from t (c ∷ cs) scalars none =
    let u = record t { pending = []; begun = Nothing } in
    let parts = and_parts _ _ scalars in
    let others = and_parts _ _ none in
    let one = reads_char c parts.0 u ∙ types_one t c (is_false (c == 27) others.0) in
    ap (λ v. v.items) (pieces u (encode_utf8 c) (encode_utf8_all cs) ∙ ap (λ v. followed_by v (λ w. read w (encode_utf8_all cs))) one)
    ∙ ap (λ v. key (event_of c NONE) ∷ v.items) (typed t cs parts.1 others.1)

pub text_is_typed_after_silence : TextIsTypedAfterSilence
text_is_typed_after_silence s cs scalars none =
    let u = after_pauses longest_silence s in
    ap (λ v. items_of v (encode_utf8_all cs)) (over_is u (silent s)) ∙ typed_from u cs scalars none
