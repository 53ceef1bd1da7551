-- What texts begin with in common.
use Rattle.std.proofs.Common.{◌≡◌, ◌≢◌, ℕ, suc, ◌+◌, ◌-◌, ◌<◌, ◌≤◌, true, false, List, [], ◌∷◌, ◌++◌, length, take, drop, Option, Some, None, refl, sym, ap, ◌∙◌, subst, arith, append_assoc, append-nil, length-append, map, get_or, slice_range, eqb}
use lib.Utf8.{encodes, encode}
use Rattle.std.specs.List.{AllByRecursion}
use Rattle.std.specs.Str.{IsCharBoundary, IsUtf8}
use Rattle.std.proofs.lemmas.List.{length-drop, length-map, map-append, take-append-drop, take-append-le, take_more}
use Rattle.std.proofs.Math.Seq.{take-append_seam}
use Rattle.std.proofs.lemmas.Str.{IsCharBoundary-at_seam, IsCharBoundary-from_take, IsUtf8-append, IsUtf8-drop, IsUtf8-encode, encode_same, len_utf8_bounds, length-encode}
use Rattle.line_parts.proofs.WordLemmas.{next_char}
use Rattle.line_parts.specs.Prefix.{BeginsWith, IsCommonStart, IsLongestCommon, some_text}

-- two texts that begin alike, up to what is left of both
pub record BeginAlike (one other one_rest other_rest : List ℕ) : Type 0 where
  pub start : List ℕ
  pub utf8 : IsUtf8 start
  pub one_is : one ≡ start ++ one_rest
  pub other_is : other ≡ start ++ other_rest
  pub one_utf8 : IsUtf8 one_rest
  pub other_utf8 : IsUtf8 other_rest

pub alike_more : (c : ℕ) (one other rest other_rest behind more : List ℕ) → BeginAlike one other rest other_rest → rest ≡ encode c ++ behind → other_rest ≡ encode c ++ more
    → IsUtf8 behind → IsUtf8 more → BeginAlike one other behind more
alike_more c one other rest other_rest behind more so is is_more utf8 good =
    let next = next_char c rest behind so.one_utf8 is in
    record {
      start = so.start ++ encode c;
      utf8 = IsUtf8-append so.start (encode c) so.utf8 (IsUtf8-encode c next.1);
      one_is = so.one_is ∙ ap (λ t. so.start ++ t) is ∙ sym (append_assoc so.start (encode c) behind);
      other_is = so.other_is ∙ ap (λ t. so.start ++ t) is_more ∙ sym (append_assoc so.start (encode c) more);
      one_utf8 = utf8;
      other_utf8 = good;
    }

-- a beginning that is no longer than another begins that
begins_longer : (text short long p q : List ℕ) → text ≡ short ++ p → text ≡ long ++ q → length short ≤ length long → long ≡ short ++ drop (length short) long
begins_longer text short long p q is also le =
    let front : take (length short) long ≡ short =
    sym (take-append-le (length short) long q le) ∙ ap (take (length short)) (sym also ∙ is) ∙ take-append_seam short p in
    sym (take-append-drop (length short) long) ∙ ap (λ t. t ++ drop (length short) long) front

same_behind : (front xs ys : List ℕ) → front ++ xs ≡ front ++ ys → xs ≡ ys
same_behind [] xs ys same = same
same_behind (c ∷ front) xs ys same = same_behind front xs ys (let rest : front ++ xs ≡ front ++ ys = cc in rest)

some_char : (text : List ℕ) → IsUtf8 text → 0 < length text → (c : ℕ) × (behind : List ℕ) × (text ≡ encode c ++ behind)
some_char text utf8 some = first utf8.0 (utf8.1.1) where
  first : (cs : List ℕ) → encodes cs ≡ text → (c : ℕ) × (behind : List ℕ) × (text ≡ encode c ++ behind)
  first [] is = absurd (omega (arith, some, ap length is))
  first (c ∷ cs) is = (c, encodes cs, sym is)

no_longer : (one other rest other_rest : List ℕ) (so : BeginAlike one other rest other_rest)
    → ((c : ℕ) (behind more : List ℕ) → rest ≡ encode c ++ behind → other_rest ≡ encode c ++ more → ⊥)
    → (long p q : List ℕ) → IsUtf8 long → one ≡ long ++ p → other ≡ long ++ q → length so.start < length long → ⊥
no_longer one other rest other_rest so differ long p q utf8 is is_other lt =
    let start = so.start in
    let y = drop (length start) long in
    let split : long ≡ start ++ y = begins_longer one start long rest p so.one_is is (omega (arith, lt)) in
    let front : take (length start) long ≡ start = ap (take (length start)) split ∙ take-append_seam start y in
    let boundary = IsCharBoundary-from_take long (length start) utf8 (omega (arith, lt)) (subst IsUtf8 (sym front) so.utf8) in
    let good : IsUtf8 y = IsUtf8-drop long (length start) utf8 boundary in
    let some : 0 < length y = omega (arith, lt, length-drop (length start) long) in
    let c = some_char y good some in
    let one_more : rest ≡ y ++ p =
    same_behind start rest (y ++ p) (sym so.one_is ∙ is ∙ ap (λ t. t ++ p) split ∙ append_assoc start y p) in
    let other_more : other_rest ≡ y ++ q =
    same_behind start other_rest (y ++ q) (sym so.other_is ∙ is_other ∙ ap (λ t. t ++ q) split ∙ append_assoc start y q) in
    differ c.0 (c.1 ++ p) (c.1 ++ q)
    (one_more ∙ ap (λ t. t ++ p) c.2 ∙ append_assoc (encode c.0) c.1 p)
    (other_more ∙ ap (λ t. t ++ q) c.2 ∙ append_assoc (encode c.0) c.1 q)

not_longer : (m n : ℕ) → (m < n → ⊥) → n ≤ m
not_longer m n h = grind arith

-- where the next characters differ, what two texts begin with in common ends
pub longest_here : (one other rest other_rest start : List ℕ) (so : BeginAlike one other rest other_rest)
    → ((c : ℕ) (behind more : List ℕ) → rest ≡ encode c ++ behind → other_rest ≡ encode c ++ more → ⊥)
    → start ≡ so.start → IsLongestCommon (one ∷ other ∷ []) start
longest_here one other rest other_rest start so differ same =
    subst (IsLongestCommon (one ∷ other ∷ [])) (sym same) (record {
      whole = so.utf8;
      common = ((rest, so.one_is), ((other_rest, so.other_is), tt));
      longest = λ long utf8 all. not_longer (length so.start) (length long)
          (no_longer one other rest other_rest so differ long all.0.0 all.1.0.0 utf8 all.0.1 all.1.0.1);
    })

-- how long it is
pub start_length : (one other rest other_rest : List ℕ) (so : BeginAlike one other rest other_rest) → take (length one - length rest) one ≡ so.start
start_length one other rest other_rest so =
    let at : length one - length rest ≡ length so.start = omega (arith, ap length so.one_is, length-append so.start rest) in
    ap (λ n. take n one) at ∙ ap (take (length so.start)) so.one_is ∙ take-append_seam so.start rest

pub start_boundary : (one other rest other_rest : List ℕ) → BeginAlike one other rest other_rest → IsCharBoundary one (length one - length rest)
start_boundary one other rest other_rest so =
    let at : length so.start ≡ length one - length rest = omega (arith, ap length so.one_is, length-append so.start rest) in
    subst (IsCharBoundary one) at (IsCharBoundary-at_seam one so.start rest so.one_is so.one_utf8)

All-more : (P : List ℕ → Type 0) (xs : List (List ℕ)) (x : List ℕ) → AllByRecursion P xs → P x → AllByRecursion P (xs ++ x ∷ [])
All-more P [] x all here = (here, tt)
All-more P (y ∷ xs) x all here = (all.0, All-more P xs x all.1 here)

All-fewer : (P : List ℕ → Type 0) (xs : List (List ℕ)) (x : List ℕ) → AllByRecursion P (xs ++ x ∷ []) → AllByRecursion P xs × P x
All-fewer P [] x all = (tt, all.0)
All-fewer P (y ∷ xs) x all = let rest = All-fewer P xs x all.1 in ((all.0, rest.0), rest.1)

All-each : (P Q : List ℕ → Type 0) (xs : List (List ℕ)) → ((x : List ℕ) → P x → Q x) → AllByRecursion P xs → AllByRecursion Q xs
All-each P Q [] f all = tt
All-each P Q (x ∷ xs) f all = (f x all.0, All-each P Q xs f all.1)

-- one more text
pub longest_of_more : (text : List ℕ) (texts : List (List ℕ)) (other common shorter : List ℕ) → IsLongestCommon (text ∷ texts) common
    → IsLongestCommon (common ∷ other ∷ []) shorter → IsLongestCommon (text ∷ (texts ++ other ∷ [])) shorter
longest_of_more text texts other common shorter so more =
    let begins : BeginsWith shorter common = more.common.0 in
    let onward : (t : List ℕ) → BeginsWith common t → BeginsWith shorter t =
    λ t h. (begins.0 ++ h.0, h.1 ∙ ap (λ s. s ++ h.0) begins.1 ∙ append_assoc shorter begins.0 h.0) in
    record {
      whole = more.whole;
      common = All-more (BeginsWith shorter) (text ∷ texts) other (All-each (BeginsWith common) (BeginsWith shorter) (text ∷ texts) onward so.common) more.common.1.0;
      longest = λ long utf8 all.
          let parts = All-fewer (BeginsWith long) (text ∷ texts) other all in
          let le : length long ≤ length common = so.longest long utf8 parts.0 in
          more.longest long utf8 ((drop (length long) common, begins_longer text long common parts.0.0.0 so.common.0.0 parts.0.0.1 so.common.0.1 le), (parts.1, tt));
    }

pub none_in_common : (texts : List (List ℕ)) → texts ≡ [] → IsCommonStart texts None
none_in_common texts none = subst (λ ts. IsCommonStart ts None) (sym none) refl

pub only_text : (texts : List (List ℕ)) (text : List ℕ) → texts ≡ text ∷ [] → IsCommonStart texts (Some text)
only_text texts text is = subst (λ ts. IsCommonStart ts (Some text)) (sym is) refl

pub in_common : (texts more : List (List ℕ)) (text common : List ℕ) (answer : Option (List ℕ)) → texts ≡ text ∷ more → 0 < length more → IsLongestCommon (text ∷ more) common
    → answer ≡ some_text common → IsCommonStart texts answer
in_common texts more text common answer is some so same = subst (λ ts. IsCommonStart ts answer) (sym is) (by more some so) where
  by : (others : List (List ℕ)) → 0 < length others → IsLongestCommon (text ∷ others) common → IsCommonStart (text ∷ others) answer
  by [] lt longest = absurd (omega (arith, lt))
  by (other ∷ others) lt longest = (common, longest, same)

-- where one text is empty, or the first characters differ
pub none_alike : (c : ℕ) (text behind : List ℕ) → text ≡ [] → text ≡ encode c ++ behind → ⊥
none_alike c text behind none is = absurd (omega (arith, ap length (sym none ∙ is), length-append (encode c) behind, length-encode c, len_utf8_bounds c))

pub other_first : (c d e : ℕ) (one other rest other_rest behind more : List ℕ) → one ≡ encode c ++ rest → other ≡ encode d ++ other_rest → c ≢ d
    → one ≡ encode e ++ behind → other ≡ encode e ++ more → ⊥
other_first c d e one other rest other_rest behind more is is_other differ one_is other_is =
    differ ((encode_same c e rest behind (sym is ∙ one_is)).0 ∙ sym (encode_same d e other_rest more (sym is_other ∙ other_is)).0)

pub start_range : (one other rest other_rest : List ℕ) (so : BeginAlike one other rest other_rest) → slice_range one 0 (length one - length rest) ≡ so.start
start_range one other rest other_rest so =
    ap (λ t. take ((length one - length rest) - 0) t) (whole one) ∙ ap (λ n. take n one) (same (length one - length rest)) ∙ start_length one other rest other_rest so
  where
    whole : (t : List ℕ) → drop 0 t ≡ t
    whole [] = refl
    whole (c ∷ cs) = refl

    same : (n : ℕ) → n - 0 ≡ n
    same n = omega arith

pub longest_step : {X : Type 0} (f : X → List ℕ) (first : List ℕ) (xs : List X) (i : ℕ) (x : X) (common shorter text : List ℕ) → i < length xs → x ≡ get_or xs i x → text ≡ f x
    → IsLongestCommon (first ∷ map f (take i xs)) common → IsLongestCommon (common ∷ text ∷ []) shorter → IsLongestCommon (first ∷ map f (take (i + 1) xs)) shorter
longest_step f first xs i x common shorter text within here is so more =
    let grown : map f (take (i + 1) xs) ≡ map f (take i xs) ++ text ∷ [] =
    ap (map f) (take_more xs i x within) ∙ map-append f (take i xs) (get_or xs i x ∷ []) ∙ ap (λ y. map f (take i xs) ++ y ∷ []) (ap f (sym here) ∙ sym is) in
    subst (λ ts. IsLongestCommon (first ∷ ts) shorter) (sym grown) (longest_of_more first (map f (take i xs)) text common shorter so more)

module _ {X : Type 0} (f : X → List ℕ) (xs : List X) where
  pub no_texts : length xs ≡ 0 → IsCommonStart (map f xs) None
  no_texts none = none_in_common (map f xs) (ap (map f) (nothing xs none)) where
    nothing : (ys : List X) → length ys ≡ 0 → ys ≡ []
    nothing [] h = refl
    nothing (y ∷ ys) h = absurd (omega (arith, h))

  pub one_text : (x : X) (others : List X) (text : List ℕ) → xs ≡ x ∷ others → eqb (length others) 0 ≡ true → text ≡ f x → IsCommonStart (map f xs) (Some text)
  one_text x others text is none same = only_text (map f xs) text (ap (map f) is ∙ by others none) where
    by : (ys : List X) → eqb (length ys) 0 ≡ true → map f (x ∷ ys) ≡ text ∷ []
    by [] h = ap (λ t. t ∷ []) (sym same)
    by (y ∷ ys) h = absurd (bad (length ys) h) where
      bad : (n : ℕ) → eqb (suc n) 0 ≡ true → ⊥
      bad n h = grind arith

  pub common_text : (x : X) (others : List X) (text common : List ℕ) (answer : Option (List ℕ)) → xs ≡ x ∷ others → eqb (length others) 0 ≡ false → text ≡ f x
      → IsLongestCommon (text ∷ map f others) common → answer ≡ some_text common → IsCommonStart (map f xs) answer
  common_text x others text common answer is some same longest said =
      in_common (map f xs) (map f others) text common answer (ap (map f) is ∙ ap (λ t. t ∷ map f others) (sym same))
      (omega (arith, length-map others f, positive (length others) some)) longest said
    where
      positive : (n : ℕ) → eqb n 0 ≡ false → 0 < n
      positive n h = grind arith

same_length : (xs ys p : List ℕ) → ys ≡ xs ++ p → length ys ≤ length xs → xs ≡ ys
same_length xs ys [] is le = sym (is ∙ append-nil xs)
same_length xs ys (c ∷ p) is le = absurd (omega (arith, le, ap length is, length-append xs (c ∷ p)))

-- texts have one common start
pub one_common : (texts : List (List ℕ)) (one other : Option (List ℕ)) → IsCommonStart texts one → IsCommonStart texts other → one ≡ other
one_common [] one other a b = a ∙ sym b
one_common (text ∷ []) one other a b = a ∙ sym b
one_common (text ∷ next ∷ more) one other a b =
    let x = a.1 in
    let y = b.1 in
    let le : length a.0 ≤ length b.0 = y.longest a.0 x.whole x.common in
    let ge : length b.0 ≤ length a.0 = x.longest b.0 y.whole y.common in
    let is = begins_longer text a.0 b.0 x.common.0.0 y.common.0.0 x.common.0.1 y.common.0.1 le in
    a.2 ∙ ap some_text (same_length a.0 b.0 (drop (length a.0) b.0) is ge) ∙ sym b.2
