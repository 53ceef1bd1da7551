-- Facts on counts.
use Rattle.std.proofs.Common.{◌≡◌, refl, sym, ◌∙◌, ap, arith, subst, ℕ, ◌+◌, ◌*◌, ◌<◌, ◌≤◌, Bool, true, false, cond, if◌then◌else◌, nat_le, nat_lt, List, [], ◌∷◌, ◌++◌, map, Option, Some, None}
use Rattle.std.specs.Prelude.{find, unwrap_or}
use Rattle.std.specs.Option.{option_or}
use Rattle.std.proofs.lemmas.List.{map-append}
use Rattle.std.proofs.lemmas.List.Elements.{filter_map-append}
use Rattle.std.proofs.lemmas.List.Folds.{find-append}
use Rattle.std.proofs.lemmas.List.Sums.{fold-append}
use Rattle.std.proofs.lemmas.Bool.Decides.{nat_tests}
use Rattle.line_keys.specs.Count.{IsCountOf, beginnings, digit_of, digits_of, magnitude, number_of, decimal_value}
use Rattle.line_keys.specs.declared.count.TypedCount.{TypedCount}
use Rattle.std.specs.List.{cons_option}
use Rattle.std.proofs.lemmas.List.{append-nil}
use Rattle.line_keys.specs.declared.keys.KeyEvent.{KeyEvent}

-- the beginnings of a list with one more element are those of the list, and the whole
beginnings-append : (xs : List ℕ) (x : ℕ) → beginnings (xs ++ x ∷ []) ≡ beginnings xs ++ ((xs ++ x ∷ []) ∷ [])
beginnings-append [] x = refl
beginnings-append (y ∷ ys) x =
    ap (λ z. [] ∷ map (λ b. y ∷ b) z) (beginnings-append ys x)
    ∙ ap (λ z. [] ∷ z) (map-append (λ b. y ∷ b) (beginnings ys) ((ys ++ x ∷ []) ∷ []))

-- what the beginnings of a list write
abbrev pub readings : List ℕ → List ℕ
readings digits = map decimal_value (beginnings digits)

-- whether a number is at least 1000
abbrev pub is_large : ℕ → Bool
is_large number = nat_le 1000 number

readings-append : (ds : List ℕ) (d : ℕ) → readings (ds ++ d ∷ []) ≡ readings ds ++ (decimal_value (ds ++ d ∷ []) ∷ [])
readings-append ds d = ap (λ z. map decimal_value z) (beginnings-append ds d) ∙ map-append decimal_value (beginnings ds) ((ds ++ d ∷ []) ∷ [])

-- a digit more writes ten times the number, and the digit
decimal_value-append : (ds : List ℕ) (d : ℕ) → decimal_value (ds ++ d ∷ []) ≡ decimal_value ds * 10 + d
decimal_value-append ds d = fold-append (λ number digit. number * 10 + digit) 0 ds (d ∷ [])

-- where nothing behind an element is found, it fails
none-fails : (b : Bool) (x : ℕ) → cond b (Some x) None ≡ None → b ≡ false
none-fails true x e = absurd (cc)
none-fails false x e = refl

-- and what comes behind it is not found
rest-none : (b : Bool) (x : ℕ) (rest : Option ℕ) → cond b (Some x) rest ≡ None → rest ≡ None
rest-none true x rest e = absurd (cc)
rest-none false x rest e = e

-- one map behind another
map-over : (f : List ℕ → ℕ) (y : ℕ) (xs : List (List ℕ)) → map f (map (λ b. y ∷ b) xs) ≡ map (λ b. f (y ∷ b)) xs
map-over f y [] = refl
map-over f y (x ∷ xs) = ap (λ z. f (y ∷ x) ∷ z) (map-over f y xs)

-- where no beginning gives a large number, the whole does not
whole-fails : (f : List ℕ → ℕ) (xs : List ℕ) → find is_large (map f (beginnings xs)) ≡ None → is_large (f xs) ≡ false
whole-fails f [] e = none-fails (is_large (f [])) (f []) e
whole-fails f (y ∷ ys) e =
    let behind = rest-none (is_large (f [])) (f []) (find is_large (map f (map (λ b. y ∷ b) (beginnings ys)))) e in
    whole-fails (λ b. f (y ∷ b)) ys (sym (ap (λ z. find is_large z) (map-over f y (beginnings ys))) ∙ behind)

-- a number that is found or else stands in is that number
found-or-own : (b : Bool) (x : ℕ) → unwrap_or (cond b (Some x) None) x ≡ x
found-or-own true x = refl
found-or-own false x = refl

-- what is found is large
first-large : (b : Bool) (x m : ℕ) (rest : Option ℕ) → is_large x ≡ b → (rest ≡ Some m → is_large m ≡ true)
    → cond b (Some x) rest ≡ Some m → is_large m ≡ true
first-large true x m rest is later e =
    let same : x ≡ m = cc in
    subst (λ z. is_large z ≡ true) same is
first-large false x m rest is later e = later e

found-large : (xs : List ℕ) (m : ℕ) → find is_large xs ≡ Some m → is_large m ≡ true
found-large [] m e = absurd (cc)
found-large (x ∷ xs) m e = first-large (is_large x) x m (find is_large xs) refl (found-large xs m) e

-- the number with a digit more: ten times the number and the digit, while it is below 1000
with-found : (found : Option ℕ) (ds : List ℕ) (d : ℕ) → find is_large (readings ds) ≡ found
    → magnitude (ds ++ d ∷ []) ≡ (if nat_lt (magnitude ds) 1000 then magnitude ds * 10 + d else magnitude ds)
with-found (Some m) ds d e =
    let before : magnitude ds ≡ m = ap (λ o. unwrap_or o (decimal_value ds)) e in
    let behind : find is_large (readings (ds ++ d ∷ [])) ≡ Some m =
    ap (λ z. find is_large z) (readings-append ds d) ∙ find-append is_large (readings ds) (decimal_value (ds ++ d ∷ []) ∷ [])
    ∙ ap (λ o. option_or o (find is_large (decimal_value (ds ++ d ∷ []) ∷ []))) e in
    let after : magnitude (ds ++ d ∷ []) ≡ m = ap (λ o. unwrap_or o (decimal_value (ds ++ d ∷ []))) behind in
    let large : nat_le 1000 m ≡ true = found-large (readings ds) m e in
    let small : nat_lt m 1000 ≡ false = grind (arith, nat_tests) in
    after ∙ sym (ap (λ n. if nat_lt n 1000 then n * 10 + d else n) before ∙ ap (λ b. if b then m * 10 + d else m) small)
with-found None ds d e =
    let before : magnitude ds ≡ decimal_value ds = ap (λ o. unwrap_or o (decimal_value ds)) e in
    let fails : is_large (decimal_value ds) ≡ false = whole-fails decimal_value ds e in
    let small : nat_lt (decimal_value ds) 1000 ≡ true = grind (arith, nat_tests) in
    let behind : find is_large (readings (ds ++ d ∷ [])) ≡ find is_large (decimal_value (ds ++ d ∷ []) ∷ []) =
    ap (λ z. find is_large z) (readings-append ds d) ∙ find-append is_large (readings ds) (decimal_value (ds ++ d ∷ []) ∷ [])
    ∙ ap (λ o. option_or o (find is_large (decimal_value (ds ++ d ∷ []) ∷ []))) e in
    let after : magnitude (ds ++ d ∷ []) ≡ decimal_value (ds ++ d ∷ []) =
    ap (λ o. unwrap_or o (decimal_value (ds ++ d ∷ []))) behind ∙ found-or-own (is_large (decimal_value (ds ++ d ∷ []))) (decimal_value (ds ++ d ∷ [])) in
    after ∙ decimal_value-append ds d
    ∙ sym (ap (λ n. if nat_lt n 1000 then n * 10 + d else n) before ∙ ap (λ b. if b then decimal_value ds * 10 + d else decimal_value ds) small)

pub magnitude-append : (ds : List ℕ) (d : ℕ)
    → magnitude (ds ++ d ∷ []) ≡ (if nat_lt (magnitude ds) 1000 then magnitude ds * 10 + d else magnitude ds)
magnitude-append ds d = with-found (find is_large (readings ds)) ds d refl

-- a first digit is the number
pub digit-first : (digits : List ℕ) (d : ℕ) → None ≡ number_of digits → Some d ≡ number_of (digits ++ d ∷ [])
digit-first [] d e =
    let alone : 0 * 10 + d ≡ d = omega (arith) in
    ap (λ n. Some n) (sym (magnitude-append [] d ∙ alone))
digit-first (x ∷ xs) d e = absurd (cc)

-- a digit behind a number below 1000, and behind a greater one
pub digit-more : (digits : List ℕ) (n d : ℕ) → n < 1000 → Some n ≡ number_of digits → Some (n * 10 + d) ≡ number_of (digits ++ d ∷ [])
digit-more [] n d less e = absurd (cc)
digit-more (x ∷ xs) n d less e =
    let same : n ≡ magnitude (x ∷ xs) = cc in
    let small : nat_lt n 1000 ≡ true = grind (arith, nat_tests) in
    ap (λ k. Some k) (sym (magnitude-append (x ∷ xs) d ∙ ap (λ k. if nat_lt k 1000 then k * 10 + d else k) (sym same) ∙ ap (λ b. if b then n * 10 + d else n) small))

pub digit-over : (digits : List ℕ) (n d : ℕ) → 1000 ≤ n → Some n ≡ number_of digits → Some n ≡ number_of (digits ++ d ∷ [])
digit-over [] n d more e = absurd (cc)
digit-over (x ∷ xs) n d more e =
    let same : n ≡ magnitude (x ∷ xs) = cc in
    let large : nat_lt n 1000 ≡ false = grind (arith, nat_tests) in
    ap (λ k. Some k) (sym (magnitude-append (x ∷ xs) d ∙ ap (λ k. if nat_lt k 1000 then k * 10 + d else k) (sym same) ∙ ap (λ b. if b then n * 10 + d else n) large))

-- the digits of a key that is none
pub no-digit : (digits : List ℕ) (k : KeyEvent) → digit_of k ≡ None → digits ++ digits_of (k ∷ []) ≡ digits
no-digit digits k e = ap (λ o. digits ++ cons_option o []) e ∙ append-nil digits

-- the digits of a key that is one
pub one-digit : (digits : List ℕ) (k : KeyEvent) (d : ℕ) → digit_of k ≡ Some d → digits ++ digits_of (k ∷ []) ≡ digits ++ d ∷ []
one-digit digits k d e = ap (λ o. digits ++ cons_option o []) e

-- a count that is being read, with a key more
pub count-pushed : (typed typed' : TypedCount) (keys : List KeyEvent) (k : KeyEvent) → typed'.negative ≡ typed.negative
    → ((digits : List ℕ) → typed.number ≡ number_of digits → typed'.number ≡ number_of (digits ++ digits_of (k ∷ [])))
    → IsCountOf typed keys → IsCountOf typed' (keys ++ k ∷ [])
count-pushed typed typed' [] k sign number is = absurd is
count-pushed typed typed' (first ∷ more) k sign number is =
    (sign ∙ is.0, number (digits_of (first ∷ more)) is.1 ∙ sym (ap (λ ds. number_of ds) (filter_map-append digit_of (first ∷ more) (k ∷ []))))
