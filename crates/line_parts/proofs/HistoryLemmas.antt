-- The lines of a history: what is left of them, and what is found in them.
use Rattle.std.proofs.Common.{◌≡◌, ◌<◌, ◌≤◌, ℕ, suc, zero, ◌+◌, ◌-◌, ◌==◌, ◌||◌, Bool, true, false, true≢false, not, nat_lt, nat_le, bytes_eq, List, [], ◌∷◌, ◌++◌, length, map, drop, get_or, Option, Some, None, is_some, refl, sym, ap, ap₂, ◌∙◌, subst, arith, zero-add, lt_trans, lt_of_lt_of_le, length-append, length-drop, drop-cons, drop_of_length-le, not-suc-le-zero, eq-or-lt_of_le, ◌⊎◌, inl, inr, Global, String, string_bytes}
use Rattle.std.proofs.lemmas.List.{length-map, map-append, get_or-map}
use Rattle.std.proofs.lemmas.List.FromFn.{get_or-range_with_len, length-range_with_len}
use Rattle.std.proofs.lemmas.List.Sums.{position_or_len_is}
use Rattle.std.specs.List.{list_any, position_or_len, range_with_len}
use Rattle.line_parts.specs.History.{Found, HistoryRules, added, away, count_on_side, is_newest, last_of, least_below, leaves_out, line_at, nearest_match}
use Rattle.line_parts.specs.declared.history.SearchDirection.{SearchDirection}

-- ---- what is left of a list

map-drop : {X Y : Type 0} (f : X → Y) (n : ℕ) (xs : List X) → map f (drop n xs) ≡ drop n (map f xs)
map-drop f zero [] = refl
map-drop f zero (x ∷ xs) = refl
map-drop f (suc n) [] = refl
map-drop f (suc n) (x ∷ xs) = map-drop f n xs

drop_zero : {X : Type 0} (xs : List X) → drop 0 xs ≡ xs
drop_zero [] = refl
drop_zero (x ∷ xs) = refl

-- a list that is no longer than n is the last n of itself
pub last_of_short : {X : Type 0} (n : ℕ) (xs : List X) → length xs ≤ n → last_of n xs ≡ xs
last_of_short n xs h = let none : length xs - n ≡ 0 = omega (arith, h) in ap (λ k. drop k xs) none ∙ drop_zero xs

last_of_longer : {X : Type 0} (n : ℕ) (xs : List X) → length xs ≡ n + 1 → last_of n xs ≡ drop 1 xs
last_of_longer n xs h = let one : length xs - n ≡ 1 = omega (arith, h) in ap (λ k. drop k xs) one

-- the last of the values are the values of the last
pub last_of_values : {X Y : Type 0} (f : X → Y) (n : ℕ) (xs : List X) → map f (drop (length xs - n) xs) ≡ last_of n (map f xs)
last_of_values f n xs = map-drop f (length xs - n) xs ∙ ap (λ k. drop (k - n) (map f xs)) (sym (length-map xs f))

-- one value behind the others
map_pushed : {X Y : Type 0} (f : X → Y) (xs : List X) (x : X) → map f (xs ++ x ∷ []) ≡ map f xs ++ f x ∷ []
map_pushed f xs x = map-append f xs (x ∷ [])

length_pushed : {X Y : Type 0} (f : X → Y) (xs : List X) (x : X) → length (map f xs ++ f x ∷ []) ≡ length xs + 1
length_pushed f xs x = length-append (map f xs) (f x ∷ []) ∙ ap (λ k. k + 1) (length-map xs f)

pub pushed : (n : ℕ) (old new : List (String Global)) (line : String Global) → new ≡ old ++ line ∷ [] → length new ≤ n
    → map string_bytes new ≡ last_of n (map string_bytes old ++ string_bytes line ∷ [])
pushed n old new line e h =
    let len : length new ≡ length old + 1 = ap length e ∙ length-append old (line ∷ []) in
    let short : length (map string_bytes old ++ string_bytes line ∷ []) ≤ n = omega (arith, len, h, length_pushed string_bytes old line) in
    ap (map string_bytes) e ∙ map_pushed string_bytes old line ∙ sym (last_of_short n (map string_bytes old ++ string_bytes line ∷ []) short)

pub pushed_past : (n : ℕ) (old between new : List (String Global)) (line : String Global) → between ≡ old ++ line ∷ [] → new ≡ drop 1 between → length old ≤ n → n < length between
    → map string_bytes new ≡ last_of n (map string_bytes old ++ string_bytes line ∷ [])
pushed_past n old between new line e d h k =
    let len : length between ≡ length old + 1 = ap length e ∙ length-append old (line ∷ []) in
    let longer : length (map string_bytes old ++ string_bytes line ∷ []) ≡ n + 1 = omega (arith, len, h, k, length_pushed string_bytes old line) in
    ap (map string_bytes) (d ∙ ap (drop 1) e) ∙ map-drop string_bytes 1 (old ++ line ∷ []) ∙ ap (drop 1) (map_pushed string_bytes old line)
    ∙ sym (last_of_longer n (map string_bytes old ++ string_bytes line ∷ []) longer)

-- ---- the newest line

last_one : {X : Type 0} (xs : List X) (d : X) → 0 < length xs → last_of 1 xs ≡ get_or xs (length xs - 1) d ∷ []
last_one xs d h =
    let at : length xs - 1 < length xs = omega (arith, h) in
    let end : length xs ≤ suc (length xs - 1) = omega (arith, h) in
    drop-cons xs (length xs - 1) d at ∙ ap (λ ys. get_or xs (length xs - 1) d ∷ ys) (drop_of_length-le xs end)

or_false : (b : Bool) → (b || false) ≡ b
or_false true = refl
or_false false = refl

-- a line of the history, read from its text
pub line_is : (items : List (String Global)) (i : ℕ) (x : String Global) → i < length items → x ≡ get_or items i x → line_at (map string_bytes items) i ≡ string_bytes x
line_is items i x h e = get_or-map string_bytes items i x [] h ∙ ap string_bytes (sym e)

pub newest_is : (items : List (String Global)) (x : String Global) (line : List ℕ) → 0 < length items → x ≡ get_or items (length items - 1) x
    → is_newest (map string_bytes items) line ≡ bytes_eq line (string_bytes x)
newest_is items x line h e =
    let len : length (map string_bytes items) ≡ length items = length-map items string_bytes in
    let some : 0 < length (map string_bytes items) = omega (arith, h, len) in
    let before : length items - 1 < length items = omega (arith, h) in
    let last : last_of 1 (map string_bytes items) ≡ string_bytes x ∷ [] =
    last_one (map string_bytes items) [] some ∙ ap (λ k. get_or (map string_bytes items) (k - 1) [] ∷ []) len
    ∙ ap (λ y. y ∷ []) (line_is items (length items - 1) x before e) in
    ap (list_any (bytes_eq line)) last ∙ or_false (bytes_eq line (string_bytes x))

-- ---- the least number that passes

pub least_below_is : (bound i : ℕ) (passes : ℕ → Bool) → i < bound → ((k : ℕ) → k < i → passes k ≡ false) → passes i ≡ true → least_below bound passes ≡ Some i
least_below_is bound i passes h below here =
    let numbers : List ℕ = range_with_len 0 bound in
    let len : length numbers ≡ bound = length-range_with_len 0 bound in
    let number : (k : ℕ) → k < bound → get_or numbers k 0 ≡ k = λ k lt. get_or-range_with_len 0 bound k 0 lt ∙ zero-add k in
    let within : i ≤ length numbers = omega (arith, h, len) in
    let place : position_or_len passes numbers ≡ i =
    position_or_len_is passes numbers i 0 within (λ k lt. ap passes (number k (lt_trans lt h)) ∙ below k lt) (λ _. ap passes (number i h) ∙ here) in
    let lt : nat_lt i bound ≡ true = grind (arith, h) in
    rw (place, len, lt) refl

not_below_itself : (n : ℕ) → nat_lt n n ≡ false
not_below_itself n = grind arith

pub none_below : (bound : ℕ) (passes : ℕ → Bool) → ((k : ℕ) → k < bound → passes k ≡ false) → least_below bound passes ≡ None
none_below bound passes none =
    let numbers : List ℕ = range_with_len 0 bound in
    let len : length numbers ≡ bound = length-range_with_len 0 bound in
    let number : (k : ℕ) → k < bound → get_or numbers k 0 ≡ k = λ k lt. get_or-range_with_len 0 bound k 0 lt ∙ zero-add k in
    let within : bound ≤ length numbers = omega (arith, len) in
    let no : (k : ℕ) → k < bound → passes (get_or numbers k 0) ≡ false = λ k lt. ap passes (number k lt) ∙ none k lt in
    let past : bound < length numbers → passes (get_or numbers bound 0) ≡ true = λ lt. absurd (omega (arith, lt, len)) in
    let place : position_or_len passes numbers ≡ bound = position_or_len_is passes numbers bound 0 within no past in
    rw (place, len, not_below_itself bound) refl

-- ---- a line that is added

pub last_of_fits : {X : Type 0} (n : ℕ) (xs : List X) → length (last_of n xs) ≤ n
last_of_fits n xs = omega (arith, length-drop (length xs - n) xs)

pub added_fits : (rules : HistoryRules) (lines : List (List ℕ)) (line : List ℕ) → length lines ≤ rules.max_len → length (added rules lines line) ≤ rules.max_len
added_fits rules lines line h =
    let last : length (last_of rules.max_len (lines ++ line ∷ [])) ≤ rules.max_len = last_of_fits rules.max_len (lines ++ line ∷ []) in
    by (leaves_out rules lines line) refl last
  where
    by : (b : Bool) → leaves_out rules lines line ≡ b → length (last_of rules.max_len (lines ++ line ∷ [])) ≤ rules.max_len → length (added rules lines line) ≤ rules.max_len
    by true e last = rw e h
    by false e last = rw e last

pub added_left_out : (rules : HistoryRules) (lines : List (List ℕ)) (line : List ℕ) → false ≡ not (leaves_out rules lines line) → lines ≡ added rules lines line
added_left_out rules lines line e = by (leaves_out rules lines line) refl e
  where
    by : (b : Bool) → leaves_out rules lines line ≡ b → false ≡ not b → lines ≡ added rules lines line
    by true t e = rw t refl
    by false t e = absurd (true≢false (sym e))

-- ---- the nearest match

-- no line at a distance below this one has a place
abbrev pub NoneNearer : (List ℕ → List ℕ → Option ℕ) → List (List ℕ) → List ℕ → ℕ → SearchDirection → ℕ → Type 0
NoneNearer place lines term start dir distance = (k : ℕ) → k < distance → is_some (place term (line_at lines (away dir start k))) ≡ false

pub none_yet : (place : List ℕ → List ℕ → Option ℕ) (lines : List (List ℕ)) (term : List ℕ) (start : ℕ) (dir : SearchDirection) → NoneNearer place lines term start dir 0
none_yet place lines term start dir k lt = absurd (not-suc-le-zero lt)

pub not_here : (place : List ℕ → List ℕ → Option ℕ) (lines : List (List ℕ)) (term : List ℕ) (start : ℕ) (dir : SearchDirection) (distance : ℕ)
    → NoneNearer place lines term start dir distance → place term (line_at lines (away dir start distance)) ≡ None → NoneNearer place lines term start dir (distance + 1)
not_here place lines term start dir distance none here k lt = by (eq-or-lt_of_le (omega (arith, lt)))
  where
    by : (k ≡ distance) ⊎ (k < distance) → is_some (place term (line_at lines (away dir start k))) ≡ false
    by (inl e) = ap (λ d. is_some (place term (line_at lines (away dir start d)))) e ∙ ap is_some here
    by (inr l) = none k l

-- the entry of the queue at a distance
pub line_away : (items : List (String Global)) (start distance index : ℕ) (dir : SearchDirection) (x : String Global) (text : List ℕ) → index ≡ away dir start distance
    → index < length items → x ≡ get_or items index x → text ≡ string_bytes x → line_at (map string_bytes items) (away dir start distance) ≡ text
line_away items start distance index dir x text at within e t =
    ap (line_at (map string_bytes items)) (sym at) ∙ line_is items index x within e ∙ sym t

pub match_here : (place : List ℕ → List ℕ → Option ℕ) (lines : List (List ℕ)) (term : List ℕ) (start : ℕ) (dir : SearchDirection) (distance pos : ℕ)
    → 0 < length term → start < length lines → distance < count_on_side dir (length lines) start → NoneNearer place lines term start dir distance
    → place term (line_at lines (away dir start distance)) ≡ Some pos
    → nearest_match place lines term start dir ≡ Some (record { entry = line_at lines (away dir start distance); index = away dir start distance; pos = pos })
match_here place lines term start dir distance pos some within side none here =
    let empty : (length term == 0) ≡ false = grind (arith, some) in
    let past : nat_le (length lines) start ≡ false = grind (arith, within) in
    let least : least_below (count_on_side dir (length lines) start) (λ d. is_some (place term (line_at lines (away dir start d)))) ≡ Some distance =
    least_below_is (count_on_side dir (length lines) start) distance (λ d. is_some (place term (line_at lines (away dir start d)))) side none (ap is_some here) in
    rw (empty, past, least, here) refl

pub match_nowhere : (place : List ℕ → List ℕ → Option ℕ) (lines : List (List ℕ)) (term : List ℕ) (start : ℕ) (dir : SearchDirection)
    → NoneNearer place lines term start dir (count_on_side dir (length lines) start) → nearest_match place lines term start dir ≡ None
match_nowhere place lines term start dir none =
    let least : least_below (count_on_side dir (length lines) start) (λ d. is_some (place term (line_at lines (away dir start d)))) ≡ None =
    none_below (count_on_side dir (length lines) start) (λ d. is_some (place term (line_at lines (away dir start d)))) none in
    by (length term == 0 || nat_le (length lines) start) refl least
  where
    by : (b : Bool) → (length term == 0 || nat_le (length lines) start) ≡ b
        → least_below (count_on_side dir (length lines) start) (λ d. is_some (place term (line_at lines (away dir start d)))) ≡ None
        → nearest_match place lines term start dir ≡ None
    by true e least = rw e refl
    by false e least = rw (e, least) refl

-- the same of the entries of a queue

side_of : (items : List (String Global)) (start : ℕ) (dir : SearchDirection) → count_on_side dir (length (map string_bytes items)) start ≡ count_on_side dir (length items) start
side_of items start dir = ap (λ n. count_on_side dir n start) (length-map items string_bytes)

pub found_away : (place : List ℕ → List ℕ → Option ℕ) (items : List (String Global)) (term : List ℕ) (start : ℕ) (dir : SearchDirection) (count distance index pos : ℕ) (text : List ℕ)
    → 0 < length term → start < length items → count ≡ count_on_side dir (length items) start → distance < count
    → NoneNearer place (map string_bytes items) term start dir distance → index ≡ away dir start distance
    → line_at (map string_bytes items) (away dir start distance) ≡ text → place term text ≡ Some pos
    → Some (record { entry = text; index = index; pos = pos }) ≡ nearest_match place (map string_bytes items) term start dir
found_away place items term start dir count distance index pos text some within side near none at line here =
    let lines : List (List ℕ) = map string_bytes items in
    let inside : start < length lines = subst (λ n. start < n) (sym (length-map items string_bytes)) within in
    let reach : distance < count_on_side dir (length lines) start = subst (λ n. distance < n) (side ∙ sym (side_of items start dir)) near in
    let found : place term (line_at lines (away dir start distance)) ≡ Some pos = ap (place term) line ∙ here in
    let same : Found = record { entry = text; index = index; pos = pos } in
    ap₂ (λ e i. Some (record same { entry = e; index = i })) (sym line) at ∙ sym (match_here place lines term start dir distance pos some inside reach none found)

pub found_nowhere : (place : List ℕ → List ℕ → Option ℕ) (items : List (String Global)) (term : List ℕ) (start : ℕ) (dir : SearchDirection) (count distance : ℕ)
    → count ≡ count_on_side dir (length items) start → count ≤ distance → NoneNearer place (map string_bytes items) term start dir distance
    → None ≡ nearest_match place (map string_bytes items) term start dir
found_nowhere place items term start dir count distance side far none =
    let far_enough : count_on_side dir (length (map string_bytes items)) start ≤ distance = subst (λ n. n ≤ distance) (side ∙ sym (side_of items start dir)) far in
    sym (match_nowhere place (map string_bytes items) term start dir (λ k lt. none k (lt_of_lt_of_le lt far_enough)))
