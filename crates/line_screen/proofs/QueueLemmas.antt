-- What a queue's list of items comes to where it is read or appended to.
use Rattle.std.proofs.Common.{◌≡◌, ℕ, ◌≤◌, false, if◌then◌else◌, List, [], ◌∷◌, ◌++◌, map, Result, Ok, Err, is_ok, is_err, ap₂, length, take, drop, sym, ap, ◌∙◌}
use Rattle.std.specs.Str.{chars}
use Rattle.std.proofs.lemmas.List.{append_assoc, take-append-drop, take-append-le, drop-append-le, map-append}
use Rattle.line_screen.specs.KeyQueue.{AppendsTyped, item_of, plain_key}
use Rattle.line_screen.specs.declared.key_queue.Item.{Item}

-- what is left to read, where items come behind
pub appended : (n : ℕ) (xs ys : List Item) → n ≤ length xs → map item_of (drop n (xs ++ ys)) ≡ map item_of (drop n xs) ++ map item_of ys
appended n xs ys h = ap (map item_of) (drop-append-le n xs ys h) ∙ map-append item_of (drop n xs) ys

-- all that stands in the queue is read again from its start
pub rewound : (n : ℕ) (xs : List Item) → map item_of (take n xs) ++ map item_of (drop n xs) ≡ map item_of xs
rewound n xs = sym (map-append item_of (take n xs) (drop n xs)) ∙ ap (map item_of) (take-append-drop n xs)

-- what was read stays, where items come behind
pub appended_behind : (n : ℕ) (xs ys : List Item) → n ≤ length xs → map item_of (take n (xs ++ ys)) ≡ map item_of (take n xs)
appended_behind n xs ys h = ap (map item_of) (take-append-le n xs ys h)

-- the same where a key is typed for each character of a text
pub typed : (n : ℕ) (before after : List Item) (text : List ℕ) → n ≤ length before → AppendsTyped before after text
    → map item_of (drop n after) ≡ map item_of (drop n before) ++ map plain_key (chars text)
typed n before after text h types =
    ap (λ xs. map item_of (drop n xs)) types.behind ∙ appended n before types.added h ∙ ap (λ xs. map item_of (drop n before) ++ xs) types.keys

pub typed_behind : (n : ℕ) (before after : List Item) (text : List ℕ) → n ≤ length before → AppendsTyped before after text
    → map item_of (take n after) ≡ map item_of (take n before)
typed_behind n before after text h types = ap (λ xs. map item_of (take n xs)) types.behind ∙ appended_behind n before types.added h

-- one more key was pushed
pub typed_on : (before now after added : List Item) (item : Item) → now ≡ before ++ added → after ≡ now ++ item ∷ [] → after ≡ before ++ (added ++ item ∷ [])
typed_on before now after added item is more = more ∙ ap (λ xs. xs ++ item ∷ []) is ∙ append_assoc before added (item ∷ [])

-- a push that did not fail
pub pushed : {E : Type 0} (result : Result (Unit {0}) E) (now after : List Item) (item : Item) → after ≡ (if is_ok result then now ++ item ∷ [] else now) → is_err result ≡ false
    → after ≡ now ++ item ∷ []
pushed (Ok t) now after item is ok = is
pushed (Err e) now after item is ok = absurd (cc)

-- a key for one more character
pub keys_on : (added : List Item) (typed : List ℕ) (item : Item) (c : ℕ) → map item_of added ≡ map plain_key typed → item_of item ≡ plain_key c
    → map item_of (added ++ item ∷ []) ≡ map plain_key (typed ++ c ∷ [])
keys_on added typed item c is one =
    map-append item_of added (item ∷ []) ∙ ap₂ (λ xs x. xs ++ x ∷ []) is one ∙ sym (map-append plain_key typed (c ∷ []))
