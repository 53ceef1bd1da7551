-- Hints from the history.
use Rattle.std.proofs.Common.{◌≡◌, ◌≤◌, ◌==◌, ◌||◌, ℕ, Bool, true, false, if◌then◌else◌, List, [], ◌++◌, length, drop, Option, Some, None, ap, sym, ◌∙◌, refl, arith, eqb, nat_lt, option_map, string_bytes, String, Global, bytes_eq, IsTrue}
use Rattle.std.specs.Prelude.{option_and_then}
use Rattle.std.proofs.lemmas.List.{append-nil, nil_from_length}
use Rattle.std.proofs.lemmas.Slice.Eq.{bytes_eq-Decides}
use Rattle.std.specs.List.{starts_with}
use Rattle.std.specs.Str.Pattern.{FindsTextPrefix, StripsPrefix}
use Rattle.line_parts.proofs.PlaceLemmas.{lacking}
use Rattle.line_parts.specs.Hint.{suggested, suggestion_of}
use Rattle.line_parts.specs.History.{Found, starting_with}
use Rattle.line_parts.specs.HistoryHint.{hint_start, history_hint, rest_behind}
use Rattle.line_parts.specs.Shown.{Shown}
use Rattle.line_parts.specs.contracts.hint.StringHint.TheImpl as string_hint
use Rattle.line_parts.specs.declared.history.SearchDirection.TheVariants.{Reverse}

-- a line that has nothing behind the text equals it
pub nothing_behind : (text line rest : List ℕ) → StripsPrefix (FindsTextPrefix text) line rest → length rest ≡ 0 → None ≡ rest_behind text line
nothing_behind text line rest strips none =
    let empty : drop strips.0 line ≡ [] = sym strips.2 ∙ nil_from_length rest none in
    let equal : line ≡ text = strips.1.1 ∙ ap (λ t. text ++ t) empty ∙ append-nil text in
    let says : bytes_eq line text ≡ true = (bytes_eq-Decides line text).1 equal in
    rw says refl

pub begins_not : (text line : List ℕ) → FindsTextPrefix text line None → IsTrue (starts_with (λ a b. a == b) line text) → ⊥
begins_not text line lacks starts =
    let no : starts_with eqb line text ≡ false = lacking text line 0 lacks in
    let clash : ◌≡◌ {A = Bool} true false = sym starts ∙ no in cc

pub hint_of_found : (shown : Shown) (start : ℕ) (found : Found) → eqb (length shown.text) 0 ≡ false → length shown.text ≤ shown.cursor → start ≡ hint_start shown
    → Some found ≡ starting_with shown.lines shown.text start Reverse → rest_behind shown.text found.entry ≡ history_hint shown
hint_of_found shown start found some at is finds =
    let past : nat_lt shown.cursor (length shown.text) ≡ false = grind (arith, at) in
    let asked : (eqb (length shown.text) 0 || nat_lt shown.cursor (length shown.text)) ≡ false = rw (some, past) refl in
    let behind : Found → Option (List ℕ) = λ f. rest_behind shown.text f.entry in
    let answer : Option Found = starting_with shown.lines shown.text (hint_start shown) Reverse in
    let finds_it : answer ≡ Some found = ap (λ k. starting_with shown.lines shown.text k Reverse) (sym is) ∙ sym finds in
    sym (ap (λ none. if none then None else option_and_then behind answer) asked ∙ ap (option_and_then behind) finds_it)

pub suggested_rest : (rest : Option (String Global)) (hint : Option (List ℕ)) → option_map string_bytes rest ≡ hint
    → option_map (suggestion_of string_hint.ghosts) rest ≡ option_map suggested hint
suggested_rest None hint e = ap (option_map suggested) e
suggested_rest (Some rest) hint e = ap (option_map suggested) e

pub is_none : (n : ℕ) → eqb n 0 ≡ true → n ≡ 0
is_none n e = grind arith
