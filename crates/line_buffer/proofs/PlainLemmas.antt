-- Whether a text is plain after a change.
use Rattle.std.proofs.Common.{◌≡◌, ◌≤◌, ℕ, not, ◌&&◌, ◌||◌, List, ◌++◌, length, take, drop, ap, ap₂, sym, ◌∙◌, arith}
use Rattle.std.proofs.lemmas.List.{append-nil, drop_all, take-append-drop, take_all}
use Rattle.std.proofs.lemmas.List.Folds.{drop_split, list_all-append}
use Rattle.std.specs.List.{insert_slice, list_all, replace_range, slice_range}
use Rattle.line_buffer.specs.Printable.{is_plain}

-- a text is plain where what is before a place and what is behind it are
parts_plain : (text : List ℕ) (place : ℕ) → list_all is_plain text ≡ (list_all is_plain (take place text) && list_all is_plain (drop place text))
parts_plain text place = ap (list_all is_plain) (sym (take-append-drop place text)) ∙ list_all-append is_plain (take place text) (drop place text)

-- a text with another in place of a range is plain where the other and what is left are
replaced_parts : (old new text : List ℕ) (from to : ℕ) → new ≡ replace_range old from to text
    → list_all is_plain new ≡ ((list_all is_plain (take from old) && list_all is_plain text) && list_all is_plain (drop to old))
replaced_parts old new text from to is =
    ap (list_all is_plain) is ∙ list_all-append is_plain (take from old ++ text) (drop to old)
    ∙ ap (λ b. b && list_all is_plain (drop to old)) (list_all-append is_plain (take from old) text)

-- a text with another put in is plain where both were
pub plain_inserted : (old new text : List ℕ) (place : ℕ) → new ≡ insert_slice old place text → list_all is_plain new ≡ (list_all is_plain old && list_all is_plain text)
plain_inserted old new text place is = grind (arith, replaced_parts old new text place place is, parts_plain old place)

-- what comes in at the end stands behind the text
pub inserted_at_end : (text more : List ℕ) (place : ℕ) → place ≡ length text → text ++ more ≡ insert_slice text place more
inserted_at_end text more place end =
    sym (ap₂ (λ front back. (front ++ more) ++ back) (take_all place text (omega arith)) (drop_all place text (omega arith)) ∙ append-nil (text ++ more))

-- what is behind a place is plain where a range from there and what is behind it are
range_plain : (text : List ℕ) (from to : ℕ) → from ≤ to → list_all is_plain (drop from text) ≡ (list_all is_plain (slice_range text from to) && list_all is_plain (drop to text))
range_plain text from to h = ap (list_all is_plain) (drop_split text from to h) ∙ list_all-append is_plain (slice_range text from to) (drop to text)

-- of a text with another in place of a range, what is left of a plain text need not be read again
-- and where a plain part goes from a text that is not plain, what is left is not
pub plain_replaced : (old new text gone : List ℕ) (from to : ℕ) → from ≤ to → gone ≡ slice_range old from to → new ≡ replace_range old from to text
    → list_all is_plain new ≡ (list_all is_plain text && (list_all is_plain old || (not (list_all is_plain gone) && list_all is_plain new)))
plain_replaced old new text gone from to low part is =
    let middle = range_plain old from to low in
    let lost = ap (list_all is_plain) part in
    grind (arith, replaced_parts old new text from to is, parts_plain old from, parts_plain old to, middle, lost)
