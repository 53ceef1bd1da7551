-- Words that begin with a text.
use Rattle.std.proofs.Common.{◌≡◌, ◌∙◌, ℕ, ◌+◌, ◌<◌, suc, eqb, Bool, true, false, cond, List, [], ◌∷◌, ◌++◌, length, map, filter, take, take-suc, get_or, None, refl, sym, ap, arith, append-nil, string_bytes, MatchBool, chars, drop}
use Rattle.std.proofs.lemmas.List.{map-append}
use Rattle.std.proofs.lemmas.List.Elements.{filter-append}
use Rattle.std.proofs.lemmas.Str.Pattern.{starts_text}
use Rattle.std.specs.List.{starts_with}
use Rattle.std.specs.Str.Pattern.{FindsTextPrefix, HasPrefixMatch}
use Rattle.std.specs.declared.alloc.Global.{Global}
use Rattle.std.specs.declared.string.String.{String}
use Rattle.line_parts.specs.Candidate.{Offer}
use Rattle.line_parts.specs.Escape.{word_offset}
use Rattle.line_parts.specs.WordList.{beginning_with, breaks_words, completed_among, word_offer}

module _ (start : List ℕ) where
  -- the words that begin so up to the next one
  words_to : (words : List (String Global)) (index : ℕ) (next : String Global) → index < length words → next ≡ get_or words index next
      → beginning_with start (map string_bytes (take (index + 1) words))
      ≡ beginning_with start (map string_bytes (take index words)) ++ filter (λ w. starts_with eqb w start) (string_bytes next ∷ [])
  words_to words index next within at =
      ap (λ l. beginning_with start (map string_bytes l)) (ap (λ k. take k words) {x = index + 1} {y = suc index} (omega arith) ∙ take-suc words index next within)
      ∙ ap (λ l. beginning_with start l) (map-append string_bytes (take index words) (get_or words index next ∷ []))
      ∙ filter-append (λ w. starts_with eqb w start) (map string_bytes (take index words)) (string_bytes (get_or words index next) ∷ [])
      ∙ ap (λ n. beginning_with start (map string_bytes (take index words)) ++ filter (λ w. starts_with eqb w start) (string_bytes n ∷ [])) (sym at)

  pub one_more : (words : List (String Global)) (index : ℕ) (next : String Global) (old new : List (String Global)) (copy : String Global) (text : List ℕ) (r : Bool) → index < length words
      → next ≡ get_or words index next → map string_bytes old ≡ beginning_with start (map string_bytes (take index words))
      → text ≡ string_bytes next → MatchBool r (HasPrefixMatch (FindsTextPrefix start) text) (FindsTextPrefix start text None) → r ≡ true
      → string_bytes copy ≡ string_bytes next → new ≡ old ++ copy ∷ []
      → map string_bytes new ≡ beginning_with start (map string_bytes (take (index + 1) words))
  one_more words index next old new copy text r within at so is cases starts same grown =
      let fitting : starts_with eqb (string_bytes next) start ≡ true = ap (λ t. starts_with eqb t start) (sym is) ∙ sym (starts_text r start text cases) ∙ starts in
      ap (map string_bytes) grown ∙ map-append string_bytes old (copy ∷ []) ∙ ap (λ l. l ++ string_bytes copy ∷ []) so
      ∙ ap (λ w. beginning_with start (map string_bytes (take index words)) ++ w ∷ []) same
      ∙ sym (words_to words index next within at ∙ ap (λ b. beginning_with start (map string_bytes (take index words)) ++ cond b (string_bytes next ∷ []) []) fitting)

  pub none_more : (words : List (String Global)) (index : ℕ) (next : String Global) (old : List (String Global)) (text : List ℕ) (r : Bool) → index < length words
      → next ≡ get_or words index next → map string_bytes old ≡ beginning_with start (map string_bytes (take index words))
      → text ≡ string_bytes next → MatchBool r (HasPrefixMatch (FindsTextPrefix start) text) (FindsTextPrefix start text None) → r ≡ false
      → map string_bytes old ≡ beginning_with start (map string_bytes (take (index + 1) words))
  none_more words index next old text r within at so is cases differs =
      let other : starts_with eqb (string_bytes next) start ≡ false = ap (λ t. starts_with eqb t start) (sym is) ∙ sym (starts_text r start text cases) ∙ differs in
      so ∙ sym (words_to words index next within at ∙ ap (λ b. beginning_with start (map string_bytes (take index words)) ++ cond b (string_bytes next ∷ []) []) other
      ∙ append-nil (beginning_with start (map string_bytes (take index words))))

-- words as candidates
offers_of : (found : List (String Global)) → map word_offer (map string_bytes found) ≡ map (λ (s : String Global). word_offer (string_bytes s)) found
offers_of [] = refl
offers_of (first ∷ more) = ap (λ l. word_offer (string_bytes first) ∷ l) (offers_of more)

-- what was found completes the word before the cursor
pub completed_so : (words found : List (String Global)) (text word : List ℕ) (cursor start : ℕ) → start ≡ word_offset None breaks_words (chars (take cursor text))
    → word ≡ drop start (take cursor text) → map string_bytes found ≡ beginning_with word (map string_bytes words)
    → completed_among (map string_bytes words) text cursor ≡ record { start = start; offers = map (λ (s : String Global). word_offer (string_bytes s)) found }
completed_so words found text word cursor start at before so =
    let offers : ℕ → List Offer = λ n. map word_offer (beginning_with (drop n (take cursor text)) (map string_bytes words)) in
    ap (λ n. record { start = n; offers = offers n }) (sym at)
    ∙ ap (λ o. record { start = start; offers = o })
    (ap (λ w. map word_offer (beginning_with w (map string_bytes words))) (sym before) ∙ ap (λ l. map word_offer l) (sym so) ∙ offers_of found)
