-- Laws of words, escapes, quotes, common starts and the order of candidates.
use Rattle.std.specs.Prelude.{◌≡◌, ◌≢◌, ℕ, ◌+◌, ◌≤◌, Bool, true, false}
use Rattle.std.specs.Prelude.{List, ◌∷◌, ◌++◌, length, take, drop, Option, Some}
use Rattle.std.specs.Char.{IsScalar}
use Rattle.std.specs.Str.{IsUtf8}
use Rattle.line_parts.specs.Candidate.{Offer}
use Rattle.line_parts.specs.Completed.{InOrder, in_order}
use Rattle.line_parts.specs.Escape.{escaped, on_chars, unescaped, word_start}
use Rattle.line_parts.specs.Prefix.{IsCommonStart}
use Rattle.line_parts.specs.Quoting.{ends_in, is_closed, is_unclosed}
use Rattle.line_parts.specs.declared.completion.escapes.Quote.{Quote}
use Rattle.line_parts.specs.declared.completion.escapes.Quote.TheVariants as quote

-- an escaped text, unescaped again, is the text, where the escape character is a break character
abbrev pub EscapedIsUnescaped : Type 0
EscapedIsUnescaped = (escape : ℕ) (is_break : ℕ → Bool) (kind : Quote) (text : List ℕ)
    → IsScalar escape → is_break escape ≡ true → kind ≢ quote.Single → IsUtf8 text
    → on_chars (unescaped (Some escape)) (on_chars (escaped (Some escape) is_break kind) text)
    ≡ text

-- an escaped text after a break character is the last word, where the escape character does not stand before that
abbrev pub EscapedIsWord : Type 0
EscapedIsWord = (escape break : ℕ) (is_break : ℕ → Bool) (before text : List ℕ)
    → is_break break ≡ true → ends_in escape before ≡ false
    → word_start (Some escape) is_break
    (before ++ break ∷ escaped (Some escape) is_break quote.None text) ≡ length before + 1

-- texts have one common start
abbrev pub CommonStartIsOne : Type 0
CommonStartIsOne = (texts : List (List ℕ)) (one other : Option (List ℕ))
    → IsCommonStart texts one → IsCommonStart texts other → one ≡ other

-- at most one quote of a text stands open
abbrev pub OneQuoteIsOpen : Type 0
OneQuoteIsOpen = (cs : List ℕ) (place place' : ℕ) (kind kind' : Quote) → place ≤ length cs → place' ≤ length cs
    → is_closed (take place cs) ≡ true → is_unclosed kind (drop place cs) ≡ true
    → is_closed (take place' cs) ≡ true → is_unclosed kind' (drop place' cs) ≡ true
    → (place ≡ place') × (kind ≡ kind')

-- candidates can be put in order, and in one way
abbrev pub OrderIsOne : Type 0
OrderIsOne = (offers : List Offer) → InOrder offers (in_order offers) × ((other : List Offer) → InOrder offers other → other ≡ in_order offers)
