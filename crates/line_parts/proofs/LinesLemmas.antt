-- The lines of a text, taken one after another.
use Rattle.std.proofs.Common.{◌≡◌, ◌≢◌, ℕ, suc, ◌+◌, ◌-◌, ◌<◌, ◌≤◌, Bool, true, false, if◌then◌else◌, ◌⊎◌, inl, inr, ◌&&◌, List, [], ◌∷◌, ◌++◌, length, take, drop, get_or, map, All, ap, sym, ◌∙◌, refl, arith, eqb, ltb, ⊎_elim}
use Rattle.std.specs.Prelude.{filter}
use Rattle.std.specs.Char.{is_newline}
use Rattle.std.specs.List.{slice_split}
use Rattle.std.specs.Io.BufRead.{take_through, drop_through, ends_with_byte, strip_last}
use Rattle.std.proofs.lemmas.Bool.{cases_Bool, both_ways}
use Rattle.std.proofs.lemmas.List.{drop_more, drop_all, take_at, length_push, get_or_push}
use Rattle.std.proofs.lemmas.List.Elements.{All-cons, All-nil}
use Rattle.std.proofs.lemmas.List.Splits.{slice_split_at, slice_split_none, length-slice_split}
use Rattle.line_parts.specs.History.{last_of}
use Rattle.line_parts.specs.HistoryText.{without_return, lines_of, is_some_text}

is_10 : (b : ℕ) → eqb b 10 ≡ true → b ≡ 10
is_10 b p = grind arith

is_not_10 : (b : ℕ) → eqb b 10 ≡ false → b ≢ 10
is_not_10 b p e = both_ways _ p (rw e refl)

not_10 : (b : ℕ) → b ≢ 10 → is_newline b ≡ false
not_10 b other = grind arith

-- the lines in the pieces between line feeds
abbrev pub of_pieces : List (List ℕ) → List (List ℕ)
of_pieces pieces = map without_return (take (length pieces - 1) pieces) ++ filter is_some_text (last_of 1 pieces)

of_pieces-more : (p q : List ℕ) (more : List (List ℕ)) → of_pieces (p ∷ q ∷ more) ≡ without_return p ∷ of_pieces (q ∷ more)
of_pieces-more p q more =
    let outer : suc (suc (length more)) - 1 ≡ suc (length more) = omega arith in
    let inner : suc (length more) - 1 ≡ length more = omega arith in
    rw (outer, inner) refl

of_pieces-cons : (p : List ℕ) (more : List (List ℕ)) → 0 < length more → of_pieces (p ∷ more) ≡ without_return p ∷ of_pieces more
of_pieces-cons p [] lt = absurd (omega (arith, lt))
of_pieces-cons p (q ∷ more) lt = of_pieces-more p q more

-- a line that a line feed ends
pub lines_of-more : (line rest : List ℕ) → All (λ b. b ≢ 10) line → lines_of (line ++ 10 ∷ rest) ≡ without_return line ∷ lines_of rest
lines_of-more line rest lacks =
    let plain : All (λ b. is_newline b ≡ false) line = λ k d lt. not_10 _ (lacks k d lt) in
    rw (slice_split_at is_newline line 10 rest plain refl)
    (of_pieces-cons line (slice_split is_newline rest) (omega (arith, length-slice_split is_newline rest)))

-- a text without line feeds
pub lines_of-last : (line : List ℕ) → All (λ b. b ≢ 10) line → lines_of line ≡ filter is_some_text (line ∷ [])
lines_of-last line lacks =
    let plain : All (λ b. is_newline b ≡ false) line = λ k d lt. not_10 _ (lacks k d lt) in
    rw (slice_split_none is_newline line plain) refl

-- a piece of a text up to its line feed, as a line
abbrev pub trimmed : List ℕ → List ℕ
trimmed piece = if ends_with_byte 10 piece then strip_last 13 (strip_last 10 piece) else piece

-- the piece of a text up to its first line feed
record Piece (text line : List ℕ) : Type 0 where
  plain : All (λ b. b ≢ 10) line
  taken : take_through 10 text ≡ line ++ 10 ∷ []
  whole : text ≡ line ++ 10 ∷ drop_through 10 text

-- a text with no line feed
record Last (text : List ℕ) : Type 0 where
  plain : All (λ b. b ≢ 10) text
  taken : take_through 10 text ≡ text
  none : drop_through 10 text ≡ []

pieces : (text : List ℕ) → ((line : List ℕ) × Piece text line) ⊎ Last text
pieces [] = inr (record { plain = All-nil (λ b. b ≢ 10); taken = refl; none = refl })
pieces (b ∷ bs) = ⊎_elim
    (λ yes. inl (
      [],
      record {
        plain = All-nil (λ b. b ≢ 10);
        taken = rw yes (ap (λ c. c ∷ []) (is_10 b yes));
        whole = rw yes (ap (λ c. c ∷ bs) (is_10 b yes));
      },
    ))
    (λ other. ⊎_elim
    (λ (p : (line : List ℕ) × Piece bs line). inl (
      b ∷ p.0,
      record {
        plain = All-cons (λ b. b ≢ 10) b p.0 (is_not_10 b other) p.1.plain;
        taken = rw other (ap (λ t. b ∷ t) p.1.taken);
        whole = rw other (ap (λ t. b ∷ t) p.1.whole);
      },
    ))
    (λ (p : Last bs). inr (record {
      plain = All-cons (λ b. b ≢ 10) b bs (is_not_10 b other) p.plain;
      taken = rw other (ap (λ t. b ∷ t) p.taken);
      none = rw other p.none;
    }))
    (pieces bs))
    (cases_Bool (eqb b 10))

-- the last byte of a list
last_byte : (b : ℕ) (bs : List ℕ) → drop (length (b ∷ bs) - 1) (b ∷ bs) ≡ get_or (b ∷ bs) (length (b ∷ bs) - 1) 0 ∷ []
last_byte b bs =
    let at : length (b ∷ bs) - 1 < length (b ∷ bs) = omega arith in
    let end : length (b ∷ bs) ≤ length (b ∷ bs) - 1 + 1 = omega arith in
    drop_more (b ∷ bs) (length (b ∷ bs) - 1) 0 at ∙ ap (λ r. get_or (b ∷ bs) (length (b ∷ bs) - 1) 0 ∷ r) (drop_all (length (b ∷ bs) - 1 + 1) (b ∷ bs) end)

and_true : (b : Bool) → (b && true) ≡ b
and_true true = refl
and_true false = refl

some_length : (n : ℕ) → ltb 0 (suc n) ≡ true
some_length n = grind arith

strip_last-return : (line : List ℕ) → strip_last 13 line ≡ without_return line
strip_last-return [] = refl
strip_last-return (b ∷ bs) =
    rw (last_byte b bs) (rw (some_length (length bs), and_true (eqb (get_or (b ∷ bs) (length (b ∷ bs) - 1) 0) 13)) refl)

-- a piece that a line feed ends is stripped of it
feed_last : (line : List ℕ) → length (line ++ 10 ∷ []) - 1 ≡ length line
feed_last line = omega (arith, length_push line 10)

true_both : (a b : Bool) → a ≡ true → b ≡ true → (a && b) ≡ true
true_both a b p q = rw (p, q) refl

and_false : (a b : Bool) → b ≡ false → (a && b) ≡ false
and_false true b q = q
and_false false b q = refl

longer : (xs : List ℕ) → 0 < length xs → ltb 0 (length xs) ≡ true
longer xs lt = grind arith

same_byte : (a b : ℕ) → a ≡ b → eqb a b ≡ true
same_byte a b e = grind arith

other_byte : (a b : ℕ) → a ≢ b → eqb a b ≡ false
other_byte a b e = grind arith

ends-feed : (line : List ℕ) → ends_with_byte 10 (line ++ 10 ∷ []) ≡ true
ends-feed line = true_both _ _ (longer (line ++ 10 ∷ []) (omega (arith, length_push line 10)))
    (same_byte _ 10 (ap (λ k. get_or (line ++ 10 ∷ []) k 0) (feed_last line) ∙ get_or_push line 10 0 (length line) refl))

trimmed-feed : (line : List ℕ) → trimmed (line ++ 10 ∷ []) ≡ without_return line
trimmed-feed line =
    let piece = line ++ 10 ∷ [] in
    let stripped : strip_last 10 piece ≡ line = ap (λ b. if b then take (length piece - 1) piece else piece) (ends-feed line)
    ∙ ap (λ k. take k piece) (feed_last line) ∙ take_at line (10 ∷ []) (length line) refl in
    ap (λ b. if b then strip_last 13 (strip_last 10 piece) else piece) (ends-feed line) ∙ ap (strip_last 13) stripped ∙ strip_last-return line

ends-plain : (line : List ℕ) → All (λ b. b ≢ 10) line → ends_with_byte 10 line ≡ false
ends-plain [] lacks = refl
ends-plain (b ∷ bs) lacks = and_false _ _ (other_byte _ 10 (lacks (length (b ∷ bs) - 1) 0 (omega arith)))

-- the first line of a text, and those of the rest
pub lines_of-first : (text : List ℕ) → 0 < length text → lines_of text ≡ trimmed (take_through 10 text) ∷ lines_of (drop_through 10 text)
lines_of-first text lt = ⊎_elim
    (λ (p : (line : List ℕ) × Piece text line). let line = p.0 in
    let is_line : trimmed (take_through 10 text) ≡ without_return line = ap trimmed p.1.taken ∙ trimmed-feed line in
    ap lines_of p.1.whole ∙ lines_of-more line (drop_through 10 text) p.1.plain ∙ ap (λ l. l ∷ lines_of (drop_through 10 text)) (sym is_line))
    (λ (p : Last text).
    let is_line : trimmed (take_through 10 text) ≡ text = ap trimmed p.taken ∙ ap (λ b. if b then strip_last 13 (strip_last 10 text) else text) (ends-plain text p.plain) in
    let some : is_some_text text ≡ true = longer text lt in
    lines_of-last text p.plain ∙ rw some (ap (λ l. l ∷ []) (sym is_line)) ∙ ap (λ r. trimmed (take_through 10 text) ∷ lines_of r) (sym p.none))
    (pieces text)
