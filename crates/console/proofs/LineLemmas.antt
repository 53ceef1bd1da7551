-- What a whole line is worth.
use Rattle.std.proofs.Common.{◌≡◌, ◌≢◌, ℕ, ℤ, neg_ℤ, List, [], ◌∷◌, length, drop, Option, Some, None, Ok, Err, inl, inr, refl, sym, ap, ◌∙◌, subst}
use Rattle.std.specs.Prelude.{All, option_and_then}
use Rattle.std.proofs.lemmas.List.Elements.{All-append, All-cons, All-head, All-nil, All-tail}
use Rattle.console.specs.declared.arithmetic.complaint.Complaint.{Complaint}
use Rattle.console.specs.declared.arithmetic.complaint.Refusal.{Refusal}
use Rattle.console.specs.declared.arithmetic.names.Names.{Names}
use Rattle.console.specs.declared.arithmetic.operator.Operator.TheVariants.{Minus}
use Rattle.console.specs.declared.arithmetic.operator.Rank.{Rank}
use Rattle.console.specs.declared.arithmetic.operator.Rank.TheVariants.{Sum}
use Rattle.console.specs.declared.arithmetic.token.Placed.{Placed}
use Rattle.console.specs.declared.arithmetic.token.Scanned.{Scanned}
use Rattle.console.specs.Expression.{Expression, in_range, worth_of, result_of}
use Rattle.console.specs.Grammar.{Symbol, figure, word, sign, opening, closing, equals, Derives, by_figure, by_word, by_negation, by_brackets, by_factor, by_product, by_alone, by_sum}
use Rattle.console.specs.Line.{HasValue, asked, assigned, IsLineOf, alone, behind_name, IsOnlyValue, IsExplained}
use Rattle.console.specs.Names.{AreSet, value_in}
use Rattle.console.specs.Parts.{AssignsNoName, IsSymbolAt, IsWorth, SettlesLine}
use Rattle.console.specs.Refusals.{Explains}
use Rattle.console.specs.Tokens.{IsInRange, IsScanOf, IsScanRefusal, symbols_of}

-- ---- what each expression of a line is

-- a value behind another one
value_before : (f : ℤ → Option ℤ) (o : Option ℤ) (x : ℤ) → option_and_then f o ≡ Some x → (y : ℤ) × (o ≡ Some y) × (f y ≡ Some x)
value_before f None x is = cc
value_before f (Some y) x is = (y, refl, is)

-- where an expression has a value, each of its numbers fits
worth_room : (named : List ℕ → Option ℤ) {rank : Rank} {symbols : List Symbol} {e : Expression} → Derives rank symbols e
    → (x : ℤ) → worth_of named e ≡ Some x → All IsInRange symbols
unfolding worth_of
worth_room named (by_figure {x = y} is) x worth =
    let fits : in_range y ≢ None = λ none. (cc (none, worth)) in
    subst (All IsInRange) (sym is) (All-cons IsInRange (figure y) [] fits (All-nil IsInRange))
worth_room named (by_word {bytes = bytes} is) x worth = subst (All IsInRange) (sym is) (All-cons IsInRange (word bytes) [] tt (All-nil IsInRange))
worth_room named (by_negation {inner = inner} {e = e} written is) x worth =
    let operand = value_before (λ y. in_range (neg_ℤ y)) (worth_of named e) x worth in
    subst (All IsInRange) (sym is) (All-cons IsInRange (sign Minus) inner tt (worth_room named written operand.0 operand.1))
worth_room named (by_brackets {inner = inner} written is) x worth =
    subst (All IsInRange) (sym is) (All-cons IsInRange opening _ tt (All-append IsInRange inner _ (worth_room named written x worth) (All-cons IsInRange closing [] tt (All-nil IsInRange))))
worth_room named (by_factor written) x worth = worth_room named written x worth
worth_room named (by_product {left = left} {right = right} {o = o} {a = a} {b = b} one other kind is) x worth =
    let first = value_before (λ y. option_and_then (λ z. result_of o y z) (worth_of named b)) (worth_of named a) x worth in
    let second = value_before (λ z. result_of o first.0 z) (worth_of named b) x first.2 in
    subst (All IsInRange) (sym is) (All-append IsInRange left _ (worth_room named one first.0 first.1) (All-cons IsInRange (sign o) right tt (worth_room named other second.0 second.1)))
worth_room named (by_alone written) x worth = worth_room named written x worth
worth_room named (by_sum {left = left} {right = right} {o = o} {a = a} {b = b} one other kind is) x worth =
    let first = value_before (λ y. option_and_then (λ z. result_of o y z) (worth_of named b)) (worth_of named a) x worth in
    let second = value_before (λ z. result_of o first.0 z) (worth_of named b) x first.2 in
    subst (All IsInRange) (sym is) (All-append IsInRange left _ (worth_room named one first.0 first.1) (All-cons IsInRange (sign o) right tt (worth_room named other second.0 second.1)))

-- no expression has an `=`
abbrev Apart : Symbol → Type 0
Apart s = s ≢ equals

no_equals : {rank : Rank} {symbols : List Symbol} {e : Expression} → Derives rank symbols e → All Apart symbols
no_equals (by_figure {x = y} is) = subst (All Apart) (sym is) (All-cons Apart (figure y) [] (λ same. cc) (All-nil Apart))
no_equals (by_word {bytes = bytes} is) = subst (All Apart) (sym is) (All-cons Apart (word bytes) [] (λ same. cc) (All-nil Apart))
no_equals (by_negation {inner = inner} written is) = subst (All Apart) (sym is) (All-cons Apart (sign Minus) inner (λ same. cc) (no_equals written))
no_equals (by_brackets {inner = inner} written is) =
    subst (All Apart) (sym is) (All-cons Apart opening _ (λ same. cc) (All-append Apart inner _ (no_equals written) (All-cons Apart closing [] (λ same. cc) (All-nil Apart))))
no_equals (by_factor written) = no_equals written
no_equals (by_product {left = left} {right = right} {o = o} one other kind is) =
    subst (All Apart) (sym is) (All-append Apart left _ (no_equals one) (All-cons Apart (sign o) right (λ same. cc) (no_equals other)))
no_equals (by_alone written) = no_equals written
no_equals (by_sum {left = left} {right = right} {o = o} one other kind is) =
    subst (All Apart) (sym is) (All-append Apart left _ (no_equals one) (All-cons Apart (sign o) right (λ same. cc) (no_equals other)))

-- an expression of a line with a number that does not fit has no value
too_large_none : (named : List ℕ → Option ℤ) (e : Expression) (symbols : List Symbol) → IsLineOf e symbols → (All IsInRange symbols → ⊥) → worth_of named e ≡ None
too_large_none named e symbols line large = by_value (worth_of named e) refl
  where
    room : IsLineOf e symbols → (x : ℤ) → worth_of named e ≡ Some x → All IsInRange symbols
    room (alone written) x worth = worth_room named written x worth
    room (behind_name name behind is written) x worth =
        subst (All IsInRange) (sym is) (All-cons IsInRange (word name) (equals ∷ behind) tt (All-cons IsInRange equals behind tt (worth_room named written x worth)))

    by_value : (o : Option ℤ) → worth_of named e ≡ o → worth_of named e ≡ None
    by_value None is = is
    by_value (Some x) is = absurd (large (room line x is))

-- a refusal of the scan explains
pub scan_explained : (names : Names) (text : List ℕ) (complaint : Complaint) → IsScanRefusal text complaint → IsExplained names text complaint
scan_explained names text complaint (inl memory) = λ symbols e spelled line. subst (λ k. Explains (value_in names) k e) (sym memory) tt
scan_explained names text complaint (inr large) = λ symbols e spelled line.
    subst (λ k. Explains (value_in names) k e) (sym large.0) (too_large_none (value_in names) e symbols line (large.1 symbols spelled))

-- the expression of a line that gives no name a value
alone_written : (tokens : List Placed) (e : Expression) → AssignsNoName tokens → IsLineOf e (symbols_of tokens) → Derives Sum (drop 0 (symbols_of tokens)) e
alone_written tokens e no_name (alone written) = written
alone_written tokens e no_name (behind_name name behind is written) = absurd (no_name name behind is)

-- the expression of a line that gives a name a value
assigned_written : (tokens : List Placed) (e : Expression) (name : List ℕ) → IsSymbolAt tokens 0 (word name) → IsSymbolAt tokens 1 equals → IsLineOf e (symbols_of tokens)
    → Derives Sum (drop 2 (symbols_of tokens)) e
assigned_written tokens e name first second (alone written) =
    let split : symbols_of tokens ≡ word name ∷ equals ∷ drop 2 (symbols_of tokens) = first.split ∙ ap (λ xs. word name ∷ xs) second.split in
    absurd (All-head Apart equals (drop 2 (symbols_of tokens)) (All-tail Apart (word name) (equals ∷ drop 2 (symbols_of tokens)) (subst (All Apart) split (no_equals written))) refl)
assigned_written tokens e name first second (behind_name other behind is written) =
    let split : symbols_of tokens ≡ word name ∷ equals ∷ drop 2 (symbols_of tokens) = first.split ∙ ap (λ xs. word name ∷ xs) second.split in
    let same : behind ≡ drop 2 (symbols_of tokens) = (cc (sym is ∙ split)) in
    subst (λ xs. Derives Sum xs e) same written

module _ (names : Names) (text : List ℕ) (line : Scanned) (scan : IsScanOf text line) where
  -- a line whose tokens from a place on write all its expressions
  abbrev WrittenFrom : ℕ → Type 0
  WrittenFrom start = (e : Expression) → IsLineOf e (symbols_of line.tokens.items) → Derives Sum (drop start (symbols_of line.tokens.items)) e

  only_from : (start : ℕ) (x : ℤ) → WrittenFrom start → (line.end ≡ length text → SettlesLine line.tokens.items (value_in names) start (Ok x)) → IsOnlyValue names text x
  only_from start x from settles = λ symbols e spelled is.
      let whole = scan.only symbols spelled in
      settles whole.0 e (from e (subst (IsLineOf e) whole.1 is))

  explained_from : (start : ℕ) (r : Refusal) → WrittenFrom start → (line.end ≡ length text → SettlesLine line.tokens.items (value_in names) start (Err r)) → IsExplained names text r.complaint
  explained_from start r from settles = λ symbols e spelled is.
      let whole = scan.only symbols spelled in
      settles whole.0 e (from e (subst (IsLineOf e) whole.1 is))

  pub asked_only : (x : ℤ) → AssignsNoName line.tokens.items → (line.end ≡ length text → SettlesLine line.tokens.items (value_in names) 0 (Ok x)) → IsOnlyValue names text x
  asked_only x no_name settles = only_from 0 x (λ e is. alone_written line.tokens.items e no_name is) settles

  pub assigned_only : (x : ℤ) (name : List ℕ) → IsSymbolAt line.tokens.items 0 (word name) → IsSymbolAt line.tokens.items 1 equals
      → (line.end ≡ length text → SettlesLine line.tokens.items (value_in names) 2 (Ok x)) → IsOnlyValue names text x
  assigned_only x name first second settles = only_from 2 x (λ e is. assigned_written line.tokens.items e name first second is) settles

  pub assigned_explained : (r : Refusal) (name : List ℕ) → IsSymbolAt line.tokens.items 0 (word name) → IsSymbolAt line.tokens.items 1 equals
      → (line.end ≡ length text → SettlesLine line.tokens.items (value_in names) 2 (Err r)) → IsExplained names text r.complaint
  assigned_explained r name first second settles = explained_from 2 r (λ e is. assigned_written line.tokens.items e name first second is) settles

module _ (old : Names) (text : List ℕ) (line : Scanned) (x : ℤ) (scan : IsScanOf text line) (whole : line.end ≡ length text) where
  -- the value of a line that is an expression
  pub asked_value : IsWorth line.tokens.items (value_in old) 0 x → HasValue old old text x
  asked_value worth = record {
    symbols = symbols_of line.tokens.items;
    spelled = scan.spelled whole;
    computed = asked worth.expression worth.written worth.worth (λ name. refl);
  }

  -- the value of a line that gives a name a value
  pub assigned_value : (new : Names) (name : List ℕ) → IsSymbolAt line.tokens.items 0 (word name) → IsSymbolAt line.tokens.items 1 equals
      → IsWorth line.tokens.items (value_in old) 2 x → AreSet old new name x → HasValue old new text x
  assigned_value new name first second worth set = record {
    symbols = symbols_of line.tokens.items;
    spelled = scan.spelled whole;
    computed = assigned name _ worth.expression (first.split ∙ ap (λ xs. word name ∷ xs) second.split) worth.written worth.worth set;
  }
