-- What the result on a part settles for the expressions that it may be.
use Rattle.std.proofs.Common.{◌≡◌, ◌≢◌, ℕ, zero, suc, ℤ, pos, negsuc, ◌+◌, ◌<◌, ◌≤◌, Bool, true, false, List, [], ◌∷◌, ◌++◌, length, drop, Option, Some, None, Ok, Err, FitsSigned, w64, neg_ℤ, sym, refl, ap, ◌∙◌, subst, arith, append_assoc, append-nil}
use Rattle.std.proofs.Math.ListN.{drop_of_length-le}
use Rattle.std.proofs.lemmas.List.{length-drop, length-map}
use Rattle.console.specs.declared.arithmetic.complaint.Complaint.TheVariants.{ExpectedOperand, ExpectedOperator, ExpectedClosing, NoValue, Overflow}
use Rattle.console.specs.declared.arithmetic.operator.Operator.{Operator}
use Rattle.console.specs.declared.arithmetic.operator.Operator.TheVariants.{Plus, Minus, Times, Divide, Remainder}
use Rattle.console.specs.declared.arithmetic.operator.Rank.{Rank}
use Rattle.console.specs.declared.arithmetic.operator.Rank.TheVariants.{Sum, Factor}
use Rattle.console.specs.declared.arithmetic.parts.Fault.{Fault}
use Rattle.console.specs.declared.arithmetic.parts.Part.{Part}
use Rattle.console.specs.declared.arithmetic.token.Placed.{Placed}
use Rattle.console.specs.Expression.{Expression, number, name, negation, operation, in_range, worth_of, result_of}
use Rattle.console.specs.Grammar.{Symbol, figure, word, sign, opening, closing, equals, Derives, by_figure, by_word, by_negation, by_brackets, IsClosed, looseness, rank_of, tighter}
use Rattle.console.specs.Parts.{IsSymbolAt, Settles, SettlesAll}
use Rattle.console.specs.Refusals.{Explains, complaint_of}
use Rattle.console.specs.Tokens.{symbols_of}
use Rattle.console.proofs.GrammarLemmas.{GoesOn, ends, goes, splits, closed_on, right_none, value_of-operation, none_goes_on, Explains-whole}
use Rattle.console.proofs.PartLemmas.{fitting-fits}

-- ---- factors by their first symbols

figure_factor : {used : List Symbol} {e : Expression} (x : ℤ) (behind rest : List Symbol) → Derives Factor used e → figure x ∷ behind ≡ used ++ rest
    → (number x ≡ e) × (behind ≡ rest)
figure_factor x behind rest (by_figure is) split = let h = split ∙ ap (λ xs. xs ++ rest) is in ((cc), (cc))
figure_factor x behind rest (by_word is) split = let h = split ∙ ap (λ xs. xs ++ rest) is in cc
figure_factor x behind rest (by_negation written is) split = let h = split ∙ ap (λ xs. xs ++ rest) is in cc
figure_factor x behind rest (by_brackets written is) split = let h = split ∙ ap (λ xs. xs ++ rest) is in cc

word_factor : {used : List Symbol} {e : Expression} (bytes : List ℕ) (behind rest : List Symbol) → Derives Factor used e → word bytes ∷ behind ≡ used ++ rest
    → (name bytes ≡ e) × (behind ≡ rest)
word_factor bytes behind rest (by_figure is) split = let h = split ∙ ap (λ xs. xs ++ rest) is in cc
word_factor bytes behind rest (by_word is) split = let h = split ∙ ap (λ xs. xs ++ rest) is in ((cc), (cc))
word_factor bytes behind rest (by_negation written is) split = let h = split ∙ ap (λ xs. xs ++ rest) is in cc
word_factor bytes behind rest (by_brackets written is) split = let h = split ∙ ap (λ xs. xs ++ rest) is in cc

-- what is behind the first symbol of a factor
record Inner (rank : Rank) (behind rest : List Symbol) (whole : Expression → Expression) (e : Expression) : Type 0 where
  pub inner : List Symbol
  pub expression : Expression
  pub written : Derives rank inner expression
  pub split : behind ≡ inner ++ rest
  pub same : whole expression ≡ e

minus_factor : {used : List Symbol} {e : Expression} (behind rest : List Symbol) → Derives Factor used e → sign Minus ∷ behind ≡ used ++ rest
    → Inner Factor behind rest negation e
minus_factor behind rest (by_figure is) split = let h = split ∙ ap (λ xs. xs ++ rest) is in cc
minus_factor behind rest (by_word is) split = let h = split ∙ ap (λ xs. xs ++ rest) is in cc
minus_factor behind rest (by_negation {inner = inner} {e = e} written is) split =
    let h = split ∙ ap (λ xs. xs ++ rest) is in record { inner = inner; expression = e; written = written; split = cc; same = refl }
minus_factor behind rest (by_brackets written is) split = let h = split ∙ ap (λ xs. xs ++ rest) is in cc

bracket_factor : {used : List Symbol} {e : Expression} (behind rest : List Symbol) → Derives Factor used e → opening ∷ behind ≡ used ++ rest
    → Inner Sum behind (closing ∷ rest) (λ x. x) e
bracket_factor behind rest (by_figure is) split = let h = split ∙ ap (λ xs. xs ++ rest) is in cc
bracket_factor behind rest (by_word is) split = let h = split ∙ ap (λ xs. xs ++ rest) is in cc
bracket_factor behind rest (by_negation written is) split = let h = split ∙ ap (λ xs. xs ++ rest) is in cc
bracket_factor behind rest (by_brackets {inner = inner} {e = e} written is) split =
    let h = split ∙ ap (λ xs. xs ++ rest) is in
    let tail : behind ≡ (inner ++ closing ∷ []) ++ rest = cc in
    record { inner = inner; expression = e; written = written; split = tail ∙ append_assoc inner (closing ∷ []) rest; same = refl }

-- a symbol that a factor may begin with
abbrev pub begins_factor : Symbol → Bool
begins_factor (figure x) = true
begins_factor (word bytes) = true
begins_factor (sign Minus) = true
begins_factor (sign Plus) = false
begins_factor (sign Times) = false
begins_factor (sign Divide) = false
begins_factor (sign Remainder) = false
begins_factor opening = true
begins_factor closing = false
begins_factor equals = false

-- a factor begins with such a symbol
record Begins (used : List Symbol) : Type 0 where
  pub head : Symbol
  pub behind : List Symbol
  pub split : used ≡ head ∷ behind
  pub is : begins_factor head ≡ true

factor_begins : {used : List Symbol} {e : Expression} → Derives Factor used e → Begins used
factor_begins (by_figure {x = x} is) = record { head = figure x; behind = []; split = is; is = refl }
factor_begins (by_word {bytes = bytes} is) = record { head = word bytes; behind = []; split = is; is = refl }
factor_begins (by_negation {inner = inner} written is) = record { head = sign Minus; behind = inner; split = is; is = refl }
factor_begins (by_brackets {inner = inner} written is) = record { head = opening; behind = inner ++ closing ∷ []; split = is; is = refl }

-- the next operator and its right side
record NextOperand (rank : Rank) (o : Operator) (a : Expression) (behind rest : List Symbol) (e : Expression) : Type 0 where
  pub right : List Symbol
  pub operand : Expression
  pub on : List Symbol
  pub split : behind ≡ right ++ (on ++ rest)
  pub written : Derives (tighter rank) right operand
  pub goes_on : GoesOn rank (operation o a operand) on e

next_operand : {rank : Rank} {a e : Expression} {on : List Symbol} (o : Operator) (behind rest : List Symbol) → GoesOn rank a on e
    → sign o ∷ behind ≡ on ++ rest → rank_of o ≡ rank → IsClosed rank rest → NextOperand rank o a behind rest e
next_operand {rank} o behind rest (ends none same) split is closed =
    let less = closed o behind (ap (λ xs. xs ++ rest) (sym none) ∙ sym split) in
    let rank_is = ap looseness is in
    absurd (omega arith)
next_operand {rank} {e = e} o behind rest (goes {a = a} {b = b} {right = right} {behind = more} {o = p} kind written on begins) split is closed =
    let h = split ∙ ap (λ xs. xs ++ rest) begins in
    let same : o ≡ p = cc in
    let tail : behind ≡ (right ++ more) ++ rest = cc in
    record { right = right; operand = b; on = more; split = tail ∙ append_assoc right more rest; written = written; goes_on = subst (λ q. GoesOn rank (operation q a b) more e) (sym same) on }

-- the complaint on an operation explains that it has no value
explains_operation : (named : List ℕ → Option ℤ) (o : Operator) (x : ℤ) (e : Expression) → worth_of named e ≡ None → Explains named (complaint_of o x) e
explains_operation named Plus x e none = none
explains_operation named Minus x e none = none
explains_operation named Times x e none = none
explains_operation named Divide (pos zero) e none = none
explains_operation named Divide (pos (suc n)) e none = none
explains_operation named Divide (negsuc n) e none = none
explains_operation named Remainder (pos zero) e none = none
explains_operation named Remainder (pos (suc n)) e none = none
explains_operation named Remainder (negsuc n) e none = none

module _ (tokens : List Placed) (named : List ℕ → Option ℤ) (start : ℕ) where
  -- ---- what factors settle

  pub figure_settles : (x : ℤ) (part : Part) → IsSymbolAt tokens start (figure x) → FitsSigned w64 x → part ≡ record { value = x; next = start + 1 }
      → Settles tokens named Factor start (Ok part)
  unfolding worth_of
  figure_settles x part at fits made = subst (λ p. Settles tokens named Factor start (Ok p)) (sym made) (λ used rest e split written closed.
      let is = figure_factor x _ rest written (sym at.split ∙ split) in
      (ap (worth_of named) (sym is.0) ∙ fitting-fits x fits, is.1))

  pub word_settles : (bytes : List ℕ) (part : Part) → IsSymbolAt tokens start (word bytes) → named bytes ≡ Some part.value → part.next ≡ start + 1
      → Settles tokens named Factor start (Ok part)
  unfolding worth_of
  word_settles bytes part at known next = λ used rest e split written closed.
      let is = word_factor bytes _ rest written (sym at.split ∙ split) in
      (ap (worth_of named) (sym is.0) ∙ known, ap (λ k. drop k (symbols_of tokens)) next ∙ is.1)

  pub word_unknown : (bytes : List ℕ) (token : ℕ) → IsSymbolAt tokens start (word bytes) → named bytes ≡ None
      → Settles tokens named Factor start (Err (record { complaint = NoValue; token = token }))
  unfolding worth_of
  word_unknown bytes token at unknown = λ used rest e split written closed.
      let is = word_factor bytes _ rest written (sym at.split ∙ split) in
      ap (worth_of named) (sym is.0) ∙ unknown

  pub minus_settles : (inner part : Part) → IsSymbolAt tokens start (sign Minus) → Settles tokens named Factor (start + 1) (Ok inner)
      → in_range (neg_ℤ inner.value) ≡ Some part.value → part.next ≡ inner.next → Settles tokens named Factor start (Ok part)
  unfolding worth_of
  minus_settles inner part at settles worth next = λ used rest e split written closed.
      let is = minus_factor _ rest written (sym at.split ∙ split) in
      let settled = settles is.inner rest is.expression is.split is.written closed in
      (ap (worth_of named) (sym is.same) ∙ rw settled.0 worth, ap (λ k. drop k (symbols_of tokens)) next ∙ settled.1)

  pub minus_overflows : (inner : Part) (token : ℕ) → IsSymbolAt tokens start (sign Minus) → Settles tokens named Factor (start + 1) (Ok inner)
      → in_range (neg_ℤ inner.value) ≡ None → Settles tokens named Factor start (Err (record { complaint = Overflow; token = token }))
  unfolding worth_of
  minus_overflows inner token at settles none = λ used rest e split written closed.
      let is = minus_factor _ rest written (sym at.split ∙ split) in
      let settled = settles is.inner rest is.expression is.split is.written closed in
      ap (worth_of named) (sym is.same) ∙ rw settled.0 none

  pub minus_refused : (fault : Fault) → IsSymbolAt tokens start (sign Minus) → Settles tokens named Factor (start + 1) (Err fault)
      → Settles tokens named Factor start (Err fault)
  unfolding worth_of
  minus_refused fault at settles = λ used rest e split written closed.
      let is = minus_factor _ rest written (sym at.split ∙ split) in
      Explains-whole named fault.complaint is.expression e (λ none. ap (worth_of named) (sym is.same) ∙ rw none refl)
      (settles is.inner rest is.expression is.split is.written closed)

  -- nothing goes on behind a closing bracket
  closing_closed : (rest : List Symbol) → IsClosed Sum (closing ∷ rest)
  closing_closed rest = λ o behind begins. cc

  pub bracket_settles : (inner part : Part) → IsSymbolAt tokens start opening → Settles tokens named Sum (start + 1) (Ok inner)
      → IsSymbolAt tokens inner.next closing → part.value ≡ inner.value → part.next ≡ inner.next + 1 → Settles tokens named Factor start (Ok part)
  bracket_settles inner part at settles end worth next = λ used rest e split written closed.
      let is = bracket_factor _ rest written (sym at.split ∙ split) in
      let settled = settles is.inner (closing ∷ rest) is.expression is.split is.written (closing_closed rest) in
      let behind : drop (inner.next + 1) (symbols_of tokens) ≡ rest = (cc (sym end.split ∙ settled.1)) in
      (ap (worth_of named) (sym is.same) ∙ settled.0 ∙ ap Some (sym worth), ap (λ k. drop k (symbols_of tokens)) next ∙ behind)

  pub bracket_unclosed : (inner : Part) (token : ℕ) → IsSymbolAt tokens start opening → Settles tokens named Sum (start + 1) (Ok inner)
      → ((behind : List Symbol) → drop inner.next (symbols_of tokens) ≢ closing ∷ behind)
      → Settles tokens named Factor start (Err (record { complaint = ExpectedClosing; token = token }))
  bracket_unclosed inner token at settles other = λ used rest e split written closed.
      let is = bracket_factor _ rest written (sym at.split ∙ split) in
      let settled = settles is.inner (closing ∷ rest) is.expression is.split is.written (closing_closed rest) in
      other rest settled.1

  pub bracket_refused : (fault : Fault) → IsSymbolAt tokens start opening → Settles tokens named Sum (start + 1) (Err fault)
      → Settles tokens named Factor start (Err fault)
  bracket_refused fault at settles = λ used rest e split written closed.
      let is = bracket_factor _ rest written (sym at.split ∙ split) in
      Explains-whole named fault.complaint is.expression e (λ none. ap (worth_of named) (sym is.same) ∙ none)
      (settles is.inner (closing ∷ rest) is.expression is.split is.written (closing_closed rest))

  -- no factor begins with another symbol
  pub other_settles : (s : Symbol) (token : ℕ) → IsSymbolAt tokens start s → begins_factor s ≡ false
      → Settles tokens named Factor start (Err (record { complaint = ExpectedOperand; token = token }))
  other_settles s token at other = λ used rest e split written closed.
      let begins = factor_begins written in
      let h = sym at.split ∙ split ∙ ap (λ xs. xs ++ rest) begins.split in
      let same : s ≡ begins.head = (cc h) in
      let clash : false ≡ true = sym other ∙ ap begins_factor same ∙ begins.is in
      (cc clash)

  -- no factor begins at the end
  pub end_settles : (token : ℕ) → length tokens ≤ start
      → Settles tokens named Factor start (Err (record { complaint = ExpectedOperand; token = token }))
  end_settles token past = λ used rest e split written closed.
      let begins = factor_begins written in
      let size : length (symbols_of tokens) ≤ start = simp length-map past in
      let h = sym (drop_of_length-le (symbols_of tokens) size) ∙ split ∙ ap (λ xs. xs ++ rest) begins.split in
      (cc h)

  -- ---- what sums and products settle

  -- an operand of a part that was read so far, and how the tokens behind it go on
  pub record GoesFrom (rank : Rank) (next : ℕ) (x : ℤ) (rest : List Symbol) (e : Expression) : Type 0 where
    pub operand : Expression
    pub on : List Symbol
    pub split : drop next (symbols_of tokens) ≡ on ++ rest
    pub goes_on : GoesOn rank operand on e
    pub worth : worth_of named operand ≡ Some x

  -- the operand so far, for each expression that the part may be
  abbrev pub Going : Rank → Part → Type 0
  Going rank part =
      (used rest : List Symbol) (e : Expression) → drop start (symbols_of tokens) ≡ used ++ rest → Derives rank used e → IsClosed rank rest
      → GoesFrom rank part.next part.value rest e

  settled_end : (rank : Rank) (next : ℕ) (x : ℤ) (rest : List Symbol) (e : Expression) → GoesFrom rank next x rest e
      → ((o : Operator) (behind : List Symbol) → drop next (symbols_of tokens) ≡ sign o ∷ behind → rank_of o ≢ rank)
      → (worth_of named e ≡ Some x) × (drop next (symbols_of tokens) ≡ rest)
  settled_end rank next x rest e g last = by_goes_on g.on g.operand g.goes_on g.split g.worth
    where
      by_goes_on : (on : List Symbol) (operand : Expression) → GoesOn rank operand on e → drop next (symbols_of tokens) ≡ on ++ rest
          → worth_of named operand ≡ Some x → (worth_of named e ≡ Some x) × (drop next (symbols_of tokens) ≡ rest)
      by_goes_on on operand (ends none same) split worth = (ap (worth_of named) (sym same) ∙ worth, split ∙ ap (λ xs. xs ++ rest) none)
      by_goes_on on operand (goes {o = o} is written more begins) split worth =
          absurd (last o _ (split ∙ ap (λ xs. xs ++ rest) begins) is)

  -- the first operand of a sum or a product
  pub first_goes : (rank : Rank) (part : Part) → rank ≢ Factor → Settles tokens named (tighter rank) start (Ok part) → Going rank part
  first_goes rank part other settles = λ used rest e split written closed.
      let s = splits rank other written in
      let settled = settles s.first (s.rest ++ rest) s.operand (split ∙ ap (λ xs. xs ++ rest) s.split ∙ append_assoc s.first s.rest rest) s.written (closed_on other rest closed s.on) in
      record { operand = s.operand; on = s.rest; split = settled.1; goes_on = s.on; worth = settled.0 }

  pub first_refused : (rank : Rank) (fault : Fault) → rank ≢ Factor → Settles tokens named (tighter rank) start (Err fault)
      → Settles tokens named rank start (Err fault)
  first_refused rank fault other settles = λ used rest e split written closed.
      let s = splits rank other written in
      Explains-whole named fault.complaint s.operand e (none_goes_on named s.on)
      (settles s.first (s.rest ++ rest) s.operand (split ∙ ap (λ xs. xs ++ rest) s.split ∙ append_assoc s.first s.rest rest) s.written (closed_on other rest closed s.on))

  -- one more operand
  pub going_on : (rank : Rank) (o : Operator) (left right part : Part) → rank ≢ Factor → Going rank left → IsSymbolAt tokens left.next (sign o) → rank_of o ≡ rank
      → Settles tokens named (tighter rank) (left.next + 1) (Ok right) → result_of o left.value right.value ≡ Some part.value → part.next ≡ right.next
      → Going rank part
  going_on rank o left right part other going at is settles worth next = λ used rest e split written closed.
      let g = going used rest e split written closed in
      let n = next_operand o _ rest g.goes_on (sym at.split ∙ g.split) is closed in
      let settled = settles n.right (n.on ++ rest) n.operand n.split n.written (closed_on other rest closed n.goes_on) in
      record {
        operand = operation o g.operand n.operand;
        on = n.on;
        split = ap (λ k. drop k (symbols_of tokens)) next ∙ settled.1;
        goes_on = n.goes_on;
        worth = value_of-operation named o g.operand n.operand left.value right.value g.worth settled.0 ∙ worth;
      }

  pub right_refused : (rank : Rank) (o : Operator) (left : Part) (fault : Fault) → rank ≢ Factor → Going rank left → IsSymbolAt tokens left.next (sign o)
      → rank_of o ≡ rank → Settles tokens named (tighter rank) (left.next + 1) (Err fault) → Settles tokens named rank start (Err fault)
  right_refused rank o left fault other going at is settles = λ used rest e split written closed.
      let g = going used rest e split written closed in
      let n = next_operand o _ rest g.goes_on (sym at.split ∙ g.split) is closed in
      Explains-whole named fault.complaint n.operand e (λ none. none_goes_on named n.goes_on (right_none named o g.operand n.operand left.value g.worth none))
      (settles n.right (n.on ++ rest) n.operand n.split n.written (closed_on other rest closed n.goes_on))

  pub operation_refused : (rank : Rank) (o : Operator) (left right : Part) (fault : Fault) → rank ≢ Factor → Going rank left → IsSymbolAt tokens left.next (sign o)
      → rank_of o ≡ rank → Settles tokens named (tighter rank) (left.next + 1) (Ok right) → result_of o left.value right.value ≡ None
      → fault.complaint ≡ complaint_of o right.value → Settles tokens named rank start (Err fault)
  operation_refused rank o left right fault other going at is settles none complaint = λ used rest e split written closed.
      let g = going used rest e split written closed in
      let n = next_operand o _ rest g.goes_on (sym at.split ∙ g.split) is closed in
      let settled = settles n.right (n.on ++ rest) n.operand n.split n.written (closed_on other rest closed n.goes_on) in
      let no_value = value_of-operation named o g.operand n.operand left.value right.value g.worth settled.0 ∙ none in
      subst (λ k. Explains named k e) (sym complaint) (explains_operation named o right.value e (none_goes_on named n.goes_on no_value))

  -- no operator of the rank goes on
  pub all_settles : (rank : Rank) (part : Part) → Going rank part
      → ((o : Operator) (behind : List Symbol) → drop part.next (symbols_of tokens) ≡ sign o ∷ behind → rank_of o ≢ rank)
      → Settles tokens named rank start (Ok part)
  all_settles rank part going last = λ used rest e split written closed.
      let g = going used rest e split written closed in settled_end rank part.next part.value rest e g last

  -- ---- what a whole line settles

  nothing_closed : IsClosed Sum []
  nothing_closed = λ o behind begins. cc

  pub whole_refused : (fault : Fault) → Settles tokens named Sum start (Err fault) → SettlesAll tokens named start (Err fault)
  whole_refused fault settles = λ e written. settles (drop start (symbols_of tokens)) [] e (sym (append-nil (drop start (symbols_of tokens)))) written nothing_closed

  pub part_refused : (whole : Part) (token : ℕ) → Settles tokens named Sum start (Ok whole) → whole.next < length tokens
      → SettlesAll tokens named start (Err (record { complaint = ExpectedOperator; token = token }))
  part_refused whole token settles more = λ e written.
      let settled = settles (drop start (symbols_of tokens)) [] e (sym (append-nil (drop start (symbols_of tokens)))) written nothing_closed in
      let size : length (symbols_of tokens) ≡ length tokens = simp length-map refl in
      let left = ap length settled.1 in
      omega (arith, left, length-drop whole.next (symbols_of tokens))
