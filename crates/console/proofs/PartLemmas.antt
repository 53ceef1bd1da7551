-- What tokens write.
use Rattle.std.proofs.Common.{◌≡◌, ℕ, ℤ, pos, negsuc, zero, suc, ◌+◌, ◌<◌, ◌≤◌, ◌^◌, List, [], ◌∷◌, ◌++◌, length, get_or, drop, Option, Some, None, FitsSigned, w64, neg_ℤ, sym, refl, ap, ◌∙◌, subst, arith, append_assoc}
use Rattle.std.proofs.lemmas.Bool.Decides.{nat_tests}
use Rattle.console.specs.declared.arithmetic.operator.Operator.{Operator}
use Rattle.console.specs.declared.arithmetic.operator.Operator.TheVariants.{Plus, Minus, Times, Divide, Remainder}
use Rattle.console.specs.declared.arithmetic.operator.Rank.{Rank}
use Rattle.console.specs.declared.arithmetic.operator.Rank.TheVariants.{Sum, Product, Factor}
use Rattle.console.specs.declared.arithmetic.parts.Part.{Part}
use Rattle.console.specs.declared.arithmetic.token.Placed.{Placed}
use Rattle.console.specs.Expression.{Expression, number, name, negation, operation, in_range, worth_of, result_of}
use Rattle.console.specs.Grammar.{Symbol, figure, word, sign, opening, closing, Derives, by_figure, by_word, by_negation, by_brackets, by_factor, by_product, by_alone, by_sum, rank_of, tighter}
use Rattle.console.specs.Parts.{IsSymbolAt, IsPart}
use Rattle.console.specs.Tokens.{symbol_of, symbols_of}

-- the symbols from a place on begin with that of the token there
split_at : (tokens : List Placed) (place : ℕ) (t : Placed) → place < length tokens → t ≡ get_or tokens place t
    → drop place (symbols_of tokens) ≡ symbol_of t.token ∷ drop (place + 1) (symbols_of tokens)
split_at [] place t within is = absurd (omega arith)
split_at (x ∷ xs) zero t within is = ap (λ u. symbol_of u.token ∷ symbols_of xs) (sym is)
split_at (x ∷ xs) (suc n) t within is =
    let next : suc n + 1 ≡ suc (n + 1) = omega arith in
    split_at xs n t (omega arith) is ∙ ap (λ k. symbol_of t.token ∷ drop k (symbols_of (x ∷ xs))) (sym next)

-- the symbol of the token at a place
pub token_is_at : (tokens : List Placed) (place : ℕ) (t : Placed) → place < length tokens → t ≡ get_or tokens place t → IsSymbolAt tokens place (symbol_of t.token)
token_is_at tokens place t within is = record {
  within = within;
  split = split_at tokens place t within is;
}

-- a number that fits
pub fitting-fits : (x : ℤ) → FitsSigned w64 x → in_range x ≡ Some x
fitting-fits (pos n) fits = grind (arith, nat_tests)
fitting-fits (negsuc n) fits = grind (arith, nat_tests)

-- a number that does not fit
pub fitting-large : (n : ℕ) → 2 ^ 63 ≤ n → in_range (pos n) ≡ None
fitting-large n large = grind (arith, nat_tests)

-- the part that is a number
pub figure_part : (tokens : List Placed) (named : List ℕ → Option ℤ) (start : ℕ) (x : ℤ) (part : Part) → IsSymbolAt tokens start (figure x)
    → FitsSigned w64 x → part ≡ record { value = x; next = start + 1 } → IsPart tokens named Factor start part
unfolding worth_of
figure_part tokens named start x part at fits made = subst (IsPart tokens named Factor start) (sym made) (record {
  used = figure x ∷ [];
  expression = number x;
  split = at.split;
  written = by_figure refl;
  worth = fitting-fits x fits;
  forward = omega arith;
  within = omega (arith, at.within);
})

-- the part that is a name
pub word_part : (tokens : List Placed) (named : List ℕ → Option ℤ) (start : ℕ) (bytes : List ℕ) (part : Part) → IsSymbolAt tokens start (word bytes)
    → named bytes ≡ Some part.value → part.next ≡ start + 1 → IsPart tokens named Factor start part
unfolding worth_of
word_part tokens named start bytes part at known next = record {
  used = word bytes ∷ [];
  expression = name bytes;
  split = at.split ∙ ap (λ k. word bytes ∷ drop k (symbols_of tokens)) (sym next);
  written = by_word refl;
  worth = known;
  forward = omega arith;
  within = omega (arith, at.within);
}

-- the part that is a negation
pub negated_part : (tokens : List Placed) (named : List ℕ → Option ℤ) (start : ℕ) (inner part : Part) → IsSymbolAt tokens start (sign Minus)
    → IsPart tokens named Factor (start + 1) inner → in_range (neg_ℤ inner.value) ≡ Some part.value → part.next ≡ inner.next → IsPart tokens named Factor start part
unfolding worth_of
negated_part tokens named start inner part at is worth next = record {
  used = sign Minus ∷ is.used;
  expression = negation is.expression;
  split = at.split ∙ ap (λ xs. sign Minus ∷ xs) (is.split ∙ ap (λ k. is.used ++ drop k (symbols_of tokens)) (sym next));
  written = by_negation is.written refl;
  worth = rw is.worth worth;
  forward = omega (arith, is.forward);
  within = omega (arith, is.within);
}

-- the part that is a sum in brackets
pub bracketed_part : (tokens : List Placed) (named : List ℕ → Option ℤ) (start : ℕ) (inner part : Part) → IsSymbolAt tokens start opening
    → IsPart tokens named Sum (start + 1) inner → IsSymbolAt tokens inner.next closing → part.value ≡ inner.value → part.next ≡ inner.next + 1
    → IsPart tokens named Factor start part
bracketed_part tokens named start inner part at is end worth next = record {
  used = opening ∷ is.used ++ closing ∷ [];
  expression = is.expression;
  split = at.split ∙ ap (λ xs. opening ∷ xs) (is.split ∙ ap (λ xs. is.used ++ xs) (end.split ∙ ap (λ k. closing ∷ drop k (symbols_of tokens)) (sym next)) ∙ sym (append_assoc is.used (closing ∷ []) _));
  written = by_brackets is.written refl;
  worth = is.worth ∙ ap Some (sym worth);
  forward = omega (arith, is.forward);
  within = omega (arith, end.within);
}

-- two expressions with an operator between them
writes_operation : (o : Operator) (left right : List Symbol) (a b : Expression) → Derives (rank_of o) left a → Derives (tighter (rank_of o)) right b
    → Derives (rank_of o) (left ++ sign o ∷ right) (operation o a b)
writes_operation Plus left right a b l r = by_sum l r refl refl
writes_operation Minus left right a b l r = by_sum l r refl refl
writes_operation Times left right a b l r = by_product l r refl refl
writes_operation Divide left right a b l r = by_product l r refl refl
writes_operation Remainder left right a b l r = by_product l r refl refl

-- the part that is an operation
pub joined_part : (tokens : List Placed) (named : List ℕ → Option ℤ) (start : ℕ) (o : Operator) (left right part : Part)
    → IsPart tokens named (rank_of o) start left → IsSymbolAt tokens left.next (sign o) → IsPart tokens named (tighter (rank_of o)) (left.next + 1) right
    → result_of o left.value right.value ≡ Some part.value → part.next ≡ right.next → IsPart tokens named (rank_of o) start part
unfolding worth_of
joined_part tokens named start o left right part l at r worth next = record {
  used = l.used ++ sign o ∷ r.used;
  expression = operation o l.expression r.expression;
  split = l.split ∙ ap (λ xs. l.used ++ xs) (at.split ∙ ap (λ xs. sign o ∷ xs) (r.split ∙ ap (λ k. r.used ++ drop k (symbols_of tokens)) (sym next))) ∙ sym (append_assoc l.used (sign o ∷ r.used) _);
  written = writes_operation o l.used r.used l.expression r.expression l.written r.written;
  worth = rw (l.worth, r.worth) worth;
  forward = omega (arith, l.forward, r.forward);
  within = omega (arith, r.within);
}

-- a part of a tighter rank is one of a looser rank
pub looser_part : (tokens : List Placed) (named : List ℕ → Option ℤ) (rank : Rank) (start : ℕ) (part : Part)
    → IsPart tokens named (tighter rank) start part → IsPart tokens named rank start part
looser_part tokens named Sum start part is = record { used = is.used; expression = is.expression; split = is.split; written = by_alone is.written; worth = is.worth; forward = is.forward; within = is.within }
looser_part tokens named Product start part is = record { used = is.used; expression = is.expression; split = is.split; written = by_factor is.written; worth = is.worth; forward = is.forward; within = is.within }
looser_part tokens named Factor start part is = is
