-- Quotes that are closed, and the one that stands open.
use Rattle.std.proofs.Common.{◌≡◌, ◌≢◌, ℕ, ◌+◌, ◌-◌, ◌<◌, ◌==◌, eqb, Bool, true, false, true≢false, not, ◌&&◌, ◌||◌, List, [], ◌∷◌, ◌++◌, length, take, drop, Option, Some, None, MatchOption, inl, inr, ⊎_elim, refl, sym, ap, ◌∙◌, subst, arith, append_assoc, append-nil, length-append}
use lib.Utf8.{encode}
use denote.Ref.{Bor}
use Rattle.std.specs.Str.{IsUtf8, chars}
use Rattle.std.proofs.lemmas.Str.{chars-nil}
use Rattle.std.proofs.lemmas.Bool.{cases_Bool}
use Rattle.std.proofs.lemmas.List.{length-take-le, take-append-drop}
use Rattle.std.proofs.lemmas.List.Folds.{list_all-append}
use Rattle.std.proofs.Math.Seq.{drop-append-add, drop-append_seam, take-append_seam}
use Rattle.std.proofs.lemmas.Slice.Eq.{bytes_eq-Decides}
use Rattle.std.specs.List.{list_all}
use Rattle.line_parts.specs.CompletionLaws.{OneQuoteIsOpen}
use Rattle.line_parts.specs.History.{last_of}
use Rattle.line_parts.specs.Quoting.{backslash, double, BeginsClosed, IsUnpaired, OpensAt, ends_in, is_bare, is_closed, is_closed_piece, is_double_piece, is_inside, is_quoted, is_unclosed, open_quote, single, without_last}
use Rattle.line_parts.specs.declared.completion.escapes.Quote.{Quote}
use Rattle.line_parts.specs.declared.completion.escapes.Quote.TheVariants as quote
use Rattle.line_parts.proofs.CutLemmas.{Apart, Stops, cut_one_way}
use Rattle.line_parts.proofs.HistoryLemmas.{least_below_is, none_below}
use Rattle.line_parts.proofs.PieceLemmas.{and, both, either, left, made_append, made_nil, made_one, right}
use Rattle.line_parts.proofs.WordLemmas.{is_other, is_same, next_char}

-- a number is not two
is_not : (c n : ℕ) → not (c == n) ≡ true → c ≡ n → ⊥
is_not c n other same = grind arith

same_number : (c n : ℕ) → (c == n) ≡ true → c ≡ n
same_number c n h = grind arith

-- lists that begin with different numbers are different
no_two : {B : Type 0} (m n : ℕ) (x y : List ℕ) → eqb m n ≡ false → m ∷ x ≡ n ∷ y → B
no_two m n x y other e = let head : m ≡ n = cc in absurd (true≢false (sym (is_same head) ∙ other))

-- a text that ends in a character is what stands before it, and the character
ends : (c : ℕ) (cs : List ℕ) → ends_in c cs ≡ true → cs ≡ without_last cs ++ c ∷ []
ends c cs h =
    sym (take-append-drop (length cs - 1) cs) ∙ ap (λ l. without_last cs ++ l) ((bytes_eq-Decides (last_of 1 cs) (c ∷ [])).0 h)

-- pieces of what stands in double quotes
double_apart : Apart is_double_piece
double_apart [] q x y hp hq e = absurd (true≢false (sym hp))
double_apart p [] x y hp hq e = absurd (true≢false (sym hq))
double_apart (c ∷ []) (d ∷ []) x y hp hq e = let head : c ≡ d = cc in ap (λ n. n ∷ []) head
double_apart (c ∷ []) (d ∷ d' ∷ []) x y hp hq e =
    let head : c ≡ d = cc in
    absurd (is_not c 92 (both (not (c == double)) (not (c == backslash)) hp).1 (head ∙ same_number d 92 hq))
double_apart (c ∷ c' ∷ []) (d ∷ []) x y hp hq e =
    let head : c ≡ d = cc in
    absurd (is_not d 92 (both (not (d == double)) (not (d == backslash)) hq).1 (sym head ∙ same_number c 92 hp))
double_apart (c ∷ c' ∷ []) (d ∷ d' ∷ []) x y hp hq e =
    let head : c ≡ d = cc in
    let next : c' ≡ d' = cc in
    ap (λ n. n ∷ c' ∷ []) head ∙ ap (λ n. d ∷ n ∷ []) next
double_apart (c ∷ c' ∷ c'' ∷ cs) q x y hp hq e = absurd (true≢false (sym hp))
double_apart p (d ∷ d' ∷ d'' ∷ ds) x y hp hq e = absurd (true≢false (sym hq))

double_stops_at_end : Stops is_double_piece []
double_stops_at_end [] x hp e = absurd (true≢false (sym hp))
double_stops_at_end (c ∷ cs) x hp e = absurd (cc)

double_stops_at_quote : (rest : List ℕ) → Stops is_double_piece (34 ∷ rest)
double_stops_at_quote rest [] x hp e = absurd (true≢false (sym hp))
double_stops_at_quote rest (c ∷ []) x hp e =
    let head : c ≡ 34 = cc in is_not c 34 (both (not (c == double)) (not (c == backslash)) hp).0 head
double_stops_at_quote rest (c ∷ d ∷ []) x hp e =
    let head : c ≡ 34 = cc in let same = same_number c 92 hp in omega (arith, head, same)
double_stops_at_quote rest (c ∷ d ∷ d' ∷ cs) x hp e = absurd (true≢false (sym hp))

double_stops_at_backslash : Stops is_double_piece (92 ∷ [])
double_stops_at_backslash [] x hp e = absurd (true≢false (sym hp))
double_stops_at_backslash (c ∷ []) x hp e =
    let head : c ≡ 92 = cc in is_not c 92 (both (not (c == double)) (not (c == backslash)) hp).1 head
double_stops_at_backslash (c ∷ d ∷ cs) x hp e = absurd (cc)

-- what stands in single quotes ends at the first of them
single_one_way : (a b x y : List ℕ) → list_all (λ c. not (c == single)) a ≡ true → list_all (λ c. not (c == single)) b ≡ true
    → a ++ 39 ∷ x ≡ b ++ 39 ∷ y → a ≡ b
single_one_way [] [] x y ha hb e = refl
single_one_way [] (d ∷ b) x y ha hb e =
    let head : 39 ≡ d = cc in
    absurd (is_not d 39 (both (not (d == single)) (list_all (λ c. not (c == single)) b) hb).0 (sym head))
single_one_way (c ∷ a) [] x y ha hb e =
    let head : c ≡ 39 = cc in
    absurd (is_not c 39 (both (not (c == single)) (list_all (λ c. not (c == single)) a) ha).0 head)
single_one_way (c ∷ a) (d ∷ b) x y ha hb e =
    let head : c ≡ d = cc in
    let tail : a ++ 39 ∷ x ≡ b ++ 39 ∷ y = cc in
    let one = both (not (c == single)) (list_all (λ c. not (c == single)) a) ha in
    let other = both (not (d == single)) (list_all (λ c. not (c == single)) b) hb in
    ap (λ n. n ∷ a) head ∙ ap (λ l. d ∷ l) (single_one_way a b x y one.1 other.1 tail)

-- the pieces of closed text, by their first character
data Piece : List ℕ → Type 0 where
  plain : (c : ℕ) → c ≢ 34 → c ≢ 39 → c ≢ 92 → Piece (c ∷ [])
  escaped : (c : ℕ) → Piece (92 ∷ c ∷ [])
  doubled : (body : List ℕ) → is_inside quote.Double body ≡ true → Piece (34 ∷ body ++ 34 ∷ [])
  singled : (body : List ℕ) → is_inside quote.Single body ≡ true → Piece (39 ∷ body ++ 39 ∷ [])

bare_piece : (p : List ℕ) → is_bare p ≡ true → Piece p
bare_piece [] h = absurd (true≢false (sym h))
bare_piece (c ∷ []) h =
    let one = both (not (c == double) && not (c == single)) (not (c == backslash)) h in
    let two = both (not (c == double)) (not (c == single)) one.0 in
    plain c (is_not c 34 two.0) (is_not c 39 two.1) (is_not c 92 one.1)
bare_piece (c ∷ d ∷ []) h = subst Piece (ap (λ n. n ∷ d ∷ []) (sym (same_number c 92 h))) (escaped d)
bare_piece (c ∷ d ∷ e ∷ cs) h = absurd (true≢false (sym h))

-- a quoted piece is the quote, what stands inside, and the quote
record Quoted (kind : Quote) (mark : ℕ) (p : List ℕ) : Type 0 where
  body : List ℕ
  inside : is_inside kind body ≡ true
  whole : mark ∷ body ++ mark ∷ [] ≡ p

quoted : (kind : Quote) (mark : ℕ) (p : List ℕ) → is_quoted kind mark p ≡ true → Quoted kind mark p
quoted kind mark [] h = absurd (true≢false (sym h))
quoted kind mark (c ∷ cs) h =
    let one = both (c == mark && ends_in mark cs) (is_inside kind (without_last cs)) h in
    let two = both (c == mark) (ends_in mark cs) one.0 in
    record {
      body = without_last cs;
      inside = one.1;
      whole = ap (λ n. n ∷ without_last cs ++ mark ∷ []) (sym (same_number c mark two.0)) ∙ ap (λ l. c ∷ l) (sym (ends mark cs two.1));
    }

piece_of : (p : List ℕ) → is_closed_piece p ≡ true → Piece p
piece_of p h = elim (either (is_bare p || is_quoted quote.Double double p) (is_quoted quote.Single single p) h) [
  | inl other ↦ elim (either (is_bare p) (is_quoted quote.Double double p) other) [
    | inl bare ↦ bare_piece p bare
    | inr two ↦ let q = quoted quote.Double 34 p two in subst Piece q.whole (doubled q.body q.inside)
  ]
  | inr one ↦ let q = quoted quote.Single 39 p one in subst Piece q.whole (singled q.body q.inside)
]

-- the tail of a quoted piece, and what stands behind it
behind_quote : (mark : ℕ) (body x : List ℕ) → (mark ∷ body ++ mark ∷ []) ++ x ≡ mark ∷ (body ++ mark ∷ x)
behind_quote mark body x = ap (λ l. mark ∷ l) (append_assoc body (mark ∷ []) x)

pieces_apart : (p q x y : List ℕ) → Piece p → Piece q → p ++ x ≡ q ++ y → p ≡ q
pieces_apart p q x y (plain c a b d) (plain c' a' b' d') e = let head : c ≡ c' = cc in ap (λ n. n ∷ []) head
pieces_apart p q x y (plain c a b d) (escaped c') e = absurd (d (cc))
pieces_apart p q x y (plain c a b d) (doubled body' h') e = absurd (a (cc))
pieces_apart p q x y (plain c a b d) (singled body' h') e = absurd (b (cc))
pieces_apart p q x y (escaped c) (plain c' a' b' d') e = let head : 92 ≡ c' = cc in absurd (d' (sym head))
pieces_apart p q x y (escaped c) (escaped c') e = let next : c ≡ c' = cc in ap (λ n. 92 ∷ n ∷ []) next
pieces_apart p q x y (escaped c) (doubled body' h') e = no_two 92 34 _ _ refl e
pieces_apart p q x y (escaped c) (singled body' h') e = no_two 92 39 _ _ refl e
pieces_apart p q x y (doubled body h) (plain c' a' b' d') e = let head : 34 ≡ c' = cc in absurd (a' (sym head))
pieces_apart p q x y (doubled body h) (escaped c') e = no_two 34 92 _ _ refl e
pieces_apart p q x y (doubled body h) (doubled body' h') e =
    let whole : 34 ∷ (body ++ 34 ∷ x) ≡ 34 ∷ (body' ++ 34 ∷ y) = sym (behind_quote 34 body x) ∙ e ∙ behind_quote 34 body' y in
    let tail : body ++ 34 ∷ x ≡ body' ++ 34 ∷ y = cc in
    let same = cut_one_way is_double_piece double_apart body body' (34 ∷ x) (34 ∷ y) h h' (double_stops_at_quote x) (double_stops_at_quote y) tail in
    ap (λ l. 34 ∷ l ++ 34 ∷ []) same.0
pieces_apart p q x y (doubled body h) (singled body' h') e = no_two 34 39 _ _ refl e
pieces_apart p q x y (singled body h) (plain c' a' b' d') e = let head : 39 ≡ c' = cc in absurd (b' (sym head))
pieces_apart p q x y (singled body h) (escaped c') e = no_two 39 92 _ _ refl e
pieces_apart p q x y (singled body h) (doubled body' h') e = no_two 39 34 _ _ refl e
pieces_apart p q x y (singled body h) (singled body' h') e =
    let whole : 39 ∷ (body ++ 39 ∷ x) ≡ 39 ∷ (body' ++ 39 ∷ y) = sym (behind_quote 39 body x) ∙ e ∙ behind_quote 39 body' y in
    let tail : body ++ 39 ∷ x ≡ body' ++ 39 ∷ y = cc in
    ap (λ l. 39 ∷ l ++ 39 ∷ []) (single_one_way body body' x y h h' tail)

closed_apart : Apart is_closed_piece
closed_apart p q x y hp hq e = pieces_apart p q x y (piece_of p hp) (piece_of q hq) e

-- no piece begins a quote that never closes
double_never : (p x cs : List ℕ) → Piece p → p ++ x ≡ 34 ∷ cs
    → (is_inside quote.Double cs || (ends_in backslash cs && is_inside quote.Double (without_last cs))) ≡ true → ⊥
double_never p x cs (plain c a b d) e h = a (cc)
double_never p x cs (escaped c) e h = no_two 92 34 _ _ refl e
double_never p x cs (singled body inside) e h = no_two 39 34 _ _ refl e
double_never p x cs (doubled body inside) e h =
    let whole : 34 ∷ (body ++ 34 ∷ x) ≡ 34 ∷ cs = sym (behind_quote 34 body x) ∙ e in
    let tail : body ++ 34 ∷ x ≡ cs = cc in
    elim (either (is_inside quote.Double cs) (ends_in backslash cs && is_inside quote.Double (without_last cs)) h) [
      | inl all ↦
          let same = cut_one_way is_double_piece double_apart body cs (34 ∷ x) [] inside all (double_stops_at_quote x) double_stops_at_end (tail ∙ sym (append-nil cs)) in
          let nothing : 34 ∷ x ≡ [] = same.1 in
          absurd (cc)
      | inr last ↦
          let parts = both (ends_in backslash cs) (is_inside quote.Double (without_last cs)) last in
          let same = cut_one_way is_double_piece double_apart body (without_last cs) (34 ∷ x) (92 ∷ []) inside parts.1 (double_stops_at_quote x) double_stops_at_backslash (tail ∙ ends 92 cs parts.0) in
          no_two 34 92 _ _ refl same.1
    ]

single_never : (p x cs : List ℕ) → Piece p → p ++ x ≡ 39 ∷ cs → is_inside quote.Single cs ≡ true → ⊥
single_never p x cs (plain c a b d) e h = b (cc)
single_never p x cs (escaped c) e h = no_two 92 39 _ _ refl e
single_never p x cs (doubled body inside) e h = no_two 34 39 _ _ refl e
single_never p x cs (singled body inside) e h =
    let whole : 39 ∷ (body ++ 39 ∷ x) ≡ 39 ∷ cs = sym (behind_quote 39 body x) ∙ e in
    let tail : body ++ 39 ∷ x ≡ cs = cc in
    let all = sym (list_all-append (λ c. not (c == single)) body (39 ∷ x)) ∙ ap (list_all (λ c. not (c == single))) tail ∙ h in
    true≢false (sym (both (list_all (λ c. not (c == single)) body) (list_all (λ c. not (c == single)) (39 ∷ x)) all).1)

pub unclosed_stops : (kind : Quote) (u : List ℕ) → is_unclosed kind u ≡ true → Stops is_closed_piece u
unclosed_stops quote.Double [] h p x hp e = absurd (true≢false (sym h))
unclosed_stops quote.Single [] h p x hp e = absurd (true≢false (sym h))
unclosed_stops quote.None [] h p x hp e = absurd (true≢false (sym h))
unclosed_stops quote.None (c ∷ cs) h p x hp e = absurd (true≢false (sym h))
unclosed_stops quote.Double (c ∷ cs) h p x hp e =
    let parts = both (c == double) (is_inside quote.Double cs || (ends_in backslash cs && is_inside quote.Double (without_last cs))) h in
    double_never p x cs (piece_of p hp) (e ∙ ap (λ n. n ∷ cs) (same_number c 34 parts.0)) parts.1
unclosed_stops quote.Single (c ∷ cs) h p x hp e =
    let parts = both (c == single) (is_inside quote.Single cs) h in
    single_never p x cs (piece_of p hp) (e ∙ ap (λ n. n ∷ cs) (same_number c 39 parts.0)) parts.1

pub nothing_stops : Stops is_closed_piece []
nothing_stops [] x hp e = absurd (true≢false (sym hp))
nothing_stops (c ∷ cs) x hp e = absurd (cc)

backslash_stop : (p x : List ℕ) → Piece p → p ++ x ≡ 92 ∷ [] → ⊥
backslash_stop p x (plain c a b d) e = d (cc)
backslash_stop p x (escaped c) e = absurd (cc)
backslash_stop p x (doubled body h) e = no_two 34 92 _ _ refl e
backslash_stop p x (singled body h) e = no_two 39 92 _ _ refl e

pub backslash_stops : Stops is_closed_piece (92 ∷ [])
backslash_stops p x hp e = backslash_stop p x (piece_of p hp) e

-- behind closed text, where no piece goes on, a quote is open at one place only
module _ (front rest : List ℕ) (closed : is_closed front ≡ true) (stops : Stops is_closed_piece rest) where
  abbrev opens : Quote → ℕ → Bool
  opens kind place = is_closed (take place (front ++ rest)) && is_unclosed kind (drop place (front ++ rest))

  at_front : (kind : Quote) (place : ℕ) → place < length (front ++ rest) → opens kind place ≡ true
      → (place ≡ length front) × (is_unclosed kind rest ≡ true)
  at_front kind place within h =
      let cs = front ++ rest in
      let parts = both (is_closed (take place cs)) (is_unclosed kind (drop place cs)) h in
      let same = cut_one_way is_closed_piece closed_apart (take place cs) front (drop place cs) rest parts.0 closed (unclosed_stops kind (drop place cs) parts.1) stops (take-append-drop place cs) in
      (sym (length-take-le place cs (omega (arith, within))) ∙ ap length same.0, ap (is_unclosed kind) (sym same.1) ∙ parts.1)

  pub none_open : (kind : Quote) → is_unclosed kind rest ≡ false → open_quote kind (front ++ rest) ≡ None
  none_open kind other = none_below (length (front ++ rest)) (opens kind) (λ k lt. ⊎_elim
      (λ here. absurd (true≢false (sym (at_front kind k lt here).1 ∙ other)))
      (λ no. no) (cases_Bool (opens kind k)))

  pub opens_here : (kind : Quote) → is_unclosed kind rest ≡ true → 0 < length rest → open_quote kind (front ++ rest) ≡ Some (length front)
  opens_here kind here some =
      least_below_is (length (front ++ rest)) (length front) (opens kind) (omega (arith, some, length-append front rest))
      (λ k lt. ⊎_elim
      (λ at. let same = (at_front kind k (omega (arith, lt, length-append front rest)) at).0 in absurd (omega (arith, lt, same)))
      (λ no. no) (cases_Bool (opens kind k)))
      (rw (take-append_seam front rest, drop-append_seam front rest, closed) here)

-- what was read of a text in quotes can stand there, and the rest is still to be read
pub record Inside (kind : Quote) (whole rest : List ℕ) : Type 0 where
  pub utf8 : IsUtf8 rest
  pub body : List ℕ
  pub inside : is_inside kind body ≡ true
  pub joins : chars whole ≡ body ++ chars rest

pub double_start : (text : List ℕ) → IsUtf8 text → Inside quote.Double text text
double_start text utf8 = record { utf8 = utf8; body = []; inside = made_nil is_double_piece; joins = refl }

pub single_start : (text : List ℕ) → IsUtf8 text → Inside quote.Single text text
single_start text utf8 = record { utf8 = utf8; body = []; inside = refl; joins = refl }

double_further : (whole rest more piece : List ℕ) → (so : Inside quote.Double whole rest) → is_double_piece piece ≡ true → IsUtf8 more
    → chars rest ≡ piece ++ chars more → Inside quote.Double whole more
double_further whole rest more piece so good utf8 is = record {
  utf8 = utf8;
  body = so.body ++ piece;
  inside = made_append is_double_piece so.body piece refl so.inside (made_one is_double_piece piece refl good);
  joins = so.joins ∙ ap (λ l. so.body ++ l) is ∙ sym (append_assoc so.body piece (chars more));
}

pub double_more : (whole rest more : List ℕ) (c : ℕ) → Inside quote.Double whole rest → rest ≡ encode c ++ more → c ≢ 34 → c ≢ 92
    → Inside quote.Double whole more
double_more whole rest more c so is no_quote no_backslash =
    let next = next_char c rest more so.utf8 is in
    let good : is_double_piece (c ∷ []) ≡ true = and (not (c == double)) (not (c == backslash)) (ap not (is_other no_quote)) (ap not (is_other no_backslash)) in
    double_further whole rest more (c ∷ []) so good next.2 next.0

pub double_pair : (whole rest more behind : List ℕ) (c d : ℕ) → Inside quote.Double whole rest → rest ≡ encode c ++ more → c ≡ 92
    → more ≡ encode d ++ behind → Inside quote.Double whole behind
double_pair whole rest more behind c d so is same is_more =
    let next = next_char c rest more so.utf8 is in
    let last = next_char d more behind next.2 is_more in
    double_further whole rest behind (c ∷ d ∷ []) so (is_same same) last.2 (next.0 ∙ ap (λ l. c ∷ l) last.0)

-- a list that ends in a character
ends_so : (c : ℕ) (xs : List ℕ) → (ends_in c (xs ++ c ∷ []) ≡ true) × (without_last (xs ++ c ∷ []) ≡ xs)
ends_so c xs =
    let len : length (xs ++ c ∷ []) - 1 ≡ length xs = omega (arith, length-append xs (c ∷ [])) in (
      (bytes_eq-Decides (last_of 1 (xs ++ c ∷ [])) (c ∷ [])).1 (ap (λ n. drop n (xs ++ c ∷ [])) len ∙ drop-append_seam xs (c ∷ [])),
      ap (λ n. take n (xs ++ c ∷ [])) len ∙ take-append_seam xs (c ∷ []),
    )

never_closes : (cs : List ℕ) → (is_inside quote.Double cs || (ends_in backslash cs && is_inside quote.Double (without_last cs))) ≡ true
    → is_unclosed quote.Double (34 ∷ cs) ≡ true
never_closes cs h = h

pub double_open : (whole rest : List ℕ) → Inside quote.Double whole rest → rest ≡ [] → is_unclosed quote.Double (34 ∷ chars whole) ≡ true
double_open whole rest so none =
    let all : chars whole ≡ so.body = so.joins ∙ ap (λ l. so.body ++ chars l) none ∙ ap (λ l. so.body ++ l) chars-nil ∙ append-nil so.body in
    never_closes (chars whole) (left (is_inside quote.Double (chars whole)) _ (ap (is_inside quote.Double) all ∙ so.inside))

pub double_cut : (whole rest more : List ℕ) (c : ℕ) → Inside quote.Double whole rest → rest ≡ encode c ++ more → c ≡ 92 → more ≡ []
    → is_unclosed quote.Double (34 ∷ chars whole) ≡ true
double_cut whole rest more c so is same none =
    let next = next_char c rest more so.utf8 is in
    let all : chars whole ≡ so.body ++ 92 ∷ [] =
    so.joins ∙ ap (λ l. so.body ++ l) (next.0 ∙ ap (λ l. c ∷ chars l) none ∙ ap (λ l. c ∷ l) chars-nil ∙ ap (λ n. n ∷ []) same) in
    let last = ends_so 92 so.body in
    let good = and (ends_in backslash (chars whole)) (is_inside quote.Double (without_last (chars whole))) (ap (ends_in backslash) all ∙ last.0)
    (ap (λ l. is_inside quote.Double (without_last l)) all ∙ ap (is_inside quote.Double) last.1 ∙ so.inside) in
    never_closes (chars whole) (right (is_inside quote.Double (chars whole)) _ good)

-- what stands in quotes of a kind, up to the quote that closes
abbrev pub Closes : Quote → ℕ → List ℕ → List ℕ → Type 0
Closes kind mark whole rest = (body : List ℕ) × (is_inside kind body ≡ true) × (chars whole ≡ body ++ mark ∷ chars rest)

pub closes : (kind : Quote) (mark : ℕ) (whole rest more : List ℕ) (c : ℕ) → Inside kind whole rest → rest ≡ encode c ++ more → c ≡ mark
    → Closes kind mark whole more
closes kind mark whole rest more c so is same =
    let next = next_char c rest more so.utf8 is in
    (so.body, so.inside, so.joins ∙ ap (λ l. so.body ++ l) next.0 ∙ ap (λ n. so.body ++ n ∷ chars more) same)

pub single_more : (whole rest more : List ℕ) (c : ℕ) → Inside quote.Single whole rest → rest ≡ encode c ++ more → c ≢ 39 → Inside quote.Single whole more
single_more whole rest more c so is other =
    let next = next_char c rest more so.utf8 is in
    let good : is_inside quote.Single (c ∷ []) ≡ true = and (not (c == single)) true (ap not (is_other other)) refl in
    record {
      utf8 = next.2;
      body = so.body ++ c ∷ [];
      inside = list_all-append (λ n. not (n == single)) so.body (c ∷ []) ∙ and (is_inside quote.Single so.body) (is_inside quote.Single (c ∷ [])) so.inside good;
      joins = so.joins ∙ ap (λ l. so.body ++ l) next.0 ∙ sym (append_assoc so.body (c ∷ []) (chars more));
    }

pub single_open : (whole rest : List ℕ) → Inside quote.Single whole rest → rest ≡ [] → is_unclosed quote.Single (39 ∷ chars whole) ≡ true
single_open whole rest so none =
    let all : chars whole ≡ so.body = so.joins ∙ ap (λ l. so.body ++ chars l) none ∙ ap (λ l. so.body ++ l) chars-nil ∙ append-nil so.body in
    ap (is_inside quote.Single) all ∙ so.inside

-- where nothing is answered, what is said of that holds
pub is_nothing : {A : Type 0} (answer : Option A) (N : Type 0) (S : A → Type 0) → answer ≡ None → N → MatchOption answer N S
is_nothing None N S same h = h
is_nothing (Some a) N S same h = absurd (cc)

-- a text in quotes, with these, is a piece of closed text
doubled_piece : (body : List ℕ) → is_inside quote.Double body ≡ true → is_closed_piece (34 ∷ body ++ 34 ∷ []) ≡ true
doubled_piece body inside =
    let last = ends_so 34 body in
    let cs = body ++ 34 ∷ [] in
    left (is_bare (34 ∷ cs) || is_quoted quote.Double double (34 ∷ cs)) (is_quoted quote.Single single (34 ∷ cs))
    (right (is_bare (34 ∷ cs)) (is_quoted quote.Double double (34 ∷ cs))
    (and (ends_in double cs) (is_inside quote.Double (without_last cs)) last.0 (ap (is_inside quote.Double) last.1 ∙ inside)))

singled_piece : (body : List ℕ) → is_inside quote.Single body ≡ true → is_closed_piece (39 ∷ body ++ 39 ∷ []) ≡ true
singled_piece body inside =
    let last = ends_so 39 body in
    let cs = body ++ 39 ∷ [] in
    right (is_bare (39 ∷ cs) || is_quoted quote.Double double (39 ∷ cs)) (is_quoted quote.Single single (39 ∷ cs))
    (and (ends_in single cs) (is_inside quote.Single (without_last cs)) last.0 (ap (is_inside quote.Single) last.1 ∙ inside))

-- the first piece of a text that begins with a quote
pub after_double : (first : ℕ) (more : List ℕ) (found : Option (Bor (List ℕ))) → first ≡ 34
    → MatchOption found (is_unclosed quote.Double (double ∷ chars more) ≡ true) (λ rest. Closes quote.Double double more rest.now)
    → MatchOption found (IsUnpaired (first ∷ chars more)) (λ rest. BeginsClosed (first ∷ chars more) (chars rest.now))
after_double first more None same unclosed = inl (ap (λ n. is_unclosed quote.Double (n ∷ chars more)) same ∙ unclosed)
after_double first more (Some rest) same closed = record {
  piece = 34 ∷ closed.0 ++ 34 ∷ [];
  closed = doubled_piece closed.0 closed.1;
  whole = ap (λ n. n ∷ chars more) same ∙ ap (λ l. 34 ∷ l) closed.2 ∙ sym (behind_quote 34 closed.0 (chars rest.now));
}

pub after_single : (first : ℕ) (more : List ℕ) (found : Option (Bor (List ℕ))) → first ≡ 39
    → MatchOption found (is_unclosed quote.Single (single ∷ chars more) ≡ true) (λ rest. Closes quote.Single single more rest.now)
    → MatchOption found (IsUnpaired (first ∷ chars more)) (λ rest. BeginsClosed (first ∷ chars more) (chars rest.now))
after_single first more None same unclosed = inr (inl (ap (λ n. is_unclosed quote.Single (n ∷ chars more)) same ∙ unclosed))
after_single first more (Some rest) same closed = record {
  piece = 39 ∷ closed.0 ++ 39 ∷ [];
  closed = singled_piece closed.0 closed.1;
  whole = ap (λ n. n ∷ chars more) same ∙ ap (λ l. 39 ∷ l) closed.2 ∙ sym (behind_quote 39 closed.0 (chars rest.now));
}

-- a backslash that stands alone, one with the character behind it, and another character
pub lone_backslash : (first : ℕ) (more : List ℕ) → first ≡ 92 → more ≡ [] → IsUnpaired (first ∷ chars more)
lone_backslash first more same none = inr (inr (ap (λ n. n ∷ chars more) same ∙ ap (λ l. 92 ∷ chars l) none ∙ ap (λ l. 92 ∷ l) chars-nil))

pub after_escaped : (first d : ℕ) (more behind : List ℕ) → first ≡ 92 → IsUtf8 more → more ≡ encode d ++ behind
    → BeginsClosed (first ∷ chars more) (chars behind)
after_escaped first d more behind same utf8 is = record {
  piece = 92 ∷ d ∷ [];
  closed = refl;
  whole = ap (λ n. n ∷ chars more) same ∙ ap (λ l. 92 ∷ l) (next_char d more behind utf8 is).0;
}

pub after_plain : (first : ℕ) (more : List ℕ) → first ≢ 34 → first ≢ 39 → first ≢ 92 → BeginsClosed (first ∷ chars more) (chars more)
after_plain first more a b d = record {
  piece = first ∷ [];
  closed = left (is_bare (first ∷ []) || is_quoted quote.Double double (first ∷ [])) (is_quoted quote.Single single (first ∷ []))
      (left (is_bare (first ∷ [])) (is_quoted quote.Double double (first ∷ []))
      (and (not (first == double) && not (first == single)) (not (first == backslash))
      (and (not (first == double)) (not (first == single)) (ap not (is_other a)) (ap not (is_other b))) (ap not (is_other d))));
  whole = refl;
}

-- what was read is closed text
pub record ClosedUpTo (whole rest : List ℕ) : Type 0 where
  pub utf8 : IsUtf8 rest
  pub front : List ℕ
  pub closed : is_closed front ≡ true
  pub joins : chars whole ≡ front ++ chars rest

pub closed_start : (text : List ℕ) → IsUtf8 text → ClosedUpTo text text
closed_start text utf8 = record { utf8 = utf8; front = []; closed = made_nil is_closed_piece; joins = refl }

pub closed_more : (whole rest more behind : List ℕ) (first : ℕ) → ClosedUpTo whole rest → rest ≡ encode first ++ more → IsUtf8 behind
    → BeginsClosed (first ∷ chars more) (chars behind) → ClosedUpTo whole behind
closed_more whole rest more behind first so is utf8 begins =
    let next = next_char first rest more so.utf8 is in
    record {
      utf8 = utf8;
      front = so.front ++ begins.piece;
      closed = made_append is_closed_piece so.front begins.piece refl so.closed (made_one is_closed_piece begins.piece refl begins.closed);
      joins = so.joins ∙ ap (λ l. so.front ++ l) (next.0 ∙ begins.whole) ∙ sym (append_assoc so.front begins.piece (chars behind));
    }

some_piece : (p : List ℕ) → is_closed_piece p ≡ true → 0 < length p
some_piece [] h = absurd (true≢false (sym h))
some_piece (c ∷ cs) h = omega arith

pub closed_shorter : (rest more behind : List ℕ) (first : ℕ) → IsUtf8 rest → rest ≡ encode first ++ more
    → BeginsClosed (first ∷ chars more) (chars behind) → length (chars behind) < length (chars rest)
closed_shorter rest more behind first utf8 is begins =
    let next = next_char first rest more utf8 is in
    omega (arith, ap length (next.0 ∙ begins.whole), length-append begins.piece (chars behind), some_piece begins.piece begins.closed)

-- quotes of two kinds begin differently
one_kind : (kind other : Quote) (cs : List ℕ) → is_unclosed kind cs ≡ true → other ≢ kind → is_unclosed other cs ≡ false
one_kind kind other [] h differs = absurd (true≢false (sym h))
one_kind kind quote.None (c ∷ cs) h differs = refl
one_kind quote.None quote.Double (c ∷ cs) h differs = absurd (true≢false (sym h))
one_kind quote.None quote.Single (c ∷ cs) h differs = absurd (true≢false (sym h))
one_kind quote.Double quote.Double (c ∷ cs) h differs = absurd (differs refl)
one_kind quote.Single quote.Single (c ∷ cs) h differs = absurd (differs refl)
one_kind quote.Double quote.Single (c ∷ cs) h differs =
    let two = same_number c 34 (both (c == double) _ h).0 in
    ap (λ n. (n == single) && is_inside quote.Single cs) two
one_kind quote.Single quote.Double (c ∷ cs) h differs =
    let one = same_number c 39 (both (c == single) _ h).0 in
    ap (λ n. (n == double) && (is_inside quote.Double cs || (ends_in backslash cs && is_inside quote.Double (without_last cs)))) one

-- the quote that stands open
pub found_open : (whole rest more : List ℕ) (first : ℕ) (kind : Quote) → kind ≢ quote.None → ClosedUpTo whole rest → rest ≡ encode first ++ more
    → is_unclosed kind (first ∷ chars more) ≡ true → OpensAt (chars whole) kind (chars more)
found_open whole rest more first kind some so is unclosed =
    let next = next_char first rest more so.utf8 is in
    let all : chars whole ≡ so.front ++ (first ∷ chars more) = so.joins ∙ ap (λ l. so.front ++ l) next.0 in
    let stops = unclosed_stops kind (first ∷ chars more) unclosed in
    record {
      place = length so.front;
      opens = ap (open_quote kind) all ∙ opens_here so.front (first ∷ chars more) so.closed stops kind unclosed (omega arith);
      quoted = some;
      alone = λ other differs. ap (open_quote other) all ∙ none_open so.front (first ∷ chars more) so.closed stops other (one_kind kind other (first ∷ chars more) unclosed differs);
      rest = sym (ap (drop (length so.front + 1)) all ∙ drop-append-add so.front (first ∷ chars more) 1 ∙ behind_one first (chars more));
    }
  where
    behind_one : (c : ℕ) (cs : List ℕ) → drop 1 (c ∷ cs) ≡ cs
    behind_one c [] = refl
    behind_one c (d ∷ cs) = refl

-- no quote stands open
pub none_found : (whole rest : List ℕ) → ClosedUpTo whole rest → Stops is_closed_piece (chars rest)
    → ((kind : Quote) → is_unclosed kind (chars rest) ≡ false)
    → (open_quote quote.Double (chars whole) ≡ None) × (open_quote quote.Single (chars whole) ≡ None)
none_found whole rest so stops closed = (
  ap (open_quote quote.Double) so.joins ∙ none_open so.front (chars rest) so.closed stops quote.Double (closed quote.Double),
  ap (open_quote quote.Single) so.joins ∙ none_open so.front (chars rest) so.closed stops quote.Single (closed quote.Single),
)

none_unclosed : (kind : Quote) → is_unclosed kind [] ≡ false
none_unclosed quote.Double = refl
none_unclosed quote.Single = refl
none_unclosed quote.None = refl

-- at the end of closed text
pub none_at_end : (whole rest : List ℕ) → ClosedUpTo whole rest → rest ≡ []
    → (open_quote quote.Double (chars whole) ≡ None) × (open_quote quote.Single (chars whole) ≡ None)
none_at_end whole rest so none =
    let nothing : chars rest ≡ [] = ap chars none ∙ chars-nil in
    none_found whole rest so (subst (λ l. Stops is_closed_piece l) (sym nothing) nothing_stops) (λ kind. ap (is_unclosed kind) nothing ∙ none_unclosed kind)

-- what begins with no piece, by its first character
pub unpaired_double : (first : ℕ) (cs : List ℕ) → first ≡ 34 → IsUnpaired (first ∷ cs) → is_unclosed quote.Double (first ∷ cs) ≡ true
unpaired_double first cs same (inl unclosed) = unclosed
unpaired_double first cs same (inr (inl unclosed)) =
    let other = same_number first 39 (both (first == single) _ unclosed).0 in absurd (omega (arith, same, other))
unpaired_double first cs same (inr (inr alone)) = let head : first ≡ 92 = cc in absurd (omega (arith, same, head))

pub unpaired_single : (first : ℕ) (cs : List ℕ) → first ≡ 39 → IsUnpaired (first ∷ cs) → is_unclosed quote.Single (first ∷ cs) ≡ true
unpaired_single first cs same (inl unclosed) =
    let other = same_number first 34 (both (first == double) _ unclosed).0 in absurd (omega (arith, same, other))
unpaired_single first cs same (inr (inl unclosed)) = unclosed
unpaired_single first cs same (inr (inr alone)) = let head : first ≡ 92 = cc in absurd (omega (arith, same, head))

unpaired_other : (first : ℕ) (cs : List ℕ) → first ≢ 34 → first ≢ 39 → IsUnpaired (first ∷ cs) → first ∷ cs ≡ 92 ∷ []
unpaired_other first cs a b (inl unclosed) = absurd (a (same_number first 34 (both (first == double) _ unclosed).0))
unpaired_other first cs a b (inr (inl unclosed)) = absurd (b (same_number first 39 (both (first == single) _ unclosed).0))
unpaired_other first cs a b (inr (inr alone)) = alone

backslash_closed : (kind : Quote) → is_unclosed kind (92 ∷ []) ≡ false
backslash_closed quote.Double = refl
backslash_closed quote.Single = refl
backslash_closed quote.None = refl

pub none_at_backslash : (whole rest more : List ℕ) (first : ℕ) → ClosedUpTo whole rest → rest ≡ encode first ++ more → first ≢ 34 → first ≢ 39
    → IsUnpaired (first ∷ chars more)
    → (open_quote quote.Double (chars whole) ≡ None) × (open_quote quote.Single (chars whole) ≡ None)
none_at_backslash whole rest more first so is a b unpaired =
    let next = next_char first rest more so.utf8 is in
    let alone : chars rest ≡ 92 ∷ [] = next.0 ∙ unpaired_other first (chars more) a b unpaired in
    none_found whole rest so (subst (λ l. Stops is_closed_piece l) (sym alone) backslash_stops) (λ kind. ap (is_unclosed kind) alone ∙ backslash_closed kind)

same_kind : (kind kind' : Quote) (cs : List ℕ) → is_unclosed kind cs ≡ true → is_unclosed kind' cs ≡ true → kind ≡ kind'
same_kind quote.Double quote.Double cs h h' = refl
same_kind quote.Single quote.Single cs h h' = refl
same_kind quote.None quote.None cs h h' = refl
same_kind quote.Double quote.Single cs h h' = absurd (true≢false (sym h' ∙ one_kind quote.Double quote.Single cs h (λ e. cc)))
same_kind quote.Double quote.None cs h h' = absurd (true≢false (sym h' ∙ one_kind quote.Double quote.None cs h (λ e. cc)))
same_kind quote.Single quote.Double cs h h' = absurd (true≢false (sym h' ∙ one_kind quote.Single quote.Double cs h (λ e. cc)))
same_kind quote.Single quote.None cs h h' = absurd (true≢false (sym h' ∙ one_kind quote.Single quote.None cs h (λ e. cc)))
same_kind quote.None quote.Double cs h h' = absurd (true≢false (sym h' ∙ one_kind quote.None quote.Double cs h (λ e. cc)))
same_kind quote.None quote.Single cs h h' = absurd (true≢false (sym h' ∙ one_kind quote.None quote.Single cs h (λ e. cc)))

pub one_quote_is_open : OneQuoteIsOpen
one_quote_is_open cs place place' kind kind' within within' closed unclosed closed' unclosed' =
    let whole = take-append-drop place cs ∙ sym (take-append-drop place' cs) in
    let same = cut_one_way is_closed_piece closed_apart (take place cs) (take place' cs) (drop place cs) (drop place' cs) closed closed' (unclosed_stops kind (drop place cs) unclosed) (unclosed_stops kind' (drop place' cs) unclosed') whole in (
      sym (length-take-le place cs within) ∙ ap length same.0 ∙ length-take-le place' cs within',
      same_kind kind kind' (drop place cs) unclosed (ap (is_unclosed kind') same.1 ∙ unclosed'),
    )
