-- A line as it is written, and the text that a written line says.
use Rattle.std.proofs.Common.{◌≡◌, ◌≢◌, ℕ, zero, suc, ◌+◌, ◌-◌, ◌<◌, ◌≤◌, Bool, true, false, if◌then◌else◌, List, [], ◌∷◌, ◌++◌, length, take, drop, get_or, Option, None, Some, MatchOption, option_map, ap, sym, ◌∙◌, refl, arith, append_assoc, append-nil, eqb, ⊎_elim, add-zero}
use Rattle.std.specs.Bool.{⊤}
use Rattle.std.specs.List.{AllZip, flat_map}
use Rattle.std.proofs.lemmas.Bool.{cases_Bool, both_ways}
use Rattle.std.proofs.lemmas.List.{take_rest, take-append-drop, length-take, get_or-take, get_or-drop, drop_more, take_all, drop_all}
use Rattle.memchr.specs.Find.{is_byte2, is_byte3, IsFirstByte, Passes, NoneBefore, Nowhere}
use Rattle.line_parts.specs.EscapedLine.{StandsFor, Unescapes, as_it_is, as_written, escape_table, escaped_byte, escaped_line}
use Rattle.line_parts.specs.declared.escaped_line.Escapes.{Escapes}
use Rattle.line_parts.specs.declared.escaped_line.Escapes.TheVariants.{V2, V3}

-- ---- the bytes of an escape

is_byte-of : (c b : ℕ) → eqb b c ≡ true → b ≡ c
is_byte-of c b p = grind arith

-- the byte that a letter behind a backslash stands for, by a table
abbrev pub byte_in : List (ℕ × ℕ) → ℕ → Option ℕ
byte_in [] letter = None
byte_in (row ∷ rows) letter = if eqb letter row.1 then Some row.0 else byte_in rows letter

-- a byte is written as it is, or behind a backslash as a letter that stands for it
pub data Written (escapes : Escapes) (b : ℕ) : Type 0 where
  plainly : escaped_byte escapes b ≡ b ∷ [] → eqb b 92 ≡ false → eqb b 10 ≡ false → Written escapes b
  by_letter : (letter : ℕ) → escaped_byte escapes b ≡ 92 ∷ letter ∷ [] → byte_in (escape_table escapes) letter ≡ Some b → Written escapes b

pub written-by : (escapes : Escapes) (b : ℕ) → Written escapes b
written-by V2 b = ⊎_elim
    (λ (yes : eqb b 92 ≡ true). by_letter 92 (rw yes refl) (ap Some (sym (is_byte-of 92 b yes))))
    (λ (other : eqb b 92 ≡ false). ⊎_elim
    (λ (yes : eqb b 10 ≡ true). by_letter 110 (rw other (rw yes refl)) (ap Some (sym (is_byte-of 10 b yes))))
    (λ (plain : eqb b 10 ≡ false). plainly (rw other (rw plain refl)) other plain)
    (cases_Bool (eqb b 10)))
    (cases_Bool (eqb b 92))
written-by V3 b = ⊎_elim
    (λ (yes : eqb b 92 ≡ true). by_letter 92 (rw yes refl) (ap Some (sym (is_byte-of 92 b yes))))
    (λ (other : eqb b 92 ≡ false). ⊎_elim
    (λ (yes : eqb b 10 ≡ true). by_letter 110 (rw other (rw yes refl)) (ap Some (sym (is_byte-of 10 b yes))))
    (λ (plain : eqb b 10 ≡ false). ⊎_elim
    (λ (yes : eqb b 13 ≡ true). by_letter 114 (rw other (rw plain (rw yes refl))) (ap Some (sym (is_byte-of 13 b yes))))
    (λ (bare : eqb b 13 ≡ false). plainly (rw other (rw plain (rw bare refl))) other plain)
    (cases_Bool (eqb b 13)))
    (cases_Bool (eqb b 10)))
    (cases_Bool (eqb b 92))

some_is : {X : Type 0} {x y : X} → ◌≡◌ {A = Option X} (Some x) (Some y) → x ≡ y
some_is e = cc

pub none_is_not_some : {X : Type 0} {x : X} → ◌≡◌ {A = Option X} None (Some x) → ⊥
none_is_not_some e = cc

-- the byte that a letter stands for is written by it
pub written-letter : (escapes : Escapes) (letter b : ℕ) → byte_in (escape_table escapes) letter ≡ Some b → escaped_byte escapes b ≡ 92 ∷ letter ∷ []
written-letter V2 letter b is = ⊎_elim
    (λ (yes : eqb letter 92 ≡ true). let e : 92 ≡ b = some_is (rw yes at is) in rw (sym e, is_byte-of 92 letter yes) refl)
    (λ (other : eqb letter 92 ≡ false). ⊎_elim
    (λ (yes : eqb letter 110 ≡ true). let e : 10 ≡ b = some_is (rw yes at (rw other at is)) in rw (sym e, is_byte-of 110 letter yes) refl)
    (λ (none : eqb letter 110 ≡ false). absurd (none_is_not_some (rw none at (rw other at is))))
    (cases_Bool (eqb letter 110)))
    (cases_Bool (eqb letter 92))
written-letter V3 letter b is = ⊎_elim
    (λ (yes : eqb letter 92 ≡ true). let e : 92 ≡ b = some_is (rw yes at is) in rw (sym e, is_byte-of 92 letter yes) refl)
    (λ (other : eqb letter 92 ≡ false). ⊎_elim
    (λ (yes : eqb letter 110 ≡ true). let e : 10 ≡ b = some_is (rw yes at (rw other at is)) in rw (sym e, is_byte-of 110 letter yes) refl)
    (λ (none : eqb letter 110 ≡ false). ⊎_elim
    (λ (yes : eqb letter 114 ≡ true). let e : 13 ≡ b = some_is (rw yes at (rw none at (rw other at is))) in rw (sym e, is_byte-of 114 letter yes) refl)
    (λ (nothing : eqb letter 114 ≡ false). absurd (none_is_not_some (rw nothing at (rw none at (rw other at is)))))
    (cases_Bool (eqb letter 114)))
    (cases_Bool (eqb letter 110)))
    (cases_Bool (eqb letter 92))

-- a byte that is no backslash and no newline stands for itself
stands_itself : (escapes : Escapes) (b : ℕ) → eqb b 92 ≡ false → eqb b 10 ≡ false → StandsFor escapes (b ∷ []) b
stands_itself V2 b p q = as_written (rw p (rw q refl))
stands_itself V3 b p q = ⊎_elim
    (λ (yes : eqb b 13 ≡ true). as_it_is (is_byte-of 13 b yes) refl)
    (λ (other : eqb b 13 ≡ false). as_written (rw p (rw q (rw other refl))))
    (cases_Bool (eqb b 13))

-- ---- what a line says

-- what stands before the rest of a line: a backslash, or nothing
abbrev pub behind : Bool → List ℕ → List ℕ
behind false line = line
behind true line = 92 ∷ line

-- a byte, if there is one, before a text, if there is one
abbrev pub put : Option ℕ → Option (List ℕ) → Option (List ℕ)
put None text = None
put (Some b) text = option_map (λ t. b ∷ t) text

-- the text that the rest of a line says, whether a backslash stands before it or not: none where
-- a newline stands in it, or an escape is no good
abbrev pub undo : Escapes → Bool → List ℕ → Option (List ℕ)
undo escapes false [] = Some []
undo escapes true [] = None
undo escapes false (b ∷ bs) =
    if eqb b 92 then undo escapes true bs
    else if eqb b 10 then None
    else option_map (λ t. b ∷ t) (undo escapes false bs)
undo escapes true (b ∷ bs) = put (byte_in (escape_table escapes) b) (undo escapes false bs)

pub MatchOption-map : {X Y : Type 0} (P : X → Type 0) (Q : Y → Type 0) (f : X → Y) (o : Option X) → ((x : X) → P x → Q (f x)) → MatchOption o ⊤ P → MatchOption (option_map f o) ⊤ Q
MatchOption-map P Q f None step h = h
MatchOption-map P Q f (Some x) step h = step x h

says_nothing : (escapes : Escapes) → Unescapes escapes [] []
says_nothing escapes = record { pieces = []; whole = refl; each = tt }

says_more : (escapes : Escapes) (piece line text : List ℕ) (b : ℕ) → StandsFor escapes piece b → Unescapes escapes line text → Unescapes escapes (piece ++ line) (b ∷ text)
says_more escapes piece line text b stands u = record {
  pieces = piece ∷ u.pieces;
  whole = ap (λ l. piece ++ l) u.whole;
  each = (stands, u.each);
}

-- what is undone is what the line says
pub undone : (escapes : Escapes) (s : Bool) (line : List ℕ) → MatchOption (undo escapes s line) ⊤ (λ t. Unescapes escapes (behind s line) t)
undone escapes false [] = says_nothing escapes
undone escapes true [] = tt
undone escapes false (b ∷ bs) = ⊎_elim
    (λ yes. rw (yes, is_byte-of 92 b yes) (undone escapes true bs))
    (λ other. rw other (⊎_elim
    (λ yes. rw yes tt)
    (λ plain. rw plain (MatchOption-map (λ t. Unescapes escapes bs t) (λ t. Unescapes escapes (b ∷ bs) t) (λ t. b ∷ t) (undo escapes false bs)
    (λ t h. says_more escapes (b ∷ []) bs t b (stands_itself escapes b other plain) h) (undone escapes false bs)))
    (cases_Bool (eqb b 10))))
    (cases_Bool (eqb b 92))
undone escapes true (b ∷ bs) = undone_by (byte_in (escape_table escapes) b) refl (undone escapes false bs)
  where
    undone_by : (o : Option ℕ) → byte_in (escape_table escapes) b ≡ o → MatchOption (undo escapes false bs) ⊤ (λ t. Unescapes escapes bs t) → MatchOption (put o (undo escapes false bs)) ⊤ (λ t. Unescapes escapes (92 ∷ b ∷ bs) t)
    undone_by None e more = tt
    undone_by (Some c) e more = MatchOption-map (λ t. Unescapes escapes bs t) (λ t. Unescapes escapes (92 ∷ b ∷ bs) t) (λ t. c ∷ t) (undo escapes false bs)
        (λ t h. says_more escapes (92 ∷ b ∷ []) bs t c (as_written (sym (written-letter escapes b c e))) h) more

-- a piece is undone as the byte that it stands for
undo-stands : (escapes : Escapes) (piece rest : List ℕ) (b : ℕ) → StandsFor escapes piece b → undo escapes false (piece ++ rest) ≡ option_map (λ t. b ∷ t) (undo escapes false rest)
undo-stands escapes piece rest b (as_it_is e is) = rw (is, e) refl
undo-stands escapes piece rest b (as_written is) = by (written-by escapes b)
  where
    by : Written escapes b → undo escapes false (piece ++ rest) ≡ option_map (λ t. b ∷ t) (undo escapes false rest)
    by (plainly e p q) = rw (is, e, p, q) refl
    by (by_letter letter e f) = rw (is, e) (ap (λ o. put o (undo escapes false rest)) f)

-- what a line says is undone
pub undo-says : (escapes : Escapes) (line text : List ℕ) → Unescapes escapes line text → undo escapes false line ≡ Some text
undo-says escapes line text u = ap (undo escapes false) u.whole ∙ by u.pieces text u.each
  where
    by : (pieces : List (List ℕ)) (text : List ℕ) → AllZip (StandsFor escapes) pieces text → undo escapes false (flat_map (λ piece. piece) pieces) ≡ Some text
    by [] [] h = refl
    by [] (b ∷ bs) h = absurd h
    by (piece ∷ pieces) [] h = absurd h
    by (piece ∷ pieces) (b ∷ bs) h =
        undo-stands escapes piece (flat_map (λ piece. piece) pieces) b h.0 ∙ ap (option_map (λ t. b ∷ t)) (by pieces bs h.1)

-- a line says its text as it is written
pub says_written_line : (escapes : Escapes) (text : List ℕ) → Unescapes escapes (escaped_line escapes text) text
says_written_line escapes [] = says_nothing escapes
says_written_line escapes (b ∷ bs) =
    says_more escapes (escaped_byte escapes b) (escaped_line escapes bs) bs b (as_written refl) (says_written_line escapes bs)

-- ---- a line that is written

neither : (b : ℕ) → (is_byte2 92 10 b ≡ true → ⊥) → (eqb b 92 ≡ false) × (eqb b 10 ≡ false)
neither b plain = (grind arith, grind arith)

none_of_three : (b : ℕ) → (is_byte3 92 10 13 b ≡ true → ⊥) → (eqb b 92 ≡ false) × (eqb b 10 ≡ false) × (eqb b 13 ≡ false)
none_of_three b plain = (grind arith, grind arith, grind arith)

pub plain-v2 : (b : ℕ) → (is_byte2 92 10 b ≡ true → ⊥) → escaped_byte V2 b ≡ b ∷ []
plain-v2 b plain = let t = neither b plain in rw t.0 (rw t.1 refl)

pub plain-v3 : (b : ℕ) → (is_byte3 92 10 13 b ≡ true → ⊥) → escaped_byte V3 b ≡ b ∷ []
plain-v3 b plain = let t = none_of_three b plain in rw t.0 (rw t.1 (rw t.2 refl))

-- bytes that need no escape are written as they are
pub escaped_line-run : (escapes : Escapes) (xs : List ℕ) (i : ℕ) → i ≤ length xs → ((k : ℕ) → k < i → escaped_byte escapes (get_or xs k 0) ≡ get_or xs k 0 ∷ []) → escaped_line escapes xs ≡ take i xs ++ escaped_line escapes (drop i xs)
escaped_line-run escapes xs zero le plain = refl
escaped_line-run escapes [] (suc i) le plain = refl
escaped_line-run escapes (b ∷ bs) (suc i) le plain =
    rw (plain 0 (omega arith)) (ap (λ r. b ∷ r) (escaped_line-run escapes bs i (omega arith) (λ k lt. plain (suc k) (omega arith))))

pub escaped_line-whole : (escapes : Escapes) (xs : List ℕ) → ((k : ℕ) → k < length xs → escaped_byte escapes (get_or xs k 0) ≡ get_or xs k 0 ∷ []) → escaped_line escapes xs ≡ xs
escaped_line-whole escapes xs plain =
    let pieces = escaped_line-run escapes xs (length xs) (omega arith) plain in
    rw (take_all (length xs) xs (omega arith), drop_all (length xs) xs (omega arith)) at pieces ∙ append-nil xs

-- the first byte that a test finds, where each byte that does not pass it is written as it is
pub found_in : (escapes : Escapes) (xs : List ℕ) (test : ℕ → Bool) (r : Option ℕ) → ((b : ℕ) → (test b ≡ true → ⊥) → escaped_byte escapes b ≡ b ∷ []) → IsFirstByte test xs r
    → MatchOption r (escaped_line escapes xs ≡ xs) (λ i. escaped_line escapes xs ≡ take i xs ++ escaped_line escapes (drop i xs))
found_in escapes xs test None plain none = escaped_line-whole escapes xs (λ k lt. plain _ (none k (omega arith) lt))
found_in escapes xs test (Some i) plain hit = escaped_line-run escapes xs i (omega (arith, hit.0.high)) (λ k lt. plain _ (hit.0.before k (omega arith) lt))

escaped_line-at : (escapes : Escapes) (xs : List ℕ) (i : ℕ) → i < length xs → escaped_line escapes (drop i xs) ≡ escaped_byte escapes (get_or xs i 0) ++ escaped_line escapes (drop (i + 1) xs)
escaped_line-at escapes xs i lt = rw (drop_more xs i 0) refl

-- a text that grew by a run and by an escape lacks what is behind them
pub pushed_hit : (escapes : Escapes) (whole old run new xs : List ℕ) (i : ℕ) → i < length xs → escaped_line escapes xs ≡ take i xs ++ escaped_line escapes (drop i xs) → whole ≡ old ++ escaped_line escapes xs → run ≡ old ++ take i xs → new ≡ run ++ escaped_byte escapes (get_or xs i 0) → whole ≡ new ++ escaped_line escapes (take (length xs - (i + 1)) (drop (i + 1) xs))
pushed_hit escapes whole old run new xs i lt pieces is_whole is_run is_new =
    let rest = escaped_line-at escapes xs i lt in
    rw (take_rest xs (i + 1), is_new, is_run, is_whole, pieces, rest) (simp append_assoc)

-- a text that grew by all that is left
pub pushed_none : (escapes : Escapes) (start line old new xs : List ℕ) → escaped_line escapes xs ≡ xs → start ++ escaped_line escapes line ≡ old ++ escaped_line escapes xs → new ≡ old ++ xs → new ≡ start ++ escaped_line escapes line
pushed_none escapes start line old new xs same is_whole is_new = rw (is_new, is_whole, same) refl

-- ---- a line that is read

map-map : {X Y Z : Type 0} (f : Y → Z) (g : X → Y) (h : X → Z) → ((x : X) → f (g x) ≡ h x) → (o : Option X) → option_map f (option_map g o) ≡ option_map h o
map-map f g h same None = refl
map-map f g h same (Some x) = ap Some (same x)

map-same : (o : Option (List ℕ)) → o ≡ option_map (λ t. t) o
map-same None = refl
map-same (Some t) = refl

neither_is : (b : ℕ) → eqb b 92 ≡ false → eqb b 10 ≡ false → is_byte2 92 10 b ≡ false
neither_is b p q = rw (p, q) refl

-- a run without backslashes and newlines says itself
undo-run : (escapes : Escapes) (run xs : List ℕ) → ((i : ℕ) → i < length run → is_byte2 92 10 (get_or run i 0) ≡ true → ⊥) → undo escapes false (run ++ xs) ≡ option_map (λ t. run ++ t) (undo escapes false xs)
undo-run escapes [] xs lacks = map-same (undo escapes false xs)
undo-run escapes (b ∷ run) xs lacks =
    let first = neither b (lacks 0 (omega arith)) in
    rw (first.0, first.1, undo-run escapes run xs (λ i lt. lacks (suc i) (omega arith)))
    (map-map (λ t. b ∷ t) (λ t. run ++ t) (λ t. b ∷ (run ++ t)) (λ t. refl) (undo escapes false xs))

-- where no escape stands, none is undone
undo-no_escape : (escapes : Escapes) (ys : List ℕ) → is_byte2 92 10 (get_or ys 0 0) ≡ true → ((c : ℕ) (rest : List ℕ) → escaped_byte escapes c ++ rest ≢ ys) → undo escapes false ys ≡ None
undo-no_escape escapes [] front lacks = absurd (both_ways false refl front)
undo-no_escape escapes (b ∷ bs) front lacks = ⊎_elim
    (λ yes. rw yes (no_letter bs (λ c rest e. lacks c rest (e ∙ ap (λ d. d ∷ bs) (sym (is_byte-of 92 b yes))))))
    (λ other. rw other (⊎_elim
    (λ yes. rw yes refl)
    (λ plain. absurd (both_ways _ (neither_is b other plain) front))
    (cases_Bool (eqb b 10))))
    (cases_Bool (eqb b 92))
  where
    no_byte : (letter : ℕ) (text : List ℕ) → ((c : ℕ) (rest : List ℕ) → escaped_byte escapes c ++ rest ≢ 92 ∷ letter ∷ text) → (o : Option ℕ) → byte_in (escape_table escapes) letter ≡ o → put o (undo escapes false text) ≡ None
    no_byte letter text lacks None e = refl
    no_byte letter text lacks (Some c) e = absurd (lacks c text (ap (λ w. w ++ text) (written-letter escapes letter c e)))

    no_letter : (text : List ℕ) → ((c : ℕ) (rest : List ℕ) → escaped_byte escapes c ++ rest ≢ 92 ∷ text) → undo escapes true text ≡ None
    no_letter [] lacks = refl
    no_letter (letter ∷ text) lacks = no_byte letter text lacks (byte_in (escape_table escapes) letter) refl

abbrev pub UndoesTo : Escapes → List ℕ → List ℕ → List ℕ → Type 0
UndoesTo escapes line text rest = undo escapes false line ≡ option_map (λ t. text ++ t) (undo escapes false rest)

pub undoes-start : (escapes : Escapes) (line : List ℕ) → UndoesTo escapes line [] line
undoes-start escapes line = map-same (undo escapes false line)

module _ (escapes : Escapes) (line text xs : List ℕ) (i : ℕ) (hit : NoneBefore (Passes (is_byte2 92 10) xs) 0 (length xs) i) (here : Passes (is_byte2 92 10) xs i) (so : UndoesTo escapes line text xs) where
  lacks-run : (k : ℕ) → k < length (take i xs) → is_byte2 92 10 (get_or (take i xs) k 0) ≡ true → ⊥
  lacks-run k lt e =
      let below : k < i = omega (arith, length-take i xs, hit.high) in
      hit.before k (omega arith) below (ap (is_byte2 92 10) (sym (get_or-take i xs k 0 below)) ∙ e)

  undone-run : undo escapes false line ≡ option_map (λ t. (text ++ take i xs) ++ t) (undo escapes false (drop i xs))
  undone-run =
      let split = rw (take-append-drop i xs) at (undo-run escapes (take i xs) (drop i xs) lacks-run) in
      so ∙ ap (option_map (λ t. text ++ t)) split
      ∙ map-map (λ t. text ++ t) (λ t. take i xs ++ t) (λ t. (text ++ take i xs) ++ t) (λ t. sym (append_assoc text (take i xs) t)) (undo escapes false (drop i xs))

  front : is_byte2 92 10 (get_or (drop i xs) 0 0) ≡ true
  front = ap (is_byte2 92 10) (get_or-drop i xs 0 0 ∙ ap (λ k. get_or xs k 0) (add-zero i)) ∙ here

  -- a run and an escape were read
  pub undoes_more : (run new : List ℕ) (c : ℕ) → run ≡ text ++ take i xs → new ≡ run ++ c ∷ [] → drop i xs ≡ escaped_byte escapes c ++ drop (i + 2) xs → UndoesTo escapes line new (take (length xs - (i + 2)) (drop (i + 2) xs))
  undoes_more run new c is_run is_new is_drop =
      let undone_here = ap (undo escapes false) is_drop ∙ undo-stands escapes (escaped_byte escapes c) (drop (i + 2) xs) c (as_written refl) in
      rw (take_rest xs (i + 2), is_new, is_run) (undone-run ∙ ap (option_map (λ t. (text ++ take i xs) ++ t)) undone_here
      ∙ map-map (λ t. (text ++ take i xs) ++ t) (λ t. c ∷ t) (λ t. ((text ++ take i xs) ++ c ∷ []) ++ t) (λ t. simp append_assoc) (undo escapes false (drop (i + 2) xs)))

  -- no escape stands behind the run
  pub undoes_bad : ((b : ℕ) (rest : List ℕ) → escaped_byte escapes b ++ rest ≢ drop i xs) → (other : List ℕ) → ¬ (Unescapes escapes line other)
  undoes_bad bad other u =
      let all : undo escapes false line ≡ None = undone-run ∙ ap (option_map (λ t. (text ++ take i xs) ++ t)) (undo-no_escape escapes (drop i xs) front bad) in
      none_is_not_some (sym all ∙ undo-says escapes line other u)

-- all was read
pub undoes_all : (escapes : Escapes) (line text xs new : List ℕ) → Nowhere (Passes (is_byte2 92 10) xs) 0 (length xs) → UndoesTo escapes line text xs → new ≡ text ++ xs → Unescapes escapes line new
undoes_all escapes line text xs new none so is_new =
    let plain = undo-run escapes xs [] (λ k lt e. none k (omega arith) lt e) in
    let whole : undo escapes false line ≡ Some new = so ∙ ap (option_map (λ t. text ++ t)) (rw (append-nil xs) at plain) ∙ ap Some (sym is_new) in
    rw whole at (undone escapes false line)
