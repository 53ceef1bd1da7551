-- A text that was saved, and read again.
use Rattle.std.proofs.Common.{◌≡◌, ◌≢◌, ℕ, suc, ◌-◌, ◌<◌, true, false, if◌then◌else◌, List, [], ◌∷◌, ◌++◌, length, take, drop, get_or, All, Some, ap, sym, ◌∙◌, refl, arith, append_assoc, eqb, ⊎_elim, length-append}
use Rattle.std.specs.Prelude.{bytes_eq, filter}
use Rattle.std.specs.List.{AllZip}
use Rattle.std.proofs.lemmas.Bool.{cases_Bool}
use Rattle.std.proofs.lemmas.List.Elements.{All-head, All-tail, All-nil, All-cons, All-append}
use Rattle.line_parts.specs.History.{FiledHistory, HistoryRules, all_filed, filed, last_of, leaves_out, settled}
use Rattle.line_parts.specs.EscapedLine.{escaped_byte, escaped_line}
use Rattle.line_parts.specs.HistoryText.{EndsPlain, header, is_some_text, lines_of, saved, without_return, written, Says, unescaped, as_it_stands, with_header, without_header}
use Rattle.line_parts.proofs.EscapeLemmas.{Written, by_letter, plainly, says_written_line, undo-says, written-by}
use Rattle.line_parts.specs.HistoryTextLaws.{LoadsBack, ReadsBack, SavedIsLoaded, SavedIsRead, SavedV3IsLoaded, SavedV3IsRead, TextSaysOne}
use Rattle.line_parts.specs.declared.escaped_line.Escapes.{Escapes}
use Rattle.line_parts.specs.declared.escaped_line.Escapes.TheVariants.{V2, V3}
use Rattle.line_parts.proofs.LinesLemmas.{lines_of-more}
use Rattle.line_parts.proofs.LoadLemmas.{escaped_line-lacks}

lacks_35 : ◌≢◌ {A = ℕ} 35 10
lacks_35 e = omega (arith, e)

lacks_86 : ◌≢◌ {A = ℕ} 86 10
lacks_86 e = omega (arith, e)

lacks_50 : ◌≢◌ {A = ℕ} 50 10
lacks_50 e = omega (arith, e)

lacks_51 : ◌≢◌ {A = ℕ} 51 10
lacks_51 e = omega (arith, e)

header-lacks : (escapes : Escapes) → All (λ b. b ≢ 10) (header escapes)
header-lacks V2 = let P : ℕ → Type 0 = λ b. b ≢ 10 in
    All-cons P 35 (86 ∷ 50 ∷ []) lacks_35 (All-cons P 86 (50 ∷ []) lacks_86 (All-cons P 50 [] lacks_50 (All-nil P)))
header-lacks V3 = let P : ℕ → Type 0 = λ b. b ≢ 10 in
    All-cons P 35 (86 ∷ 51 ∷ []) lacks_35 (All-cons P 86 (51 ∷ []) lacks_86 (All-cons P 51 [] lacks_51 (All-nil P)))

written-append : (escapes : Escapes) (xs ys : List (List ℕ)) → written escapes (xs ++ ys) ≡ written escapes xs ++ written escapes ys
written-append escapes [] ys = refl
written-append escapes (x ∷ xs) ys = ap (λ t. (escaped_line escapes x ++ 10 ∷ []) ++ t) (written-append escapes xs ys)
    ∙ sym (append_assoc (escaped_line escapes x ++ 10 ∷ []) (written escapes xs) (written escapes ys))

last-append : (xs ys : List ℕ) → 0 < length ys → last_of 1 (xs ++ ys) ≡ last_of 1 ys
last-append [] ys lt = refl
last-append (x ∷ xs) ys lt =
    let more : suc (length (xs ++ ys)) - 1 ≡ suc (length (xs ++ ys) - 1) = omega (arith, lt, length-append xs ys) in
    ap (λ k. drop k (x ∷ (xs ++ ys))) more ∙ last-append xs ys lt

escaped_byte-some : (escapes : Escapes) (b : ℕ) → 0 < length (escaped_byte escapes b)
escaped_byte-some escapes b = by (written-by escapes b)
  where
    by : Written escapes b → 0 < length (escaped_byte escapes b)
    by (plainly e p q) = rw e (omega arith)
    by (by_letter letter e f) = rw e (omega arith)

escaped_line-some : (escapes : Escapes) (t : List ℕ) → 0 < length t → 0 < length (escaped_line escapes t)
escaped_line-some escapes [] lt = absurd (omega (arith, lt))
escaped_line-some escapes (b ∷ bs) lt = omega (arith, escaped_byte-some escapes b, length-append (escaped_byte escapes b) (escaped_line escapes bs))

-- the end of a line, as it is written
abbrev pub end_of : Escapes → List ℕ → List ℕ
end_of escapes t = last_of 1 (escaped_line escapes t)

end_of-more : (escapes : Escapes) (b c : ℕ) (cs : List ℕ) → end_of escapes (b ∷ c ∷ cs) ≡ end_of escapes (c ∷ cs)
end_of-more escapes b c cs = last-append (escaped_byte escapes b) (escaped_line escapes (c ∷ cs)) (escaped_line-some escapes (c ∷ cs) (omega arith))

is_byte-of : (c b : ℕ) → eqb b c ≡ true → b ≡ c
is_byte-of c b p = grind arith

-- without an escape for it, a written line ends in a carriage return only where the line does
end_of-v2 : (t : List ℕ) → bytes_eq (end_of V2 t) (13 ∷ []) ≡ bytes_eq (last_of 1 t) (13 ∷ [])
end_of-v2 [] = refl
end_of-v2 (b ∷ []) = ⊎_elim
    (λ (yes : eqb b 92 ≡ true). rw (is_byte-of 92 b yes) refl)
    (λ (other : eqb b 92 ≡ false). ⊎_elim
    (λ (yes : eqb b 10 ≡ true). rw (is_byte-of 10 b yes) refl)
    (λ (plain : eqb b 10 ≡ false). rw other (rw plain refl))
    (cases_Bool (eqb b 10)))
    (cases_Bool (eqb b 92))
end_of-v2 (b ∷ c ∷ cs) =
    ap (λ l. bytes_eq l (13 ∷ [])) (end_of-more V2 b c cs) ∙ end_of-v2 (c ∷ cs)
    ∙ ap (λ l. bytes_eq l (13 ∷ [])) (sym (last-append (b ∷ []) (c ∷ cs) (omega arith)))

-- with an escape for it, no written line ends in a carriage return
end_of-v3 : (t : List ℕ) → bytes_eq (end_of V3 t) (13 ∷ []) ≡ false
end_of-v3 [] = refl
end_of-v3 (b ∷ []) = ⊎_elim
    (λ (yes : eqb b 92 ≡ true). rw (is_byte-of 92 b yes) refl)
    (λ (other : eqb b 92 ≡ false). ⊎_elim
    (λ (yes : eqb b 10 ≡ true). rw (is_byte-of 10 b yes) refl)
    (λ (plain : eqb b 10 ≡ false). ⊎_elim
    (λ (yes : eqb b 13 ≡ true). rw (is_byte-of 13 b yes) refl)
    (λ (bare : eqb b 13 ≡ false). rw other (rw plain (rw bare (rw bare refl))))
    (cases_Bool (eqb b 13)))
    (cases_Bool (eqb b 10)))
    (cases_Bool (eqb b 92))
end_of-v3 (b ∷ c ∷ cs) = ap (λ l. bytes_eq l (13 ∷ [])) (end_of-more V3 b c cs) ∙ end_of-v3 (c ∷ cs)

-- a line that comes back: as it is written it does not end in a carriage return
abbrev pub ComesBack : Escapes → List ℕ → Type 0
ComesBack escapes t = bytes_eq (end_of escapes t) (13 ∷ []) ≡ false

kept-whole : (escapes : Escapes) (t : List ℕ) → ComesBack escapes t → without_return (escaped_line escapes t) ≡ escaped_line escapes t
kept-whole escapes t plain = ap (λ b. if b then take (length (escaped_line escapes t) - 1) (escaped_line escapes t) else escaped_line escapes t) plain

some_text : (w : List ℕ) → 0 < length w → is_some_text w ≡ true
some_text w lt = grind arith

first_written : (escapes : Escapes) (z : List ℕ) (zs : List (List ℕ)) → ComesBack escapes z → lines_of (written escapes (z ∷ zs)) ≡ escaped_line escapes z ∷ lines_of (written escapes zs)
first_written escapes z zs plain =
    ap lines_of (append_assoc (escaped_line escapes z) (10 ∷ []) (written escapes zs)) ∙ lines_of-more (escaped_line escapes z) (written escapes zs) (escaped_line-lacks escapes z)
    ∙ ap (λ l. l ∷ lines_of (written escapes zs)) (kept-whole escapes z plain)

says_written : (escapes : Escapes) (zs : List (List ℕ)) → All (ComesBack escapes) zs → AllZip (Says escapes) (filter is_some_text (lines_of (written escapes zs))) (filter is_some_text zs)
says_written escapes [] plain = tt
says_written escapes ([] ∷ zs) plain =
    rw (first_written escapes [] zs (All-head (ComesBack escapes) [] zs plain)) (says_written escapes zs (All-tail (ComesBack escapes) [] zs plain))
says_written escapes ((b ∷ bs) ∷ zs) plain =
    rw (first_written escapes (b ∷ bs) zs (All-head (ComesBack escapes) (b ∷ bs) zs plain), some_text (escaped_line escapes (b ∷ bs)) (escaped_line-some escapes (b ∷ bs) (omega arith)), some_text (b ∷ bs) (omega arith))
    (unescaped (says_written_line escapes (b ∷ bs)), says_written escapes zs (All-tail (ComesBack escapes) (b ∷ bs) zs plain))

reads_back : (escapes : Escapes) (xs ys : List (List ℕ)) → All (ComesBack escapes) xs → All (ComesBack escapes) ys → ReadsBack escapes xs ys
reads_back escapes xs ys plain more =
    let text : saved escapes xs ++ written escapes ys ≡ header escapes ++ 10 ∷ written escapes (xs ++ ys) =
    append_assoc (header escapes) (10 ∷ written escapes xs) (written escapes ys) ∙ ap (λ t. header escapes ++ 10 ∷ t) (sym (written-append escapes xs ys)) in
    with_header escapes refl (lines_of (written escapes (xs ++ ys))) (ap lines_of text ∙ first_line)
    (says_written escapes (xs ++ ys) (All-append (ComesBack escapes) xs ys plain more))
  where
    kept_header : (e : Escapes) → without_return (header e) ≡ header e
    kept_header V2 = refl
    kept_header V3 = refl

    first_line : lines_of (header escapes ++ 10 ∷ written escapes (xs ++ ys)) ≡ header escapes ∷ lines_of (written escapes (xs ++ ys))
    first_line = lines_of-more (header escapes) (written escapes (xs ++ ys)) (header-lacks escapes)
        ∙ ap (λ h. h ∷ lines_of (written escapes (xs ++ ys))) (kept_header escapes)

same_some : {t u : List ℕ} → Some t ≡ Some u → t ≡ u
same_some e = cc

-- a line says one text
pub says_one : (escapes : Escapes) (line t u : List ℕ) → Says escapes line t → Says escapes line u → t ≡ u
says_one escapes line t u (unescaped e) (unescaped f) = same_some (sym (undo-says escapes line t e) ∙ undo-says escapes line u f)
says_one escapes line t u (unescaped e) (as_it_stands other f) = absurd (other t e)
says_one escapes line t u (as_it_stands other f) (unescaped e) = absurd (other u e)
says_one escapes line t u (as_it_stands other e) (as_it_stands another f) = e ∙ sym f

all_say_one : (escapes : Escapes) (ws ts us : List (List ℕ)) → AllZip (Says escapes) ws ts → AllZip (Says escapes) ws us → ts ≡ us
all_say_one escapes [] [] [] a b = refl
all_say_one escapes [] [] (u ∷ us) a b = absurd b
all_say_one escapes [] (t ∷ ts) us a b = absurd a
all_say_one escapes (w ∷ ws) [] us a b = absurd a
all_say_one escapes (w ∷ ws) (t ∷ ts) [] a b = absurd b
all_say_one escapes (w ∷ ws) (t ∷ ts) (u ∷ us) a b = let first = says_one escapes w t u a.0 b.0 in let more = all_say_one escapes ws ts us a.1 b.1 in cc

same_rest : {x y : List ℕ} {xs ys : List (List ℕ)} → x ∷ xs ≡ y ∷ ys → xs ≡ ys
same_rest e = cc

same_front : {x y : List ℕ} {xs ys : List (List ℕ)} → x ∷ xs ≡ y ∷ ys → x ≡ y
same_front e = cc

last_differs : (a b : ℕ) → 35 ∷ 86 ∷ a ∷ [] ≡ 35 ∷ 86 ∷ b ∷ [] → a ≡ b
last_differs a b e = cc

-- no two headers are the same
header_is_one : (one other : Escapes) → header one ≡ header other → one ≡ other
header_is_one V2 V2 e = refl
header_is_one V3 V3 e = refl
header_is_one V2 V3 e = absurd (omega (arith, last_differs 50 51 e))
header_is_one V3 V2 e = absurd (omega (arith, last_differs 51 50 e))

-- a text says one list of lines
pub text_says_one : TextSaysOne
text_says_one text h k ls ms (with_header one e rest is says) (with_header other f others are said) =
    let same : one ≡ other = header_is_one one other (same_front (sym is ∙ are)) in
    (e ∙ ap Some same ∙ sym f, all_say_one one (filter is_some_text rest) ls ms says (rw (sym same, same_rest (sym are ∙ is)) at said))
text_says_one text h k ls ms (with_header one e rest is says) (without_header f lacks are) = absurd (lacks one rest is)
text_says_one text h k ls ms (without_header e lacks is) (with_header other f rest are said) = absurd (lacks other rest are)
text_says_one text h k ls ms (without_header e lacks is) (without_header f none are) = (e ∙ sym f, is ∙ sym are)

empty_left_out : (rules : HistoryRules) (lines : List (List ℕ)) → leaves_out rules lines [] ≡ true
empty_left_out rules lines = ⊎_elim (λ none. rw none refl) (λ some. rw some refl) (cases_Bool (eqb rules.max_len 0))

filed_empty : (h : FiledHistory) → filed h [] ≡ h
filed_empty h = rw (empty_left_out h.rules h.lines) refl

-- empty lines add nothing
all_filed_some : (h : FiledHistory) (zs : List (List ℕ)) → all_filed h (filter is_some_text zs) ≡ all_filed h zs
all_filed_some h [] = refl
all_filed_some h ([] ∷ zs) = all_filed_some h zs ∙ ap (λ k. all_filed k zs) (sym (filed_empty h))
all_filed_some h ((b ∷ bs) ∷ zs) = rw (some_text (b ∷ bs) (omega arith)) (all_filed_some (filed h (b ∷ bs)) zs)

-- what a saved text leaves, with an appended one behind it
loads_back : (escapes : Escapes) (xs ys : List (List ℕ)) → ReadsBack escapes xs ys → LoadsBack escapes xs ys
loads_back escapes xs ys reads old new answer loads =
    let one = text_says_one (saved escapes xs ++ written escapes ys) loads.headed (Some escapes) loads.lines (filter is_some_text (xs ++ ys)) loads.says reads in
    loads.added ∙ ap (λ l. settled (all_filed old l)) one.1 ∙ ap settled (all_filed_some old (xs ++ ys))

plain_back : (xs : List (List ℕ)) → All EndsPlain xs → All (ComesBack V2) xs
plain_back xs plain = λ k d lt. end_of-v2 (get_or xs k d) ∙ plain k d lt

all_back : (xs : List (List ℕ)) → All (ComesBack V3) xs
all_back xs = λ k d lt. end_of-v3 (get_or xs k d)

pub saved_is_read : SavedIsRead
saved_is_read xs ys plain more = reads_back V2 xs ys (plain_back xs plain) (plain_back ys more)

pub saved_is_loaded : SavedIsLoaded
saved_is_loaded xs ys plain more = loads_back V2 xs ys (saved_is_read xs ys plain more)

pub saved_v3_is_read : SavedV3IsRead
saved_v3_is_read xs ys = reads_back V3 xs ys (all_back xs) (all_back ys)

pub saved_v3_is_loaded : SavedV3IsLoaded
saved_v3_is_loaded xs ys = loads_back V3 xs ys (saved_v3_is_read xs ys)
