-- What runs of bytes spell.
use Rattle.std.proofs.Common.{◌≡◌, ◌≢◌, ℕ, ℤ, zero, suc, pos, ◌^◌, Result, Ok, Err, ⊎_elim, Option, Some, None, IfSome, append_assoc, append-nil, FitsSigned, w64, ◌+◌, ◌-◌, ◌<◌, ◌≤◌, Bool, true, false, cond, List, [], ◌∷◌, ◌++◌, length, get_or, take, drop, IsUtf8, sym, refl, ap, ◌∙◌, subst, arith, drop-cons}
use Rattle.std.specs.Str.{IsCharBoundary}
use Rattle.std.specs.List.{prefix_len, take_while}
use Rattle.std.specs.Char.{digit_value, is_ascii_digit}
use Rattle.std.specs.Str.Parse.{AllDigits, ParsesSigned, digits_value}
use Rattle.std.proofs.lemmas.Str.{IsCharBoundary-after_ascii}
use Rattle.std.proofs.Math.Seq.{drop-length}
use Rattle.std.proofs.lemmas.List.{map-append, drop-drop, get_or-drop, length-drop, take-append-drop}
use Rattle.std.proofs.lemmas.List.Folds.{length-prefix_len}
use Rattle.std.proofs.lemmas.List.Sums.{prefix_len_passes, prefix_len-le-length, take_while-cons}
use Rattle.std.proofs.str.Laws.{order}
use Rattle.std.proofs.lemmas.Bool.Decides.{nat_tests}
use Rattle.std.proofs.lemmas.Int.{fits_signed_from_abs}
use Rattle.std.proofs.lemmas.Result.{OkIff-at_err, OkIff-at_ok}
use Rattle.std.proofs.lemmas.Str.Parse.{parse_signed_digits, parse_signed_plain, numerals_by_value, tells_digits}
use Rattle.console.specs.declared.arithmetic.token.Kind.{Kind}
use Rattle.console.specs.declared.arithmetic.token.Kind.TheVariants.{Blank, Digit, Word}
use Rattle.console.specs.Grammar.{Symbol, figure, word, sign, opening, closing, equals}
use Rattle.console.specs.Spelling.{Spells, nothing, blank, mark, digits, letters, is_blank_byte, begins_name, passes, mark_of}
use Rattle.console.specs.Tokens.{IsReadAt, IsTooLargeAt, SpellsOnlyUpTo, SpellsUpTo, symbol_of, symbols_of}
use Rattle.console.specs.declared.arithmetic.operator.Operator.TheVariants.{Plus, Minus, Times, Divide, Remainder}
use Rattle.console.specs.declared.arithmetic.token.Placed.{Placed}
use Rattle.console.specs.declared.arithmetic.token.Read.{Read}
use Rattle.console.specs.declared.arithmetic.token.Token.TheVariants.{Number, Name}
use Rattle.console.proofs.PartLemmas.{fitting-large}
use Rattle.console.proofs.ReadingLemmas.{LeadsOnlyTo-joined, only_mark, only_name, only_number, too_large_here}
use denote.Ref.{Bor}

-- a blank, if it is one, and the blanks behind it change nothing
skips_one : (b : ℕ) (bs : List ℕ) (more : List Symbol) (c : Bool) → is_blank_byte b ≡ c
    → (Spells (drop (prefix_len is_blank_byte bs) bs) more → Spells bs more)
    → Spells (drop (cond c (1 + prefix_len is_blank_byte bs) 0) (b ∷ bs)) more → Spells (b ∷ bs) more
skips_one b bs more true is behind here =
    let size : 1 + prefix_len is_blank_byte bs ≡ suc (prefix_len is_blank_byte bs) = omega arith in
    blank is (behind (subst (λ n. Spells (drop n (b ∷ bs)) more) size here)) refl
skips_one b bs more false is behind here = here

-- blanks at the front change nothing
skips : (xs : List ℕ) (more : List Symbol) → Spells (drop (prefix_len is_blank_byte xs) xs) more → Spells xs more
skips [] more spelled = spelled
skips (b ∷ bs) more spelled = skips_one b bs more (is_blank_byte b) refl (skips bs more) spelled

-- what blanks lead to
pub leads_past_blanks : (text : List ℕ) (start end : ℕ) → end ≡ start + prefix_len (passes Blank) (drop start text) → SpellsUpTo text start [] end
leads_past_blanks text start end is = λ more spelled.
    skips (drop start text) more (subst (λ xs. Spells xs more) (ap (λ k. drop k text) is ∙ sym (drop-drop (prefix_len is_blank_byte (drop start text)) start text)) spelled)

-- the bytes of a kind are ASCII
pub passes-below : (kind : Kind) (b : ℕ) → passes kind b ≡ true → b < 128
passes-below Blank b h = grind (arith, nat_tests)
passes-below Digit b h = grind (arith, nat_tests)
passes-below Word b h = grind (arith, nat_tests)

-- no character is cut behind a run of a kind
pub boundary_behind_run : (kind : Kind) (text : List ℕ) (start n : ℕ) → n ≡ prefix_len (passes kind) (drop start text) → IsUtf8 text → IsCharBoundary text start → IsCharBoundary text (start + n)
boundary_behind_run kind text start zero is utf8 before = subst (IsCharBoundary text) (omega arith) before
boundary_behind_run kind text start (suc n) is utf8 before =
    let within = prefix_len-le-length (passes kind) (drop start text) in
    let size = length-drop start text in
    let last = prefix_len_passes (passes kind) (drop start text) n 0 (omega arith) in
    let ascii : get_or text (start + n) 0 < 128 = passes-below kind _ (rw get_or-drop at last) in
    subst (IsCharBoundary text) (omega arith) (IsCharBoundary-after_ascii text (start + n) utf8 (omega arith) ascii)

-- a text from a place on is a run of a kind and what is behind it
run_split : (kind : Kind) (text : List ℕ) (start end : ℕ) → end ≡ start + prefix_len (passes kind) (drop start text)
    → drop start text ≡ take_while (passes kind) (drop start text) ++ drop end text
run_split kind text start end is =
    sym (take-append-drop (prefix_len (passes kind) (drop start text)) (drop start text))
    ∙ ap (λ xs. take_while (passes kind) (drop start text) ++ xs) (drop-drop _ start text ∙ ap (λ k. drop k text) (sym is))

-- the part of a text between the ends of a run
run_bytes : (kind : Kind) (text : List ℕ) (start end : ℕ) → end ≡ start + prefix_len (passes kind) (drop start text)
    → take (end - start) (drop start text) ≡ take_while (passes kind) (drop start text)
run_bytes kind text start end is =
    let size : end - start ≡ prefix_len (passes kind) (drop start text) = omega arith in
    ap (λ k. take k (drop start text)) size

-- a run begins with the byte at its place
run_first : (kind : Kind) (text : List ℕ) (start : ℕ) → start < length text → passes kind (get_or text start 0) ≡ true
    → take_while (passes kind) (drop start text) ≡ get_or text start 0 ∷ take_while (passes kind) (drop (start + 1) text)
run_first kind text start within is =
    let next : suc start ≡ start + 1 = omega arith in
    ap (take_while (passes kind)) (drop-cons text start 0 within ∙ ap (λ k. get_or text start 0 ∷ drop k text) next)
    ∙ take_while-cons (passes kind) (get_or text start 0) (drop (start + 1) text) ∙ rw is refl

-- a name that was read
pub name_read : (text : List ℕ) (start end : ℕ) (read : Read) (bytes : Bor (List ℕ)) → start < length text
    → begins_name (get_or text start 0) ≡ true
    → end ≡ start + prefix_len (passes Word) (drop start text) → bytes.now ≡ take (end - start) (drop start text)
    → IsCharBoundary text end → read ≡ record { token = Name bytes; end = end } → IsReadAt text start read
name_read text start end read bytes within begins is cut boundary made =
    let goes_on : passes Word (get_or text start 0) ≡ true = rw begins refl in
    let first = run_first Word text start within goes_on in
    let same = cut ∙ run_bytes Word text start end is in
    let more_than_none = prefix_len-le-length (passes Word) (drop start text) in
    subst (IsReadAt text start) (sym made) (record {
      leads = λ more spelled. rw same (letters refl first begins spelled (run_split Word text start end is));
      only = subst (λ run. SpellsOnlyUpTo text start (word run ∷ []) end) (sym same) (only_name text start within end begins is);
      boundary = boundary;
      forward = omega (arith, ap length first, length-prefix_len (passes Word) (drop start text));
    })

-- the value of a digit
digit_value-below : (b : ℕ) → is_ascii_digit b ≡ true → digit_value b < 10
digit_value-below b is = grind (arith, nat_tests)

-- a run of digits has digits alone
digits_run_one : (b : ℕ) (bs : List ℕ) (c : Bool) → is_ascii_digit b ≡ c → AllDigits 10 (take_while is_ascii_digit bs)
    → AllDigits 10 (take (cond c (1 + prefix_len is_ascii_digit bs) 0) (b ∷ bs))
digits_run_one b bs true is behind =
    let size : suc (prefix_len is_ascii_digit bs) ≡ 1 + prefix_len is_ascii_digit bs = omega arith in
    let digit : digit_value b < 10 = digit_value-below b is in
    subst (λ n. AllDigits 10 (take n (b ∷ bs))) size (digit, behind)
digits_run_one b bs false is behind = tt

digits_run : (xs : List ℕ) → AllDigits 10 (take_while is_ascii_digit xs)
digits_run [] = tt
digits_run (b ∷ bs) = digits_run_one b bs (is_ascii_digit b) refl (digits_run bs)

-- a number that is not below another one
not_less : {m n : ℕ} → (n < m → ⊥) → m ≤ n
not_less {m} {n} not = ⊎_elim (λ less. absurd (not less)) (λ more. more) (order n m)

-- a number that was read
pub number_read : (text : List ℕ) (start end : ℕ) (read : Read) (bytes : List ℕ) (x : ℤ) → start < length text
    → passes Digit (get_or text start 0) ≡ true
    → end ≡ start + prefix_len (passes Digit) (drop start text) → bytes ≡ take (end - start) (drop start text)
    → IsCharBoundary text end → x ≡ pos (digits_value 10 bytes) → read ≡ record { token = Number x; end = end } → IsReadAt text start read
number_read text start end read bytes x within begins is cut boundary worth made =
    let first = run_first Digit text start within begins in
    let same = cut ∙ run_bytes Digit text start end is in
    let worth_run = worth ∙ ap (λ run. pos (digits_value 10 run)) same in
    let some : take_while (passes Digit) (drop start text) ≢ [] = λ none. (cc (first, none)) in
    subst (IsReadAt text start) (sym made) (record {
      leads = λ more spelled. rw worth_run (digits refl some spelled (run_split Digit text start end is));
      only = subst (λ v. SpellsOnlyUpTo text start (figure v ∷ []) end) (sym worth_run) (only_number text start within end begins is);
      boundary = boundary;
      forward = omega (arith, ap length first, length-prefix_len (passes Digit) (drop start text));
    })

-- what parsing the bytes of a run of digits gives
pub parsed_run : (text : List ℕ) (start end : ℕ) (bytes : List ℕ) {E : Type 0} (r : Result ℤ E) (x : ℤ) → start < length text
    → passes Digit (get_or text start 0) ≡ true
    → end ≡ start + prefix_len (passes Digit) (drop start text) → bytes ≡ take (end - start) (drop start text)
    → ParsesSigned w64 10 bytes r → r ≡ Ok x → FitsSigned w64 x × (x ≡ pos (digits_value 10 bytes))
parsed_run text start end bytes r x within begins is cut parses ok =
    let first = cut ∙ run_bytes Digit text start end is ∙ run_first Digit text start within begins in
    let byte : get_or bytes 0 0 ≡ get_or text start 0 = rw first refl in
    let not_plus : get_or bytes 0 0 ≢ 43 = λ same. grind (arith, nat_tests) in
    let not_minus : get_or bytes 0 0 ≢ 45 = λ same. grind (arith, nat_tests) in
    let plain = OkIff-at_ok _ _ _ _ (parse_signed_plain (numerals_by_value (AllDigits 10) tells_digits) w64 bytes r parses not_plus not_minus) ok in
    (rw plain.1 (fits_signed_from_abs w64 _ plain.0.2), plain.1)

-- what a failed parsing of the bytes of a run of digits says
pub unparsed_run : (text : List ℕ) (start end : ℕ) (bytes : List ℕ) {E : Type 0} (r : Result ℤ E) (e : E) → start < length text
    → passes Digit (get_or text start 0) ≡ true
    → end ≡ start + prefix_len (passes Digit) (drop start text) → bytes ≡ take (end - start) (drop start text)
    → ParsesSigned w64 10 bytes r → r ≡ Err e → IsTooLargeAt text start
unparsed_run text start end bytes r e within begins is cut parses err =
    let same = cut ∙ run_bytes Digit text start end is in
    let first = same ∙ run_first Digit text start within begins in
    let byte : get_or bytes 0 0 ≡ get_or text start 0 = rw first refl in
    let not_plus : get_or bytes 0 0 ≢ 43 = λ same. grind (arith, nat_tests) in
    let not_minus : get_or bytes 0 0 ≢ 45 = λ same. grind (arith, nat_tests) in
    let all_digits : AllDigits 10 bytes = rw same (digits_run (drop start text)) in
    let some : 0 < length bytes = rw first (omega arith) in
    let plain = OkIff-at_err _ _ _ _ (parse_signed_digits (numerals_by_value (AllDigits 10) tells_digits) w64 bytes r parses all_digits) err in
    let large : 2 ^ 63 ≤ digits_value 10 bytes = not_less (λ less. plain (some, less)) in
    too_large_here text start end (pos (digits_value 10 bytes))
    (subst (λ run. SpellsOnlyUpTo text start (figure (pos (digits_value 10 run)) ∷ []) end) (sym same) (only_number text start within end begins is))
    (fitting-large (digits_value 10 bytes) large)

-- the byte of a symbol is ASCII
mark_of-below : (s : Symbol) (b : ℕ) → mark_of s ≡ Some b → b < 128
mark_of-below (figure x) b is = cc
mark_of-below (word bytes) b is = cc
mark_of-below (sign Plus) b is = let same : 43 ≡ b = cc in omega arith
mark_of-below (sign Minus) b is = let same : 45 ≡ b = cc in omega arith
mark_of-below (sign Times) b is = let same : 42 ≡ b = cc in omega arith
mark_of-below (sign Divide) b is = let same : 47 ≡ b = cc in omega arith
mark_of-below (sign Remainder) b is = let same : 37 ≡ b = cc in omega arith
mark_of-below opening b is = let same : 40 ≡ b = cc in omega arith
mark_of-below closing b is = let same : 41 ≡ b = cc in omega arith
mark_of-below equals b is = let same : 61 ≡ b = cc in omega arith

-- a token of one byte that was read, if one was
pub mark_read : (text : List ℕ) (start b : ℕ) (read : Option Read) → start < length text → get_or text start 0 ≡ b → IsUtf8 text
    → IfSome read (λ r. (mark_of (symbol_of r.token) ≡ Some b) × (r.end ≡ start + 1)) → IfSome read (IsReadAt text start)
mark_read text start b None within is utf8 fact = fact
mark_read text start b (Some read) within is utf8 fact =
    let next : suc start ≡ read.end = omega arith in
    let split : drop start text ≡ b ∷ drop read.end text =
    drop-cons text start 0 within ∙ ap (λ x. x ∷ drop (suc start) text) is ∙ ap (λ k. b ∷ drop k text) next in
    let below = mark_of-below (symbol_of read.token) b fact.0 in
    record {
      leads = λ more spelled. mark fact.0 spelled split;
      only = subst (SpellsOnlyUpTo text start (symbol_of read.token ∷ [])) (sym fact.1) (only_mark text start within (symbol_of read.token) (fact.0 ∙ ap Some (sym is)));
      boundary = subst (IsCharBoundary text) (sym fact.1) (IsCharBoundary-after_ascii text start utf8 within (omega arith));
      forward = omega arith;
    }

-- what leads on to a place, and on from there
pub LeadsTo-joined : (text : List ℕ) (start middle end : ℕ) (xs ys : List Symbol) → SpellsUpTo text start xs middle → SpellsUpTo text middle ys end
    → SpellsUpTo text start (xs ++ ys) end
LeadsTo-joined text start middle end xs ys one other = λ more spelled.
    subst (Spells (drop start text)) (sym (append_assoc xs ys more)) (one (ys ++ more) (other more spelled))

-- what the tokens so far lead to, with one more token and the blanks behind it
pub LeadsTo-push : (text : List ℕ) (middle : ℕ) (tokens : List Placed) (t : Placed) (read : Read) (end : ℕ)
    → SpellsUpTo text 0 (symbols_of tokens) middle → IsReadAt text middle read → t.token ≡ read.token
    → SpellsUpTo text read.end [] end → SpellsUpTo text 0 (symbols_of (tokens ++ t ∷ [])) end
LeadsTo-push text middle tokens t read end before reads same blanks =
    let pushed : symbols_of (tokens ++ t ∷ []) ≡ symbols_of tokens ++ symbol_of read.token ∷ [] =
    map-append (λ t. symbol_of t.token) tokens (t ∷ []) ∙ ap (λ x. symbols_of tokens ++ symbol_of x ∷ []) same in
    λ more spelled. subst (λ xs. Spells text (xs ++ more)) (sym pushed)
    (LeadsTo-joined text 0 middle read.end (symbols_of tokens) (symbol_of read.token ∷ []) before reads.leads more (blanks more spelled))

-- the same, of all that is spelled
pub LeadsOnlyTo-push : (text : List ℕ) (middle : ℕ) (tokens : List Placed) (t : Placed) (read : Read) (end : ℕ)
    → SpellsOnlyUpTo text 0 (symbols_of tokens) middle → IsReadAt text middle read → t.token ≡ read.token
    → SpellsOnlyUpTo text read.end [] end → SpellsOnlyUpTo text 0 (symbols_of (tokens ++ t ∷ [])) end
LeadsOnlyTo-push text middle tokens t read end before reads same blanks =
    let s = symbol_of read.token in
    let pushed : symbols_of (tokens ++ t ∷ []) ≡ symbols_of tokens ++ s ∷ [] =
    map-append (λ t. symbol_of t.token) tokens (t ∷ []) ∙ ap (λ x. symbols_of tokens ++ symbol_of x ∷ []) same in
    subst (λ xs. SpellsOnlyUpTo text 0 xs end) (append-nil (symbols_of tokens ++ s ∷ []) ∙ sym pushed)
    (LeadsOnlyTo-joined text 0 read.end end (symbols_of tokens ++ s ∷ []) []
    (LeadsOnlyTo-joined text 0 middle read.end (symbols_of tokens) (s ∷ []) before reads.only) blanks)

-- tokens that lead to the end of a text are spelled by it
pub spelled_whole : (text : List ℕ) (tokens : List Placed) (end : ℕ) → SpellsUpTo text 0 (symbols_of tokens) end → end ≡ length text
    → Spells text (symbols_of tokens)
spelled_whole text tokens end leads is =
    subst (Spells text) (append-nil (symbols_of tokens)) (leads [] (nothing (ap (λ k. drop k text) is ∙ drop-length text)))
