-- What a text spells is read in one way alone.
use Rattle.std.proofs.Common.{◌≡◌, ◌≢◌, ℕ, suc, ℤ, pos, ◌+◌, ◌<◌, ◌≤◌, Bool, true, false, cond, if◌then◌else◌, ◌==◌, List, [], ◌∷◌, ◌++◌, length, get_or, drop, Option, Some, None, IfNone, sym, refl, ap, ◌∙◌, subst, arith}
use Rattle.std.specs.List.{All, prefix_len, take_while}
use Rattle.std.specs.Char.{is_ascii_digit}
use Rattle.std.specs.Str.Parse.{digits_value}
use Rattle.std.proofs.Math.ListN.{drop_of_length-le}
use Rattle.std.proofs.Math.Seq.{drop-append_seam, drop-cons}
use Rattle.std.proofs.lemmas.Bool.Decides.{nat_tests}
use Rattle.std.proofs.lemmas.List.{append-nil, append_assoc, drop-drop, get_or-drop, length-drop}
use Rattle.std.proofs.lemmas.List.Elements.{All-head, All-tail}
use Rattle.std.proofs.lemmas.List.Folds.{length-prefix_len}
use Rattle.std.proofs.lemmas.List.Sums.{prefix_len_stops, take_while-cons}
use Rattle.console.specs.declared.arithmetic.operator.Operator.TheVariants.{Plus, Minus, Times, Divide, Remainder}
use Rattle.console.specs.declared.arithmetic.token.Kind.TheVariants.{Blank, Digit, Word}
use Rattle.console.specs.declared.arithmetic.token.Read.{Read}
use Rattle.console.specs.Grammar.{Symbol, figure, word, sign, opening, closing, equals}
use Rattle.console.specs.Spelling.{Spells, nothing, blank, mark, digits, letters, is_blank_byte, begins_name, goes_on_name, passes, mark_of}
use Rattle.console.specs.Tokens.{EndsAt, IsInRange, IsTooLargeAt, IsUnblankAt, SpellsOnlyUpTo}
use Rattle.console.specs.Expression.{in_range}

-- the byte of a symbol is no blank, no digit and no letter
record IsMark (b : ℕ) : Type 0 where
  pub no_blank : is_blank_byte b ≡ false
  pub no_digit : is_ascii_digit b ≡ false
  pub no_letter : begins_name b ≡ false

mark_is : (s : Symbol) (b : ℕ) → mark_of s ≡ Some b → IsMark b
mark_is (figure x) b is = cc
mark_is (word bytes) b is = cc
mark_is (sign Plus) b is = let same : 43 ≡ b = cc in subst IsMark same (record { no_blank = refl; no_digit = refl; no_letter = refl })
mark_is (sign Minus) b is = let same : 45 ≡ b = cc in subst IsMark same (record { no_blank = refl; no_digit = refl; no_letter = refl })
mark_is (sign Times) b is = let same : 42 ≡ b = cc in subst IsMark same (record { no_blank = refl; no_digit = refl; no_letter = refl })
mark_is (sign Divide) b is = let same : 47 ≡ b = cc in subst IsMark same (record { no_blank = refl; no_digit = refl; no_letter = refl })
mark_is (sign Remainder) b is = let same : 37 ≡ b = cc in subst IsMark same (record { no_blank = refl; no_digit = refl; no_letter = refl })
mark_is opening b is = let same : 40 ≡ b = cc in subst IsMark same (record { no_blank = refl; no_digit = refl; no_letter = refl })
mark_is closing b is = let same : 41 ≡ b = cc in subst IsMark same (record { no_blank = refl; no_digit = refl; no_letter = refl })
mark_is equals b is = let same : 61 ≡ b = cc in subst IsMark same (record { no_blank = refl; no_digit = refl; no_letter = refl })

-- the symbol with a byte, by tests
abbrev symbol_with : ℕ → Option Symbol
symbol_with b =
    if b == 43 then Some (sign Plus) else if b == 45 then Some (sign Minus) else if b == 42 then Some (sign Times)
    else if b == 47 then Some (sign Divide) else if b == 37 then Some (sign Remainder)
    else if b == 40 then Some opening else if b == 41 then Some closing else if b == 61 then Some equals else None

symbol_with-mark : (s : Symbol) (b : ℕ) → mark_of s ≡ Some b → symbol_with b ≡ Some s
symbol_with-mark (figure x) b is = cc
symbol_with-mark (word bytes) b is = cc
symbol_with-mark (sign Plus) b is = let same : 43 ≡ b = cc in subst (λ k. symbol_with k ≡ Some (sign Plus)) same refl
symbol_with-mark (sign Minus) b is = let same : 45 ≡ b = cc in subst (λ k. symbol_with k ≡ Some (sign Minus)) same refl
symbol_with-mark (sign Times) b is = let same : 42 ≡ b = cc in subst (λ k. symbol_with k ≡ Some (sign Times)) same refl
symbol_with-mark (sign Divide) b is = let same : 47 ≡ b = cc in subst (λ k. symbol_with k ≡ Some (sign Divide)) same refl
symbol_with-mark (sign Remainder) b is = let same : 37 ≡ b = cc in subst (λ k. symbol_with k ≡ Some (sign Remainder)) same refl
symbol_with-mark opening b is = let same : 40 ≡ b = cc in subst (λ k. symbol_with k ≡ Some opening) same refl
symbol_with-mark closing b is = let same : 41 ≡ b = cc in subst (λ k. symbol_with k ≡ Some closing) same refl
symbol_with-mark equals b is = let same : 61 ≡ b = cc in subst (λ k. symbol_with k ≡ Some equals) same refl

-- a byte is that of one symbol at most
same_mark : (s t : Symbol) (b : ℕ) → mark_of s ≡ Some b → mark_of t ≡ Some b → s ≡ t
same_mark s t b one other = (cc (symbol_with-mark s b one, symbol_with-mark t b other))

-- what a text that begins with a byte spells first
data First (b : ℕ) (rest : List ℕ) (all : List Symbol) : Type 0 where
  of_blank : is_blank_byte b ≡ true → Spells rest all → First b rest all
  of_mark : (s : Symbol) (more : List Symbol) → mark_of s ≡ Some b → all ≡ s ∷ more → Spells rest more → First b rest all
  of_digits : (more : List Symbol) → is_ascii_digit b ≡ true → all ≡ figure (pos (digits_value 10 (take_while is_ascii_digit (b ∷ rest)))) ∷ more
      → Spells (drop (prefix_len is_ascii_digit (b ∷ rest)) (b ∷ rest)) more → First b rest all
  of_letters : (more : List Symbol) → begins_name b ≡ true → all ≡ word (take_while goes_on_name (b ∷ rest)) ∷ more
      → Spells (drop (prefix_len goes_on_name (b ∷ rest)) (b ∷ rest)) more → First b rest all

-- what is behind the longest run
behind_run : (p : ℕ → Bool) (text run rest : List ℕ) → run ≡ take_while p text → text ≡ run ++ rest → rest ≡ drop (prefix_len p text) text
behind_run p text run rest is split =
    sym (drop-append_seam run rest) ∙ ap (drop (length run)) (sym split) ∙ ap (λ k. drop k text) (ap length is ∙ length-prefix_len p text)

-- a run that is not empty begins with a byte that passes
run_begins : (p : ℕ → Bool) (b : ℕ) (rest : List ℕ) → take_while p (b ∷ rest) ≢ [] → p b ≡ true
run_begins p b rest some = by_test (p b) refl
  where
    by_test : (c : Bool) → p b ≡ c → p b ≡ true
    by_test true is = is
    by_test false is = absurd (some (take_while-cons p b rest ∙ rw is refl))

first_spelled : {text : List ℕ} {all : List Symbol} (b : ℕ) (rest : List ℕ) → Spells text all → text ≡ b ∷ rest → First b rest all
first_spelled b rest (nothing none) begins = (cc (sym none ∙ begins))
first_spelled b rest (blank {rest = left} {symbols = symbols} {b = c} is spelled split) begins =
    let h = sym split ∙ begins in
    let byte : c ≡ b = cc in
    let tail : left ≡ rest = cc in
    of_blank (subst (λ k. is_blank_byte k ≡ true) byte is) (subst (λ xs. Spells xs symbols) tail spelled)
first_spelled b rest (mark {rest = left} {symbols = symbols} {s = s} {b = c} is spelled split) begins =
    let h = sym split ∙ begins in
    let byte : c ≡ b = cc in
    let tail : left ≡ rest = cc in
    of_mark s symbols (is ∙ ap Some byte) refl (subst (λ xs. Spells xs symbols) tail spelled)
first_spelled b rest (digits {text = text} {rest = left} {symbols = symbols} {run = run} is some spelled split) begins =
    let run_is = is ∙ ap (take_while is_ascii_digit) begins in
    of_digits symbols (run_begins is_ascii_digit b rest (λ none. some (run_is ∙ none)))
    (ap (λ r. figure (pos (digits_value 10 r)) ∷ symbols) run_is)
    (subst (λ xs. Spells xs symbols) (behind_run is_ascii_digit text run left is split ∙ ap (λ t. drop (prefix_len is_ascii_digit t) t) begins) spelled)
first_spelled b rest (letters {text = text} {rest = left} {symbols = symbols} {run = run} {behind = behind} {b = c} is first letter spelled split) begins =
    let run_is = is ∙ ap (take_while goes_on_name) begins in
    let h : b ∷ rest ≡ c ∷ (behind ++ left) = sym begins ∙ split ∙ ap (λ xs. xs ++ left) first in
    let byte : c ≡ b = cc in
    of_letters symbols (subst (λ k. begins_name k ≡ true) byte letter)
    (ap (λ r. word r ∷ symbols) run_is)
    (subst (λ xs. Spells xs symbols) (behind_run goes_on_name text run left is split ∙ ap (λ t. drop (prefix_len goes_on_name t) t) begins) spelled)

-- the classes of bytes are apart
blank_no_digit : (b : ℕ) → is_blank_byte b ≡ true → is_ascii_digit b ≡ true → ⊥
blank_no_digit b one other = grind (arith, nat_tests)

blank_no_letter : (b : ℕ) → is_blank_byte b ≡ true → begins_name b ≡ true → ⊥
blank_no_letter b one other = grind (arith, nat_tests)

digit_no_letter : (b : ℕ) → is_ascii_digit b ≡ true → begins_name b ≡ true → ⊥
digit_no_letter b one other = grind (arith, nat_tests)

-- ---- what is read at a place

byte_split : (text : List ℕ) (start : ℕ) → start < length text → drop start text ≡ get_or text start 0 ∷ drop (start + 1) text
byte_split text start within =
    let next : suc start ≡ start + 1 = omega arith in
    drop-cons text start 0 within ∙ ap (λ k. get_or text start 0 ∷ drop k text) next

module _ (text : List ℕ) (start : ℕ) (within : start < length text) where
  first_at : (all : List Symbol) → Spells (drop start text) all → First (get_or text start 0) (drop (start + 1) text) all
  first_at all spelled = first_spelled (get_or text start 0) (drop (start + 1) text) spelled (byte_split text start within)

  -- a name is read in one way alone
  name_by : (all : List Symbol) → begins_name (get_or text start 0) ≡ true → First (get_or text start 0) (drop (start + 1) text) all
      → (more : List Symbol) × (all ≡ word (take_while goes_on_name (drop start text)) ∷ more) × Spells (drop (prefix_len goes_on_name (drop start text)) (drop start text)) more
  name_by all begins (of_blank is spelled) = absurd (blank_no_letter (get_or text start 0) is begins)
  name_by all begins (of_mark s more is same spelled) = (cc ((mark_is s (get_or text start 0) is).no_letter, begins))
  name_by all begins (of_digits more is same spelled) = absurd (digit_no_letter (get_or text start 0) is begins)
  name_by all begins (of_letters more is same spelled) = rw (byte_split text start within) (more, same, spelled)

  -- a number is read in one way alone
  number_by : (all : List Symbol) → is_ascii_digit (get_or text start 0) ≡ true → First (get_or text start 0) (drop (start + 1) text) all
      → (more : List Symbol) × (all ≡ figure (pos (digits_value 10 (take_while is_ascii_digit (drop start text)))) ∷ more) × Spells (drop (prefix_len is_ascii_digit (drop start text)) (drop start text)) more
  number_by all begins (of_blank is spelled) = absurd (blank_no_digit (get_or text start 0) is begins)
  number_by all begins (of_mark s more is same spelled) = (cc ((mark_is s (get_or text start 0) is).no_digit, begins))
  number_by all begins (of_digits more is same spelled) = rw (byte_split text start within) (more, same, spelled)
  number_by all begins (of_letters more is same spelled) = absurd (digit_no_letter (get_or text start 0) begins is)

  -- a symbol of one byte is read in one way alone
  mark_by : (s : Symbol) (all : List Symbol) → mark_of s ≡ Some (get_or text start 0) → First (get_or text start 0) (drop (start + 1) text) all
      → (more : List Symbol) × (all ≡ s ∷ more) × Spells (drop (start + 1) text) more
  mark_by s all begins (of_blank is spelled) = (cc ((mark_is s (get_or text start 0) begins).no_blank, is))
  mark_by s all begins (of_mark t more is same spelled) = (more, same ∙ ap (λ x. x ∷ more) (same_mark t s (get_or text start 0) is begins), spelled)
  mark_by s all begins (of_digits more is same spelled) = (cc ((mark_is s (get_or text start 0) begins).no_digit, is))
  mark_by s all begins (of_letters more is same spelled) = (cc ((mark_is s (get_or text start 0) begins).no_letter, is))

  -- nothing begins with another byte
  nothing_by : (all : List Symbol) → is_blank_byte (get_or text start 0) ≡ false → is_ascii_digit (get_or text start 0) ≡ false
      → begins_name (get_or text start 0) ≡ false → ((s : Symbol) → mark_of s ≢ Some (get_or text start 0))
      → First (get_or text start 0) (drop (start + 1) text) all → ⊥
  nothing_by all b d l m (of_blank is spelled) = (cc (b, is))
  nothing_by all b d l m (of_mark t more is same spelled) = m t is
  nothing_by all b d l m (of_digits more is same spelled) = (cc (d, is))
  nothing_by all b d l m (of_letters more is same spelled) = (cc (l, is))

  pub only_name : (end : ℕ) → begins_name (get_or text start 0) ≡ true → end ≡ start + prefix_len (passes Word) (drop start text)
      → SpellsOnlyUpTo text start (word (take_while goes_on_name (drop start text)) ∷ []) end
  only_name end begins is = λ all spelled.
      let by = name_by all begins (first_at all spelled) in
      (by.0, by.1, subst (λ xs. Spells xs by.0) (drop-drop _ start text ∙ ap (λ k. drop k text) (sym is)) by.2)

  pub only_number : (end : ℕ) → is_ascii_digit (get_or text start 0) ≡ true → end ≡ start + prefix_len (passes Digit) (drop start text)
      → SpellsOnlyUpTo text start (figure (pos (digits_value 10 (take_while is_ascii_digit (drop start text)))) ∷ []) end
  only_number end begins is = λ all spelled.
      let by = number_by all begins (first_at all spelled) in
      (by.0, by.1, subst (λ xs. Spells xs by.0) (drop-drop _ start text ∙ ap (λ k. drop k text) (sym is)) by.2)

  pub only_mark : (s : Symbol) → mark_of s ≡ Some (get_or text start 0) → SpellsOnlyUpTo text start (s ∷ []) (start + 1)
  only_mark s begins = λ all spelled. mark_by s all begins (first_at all spelled)

  pub only_end : is_blank_byte (get_or text start 0) ≡ false → is_ascii_digit (get_or text start 0) ≡ false
      → begins_name (get_or text start 0) ≡ false → ((s : Symbol) → mark_of s ≢ Some (get_or text start 0)) → EndsAt text start
  only_end b d l m = λ all spelled. absurd (nothing_by all b d l m (first_at all spelled))

-- where no symbol of one byte was read either, nothing is spelled
pub other_ends : (text : List ℕ) (start : ℕ) → start < length text → (b : ℕ) → get_or text start 0 ≡ b → is_blank_byte (get_or text start 0) ≡ false
    → is_ascii_digit b ≡ false → begins_name b ≡ false → (read : Option Read) → IfNone read ((s : Symbol) → mark_of s ≢ Some b)
    → IfNone read (EndsAt text start)
other_ends text start within b is no_blank no_digit no_letter None no_mark =
    only_end text start within no_blank (ap is_ascii_digit is ∙ no_digit) (ap begins_name is ∙ no_letter) (λ s marked. no_mark s (marked ∙ ap Some is))
other_ends text start within b is no_blank no_digit no_letter (Some read) no_mark = no_mark

-- blanks at the front are read in one way alone
skips_back_one : (b : ℕ) (bs : List ℕ) (all : List Symbol) (c : Bool) → is_blank_byte b ≡ c → First b bs all → Spells (b ∷ bs) all
    → (Spells bs all → Spells (drop (prefix_len is_blank_byte bs) bs) all)
    → Spells (drop (cond c (1 + prefix_len is_blank_byte bs) 0) (b ∷ bs)) all
skips_back_one b bs all false is first spelled behind = spelled
skips_back_one b bs all true is (of_blank blank_is rest) spelled behind =
    let size : suc (prefix_len is_blank_byte bs) ≡ 1 + prefix_len is_blank_byte bs = omega arith in
    subst (λ n. Spells (drop n (b ∷ bs)) all) size (behind rest)
skips_back_one b bs all true is (of_mark s more mark_here same rest) spelled behind = (cc ((mark_is s b mark_here).no_blank, is))
skips_back_one b bs all true is (of_digits more digit same rest) spelled behind = absurd (blank_no_digit b is digit)
skips_back_one b bs all true is (of_letters more letter same rest) spelled behind = absurd (blank_no_letter b is letter)

skips_back : (xs : List ℕ) (all : List Symbol) → Spells xs all → Spells (drop (prefix_len is_blank_byte xs) xs) all
skips_back [] all spelled = spelled
skips_back (b ∷ bs) all spelled = skips_back_one b bs all (is_blank_byte b) refl (first_spelled b bs spelled refl) spelled (skips_back bs all)

pub only_blanks : (text : List ℕ) (start end : ℕ) → end ≡ start + prefix_len (passes Blank) (drop start text) → SpellsOnlyUpTo text start [] end
only_blanks text start end is = λ all spelled.
    (all, refl, subst (λ xs. Spells xs all) (drop-drop _ start text ∙ ap (λ k. drop k text) (sym is)) (skips_back (drop start text) all spelled))

-- no blank is behind the blanks
pub unblank_behind : (text : List ℕ) (start end : ℕ) → start ≤ length text → end ≡ start + prefix_len (passes Blank) (drop start text) → IsUnblankAt text end
unblank_behind text start end bound is = λ within.
    let size = length-drop start text in
    let stops = prefix_len_stops (passes Blank) (drop start text) 0 (omega arith) in
    rw is (rw get_or-drop at stops)

-- nothing but the end is at the end
pub end_ends : (text : List ℕ) (start : ℕ) → start ≤ length text → length text ≤ start → EndsAt text start
end_ends text start bound past = λ all spelled. (omega arith, nothing_spelled (drop start text) all spelled (drop_of_length-le text past))
  where
    nothing_spelled : (xs : List ℕ) (all : List Symbol) → Spells xs all → xs ≡ [] → all ≡ []
    nothing_spelled xs all (nothing none) is = refl
    nothing_spelled xs all (blank here spelled split) is = (cc (sym split ∙ is))
    nothing_spelled xs all (mark here spelled split) is = (cc (sym split ∙ is))
    nothing_spelled xs all (digits run_is some spelled split) is = absurd (some (run_is ∙ ap (take_while is_ascii_digit) is))
    nothing_spelled xs all (letters run_is first letter spelled split) is = (cc (sym first ∙ run_is ∙ ap (take_while goes_on_name) is))

-- what leads on alone, and on from there
pub LeadsOnlyTo-joined : (text : List ℕ) (start middle end : ℕ) (xs ys : List Symbol) → SpellsOnlyUpTo text start xs middle → SpellsOnlyUpTo text middle ys end
    → SpellsOnlyUpTo text start (xs ++ ys) end
LeadsOnlyTo-joined text start middle end xs ys one other = λ all spelled.
    let first = one all spelled in
    let second = other first.0 first.2 in
    (second.0, first.1 ∙ ap (λ zs. xs ++ zs) second.1 ∙ sym (append_assoc xs ys second.0), second.2)

-- the tokens of a text are all that it spells
pub only_whole : (text : List ℕ) (symbols : List Symbol) (end : ℕ) → SpellsOnlyUpTo text 0 symbols end → EndsAt text end
    → (all : List Symbol) → Spells text all → (end ≡ length text) × (all ≡ symbols)
only_whole text symbols end only ends all spelled =
    let behind = only all spelled in
    let last = ends behind.0 behind.2 in
    (last.0, behind.1 ∙ ap (λ zs. symbols ++ zs) last.1 ∙ append-nil symbols)

-- what holds of all symbols holds of those at the end
All-behind : (P : Symbol → Type 0) (xs ys : List Symbol) → All P (xs ++ ys) → All P ys
All-behind P [] ys all = all
All-behind P (x ∷ xs) ys all = All-behind P xs ys (All-tail P x (xs ++ ys) all)

-- a number that is too large further on
pub too_large_behind : (text : List ℕ) (symbols : List Symbol) (place : ℕ) → SpellsOnlyUpTo text 0 symbols place → IsTooLargeAt text place → IsTooLargeAt text 0
too_large_behind text symbols place only large = λ all spelled room.
    let behind = only all spelled in
    large behind.0 behind.2 (All-behind IsInRange symbols behind.0 (subst (All IsInRange) behind.1 room))

-- a number that is too large here
pub too_large_here : (text : List ℕ) (start end : ℕ) (x : ℤ) → SpellsOnlyUpTo text start (figure x ∷ []) end → in_range x ≡ None → IsTooLargeAt text start
too_large_here text start end x only none = λ all spelled room.
    let behind = only all spelled in
    All-head IsInRange (figure x) behind.0 (subst (All IsInRange) behind.1 room) none
