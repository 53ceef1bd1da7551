-- The lines of a text, added one after another.
use Rattle.std.proofs.Common.{◌≡◌, ◌≢◌, ℕ, suc, ◌+◌, ◌-◌, ◌<◌, ◌≤◌, Bool, true, false, true≢false, not, ◌&&◌, ◌⊎◌, inl, inr, if◌then◌else◌, List, [], ◌∷◌, ◌++◌, length, take, All, Option, None, Some, MatchOption, is_some, ap, sym, ◌∙◌, refl, arith, append_assoc, append-nil, length-append, eqb, ⊎_elim}
use Rattle.std.specs.Prelude.{filter, bytes_eq, IfOk, IfSome, Result, Ok, Err, OnErr, OnOk}
use Rattle.std.specs.Bool.{⊤}
use Rattle.std.specs.Io.KnownBytes.{IsAtEnd, prepend_known}
use Rattle.std.specs.Io.Buffered.{reader_remaining, reader_inner, reader_buffer, reader_capacity}
use Rattle.std.specs.declared.io.buffered.BufReader.{BufReader}
use Rattle.std.specs.Str.{IsUtf8}
use Rattle.line_parts.specs.declared.history.lines.Stop.{Stop}
use Rattle.line_parts.specs.declared.history.lines.Stop.TheVariants as stop
use Rattle.std.specs.Io.BufRead.{take_through, DropsThrough, ends_with_byte, strip_last}
use Rattle.std.specs.List.{AllZip}
use Rattle.std.proofs.lemmas.Bool.{cases_Bool, both_ways}
use Rattle.std.proofs.lemmas.List.Elements.{filter-append, All-cons, All-nil, All-append}
use Rattle.std.proofs.lemmas.Slice.Eq.{bytes_eq-Decides}
use Rattle.line_config.specs.Error.{max_count}
use Rattle.line_parts.specs.History.{FiledHistory, all_filed, all_taken, filed, leaves_out, settled}
use Rattle.line_parts.specs.EscapedLine.{Unescapes, escape_table, escaped_byte, escaped_line}
use Rattle.line_parts.specs.HistoryText.{header, is_some_text, lines_of, takes_all, AddsLines, AddsBeginning, AddsSome, ReadsHeader, GoesOn, IsHistoryText, Loads, LoadsBeginning, Says, SaysLines, unescaped, as_it_stands, with_header, without_header}
use Rattle.line_parts.specs.LoadStop.{AddsToNoText, HasTooManyLines, LoadsToNoText, SaysNoText, StopsOnlyIf}
use Rattle.line_parts.proofs.LinesLemmas.{lines_of-first, trimmed}
use Rattle.line_parts.proofs.EscapeLemmas.{Written, by_letter, byte_in, none_is_not_some, plainly, undo, undo-says, undone, written-by}
use Rattle.line_parts.specs.declared.escaped_line.Escapes.{Escapes}
use Rattle.line_parts.specs.declared.escaped_line.Escapes.TheVariants.{V2, V3}

pub AllZip-append : {X Y : Type 0} (R : X → Y → Type 0) (xs vs : List X) (ys ws : List Y) → AllZip R xs ys → AllZip R vs ws → AllZip R (xs ++ vs) (ys ++ ws)
AllZip-append R [] vs [] ws h k = k
AllZip-append R [] vs (y ∷ ys) ws h k = absurd h
AllZip-append R (x ∷ xs) vs [] ws h k = absurd h
AllZip-append R (x ∷ xs) vs (y ∷ ys) ws h k = (h.0, AllZip-append R xs vs ys ws h.1 k)

pub SaysLines-append : (headed : Option Escapes) (vs ws ls ms : List (List ℕ)) → SaysLines headed vs ls → SaysLines headed ws ms → SaysLines headed (vs ++ ws) (ls ++ ms)
SaysLines-append (Some escapes) vs ws ls ms h k = rw (filter-append is_some_text vs ws) (AllZip-append (Says escapes) (filter is_some_text vs) (filter is_some_text ws) ls ms h k)
SaysLines-append None vs ws ls ms h k = rw (h, k, filter-append is_some_text vs ws) refl

pub all_filed-append : (h : FiledHistory) (xs ys : List (List ℕ)) → all_filed h (xs ++ ys) ≡ all_filed (all_filed h xs) ys
all_filed-append h [] ys = refl
all_filed-append h (x ∷ xs) ys = all_filed-append (filed h x) xs ys

and_assoc : (a b c : Bool) → (a && b) && c ≡ a && (b && c)
and_assoc true b c = refl
and_assoc false b c = refl

le_suc : (a b : ℕ) → a ≤ b → a ≤ suc b
le_suc a b h = omega arith

suc_le : (a b : ℕ) → a ≤ b → suc a ≤ suc b
suc_le a b h = omega arith

short_of : (a b : ℕ) → a ≤ b → eqb a (suc b) ≡ false
short_of a b h = grind arith

eqb_suc : (a b : ℕ) → eqb (suc a) (suc b) ≡ eqb a b
eqb_suc a b = grind arith

length-all_taken : (h : FiledHistory) (xs : List (List ℕ)) → length (all_taken h.rules h.lines xs) ≤ length xs
length-all_taken h [] = omega arith
length-all_taken h (x ∷ xs) = ⊎_elim
    (λ yes. rw yes (le_suc _ _ (rw yes at (length-all_taken (filed h x) xs))))
    (λ other. rw other (suc_le _ _ (rw other at (length-all_taken (filed h x) xs))))
    (cases_Bool (leaves_out h.rules h.lines x))

takes_all-cons : (h : FiledHistory) (x : List ℕ) (xs : List (List ℕ)) → takes_all h (x ∷ xs) ≡ not (leaves_out h.rules h.lines x) && takes_all (filed h x) xs
takes_all-cons h x xs = ⊎_elim
    (λ yes. rw yes (short_of _ _ (rw yes at (length-all_taken (filed h x) xs))))
    (λ other. rw other (eqb_suc _ _))
    (cases_Bool (leaves_out h.rules h.lines x))

pub takes_all-append : (h : FiledHistory) (xs ys : List (List ℕ)) → takes_all h (xs ++ ys) ≡ takes_all h xs && takes_all (all_filed h xs) ys
takes_all-append h [] ys = refl
takes_all-append h (x ∷ xs) ys =
    takes_all-cons h x (xs ++ ys) ∙ ap (λ b. not (leaves_out h.rules h.lines x) && b) (takes_all-append (filed h x) xs ys)
    ∙ sym (and_assoc (not (leaves_out h.rules h.lines x)) (takes_all (filed h x) xs) (takes_all (all_filed (filed h x) xs) ys))
    ∙ ap (λ b. b && takes_all (all_filed (filed h x) xs) ys) (sym (takes_all-cons h x xs))

-- ---- what a line says

not_10a : ◌≢◌ {A = ℕ} 92 10
not_10a e = omega (arith, e)

-- no letter of an escape is a newline
letter_is_no_newline : (escapes : Escapes) (letter b : ℕ) → byte_in (escape_table escapes) letter ≡ Some b → letter ≢ 10
letter_is_no_newline V2 letter b is e = none_is_not_some (rw e at is)
letter_is_no_newline V3 letter b is e = none_is_not_some (rw e at is)

escaped_byte-lacks : (escapes : Escapes) (b : ℕ) → All (λ x. x ≢ 10) (escaped_byte escapes b)
escaped_byte-lacks escapes b = by (written-by escapes b)
  where
    by : Written escapes b → All (λ x. x ≢ 10) (escaped_byte escapes b)
    by (plainly e p q) = rw e (All-cons (λ x. x ≢ 10) b [] (λ f. both_ways _ q (rw f refl)) (All-nil (λ x. x ≢ 10)))
    by (by_letter letter e f) = rw e (All-cons (λ x. x ≢ 10) 92 (letter ∷ []) not_10a
        (All-cons (λ x. x ≢ 10) letter [] (letter_is_no_newline escapes letter b f) (All-nil (λ x. x ≢ 10))))

-- no line feed stands in a written line
pub escaped_line-lacks : (escapes : Escapes) (t : List ℕ) → All (λ b. b ≢ 10) (escaped_line escapes t)
escaped_line-lacks escapes [] = All-nil (λ b. b ≢ 10)
escaped_line-lacks escapes (b ∷ bs) = All-append (λ b. b ≢ 10) (escaped_byte escapes b) (escaped_line escapes bs) (escaped_byte-lacks escapes b) (escaped_line-lacks escapes bs)

says_by : (escapes : Escapes) (line : List ℕ) (o : Option (List ℕ)) → undo escapes false line ≡ o → MatchOption (undo escapes false line) ⊤ (λ t. Unescapes escapes line t) → (t : List ℕ) × Says escapes line t
says_by escapes line None e h = (line, as_it_stands (λ other u. none_is_not_some (sym e ∙ undo-says escapes line other u)) refl)
says_by escapes line (Some t) e h = (t, unescaped (rw e at h))

pub says_some : (escapes : Escapes) (line : List ℕ) → (t : List ℕ) × Says escapes line t
says_some escapes line = says_by escapes line (undo escapes false line) refl (undone escapes false line)

says_all : (escapes : Escapes) (ws : List (List ℕ)) → (ls : List (List ℕ)) × AllZip (Says escapes) ws ls
says_all escapes [] = ([], tt)
says_all escapes (w ∷ ws) = let one = says_some escapes w in let more = says_all escapes ws in (one.0 ∷ more.0, (one.1, more.1))

pub says_lines : (headed : Option Escapes) (ws : List (List ℕ)) → (ls : List (List ℕ)) × SaysLines headed ws ls
says_lines (Some escapes) ws = says_all escapes (filter is_some_text ws)
says_lines None ws = (filter is_some_text ws, refl)

-- ---- lines that are added

pub adds_none : (headed : Option Escapes) (h : FiledHistory) → AddsLines headed [] h h true
adds_none (Some escapes) h = record { lines = []; says = tt; added = refl; takes = refl }
adds_none None h = record { lines = []; says = refl; added = refl; takes = refl }

pub adds_more : (headed : Option Escapes) (vs ws : List (List ℕ)) (old mid new : FiledHistory) (t u : Bool) → AddsLines headed vs old mid t → AddsLines headed ws mid new u → AddsLines headed (vs ++ ws) old new (t && u)
adds_more headed vs ws old mid new t u a b = record {
  lines = a.lines ++ b.lines;
  says = SaysLines-append headed vs ws a.lines b.lines a.says b.says;
  added = b.added ∙ ap (λ h. all_filed h b.lines) a.added ∙ sym (all_filed-append old a.lines b.lines);
  takes = rw (a.takes, b.takes, a.added) (sym (takes_all-append old a.lines b.lines));
}

pub adds_beginning : (headed : Option Escapes) (vs ws : List (List ℕ)) (old new : FiledHistory) (t : Bool) → AddsLines headed vs old new t → AddsBeginning headed (vs ++ ws) old new
adds_beginning headed vs ws old new t a = let more = says_lines headed ws in record {
  lines = a.lines;
  unread = more.0;
  says = SaysLines-append headed vs ws a.lines more.0 a.says more.1;
  added = a.added;
}

some_text : (w : List ℕ) → 0 < length w → is_some_text w ≡ true
some_text w lt = grind arith

and_true : (b : Bool) → (b && true) ≡ b
and_true true = refl
and_true false = refl

takes_one : (h : FiledHistory) (t : List ℕ) → takes_all h (t ∷ []) ≡ not (leaves_out h.rules h.lines t)
takes_one h t = takes_all-cons h t [] ∙ and_true (not (leaves_out h.rules h.lines t))

-- an empty line adds nothing
pub adds_empty : (headed : Option Escapes) (w : List ℕ) (h : FiledHistory) → length w ≡ 0 → AddsLines headed (w ∷ []) h h true
adds_empty (Some escapes) [] h e = record { lines = []; says = tt; added = refl; takes = refl }
adds_empty None [] h e = record { lines = []; says = refl; added = refl; takes = refl }
adds_empty headed (x ∷ xs) h e = absurd (omega (arith, e))

-- one line as it stands, and one by its escapes
pub adds_plain : (w : List ℕ) (old new : FiledHistory) (taken : Bool) → 0 < length w → new ≡ filed old w → taken ≡ not (leaves_out old.rules old.lines w) → AddsLines None (w ∷ []) old new taken
adds_plain w old new taken lt e t = record { lines = w ∷ []; says = rw (some_text w lt) refl; added = e; takes = t ∙ sym (takes_one old w) }

adds_says : (escapes : Escapes) (w text : List ℕ) (old new : FiledHistory) (taken : Bool) → 0 < length w → Says escapes w text → new ≡ filed old text → taken ≡ not (leaves_out old.rules old.lines text) → AddsLines (Some escapes) (w ∷ []) old new taken
adds_says escapes w text old new taken lt says e t = record { lines = text ∷ []; says = rw (some_text w lt) (says, tt); added = e; takes = t ∙ sym (takes_one old text) }

pub adds_unescaped : (escapes : Escapes) (w text : List ℕ) (old new : FiledHistory) (taken : Bool) → 0 < length w → Unescapes escapes w text → new ≡ filed old text → taken ≡ not (leaves_out old.rules old.lines text) → AddsLines (Some escapes) (w ∷ []) old new taken
adds_unescaped escapes w text old new taken lt says e t = adds_says escapes w text old new taken lt (unescaped says) e t

pub adds_as_it_stands : (escapes : Escapes) (w : List ℕ) (old new : FiledHistory) (taken : Bool) → 0 < length w → ((other : List ℕ) → ¬ (Unescapes escapes w other)) → new ≡ filed old w → taken ≡ not (leaves_out old.rules old.lines w) → AddsLines (Some escapes) (w ∷ []) old new taken
adds_as_it_stands escapes w old new taken lt bad e t = adds_says escapes w w old new taken lt (as_it_stands bad refl) e t

-- the same of an answer
pub adds_kept : {E : Type 0} (r : Result Bool E) (escapes : Escapes) (w : List ℕ) (old new : FiledHistory) → 0 < length w → ((other : List ℕ) → ¬ (Unescapes escapes w other))
    → IfOk r (λ taken. taken ≡ not (leaves_out old.rules old.lines w)) → OnOk r (new ≡ filed old w) → IfOk r (AddsLines (Some escapes) (w ∷ []) old new)
adds_kept (Ok taken) escapes w old new lt bad t e = adds_as_it_stands escapes w old new taken lt bad e t
adds_kept (Err e) escapes w old new lt bad t f = tt

-- ---- a line that is not UTF-8

pub no_text_plain : (w : List ℕ) → 0 < length w → ¬ (IsUtf8 w) → SaysNoText None w
no_text_plain w lt bad = (w, rw (some_text w lt) refl, bad)

pub no_text_kept : (escapes : Escapes) (w : List ℕ) → 0 < length w → ((other : List ℕ) → ¬ (Unescapes escapes w other)) → ¬ (IsUtf8 w) → SaysNoText (Some escapes) w
no_text_kept escapes w lt other bad = (w, rw (some_text w lt) (as_it_stands other refl, tt), bad)

pub stops_as : {T : Type 0} (r : Result T Stop) (P Q R S : Type 0) → (P → R) → (Q → S) → StopsOnlyIf r P Q → StopsOnlyIf r R S
stops_as (Ok _) P Q R S f g h = tt
stops_as (Err (stop.Reader fault)) P Q R S f g h = h
stops_as (Err stop.NotText) P Q R S f g h = f h
stops_as (Err stop.TooLong) P Q R S f g h = g h
stops_as (Err stop.Memory) P Q R S f g h = tt

-- ---- a line that was read

pub read_none : (old new : Option (List ℕ)) → IsAtEnd old → DropsThrough old new 10 → GoesOn old new []
read_none None new ends drops = tt
read_none (Some xs) new ends drops = rw (drops, ends) refl

pub ended_none : (old : Option (List ℕ)) → IsAtEnd old → IfSome old (λ t. lines_of t ≡ [])
ended_none None ends = tt
ended_none (Some xs) ends = rw ends refl

pub read_one : (old new : Option (List ℕ)) (front piece line : List ℕ) → front ≡ [] → IfSome old (λ xs. piece ≡ front ++ take_through 10 xs) → 0 < length piece → DropsThrough old new 10 → line ≡ trimmed piece → GoesOn old new (line ∷ [])
read_one None new front piece line none taken lt drops is = tt
read_one (Some []) new front piece line none taken lt drops is = absurd (omega (arith, lt, ap length (taken ∙ ap (λ f. f ++ []) none)))
read_one (Some (x ∷ xs)) new front piece line none taken lt drops is =
    rw (drops, is, taken, none) (lines_of-first (x ∷ xs) (omega arith))

pub trimmed_kept : (piece line : List ℕ) → false ≡ ends_with_byte 10 piece → line ≡ strip_last 10 piece → line ≡ trimmed piece
trimmed_kept piece line e is = is ∙ ap (λ b. if b then take (length piece - 1) piece else piece) (sym e) ∙ ap (λ b. if b then strip_last 13 (strip_last 10 piece) else piece) e

pub trimmed_cut : (piece mid line : List ℕ) → true ≡ ends_with_byte 10 piece → mid ≡ strip_last 10 piece → line ≡ strip_last 13 mid → line ≡ trimmed piece
trimmed_cut piece mid line e is cut = cut ∙ ap (strip_last 13) is ∙ ap (λ b. if b then strip_last 13 (strip_last 10 piece) else piece) e

-- ---- the lines of a text, read one after another

-- these lines of a text were added, at least so many, and it goes on with the rest
pub record Loading (headed : Option Escapes) (text rest : Option (List ℕ)) (old now : FiledHistory) (taken : Bool) (count : ℕ) : Type 0 where
  pub written : List (List ℕ)
  pub counted : count ≤ length written
  pub adds : AddsLines headed written old now taken
  pub goes_on : GoesOn text rest written

goes_on-none : (text : Option (List ℕ)) → GoesOn text text []
goes_on-none None = tt
goes_on-none (Some t) = refl

goes_on-more : (text mid rest : Option (List ℕ)) (vs ws : List (List ℕ)) → GoesOn text mid vs → GoesOn mid rest ws → GoesOn text rest (vs ++ ws)
goes_on-more None mid rest vs ws h k = tt
goes_on-more (Some t) None rest vs ws h k = absurd h
goes_on-more (Some t) (Some m) None vs ws h k = absurd k
goes_on-more (Some t) (Some m) (Some r) vs ws h k = rw (h, k) (sym (append_assoc vs ws (lines_of r)))

one_more : (n : ℕ) (xs : List (List ℕ)) (x : List ℕ) → n ≤ length xs → n + 1 ≤ length (xs ++ x ∷ [])
one_more n xs x h = simp length-append (omega arith)

pub loading_none : (headed : Option Escapes) (text : Option (List ℕ)) (h : FiledHistory) → Loading headed text text h h true 0
loading_none headed text h = record { written = []; counted = omega arith; adds = adds_none headed h; goes_on = goes_on-none text }

pub loading_more : (headed : Option Escapes) (text mid rest : Option (List ℕ)) (old now new : FiledHistory) (line : List ℕ) (t u : Bool) (n : ℕ) → Loading headed text mid old now t n → GoesOn mid rest (line ∷ []) → AddsLines headed (line ∷ []) now new u → Loading headed text rest old new (t && u) (n + 1)
loading_more headed text mid rest old now new line t u n l k a = record {
  written = l.written ++ line ∷ [];
  counted = one_more n l.written line l.counted;
  adds = adds_more headed l.written (line ∷ []) old now new t u l.adds a;
  goes_on = goes_on-more text mid rest l.written (line ∷ []) l.goes_on k;
}

pub loading_ended : (headed : Option Escapes) (text rest : Option (List ℕ)) (old now : FiledHistory) (t : Bool) (n : ℕ) → Loading headed text rest old now t n → IfSome rest (λ r. lines_of r ≡ []) → IfSome text (λ x. AddsLines headed (lines_of x) old now t)
loading_ended headed None rest old now t n l ends = tt
loading_ended headed (Some x) None old now t n l ends = absurd l.goes_on
loading_ended headed (Some x) (Some r) old now t n l ends = rw (l.goes_on, ends, append-nil l.written) l.adds

pub loading_beginning : (headed : Option Escapes) (text rest : Option (List ℕ)) (old now : FiledHistory) (t : Bool) (n : ℕ) → Loading headed text rest old now t n → IfSome text (λ x. AddsBeginning headed (lines_of x) old now)
loading_beginning headed None rest old now t n l = tt
loading_beginning headed (Some x) None old now t n l = absurd l.goes_on
loading_beginning headed (Some x) (Some r) old now t n l = rw l.goes_on (adds_beginning headed l.written (lines_of r) old now t l.adds)

pub loading_some : (headed : Option Escapes) (text rest : Option (List ℕ)) (old now : FiledHistory) (t : Bool) (n : ℕ) → Loading headed text rest old now t n → AddsSome old now
loading_some headed text rest old now t n l = record { lines = l.adds.lines; added = l.adds.added }

pub loading_no_text : (headed : Option Escapes) (text mid rest : Option (List ℕ)) (old now new : FiledHistory) (line : List ℕ) (t : Bool) (n : ℕ) → Loading headed text mid old now t n → GoesOn mid rest (line ∷ []) → new ≡ now → SaysNoText headed line → IfSome text (λ x. AddsToNoText headed (lines_of x) old new)
loading_no_text headed None mid rest old now new line t n l k e bad = tt
loading_no_text headed (Some x) None rest old now new line t n l k e bad = absurd l.goes_on
loading_no_text headed (Some x) (Some m) None old now new line t n l k e bad = absurd k
loading_no_text headed (Some x) (Some m) (Some r) old now new line t n l k e bad = let more = says_lines headed (lines_of r) in
    rw (l.goes_on, k) (
      record {
        lines = l.adds.lines;
        unread = bad.0 ∷ more.0;
        says = SaysLines-append headed l.written (line ∷ lines_of r) l.adds.lines (bad.0 ∷ more.0) l.adds.says
            (SaysLines-append headed (line ∷ []) (lines_of r) (bad.0 ∷ []) more.0 bad.1 more.1);
        added = e ∙ l.adds.added;
      },
      bad.2,
    )

as_long : (n m : ℕ) (xs ys : List (List ℕ)) → m ≤ n → n ≤ length xs → m ≤ length (xs ++ ys)
as_long n m xs ys h k = simp length-append (omega arith)

pub loading_too_many : (headed : Option Escapes) (text rest : Option (List ℕ)) (old now : FiledHistory) (t : Bool) (n : ℕ) → Loading headed text rest old now t n → max_count ≤ n → IfSome text HasTooManyLines
loading_too_many headed None rest old now t n l many = tt
loading_too_many headed (Some x) None old now t n l many = absurd l.goes_on
loading_too_many headed (Some x) (Some r) old now t n l many = rw l.goes_on (as_long n max_count l.written (lines_of r) many l.counted)

-- ---- the header, or the first line

nil_is_not_cons : {X : Type 0} {x : X} {xs : List X} → [] ≡ x ∷ xs → ⊥
nil_is_not_cons e = cc

same_first : {x y : List ℕ} {xs ys : List (List ℕ)} → x ∷ xs ≡ y ∷ ys → x ≡ y
same_first e = cc

prepended : (known : Option (List ℕ)) → prepend_known [] known ≡ known
prepended None = refl
prepended (Some xs) = refl

same_bytes : (x y : List ℕ) → bytes_eq x y ≡ true → x ≡ y
same_bytes x y e = (bytes_eq-Decides x y).0 e

equal_bytes : (x y : List ℕ) → x ≡ y → bytes_eq x y ≡ true
equal_bytes x y e = (bytes_eq-Decides x y).1 e

-- a line is a header or is none
is_header : (line : List ℕ) → ((escapes : Escapes) × (line ≡ header escapes)) ⊎ ((escapes : Escapes) → line ≢ header escapes)
is_header line = ⊎_elim
    (λ (yes : bytes_eq line (header V2) ≡ true). inl (V2, same_bytes line (header V2) yes))
    (λ (other : bytes_eq line (header V2) ≡ false). ⊎_elim
    (λ (yes : bytes_eq line (header V3) ≡ true). inl (V3, same_bytes line (header V3) yes))
    (λ (none : bytes_eq line (header V3) ≡ false). inr (neither_header other none))
    (cases_Bool (bytes_eq line (header V3))))
    (cases_Bool (bytes_eq line (header V2)))
  where
    neither_header : bytes_eq line (header V2) ≡ false → bytes_eq line (header V3) ≡ false → (escapes : Escapes) → line ≢ header escapes
    neither_header other none V2 e = both_ways _ other (equal_bytes line (header V2) e)
    neither_header other none V3 e = both_ways _ none (equal_bytes line (header V3) e)

not_true : {P : Type 0} → false ≡ true → P
not_true e = absurd (true≢false (sym e))

not_false : {P : Type 0} → true ≡ false → P
not_false e = absurd (true≢false e)

not_none : {P : Type 0} {escapes : Escapes} → ◌≡◌ {A = Option Escapes} None (Some escapes) → P
not_none e = absurd (none_is_not_some e)

not_some : {P : Type 0} {escapes : Escapes} → ◌≡◌ {A = Option Escapes} (Some escapes) None → P
not_some e = absurd (none_is_not_some (sym e))

same_escapes : {one other : Escapes} → ◌≡◌ {A = Option Escapes} (Some one) (Some other) → one ≡ other
same_escapes e = cc

-- the first line of a text is no header
abbrev pub HasNoHeader : Option (List ℕ) → Type 0
HasNoHeader text = IfSome text (λ t. (escapes : Escapes) (more : List (List ℕ)) → lines_of t ≢ header escapes ∷ more)

no_lines : (text : Option (List ℕ)) → IfSome text (λ t. lines_of t ≡ []) → HasNoHeader text
no_lines None ended = tt
no_lines (Some t) ended = λ escapes more e. nil_is_not_cons (sym ended ∙ e)

no_first : (text rest : Option (List ℕ)) (line : List ℕ) → GoesOn text rest (line ∷ []) → ((escapes : Escapes) → line ≢ header escapes) → HasNoHeader text
no_first None rest line k other = tt
no_first (Some t) None line k other = absurd k
no_first (Some t) (Some r) line k other = λ escapes more e. other escapes (same_first (sym k ∙ e))

pub begins_empty : (text rest : Option (List ℕ)) (h : FiledHistory) → GoesOn text rest [] → IfSome text (λ t. lines_of t ≡ []) → ReadsHeader text rest h h None
begins_empty text rest h k ended = record {
  firsts = [];
  goes_on = k;
  with_header = λ escapes e. not_none e;
  no_header = λ _. no_lines text ended;
  added = λ _. refl;
}

pub begins_header : (text rest : Option (List ℕ)) (line : List ℕ) (escapes : Escapes) (h : FiledHistory) → GoesOn text rest (line ∷ []) → line ≡ header escapes → ReadsHeader text rest h h (Some escapes)
begins_header text rest line escapes h k e = record {
  firsts = line ∷ [];
  goes_on = k;
  with_header = λ others same. (ap (λ l. l ∷ []) (e ∙ ap header (same_escapes same)), refl);
  no_header = λ none. not_some none;
  added = λ none. not_some none;
}

pub begins_line : (text rest : Option (List ℕ)) (line : List ℕ) (old new : FiledHistory) → GoesOn text rest (line ∷ []) → ((escapes : Escapes) → line ≢ header escapes) → 0 < length line → new ≡ filed old line → ReadsHeader text rest old new None
begins_line text rest line old new k other lt e = record {
  firsts = line ∷ [];
  goes_on = k;
  with_header = λ escapes e. not_none e;
  no_header = λ _. no_first text rest line k other;
  added = λ _. rw (some_text line lt) e;
}

pub first_no_text : (text rest : Option (List ℕ)) (line : List ℕ) (old new : FiledHistory) → GoesOn text rest (line ∷ []) → ((escapes : Escapes) → line ≢ header escapes) → 0 < length line → new ≡ old → ¬ (IsUtf8 line) → IfSome text (λ t. LoadsToNoText t old new)
first_no_text None rest line old new k other lt e bad = tt
first_no_text (Some t) None line old new k other lt e bad = absurd k
first_no_text (Some t) (Some r) line old new k other lt e bad = (
  record {
    headed = None;
    lines = [];
    unread = line ∷ filter is_some_text (lines_of r);
    says = without_header refl (no_first (Some t) (Some r) line k other) (rw (k, some_text line lt) refl);
    added = e;
  },
  bad,
)

-- an empty line is no header
empty_is_none : (escapes : Escapes) → ◌≢◌ {A = List ℕ} [] (header escapes)
empty_is_none V2 e = nil_is_not_cons e
empty_is_none V3 e = nil_is_not_cons e

pub begins_blank : (text rest : Option (List ℕ)) (line : List ℕ) (h : FiledHistory) → GoesOn text rest (line ∷ []) → length line ≡ 0 → ReadsHeader text rest h h None
begins_blank text rest [] h k e = record {
  firsts = [] ∷ [];
  goes_on = k;
  with_header = λ escapes e. not_none e;
  no_header = λ _. no_first text rest [] k empty_is_none;
  added = λ _. refl;
}
begins_blank text rest (x ∷ xs) h k e = absurd (omega (arith, e))

-- ---- a whole text

loads_all : (text : List ℕ) (rest : Option (List ℕ)) (headed : Option Escapes) (taken : Bool) (old mid new final : FiledHistory) → ReadsHeader (Some text) rest old mid headed → IfSome rest (λ r. AddsLines headed (lines_of r) mid new taken) → final ≡ settled new → Loads text old final (is_some headed && taken)
loads_all text None headed taken old mid new final b a e = absurd b.goes_on
loads_all text (Some r) (Some escapes) taken old mid new final b a e = let first = b.with_header escapes refl in record {
  headed = Some escapes;
  lines = a.lines;
  says = with_header escapes refl (lines_of r) (b.goes_on ∙ ap (λ f. f ++ lines_of r) first.0) a.says;
  added = e ∙ ap settled (a.added ∙ ap (λ h. all_filed h a.lines) first.1);
  answers = a.takes ∙ ap (λ h. takes_all h a.lines) first.1;
}
loads_all text (Some r) None taken old mid new final b a e = let firsts = filter is_some_text b.firsts in record {
  headed = None;
  lines = firsts ++ a.lines;
  says = without_header refl (b.no_header refl) (ap (λ m. firsts ++ m) a.says ∙ sym (filter-append is_some_text b.firsts (lines_of r)) ∙ ap (filter is_some_text) (sym b.goes_on));
  added = e ∙ ap settled (a.added ∙ ap (λ h. all_filed h a.lines) (b.added refl) ∙ sym (all_filed-append old firsts a.lines));
  answers = refl;
}

pub loads_known : (text rest : Option (List ℕ)) (headed : Option Escapes) (taken : Bool) (old mid new final : FiledHistory) → ReadsHeader text rest old mid headed → IfSome rest (λ r. AddsLines headed (lines_of r) mid new taken) → final ≡ settled new → IfSome text (λ t. Loads t old final (is_some headed && taken))
loads_known None rest headed taken old mid new final b a e = tt
loads_known (Some t) rest headed taken old mid new final b a e = loads_all t rest headed taken old mid new final b a e

pub loads_headed : (text rest : Option (List ℕ)) (headed : Option Escapes) (taken : Bool) (old mid new final : FiledHistory) → is_some headed ≡ true → ReadsHeader text rest old mid headed → IfSome rest (λ r. AddsLines headed (lines_of r) mid new taken) → final ≡ settled new → IfSome text (λ t. Loads t old final taken)
loads_headed text rest (Some escapes) taken old mid new final h b a e = loads_known text rest (Some escapes) taken old mid new final b a e
loads_headed text rest None taken old mid new final h b a e = not_true h

pub loads_bare : (text rest : Option (List ℕ)) (headed : Option Escapes) (taken : Bool) (old mid new final : FiledHistory) → is_some headed ≡ false → ReadsHeader text rest old mid headed → IfSome rest (λ r. AddsLines headed (lines_of r) mid new taken) → final ≡ settled new → IfSome text (λ t. Loads t old final false)
loads_bare text rest (Some escapes) taken old mid new final h b a e = not_false h
loads_bare text rest None taken old mid new final h b a e = loads_known text rest None taken old mid new final b a e

-- what holds anyway holds after an error
pub at_err : {T E P : Type 0} (r : Result T E) → P → OnErr r P
at_err (Ok x) p = tt
at_err (Err e) p = p

begins_all : (text : List ℕ) (rest : Option (List ℕ)) (headed : Option Escapes) (old mid new : FiledHistory) → ReadsHeader (Some text) rest old mid headed → IfSome rest (λ r. AddsBeginning headed (lines_of r) mid new) → LoadsBeginning text old new
begins_all text None headed old mid new b a = absurd b.goes_on
begins_all text (Some r) (Some escapes) old mid new b a = let first = b.with_header escapes refl in record {
  headed = Some escapes;
  lines = a.lines;
  unread = a.unread;
  says = with_header escapes refl (lines_of r) (b.goes_on ∙ ap (λ f. f ++ lines_of r) first.0) a.says;
  added = a.added ∙ ap (λ h. all_filed h a.lines) first.1;
}
begins_all text (Some r) None old mid new b a = let firsts = filter is_some_text b.firsts in record {
  headed = None;
  lines = firsts ++ a.lines;
  unread = a.unread;
  says = without_header refl (b.no_header refl) (append_assoc firsts a.lines a.unread ∙ ap (λ m. firsts ++ m) a.says ∙ sym (filter-append is_some_text b.firsts (lines_of r)) ∙ ap (filter is_some_text) (sym b.goes_on));
  added = a.added ∙ ap (λ h. all_filed h a.lines) (b.added refl) ∙ sym (all_filed-append old firsts a.lines);
}

pub begins_known : (text rest : Option (List ℕ)) (headed : Option Escapes) (old mid new : FiledHistory) → ReadsHeader text rest old mid headed → IfSome rest (λ r. AddsBeginning headed (lines_of r) mid new) → IfSome text (λ t. LoadsBeginning t old new)
begins_known None rest headed old mid new b a = tt
begins_known (Some t) rest headed old mid new b a = begins_all t rest headed old mid new b a

pub rest_no_text : (text rest : Option (List ℕ)) (headed : Option Escapes) (old mid new : FiledHistory) → ReadsHeader text rest old mid headed → IfSome rest (λ r. AddsToNoText headed (lines_of r) mid new) → IfSome text (λ t. LoadsToNoText t old new)
unfolding begins_all
rest_no_text None rest headed old mid new b a = tt
rest_no_text (Some t) None headed old mid new b a = absurd b.goes_on
rest_no_text (Some t) (Some r) (Some escapes) old mid new b a = (begins_all t (Some r) (Some escapes) old mid new b a.0, a.1)
rest_no_text (Some t) (Some r) None old mid new b a = (begins_all t (Some r) None old mid new b a.0, a.1)

rest_as_long : (m : ℕ) (xs ys : List (List ℕ)) → m ≤ length ys → m ≤ length (xs ++ ys)
rest_as_long m xs ys h = simp length-append (omega arith)

pub rest_too_many : (text rest : Option (List ℕ)) (headed : Option Escapes) (old mid : FiledHistory) → ReadsHeader text rest old mid headed → IfSome rest HasTooManyLines → IfSome text HasTooManyLines
rest_too_many None rest headed old mid b many = tt
rest_too_many (Some t) None headed old mid b many = absurd b.goes_on
rest_too_many (Some t) (Some r) headed old mid b many = rw b.goes_on (rest_as_long max_count b.firsts (lines_of r) many)

-- each text says something
pub reading : (text : List ℕ) → (headed : Option Escapes) × (lines : List (List ℕ)) × IsHistoryText text headed lines
reading text = reading_by (lines_of text) refl
  where
    reading_by : (ls : List (List ℕ)) → lines_of text ≡ ls → (headed : Option Escapes) × (lines : List (List ℕ)) × IsHistoryText text headed lines
    reading_by [] e = (None, filter is_some_text (lines_of text), without_header refl (λ escapes rest same. nil_is_not_cons (sym e ∙ same)) refl)
    reading_by (x ∷ xs) e = ⊎_elim
        (λ (yes : (escapes : Escapes) × (x ≡ header escapes)). let more = says_all yes.0 (filter is_some_text xs) in
        (Some yes.0, more.0, with_header yes.0 refl xs (e ∙ ap (λ l. l ∷ xs) yes.1) more.1))
        (λ (other : (escapes : Escapes) → x ≢ header escapes).
        (None, filter is_some_text (lines_of text), without_header refl (λ escapes rest same. other escapes (same_first (sym e ∙ same))) refl))
        (is_header x)

pub nothing_read : (text : Option (List ℕ)) (old new : FiledHistory) → new ≡ old → IfSome text (λ t. LoadsBeginning t old new)
nothing_read None old new e = tt
nothing_read (Some t) old new e = let all = reading t in record {
  headed = all.0;
  lines = [];
  unread = all.1;
  says = all.2;
  added = e;
}

pub adds_some_none : (old new : FiledHistory) → new ≡ old → AddsSome old new
adds_some_none old new e = record { lines = []; added = e }

begins_some : (text rest : Option (List ℕ)) (headed : Option Escapes) (old new : FiledHistory) → ReadsHeader text rest old new headed → AddsSome old new
begins_some text rest (Some escapes) old new b = record { lines = []; added = (b.with_header escapes refl).1 }
begins_some text rest None old new b = record { lines = filter is_some_text b.firsts; added = b.added refl }

pub adds_some_more : (text rest : Option (List ℕ)) (headed : Option Escapes) (old mid new : FiledHistory) → ReadsHeader text rest old mid headed → AddsSome mid new → AddsSome old new
adds_some_more text rest headed old mid new b a = let first = begins_some text rest headed old mid b in record {
  lines = first.lines ++ a.lines;
  added = a.added ∙ ap (λ h. all_filed h a.lines) first.added ∙ sym (all_filed-append old first.lines a.lines);
}

-- what a new buffered reader has left is what the reader has left
pub reader_known : {T A : Type 0} (remaining : T → Option (List ℕ)) (r : BufReader T A) (inner : T) → reader_inner r ≡ inner → reader_buffer r ≡ [] → reader_capacity r ≡ 8192 → reader_remaining remaining r ≡ remaining inner
reader_known remaining r inner e f g = rw (g, f, e) (prepended (remaining inner))
