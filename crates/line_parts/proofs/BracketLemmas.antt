-- The brackets of a text, read byte by byte: which are open, and the verdict.
use Rattle.std.proofs.Common.{◌≡◌, ◌≢◌, ◌&&◌, ℕ, Bool, true, false, if◌then◌else◌, List, [], ◌∷◌, ◌++◌, map, reverse, take, drop, length, get_or, ◌<◌, ◌≤◌, ◌+◌, All, Option, Some, None, ap, sym, ◌∙◌, refl, arith, append_assoc, eqb, ◌⊎◌, ⊎_elim}
use Rattle.std.specs.Prelude.{option_and_then}
use Rattle.std.proofs.lemmas.Bool.{cases_Bool}
use Rattle.std.proofs.lemmas.List.{append-nil, drop_more, length-reverse, nil_from_length, reverse-append, take-append-drop, take_all, take_more}
use Rattle.std.proofs.lemmas.List.Elements.{All-nil, All-cons}
use Rattle.line_parts.specs.Brackets.{CanBalance, IsBalanced, IsClosedIn, IsFault, IsIncomplete, IsLastOpen, IsVerdict, is_bracket, is_close, is_open, partner, unclosed_message, unpaired_message, nothing, pair, joined, plain, on_balanced, on_incomplete, on_unpaired, on_unclosed}
use Rattle.line_parts.specs.BracketVerdict.{bracket_verdict, left_over, struck, verdict_behind, verdict_on_left}
use Rattle.line_parts.specs.Verdict.{Verdict, incomplete, invalid, valid}

-- ---- the three kinds

open_is : (b : ℕ) → is_open b ≡ true → (b ≡ 40) ⊎ ((b ≡ 91) ⊎ (b ≡ 123))
unfolding is_open
open_is b e = grind arith

close_is : (b : ℕ) → is_close b ≡ true → (b ≡ 41) ⊎ ((b ≡ 93) ⊎ (b ≡ 125))
unfolding is_close
close_is b e = grind arith

open_not_close : (b : ℕ) → is_open b ≡ true → is_close b ≡ false
unfolding is_close
open_not_close b e = ⊎_elim (λ p. rw p refl) (λ q. ⊎_elim (λ p. rw p refl) (λ p. rw p refl) q) (open_is b e)

pub close_not_open : (b : ℕ) → is_close b ≡ true → is_open b ≡ false
unfolding is_open
close_not_open b e = ⊎_elim (λ p. rw p refl) (λ q. ⊎_elim (λ p. rw p refl) (λ p. rw p refl) q) (close_is b e)

partner-closes : (b : ℕ) → is_open b ≡ true → is_close (partner b) ≡ true
unfolding is_close partner
partner-closes b e = ⊎_elim (λ p. rw p refl) (λ q. ⊎_elim (λ p. rw p refl) (λ p. rw p refl) q) (open_is b e)

pub open_small : (b : ℕ) → is_open b ≡ true → b < 128
open_small b e = ⊎_elim (λ p. omega (arith, p)) (λ q. ⊎_elim (λ p. omega (arith, p)) (λ p. omega (arith, p)) q) (open_is b e)

pub close_small : (b : ℕ) → is_close b ≡ true → b < 128
close_small b e = ⊎_elim (λ p. omega (arith, p)) (λ q. ⊎_elim (λ p. omega (arith, p)) (λ p. omega (arith, p)) q) (close_is b e)

no_bracket : (b : ℕ) → is_open b ≡ false → is_close b ≡ false → is_bracket b ≡ false
no_bracket b e f = rw (e, f) refl

-- ---- the brackets that a text leaves open, the last first, above those before it

popped : ℕ → List ℕ → Option (List ℕ)
popped b [] = None
popped b (o ∷ stack) = if eqb (partner o) b then Some stack else None

step : ℕ → List ℕ → Option (List ℕ)
step b stack = if is_open b then Some (b ∷ stack) else if is_close b then popped b stack else Some stack

run : List ℕ → List ℕ → Option (List ℕ)
run [] stack = Some stack
run (b ∷ text) stack = option_and_then (run text) (step b stack)

run-append : (one other stack : List ℕ) → run (one ++ other) stack ≡ option_and_then (run other) (run one stack)
unfolding run
run-append [] other stack = refl
run-append (b ∷ one) other stack =
    elim (step b stack) as (λ r. option_and_then (run (one ++ other)) r ≡ option_and_then (run other) (option_and_then (run one) r))
    [ None ↦ refl | Some s ↦ run-append one other s ]

step-open : (b : ℕ) (stack : List ℕ) → is_open b ≡ true → step b stack ≡ Some (b ∷ stack)
unfolding step
step-open b stack e = rw e refl

step-close : (b : ℕ) (stack : List ℕ) → is_close b ≡ true → step b stack ≡ popped b stack
unfolding step
step-close b stack e = rw (close_not_open b e, e) refl

step-other : (b : ℕ) (stack : List ℕ) → is_bracket b ≡ false → step b stack ≡ Some stack
unfolding step
step-other b stack e =
    let not_open : is_open b ≡ false = ⊎_elim (λ p. absurd (let q = rw p at e in cc)) (λ p. p) (cases_Bool (is_open b)) in
    let not_close : is_close b ≡ false = rw not_open at e in
    rw (not_open, not_close) refl

same_as_itself : (b : ℕ) → eqb b b ≡ true
same_as_itself b = grind arith

popped-partner : (o : ℕ) (stack : List ℕ) → popped (partner o) (o ∷ stack) ≡ Some stack
unfolding popped
popped-partner o stack = rw (same_as_itself (partner o)) refl

run-one : (b : ℕ) (stack next : List ℕ) → step b stack ≡ Some next → run (b ∷ []) stack ≡ Some next
unfolding run
run-one b stack next e = rw e refl

run-first : (b : ℕ) (rest stack next : List ℕ) → step b stack ≡ Some next → run (b ∷ rest) stack ≡ run rest next
unfolding run
run-first b rest stack next e = rw e refl

run-stops : (b : ℕ) (rest stack : List ℕ) → step b stack ≡ None → run (b ∷ rest) stack ≡ None
unfolding run
run-stops b rest stack e = rw e refl

-- a balanced text leaves what was open before it
run-balanced : {text : List ℕ} → IsBalanced text → (stack : List ℕ) → run text stack ≡ Some stack
unfolding run
run-balanced (nothing e) stack = rw e refl
run-balanced (pair {inside = inside} {b = b} opens balanced e) stack =
    ap (λ t. run t stack) e ∙ run-first b (inside ++ partner b ∷ []) stack (b ∷ stack) (step-open b stack opens)
    ∙ run-append inside (partner b ∷ []) (b ∷ stack)
    ∙ ap (λ r. option_and_then (run (partner b ∷ [])) r) (run-balanced balanced (b ∷ stack))
    ∙ run-one (partner b) (b ∷ stack) stack (step-close (partner b) (b ∷ stack) (partner-closes b opens) ∙ popped-partner b stack)
run-balanced (joined {one = one} {other = other} first second e) stack =
    ap (λ t. run t stack) e ∙ run-append one other stack ∙ ap (λ r. option_and_then (run other) r) (run-balanced first stack)
    ∙ run-balanced second stack
run-balanced (plain {b = b} none e) stack = ap (λ t. run t stack) e ∙ run-one b stack stack (step-other b stack none)

-- nothing behind it balances a text in which a bracket is at fault
hopeless : (text : List ℕ) → run text [] ≡ None → CanBalance text → ⊥
hopeless text stops can =
    let ends = run-balanced can.balanced [] in
    let fails : run (text ++ can.more) [] ≡ None = run-append text can.more [] ∙ ap (λ r. option_and_then (run can.more) r) stops in
    let clash : ◌≡◌ {A = Option (List ℕ)} (Some []) None = sym ends ∙ fails in cc

-- ---- a text, cut at the brackets that it leaves open

abbrev pub Leaves : List ℕ → List ℕ → Type 0
Leaves [] text = IsBalanced text
Leaves (o ∷ stack) text = (before : List ℕ) × (behind : List ℕ) × Leaves stack before × (is_open o ≡ true) × IsBalanced behind × (text ≡ before ++ o ∷ behind)

leaves-run : (stack text : List ℕ) → Leaves stack text → run text [] ≡ Some stack
leaves-run [] text h = run-balanced h []
leaves-run (o ∷ stack) text h =
    ap (λ t. run t []) h.5 ∙ run-append h.0 (o ∷ h.1) [] ∙ ap (λ r. option_and_then (run (o ∷ h.1)) r) (leaves-run stack h.0 h.2)
    ∙ run-first o h.1 stack (o ∷ stack) (step-open o stack h.3) ∙ run-balanced h.4 (o ∷ stack)

leaves-balanced : (stack text more : List ℕ) → Leaves stack text → IsBalanced more → Leaves stack (text ++ more)
leaves-balanced [] text more h balanced = joined h balanced refl
leaves-balanced (o ∷ stack) text more h balanced =
    (h.0, h.1 ++ more, h.2, h.3, joined h.4 balanced refl, ap (λ t. t ++ more) h.5 ∙ append_assoc h.0 (o ∷ h.1) more)

pub leaves_none : Leaves [] []
leaves_none = nothing refl

leaves-open : (stack text : List ℕ) (b : ℕ) → is_open b ≡ true → Leaves stack text → Leaves (b ∷ stack) (text ++ b ∷ [])
leaves-open stack text b opens h = (text, [], h, opens, nothing refl, refl)

leaves-other : (stack text : List ℕ) (b : ℕ) → is_bracket b ≡ false → Leaves stack text → Leaves stack (text ++ b ∷ [])
leaves-other stack text b none h = leaves-balanced stack text (b ∷ []) h (plain none refl)

-- the text before an open bracket, with the pair that its closing one makes
closed-text : (text before behind : List ℕ) (o b : ℕ) → text ≡ before ++ o ∷ behind → text ++ b ∷ [] ≡ before ++ (o ∷ behind ++ b ∷ [])
closed-text text before behind o b e = ap (λ t. t ++ b ∷ []) e ∙ append_assoc before (o ∷ behind) (b ∷ [])

leaves-close : (stack text : List ℕ) (o b : ℕ) → partner o ≡ b → Leaves (o ∷ stack) text → Leaves stack (text ++ b ∷ [])
leaves-close stack text o b same h =
    let more : IsBalanced (o ∷ h.1 ++ b ∷ []) = pair h.3 h.4 (ap (λ c. o ∷ h.1 ++ c ∷ []) (sym same)) in
    rw (closed-text text h.0 h.1 o b h.5) (leaves-balanced stack h.0 (o ∷ h.1 ++ b ∷ []) h.2 more)

-- closing brackets in turn balance it
leaves-closed : (stack text : List ℕ) → Leaves stack text → IsBalanced (text ++ map partner stack)
leaves-closed [] text h = rw (append-nil text) h
leaves-closed (o ∷ stack) text h =
    let more : IsBalanced (o ∷ h.1 ++ partner o ∷ []) = pair h.3 h.4 refl in
    let e : text ++ map partner (o ∷ stack) ≡ (h.0 ++ (o ∷ h.1 ++ partner o ∷ [])) ++ map partner stack =
    sym (append_assoc text (partner o ∷ []) (map partner stack)) ∙ ap (λ t. t ++ map partner stack) (closed-text text h.0 h.1 o (partner o) h.5) in
    rw e (leaves-closed stack (h.0 ++ (o ∷ h.1 ++ partner o ∷ [])) (leaves-balanced stack h.0 (o ∷ h.1 ++ partner o ∷ []) h.2 more))

leaves-closing : (stack text : List ℕ) → Leaves stack text → All (λ b. is_close b ≡ true) (map partner stack)
leaves-closing [] text h = All-nil (λ b. is_close b ≡ true)
leaves-closing (o ∷ stack) text h =
    All-cons (λ b. is_close b ≡ true) (partner o) (map partner stack) (partner-closes o h.3) (leaves-closing stack h.0 h.2)

-- ---- each opening bracket of a balanced text is closed in it

-- a bracket in one of two texts that stand after each other
data InOne (one other front rest : List ℕ) (c : ℕ) : Type 0 where
  in_first : (zs : List ℕ) → one ≡ front ++ c ∷ zs → rest ≡ zs ++ other → InOne one other front rest c
  in_second : (zs : List ℕ) → front ≡ one ++ zs → other ≡ zs ++ c ∷ rest → InOne one other front rest c

in_one : (one other front rest : List ℕ) (c : ℕ) → one ++ other ≡ front ++ c ∷ rest → InOne one other front rest c
in_one [] other front rest c e = in_second front refl e
in_one (x ∷ one) other [] rest c e = in_first one (cc) (cc)
in_one (x ∷ one) other (f ∷ front) rest c e =
    let tails : one ++ other ≡ front ++ c ∷ rest = cc in
    let heads : x ≡ f = cc in
    elim (in_one one other front rest c tails) [
      | in_first zs a b ↦ in_first zs (cc (a, heads)) b
      | in_second zs a b ↦ in_second zs (cc (a, heads)) b
    ]

nothing_in_none : (xs ys : List ℕ) (c : ℕ) → [] ≡ xs ++ c ∷ ys → ⊥
nothing_in_none [] ys c e = cc
nothing_in_none (x ∷ xs) ys c e = cc

only_one : (xs ys : List ℕ) (b c : ℕ) → b ∷ [] ≡ xs ++ c ∷ ys → b ≡ c
only_one [] ys b c e = cc
only_one (x ∷ xs) ys b c e = let tails : [] ≡ xs ++ c ∷ ys = cc in absurd (nothing_in_none xs ys c tails)

closed-more : (rest more : List ℕ) (c : ℕ) → IsClosedIn rest c → IsClosedIn (rest ++ more) c
closed-more rest more c h = record {
  inside = h.inside;
  rest = h.rest ++ more;
  split = ap (λ t. t ++ more) h.split ∙ append_assoc h.inside (partner c ∷ h.rest) more;
  balanced = h.balanced;
}

balanced-closed : {text : List ℕ} → IsBalanced text → (front rest : List ℕ) (c : ℕ) → text ≡ front ++ c ∷ rest → is_open c ≡ true → IsClosedIn rest c
balanced-closed (nothing e) front rest c f opens = absurd (nothing_in_none front rest c (sym e ∙ f))
balanced-closed (plain {b = b} none e) front rest c f opens =
    let same : b ≡ c = only_one front rest b c (sym e ∙ f) in
    let opening : is_open b ≡ true = rw same opens in
    absurd (let q = rw opening at none in cc)
balanced-closed (joined {one = one} {other = other} first second e) front rest c f opens =
    elim (in_one one other front rest c (sym e ∙ f)) [
      | in_first zs a b ↦ rw b (closed-more zs other c (balanced-closed first front zs c a opens))
      | in_second zs a b ↦ balanced-closed second zs rest c b opens
    ]
balanced-closed (pair {inside = inside} {b = b} opening balanced e) [] rest c f opens =
    let both : b ∷ inside ++ partner b ∷ [] ≡ c ∷ rest = sym e ∙ f in
    let same : b ≡ c = cc in
    let behind : inside ++ partner b ∷ [] ≡ rest = cc in
    record { inside = inside; rest = []; split = sym behind ∙ ap (λ o. inside ++ partner o ∷ []) same; balanced = balanced }
balanced-closed (pair {inside = inside} {b = b} opening balanced e) (x ∷ front) rest c f opens =
    let both : b ∷ (inside ++ partner b ∷ []) ≡ x ∷ (front ++ c ∷ rest) = sym e ∙ f in
    let behind : inside ++ partner b ∷ [] ≡ front ++ c ∷ rest = cc in
    elim (in_one inside (partner b ∷ []) front rest c behind) [
      | in_first zs a d ↦ rw d (closed-more zs (partner b ∷ []) c (balanced-closed balanced front zs c a opens))
      | in_second zs a d ↦
          let same : partner b ≡ c = only_one zs rest (partner b) c d in
          let closes : is_close c ≡ true = rw (← same) (partner-closes b opening) in
          absurd (let q = sym closes ∙ open_not_close c opens in cc)
    ]

-- ---- the verdict

can-balance : (stack text : List ℕ) → Leaves stack text → CanBalance text
can-balance stack text h = record { more = map partner stack; balanced = leaves-closed stack text h }

beginning : (text shorter left : List ℕ) → CanBalance text → text ≡ shorter ++ left → CanBalance shorter
beginning text shorter left can e = record {
  more = left ++ can.more;
  balanced = rw (← append_assoc shorter left can.more, ← e) can.balanced;
}

is-fault : (text word behind stack : List ℕ) (b : ℕ) → text ≡ word ++ b ∷ behind → Leaves stack word → step b stack ≡ None → IsFault text word b
is-fault text word behind stack b e h stops = record {
  behind = behind;
  split = e;
  hopeless = hopeless (word ++ b ∷ []) (run-append word (b ∷ []) [] ∙ ap (λ r. option_and_then (run (b ∷ [])) r) (leaves-run stack word h) ∙ run-stops b [] stack stops);
  shortest = λ shorter left cut. beginning word shorter left (can-balance stack word h) cut;
}

none-open : (word : List ℕ) → IsBalanced word → (c : ℕ) → IsLastOpen word c → ⊥
none-open word balanced c opening = opening.unclosed (balanced-closed balanced opening.before opening.behind c opening.split opening.opens)

stops-empty : (b : ℕ) → is_close b ≡ true → step b [] ≡ None
unfolding popped
stops-empty b closes = step-close b [] closes

stops-other : (b o : ℕ) (stack : List ℕ) → is_close b ≡ true → eqb (partner o) b ≡ false → step b (o ∷ stack) ≡ None
unfolding popped
stops-other b o stack closes other = step-close b (o ∷ stack) closes ∙ (rw other refl)

not-closed : (behind : List ℕ) (o : ℕ) → is_open o ≡ true → IsBalanced behind → IsClosedIn behind o → ⊥
not-closed behind o opens balanced closed =
    let stops : run (partner o ∷ closed.rest) [] ≡ None = run-stops (partner o) closed.rest [] (stops-empty (partner o) (partner-closes o opens)) in
    let fails : run behind [] ≡ None =
    ap (λ t. run t []) closed.split ∙ run-append closed.inside (partner o ∷ closed.rest) []
    ∙ ap (λ r. option_and_then (run (partner o ∷ closed.rest)) r) (run-balanced closed.balanced []) ∙ stops in
    let clash : ◌≡◌ {A = Option (List ℕ)} (Some []) None = sym (run-balanced balanced []) ∙ fails in cc

is-last-open : (word stack : List ℕ) (o : ℕ) → Leaves (o ∷ stack) word → IsLastOpen word o
is-last-open word stack o h = record {
  before = h.0;
  behind = h.1;
  split = h.5;
  opens = h.3;
  unclosed = not-closed h.1 o h.3 h.4;
  last = λ between rest c e opens. balanced-closed h.4 between rest c e opens;
}

pub judge_unpaired : (text word behind : List ℕ) (b : ℕ) (verdict : Verdict) → text ≡ word ++ b ∷ behind → Leaves [] word → is_close b ≡ true
    → verdict ≡ invalid (Some (unpaired_message b)) → IsVerdict text verdict
judge_unpaired text word behind b verdict e h closes said =
    on_unpaired word b (is-fault text word behind [] b e h (stops-empty b closes)) (none-open word h) said

pub judge_unclosed : (text word behind stack : List ℕ) (b o : ℕ) (verdict : Verdict) → text ≡ word ++ b ∷ behind → Leaves (o ∷ stack) word → is_close b ≡ true
    → eqb (partner o) b ≡ false → verdict ≡ invalid (Some (unclosed_message o)) → IsVerdict text verdict
judge_unclosed text word behind stack b o verdict e h closes other said =
    on_unclosed word b o (is-fault text word behind (o ∷ stack) b e h (stops-other b o stack closes other)) (is-last-open word stack o h) said

pub judge_valid : (text : List ℕ) (verdict : Verdict) → Leaves [] text → verdict ≡ valid None → IsVerdict text verdict
judge_valid text verdict h said = on_balanced h said

unbalanced : (text stack : List ℕ) (o : ℕ) → Leaves (o ∷ stack) text → IsBalanced text → ⊥
unbalanced text stack o h balanced =
    let clash : ◌≡◌ {A = Option (List ℕ)} (Some []) (Some (o ∷ stack)) = sym (run-balanced balanced []) ∙ leaves-run (o ∷ stack) text h in cc

pub judge_incomplete : (text stack : List ℕ) (o : ℕ) (verdict : Verdict) → Leaves (o ∷ stack) text → verdict ≡ incomplete → IsVerdict text verdict
judge_incomplete text stack o verdict h said =
    on_incomplete (record {
      unbalanced = unbalanced text stack o h;
      row = map partner (o ∷ stack);
      closing = leaves-closing (o ∷ stack) text h;
      balanced = leaves-closed (o ∷ stack) text h;
    }) said

-- ---- what is struck out

struck-close : (b : ℕ) (left : List ℕ) → is_close b ≡ true → struck b left ≡ b ∷ left
unfolding struck
struck-close b [] closes = refl
struck-close b (c ∷ left) closes = rw (close_not_open b closes) refl

struck-partner : (b : ℕ) (left : List ℕ) → is_open b ≡ true → struck b (partner b ∷ left) ≡ left
unfolding struck
struck-partner b left opens = rw (opens, same_as_itself (partner b)) refl

not_equal : (b c : ℕ) → eqb b c ≡ false → eqb c b ≡ false
not_equal b c h = grind arith

and_false : (x : Bool) → (x && false) ≡ false
and_false true = refl
and_false false = refl

struck-other : (o b : ℕ) (left : List ℕ) → eqb (partner o) b ≡ false → struck o (b ∷ left) ≡ o ∷ b ∷ left
unfolding struck
struck-other o b left other = rw (not_equal (partner o) b other, and_false (is_open o)) refl

equal : (b c : ℕ) → eqb b c ≡ true → b ≡ c
equal b c h = grind arith

-- an open bracket is no other open one's partner
struck-open : (o c : ℕ) (left : List ℕ) → is_open c ≡ true → struck o (c ∷ left) ≡ o ∷ c ∷ left
unfolding struck
struck-open o c left opens = ⊎_elim
    (λ open_too. struck-other o c left (⊎_elim
    (λ same. let closes : is_close c ≡ true = rw (← equal (partner o) c same) (partner-closes o open_too) in
    absurd (let q = sym closes ∙ open_not_close c opens in cc))
    (λ other. other)
    (cases_Bool (eqb (partner o) c))))
    (λ not_open. rw not_open refl)
    (cases_Bool (is_open o))

-- ---- the brackets that are left

left-close : (b : ℕ) (more : List ℕ) → is_close b ≡ true → left_over (b ∷ more) ≡ b ∷ left_over more
unfolding left_over
left-close b more closes = rw (close_not_open b closes, closes) (struck-close b (left_over more) closes)

left-other : (b : ℕ) (more : List ℕ) → is_bracket b ≡ false → left_over (b ∷ more) ≡ left_over more
unfolding left_over
left-other b more none = rw none refl

left-open : (b : ℕ) (more : List ℕ) → is_open b ≡ true → left_over (b ∷ more) ≡ struck b (left_over more)
unfolding left_over
left-open b more opens = rw opens refl

-- a balanced text leaves nothing
left-balanced : {text : List ℕ} → IsBalanced text → (more : List ℕ) → left_over (text ++ more) ≡ left_over more
left-balanced (nothing e) more = ap (λ t. left_over (t ++ more)) e
left-balanced (pair {inside = inside} {b = b} opens balanced e) more =
    ap (λ t. left_over (t ++ more)) e
    ∙ left-open b ((inside ++ partner b ∷ []) ++ more) opens
    ∙ ap (λ t. struck b (left_over t)) (append_assoc inside (partner b ∷ []) more)
    ∙ ap (struck b) (left-balanced balanced (partner b ∷ more) ∙ left-close (partner b) more (partner-closes b opens))
    ∙ struck-partner b (left_over more) opens
left-balanced (joined {one = one} {other = other} first second e) more =
    ap (λ t. left_over (t ++ more)) e ∙ ap left_over (append_assoc one other more) ∙ left-balanced first (other ++ more) ∙ left-balanced second more
left-balanced (plain {b = b} none e) more = ap (λ t. left_over (t ++ more)) e ∙ left-other b more none

-- brackets that are open, the last first, before those that are left
opened : List ℕ → List ℕ → List ℕ
opened [] left = left
opened (o ∷ stack) left = opened stack (o ∷ left)

-- the last open bracket is not struck out
abbrev Stays : List ℕ → List ℕ → Type 0
Stays [] left = Unit {0}
Stays (o ∷ stack) left = struck o left ≡ o ∷ left

stays-open : (stack left : List ℕ) (o : ℕ) → is_open o ≡ true → Stays stack (o ∷ left)
stays-open [] left o opens = tt
stays-open (p ∷ stack) left o opens = struck-open p o left opens

left-leaves : (stack text more left : List ℕ) → Leaves stack text → left_over more ≡ left → Stays stack left → left_over (text ++ more) ≡ opened stack left
unfolding opened
left-leaves [] text more left h e stays = left-balanced h more ∙ e
left-leaves (o ∷ stack) text more left h e stays =
    let first : left_over (o ∷ h.1 ++ more) ≡ o ∷ left = left-open o (h.1 ++ more) h.3 ∙ ap (struck o) (left-balanced h.4 more ∙ e) ∙ stays in
    ap (λ t. left_over (t ++ more)) h.5 ∙ ap left_over (append_assoc h.0 (o ∷ h.1) more)
    ∙ left-leaves stack h.0 (o ∷ h.1 ++ more) (o ∷ left) h.2 first (stays-open stack left o h.3)

behind-open : (o c : ℕ) (left : List ℕ) → is_open c ≡ true → verdict_behind o (c ∷ left) ≡ verdict_behind c left
unfolding verdict_behind
behind-open o c left opens = rw (open_not_close c opens) refl

behind-close : (o c : ℕ) (left : List ℕ) → is_close c ≡ true → verdict_behind o (c ∷ left) ≡ invalid (Some (unclosed_message o))
unfolding verdict_behind
behind-close o c left closes = rw closes refl

behind-nothing : (o : ℕ) → verdict_behind o [] ≡ incomplete
unfolding verdict_behind
behind-nothing o = refl

on-open : (o : ℕ) (left : List ℕ) → is_open o ≡ true → verdict_on_left (o ∷ left) ≡ verdict_behind o left
unfolding verdict_on_left
on-open o left opens = rw (open_not_close o opens) refl

on-close : (b : ℕ) (left : List ℕ) → is_close b ≡ true → verdict_on_left (b ∷ left) ≡ invalid (Some (unpaired_message b))
unfolding verdict_on_left
on-close b left closes = rw closes refl

on-nothing : verdict_on_left [] ≡ valid None
unfolding verdict_on_left
on-nothing = refl

on-opened : (stack text left : List ℕ) (o : ℕ) → Leaves stack text → is_open o ≡ true → verdict_on_left (opened stack (o ∷ left)) ≡ verdict_behind o left
unfolding opened
on-opened [] text left o h opens = on-open o left opens
on-opened (p ∷ stack) text left o h opens = on-opened stack h.0 (o ∷ left) p h.2 h.3 ∙ behind-open p o left opens

-- ---- striking out gives the verdict

left-nothing : left_over [] ≡ []
unfolding left_over
left-nothing = refl

whole : (text : List ℕ) → bracket_verdict text ≡ bracket_verdict (text ++ [])
whole text = ap bracket_verdict (sym (append-nil text))

verdict-end : (stack text : List ℕ) → Leaves stack text → IsVerdict text (bracket_verdict text)
unfolding opened struck
verdict-end [] text h =
    let said : bracket_verdict text ≡ valid None = whole text ∙ ap verdict_on_left (left-balanced h [] ∙ left-nothing) ∙ on-nothing in
    judge_valid text (bracket_verdict text) h said
verdict-end (o ∷ stack) text h =
    let said : bracket_verdict text ≡ incomplete =
    whole text ∙ ap verdict_on_left (left-leaves (o ∷ stack) text [] [] h left-nothing refl) ∙ on-opened stack h.0 [] o h.2 h.3 ∙ behind-nothing o in
    judge_incomplete text stack o (bracket_verdict text) h said

one-more : (text word behind : List ℕ) (b : ℕ) → text ≡ word ++ b ∷ behind → text ≡ (word ++ b ∷ []) ++ behind
one-more text word behind b e = e ∙ sym (append_assoc word (b ∷ []) behind)

verdict-unpaired : (text word rest : List ℕ) (b : ℕ) → text ≡ word ++ b ∷ rest → is_close b ≡ true → Leaves [] word → IsVerdict text (bracket_verdict text)
verdict-unpaired text word rest b e closes h =
    let said : bracket_verdict text ≡ invalid (Some (unpaired_message b)) =
    ap bracket_verdict e ∙ ap verdict_on_left (left-balanced h (b ∷ rest) ∙ left-close b rest closes) ∙ on-close b (left_over rest) closes in
    judge_unpaired text word rest b (bracket_verdict text) e h closes said

verdict-unclosed : (text word rest stack : List ℕ) (b o : ℕ) → text ≡ word ++ b ∷ rest → is_close b ≡ true → eqb (partner o) b ≡ false → Leaves (o ∷ stack) word
    → IsVerdict text (bracket_verdict text)
unfolding opened
verdict-unclosed text word rest stack b o e closes other h =
    let said : bracket_verdict text ≡ invalid (Some (unclosed_message o)) =
    ap bracket_verdict e ∙ ap verdict_on_left (left-leaves (o ∷ stack) word (b ∷ rest) (b ∷ left_over rest) h (left-close b rest closes) (struck-other o b (left_over rest) other))
    ∙ on-opened stack h.0 (b ∷ left_over rest) o h.2 h.3 ∙ behind-close o b (left_over rest) closes in
    judge_unclosed text word rest stack b o (bracket_verdict text) e h closes other said

verdict-close : (rest text word stack : List ℕ) (b : ℕ) → text ≡ word ++ b ∷ rest → is_close b ≡ true → Leaves stack word
    → ((next : List ℕ) → Leaves next (word ++ b ∷ []) → IsVerdict text (bracket_verdict text)) → IsVerdict text (bracket_verdict text)
verdict-close rest text word [] b e closes h on = verdict-unpaired text word rest b e closes h
verdict-close rest text word (o ∷ stack) b e closes h on = ⊎_elim
    (λ same. on stack (leaves-close stack word o b (grind (arith, same)) h))
    (λ other. verdict-unclosed text word rest stack b o e closes other h)
    (cases_Bool (eqb (partner o) b))

verdict-on : (rest text word stack : List ℕ) → text ≡ word ++ rest → Leaves stack word → IsVerdict text (bracket_verdict text)
verdict-on [] text word stack e h = verdict-end stack text (rw (e ∙ append-nil word) h)
verdict-on (b ∷ rest) text word stack e h = ⊎_elim
    (λ opens. verdict-on rest text (word ++ b ∷ []) (b ∷ stack) (one-more text word rest b e) (leaves-open stack word b opens h))
    (λ not_open. ⊎_elim
    (λ closes. verdict-close rest text word stack b e closes h (λ next left. verdict-on rest text (word ++ b ∷ []) next (one-more text word rest b e) left))
    (λ not_close. verdict-on rest text (word ++ b ∷ []) stack (one-more text word rest b e) (leaves-other stack word b (no_bracket b not_open not_close) h))
    (cases_Bool (is_close b)))
    (cases_Bool (is_open b))

-- striking out gives a verdict on every text
pub struck_out : (text : List ℕ) → IsVerdict text (bracket_verdict text)
struck_out text = verdict-on text text [] [] refl leaves_none

-- ---- there is one verdict

fault-hopeless : (text word : List ℕ) (b : ℕ) → IsFault text word b → (more : List ℕ) → IsBalanced (text ++ more) → ⊥
fault-hopeless text word b fault more balanced =
    let can : CanBalance text = record { more = more; balanced = balanced } in
    fault.hopeless (beginning text (word ++ b ∷ []) fault.behind can (one-more text word fault.behind b fault.split))

shorter-fault : (text word other rest : List ℕ) (b c : ℕ) → IsFault text word b → IsFault text other c → other ≡ word ++ b ∷ rest → ⊥
shorter-fault text word other rest b c one two e =
    one.hopeless (two.shortest (word ++ b ∷ []) rest (one-more other word rest b e))

-- two cuts of one text
data Cuts (xs bs ys cs : List ℕ) (b c : ℕ) : Type 0 where
  alike : xs ≡ ys → b ≡ c → bs ≡ cs → Cuts xs bs ys cs b c
  earlier : (zs : List ℕ) → ys ≡ xs ++ b ∷ zs → bs ≡ zs ++ c ∷ cs → Cuts xs bs ys cs b c
  later : (zs : List ℕ) → xs ≡ ys ++ c ∷ zs → cs ≡ zs ++ b ∷ bs → Cuts xs bs ys cs b c

cuts-behind : (xs bs ys cs zs : List ℕ) (b c : ℕ) → ys ≡ xs ++ zs → b ∷ bs ≡ zs ++ c ∷ cs → Cuts xs bs ys cs b c
cuts-behind xs bs ys cs [] b c e f = alike (sym (e ∙ append-nil xs)) (cc) (cc)
cuts-behind xs bs ys cs (z ∷ zs) b c e f =
    let same : z ≡ b = cc in
    earlier zs (e ∙ ap (λ d. xs ++ d ∷ zs) same) (cc)

cuts : (xs bs ys cs : List ℕ) (b c : ℕ) → xs ++ b ∷ bs ≡ ys ++ c ∷ cs → Cuts xs bs ys cs b c
cuts xs bs ys cs b c e = elim (in_one xs (b ∷ bs) ys cs c e) [
  | in_first zs f g ↦ later zs f g
  | in_second zs f g ↦ cuts-behind xs bs ys cs zs b c f g
]

record SameFault (word other : List ℕ) (b c : ℕ) : Type 0 where
  words : word ≡ other
  brackets : b ≡ c

same-fault : (text word other : List ℕ) (b c : ℕ) → IsFault text word b → IsFault text other c → SameFault word other b c
same-fault text word other b c one two = elim (cuts word one.behind other two.behind b c (sym one.split ∙ two.split)) [
  | alike e f g ↦ record { words = e; brackets = f }
  | earlier zs e f ↦ absurd (shorter-fault text word other zs b c one two e)
  | later zs e f ↦ absurd (shorter-fault text other word zs c b two one e)
]

same-open : (word : List ℕ) (b c : ℕ) → IsLastOpen word b → IsLastOpen word c → b ≡ c
same-open word b c one two = elim (cuts one.before one.behind two.before two.behind b c (sym one.split ∙ two.split)) [
  | alike e f g ↦ f
  | earlier zs e f ↦ absurd (two.unclosed (one.last zs two.behind c f two.opens))
  | later zs e f ↦ absurd (one.unclosed (two.last zs one.behind b f one.opens))
]

balanced-no-fault : (text word : List ℕ) (b : ℕ) → IsBalanced text → IsFault text word b → ⊥
balanced-no-fault text word b balanced fault = fault-hopeless text word b fault [] (rw (append-nil text) balanced)

incomplete-no-fault : (text word : List ℕ) (b : ℕ) → IsIncomplete text → IsFault text word b → ⊥
incomplete-no-fault text word b half fault = fault-hopeless text word b fault half.row half.balanced

pub verdict_is_one : (text : List ℕ) (one other : Verdict) → IsVerdict text one → IsVerdict text other → one ≡ other
verdict_is_one text one other (on_balanced a e) (on_balanced b f) = e ∙ sym f
verdict_is_one text one other (on_balanced a e) (on_incomplete b f) = absurd (b.unbalanced a)
verdict_is_one text one other (on_balanced a e) (on_unpaired w b fault none f) = absurd (balanced-no-fault text w b a fault)
verdict_is_one text one other (on_balanced a e) (on_unclosed w b c fault opening f) = absurd (balanced-no-fault text w b a fault)
verdict_is_one text one other (on_incomplete a e) (on_balanced b f) = absurd (a.unbalanced b)
verdict_is_one text one other (on_incomplete a e) (on_incomplete b f) = e ∙ sym f
verdict_is_one text one other (on_incomplete a e) (on_unpaired w b fault none f) = absurd (incomplete-no-fault text w b a fault)
verdict_is_one text one other (on_incomplete a e) (on_unclosed w b c fault opening f) = absurd (incomplete-no-fault text w b a fault)
verdict_is_one text one other (on_unpaired w b fault none e) (on_balanced a f) = absurd (balanced-no-fault text w b a fault)
verdict_is_one text one other (on_unpaired w b fault none e) (on_incomplete a f) = absurd (incomplete-no-fault text w b a fault)
verdict_is_one text one other (on_unpaired w b fault none e) (on_unpaired v c more nowhere f) =
    e ∙ ap (λ d. invalid (Some (unpaired_message d))) (same-fault text w v b c fault more).brackets ∙ sym f
verdict_is_one text one other (on_unpaired w b fault none e) (on_unclosed v c d more opening f) =
    absurd (none d (rw (same-fault text w v b c fault more).words opening))
verdict_is_one text one other (on_unclosed w b c fault opening e) (on_balanced a f) = absurd (balanced-no-fault text w b a fault)
verdict_is_one text one other (on_unclosed w b c fault opening e) (on_incomplete a f) = absurd (incomplete-no-fault text w b a fault)
verdict_is_one text one other (on_unclosed w b c fault opening e) (on_unpaired v d more none f) =
    absurd (none c (rw (sym (same-fault text w v b d fault more).words) opening))
verdict_is_one text one other (on_unclosed w b c fault opening e) (on_unclosed v d g more opened f) =
    let words : w ≡ v = (same-fault text w v b d fault more).words in
    let same : IsLastOpen v c = rw (← words) opening in
    e ∙ ap (λ o. invalid (Some (unclosed_message o))) (same-open v c g same opened) ∙ sym f

-- whatever is a verdict on a text is the one
pub judged_so : (text : List ℕ) (verdict : Verdict) → IsVerdict text verdict → verdict ≡ bracket_verdict text
judged_so text verdict is = verdict_is_one text verdict (bracket_verdict text) is (struck_out text)

-- ---- the open brackets as they are kept, the last one behind the others

top-first : (items rest : List ℕ) (o : ℕ) → items ≡ rest ++ o ∷ [] → reverse items ≡ o ∷ reverse rest
top-first items rest o e = ap reverse e ∙ reverse-append rest (o ∷ [])

at-place : (text bytes : List ℕ) (i : ℕ) → bytes ≡ text → i < length bytes → text ≡ take i bytes ++ get_or bytes i 0 ∷ drop (i + 1) bytes
at-place text bytes i e lt = sym e ∙ sym (take-append-drop i bytes) ∙ ap (λ t. take i bytes ++ t) (drop_more bytes i 0 lt)

kept : (items rest word : List ℕ) (o : ℕ) → items ≡ rest ++ o ∷ [] → Leaves (reverse items) word → Leaves (o ∷ reverse rest) word
kept items rest word o e h = rw (top-first items rest o e) at h

opens_again : (stack word : List ℕ) (o : ℕ) → Leaves (o ∷ stack) word → is_open o ≡ true
opens_again stack word o h = h.3

pub kept_small : (items rest word : List ℕ) (o : ℕ) → items ≡ rest ++ o ∷ [] → Leaves (reverse items) word → o < 128
kept_small items rest word o e h = open_small o (opens_again (reverse rest) word o (kept items rest word o e h))

pub opened_at : (bytes items new : List ℕ) (i : ℕ) → i < length bytes → Leaves (reverse items) (take i bytes) → is_open (get_or bytes i 0) ≡ true
    → new ≡ items ++ get_or bytes i 0 ∷ [] → Leaves (reverse new) (take (i + 1) bytes)
opened_at bytes items new i lt h opens e =
    rw (top-first new items (get_or bytes i 0) e, take_more bytes i 0 lt) (leaves-open (reverse items) (take i bytes) (get_or bytes i 0) opens h)

pub closed_at : (bytes items rest : List ℕ) (i o : ℕ) → i < length bytes → Leaves (reverse items) (take i bytes) → items ≡ rest ++ o ∷ []
    → partner o ≡ get_or bytes i 0 → Leaves (reverse rest) (take (i + 1) bytes)
closed_at bytes items rest i o lt h e same =
    rw (take_more bytes i 0 lt) (leaves-close (reverse rest) (take i bytes) o (get_or bytes i 0) same (kept items rest (take i bytes) o e h))

pub passed_at : (bytes items : List ℕ) (i : ℕ) → i < length bytes → Leaves (reverse items) (take i bytes) → is_open (get_or bytes i 0) ≡ false
    → is_close (get_or bytes i 0) ≡ false → Leaves (reverse items) (take (i + 1) bytes)
passed_at bytes items i lt h not_open not_close =
    rw (take_more bytes i 0 lt) (leaves-other (reverse items) (take i bytes) (get_or bytes i 0) (no_bracket (get_or bytes i 0) not_open not_close) h)

differ : (b c : ℕ) → b ≢ c → eqb b c ≡ false
differ b c h = grind arith

pub unclosed_at : (text bytes items rest message : List ℕ) (i o : ℕ) → bytes ≡ text → i < length bytes → Leaves (reverse items) (take i bytes)
    → items ≡ rest ++ o ∷ [] → is_close (get_or bytes i 0) ≡ true → partner o ≢ get_or bytes i 0 → message ≡ unclosed_message o → IsVerdict text (invalid (Some message))
unclosed_at text bytes items rest message i o e lt h top closes other said =
    judge_unclosed text (take i bytes) (drop (i + 1) bytes) (reverse rest) (get_or bytes i 0) o (invalid (Some message)) (at-place text bytes i e lt)
    (kept items rest (take i bytes) o top h) closes (differ (partner o) (get_or bytes i 0) other) (ap (λ m. invalid (Some m)) said)

pub unpaired_at : (text bytes items message : List ℕ) (i : ℕ) → bytes ≡ text → i < length bytes → Leaves (reverse items) (take i bytes) → length items ≡ 0
    → is_close (get_or bytes i 0) ≡ true → message ≡ unpaired_message (get_or bytes i 0) → IsVerdict text (invalid (Some message))
unpaired_at text bytes items message i e lt h none closes said =
    judge_unpaired text (take i bytes) (drop (i + 1) bytes) (get_or bytes i 0) (invalid (Some message)) (at-place text bytes i e lt)
    (rw (nil_from_length items none) at h) closes (ap (λ m. invalid (Some m)) said)

incomplete-end : (stack text : List ℕ) → Leaves stack text → 0 < length stack → IsVerdict text incomplete
incomplete-end [] text h some = absurd (omega (arith, some))
incomplete-end (o ∷ stack) text h some = judge_incomplete text stack o incomplete h refl

not_none : (n : ℕ) → eqb n 0 ≡ false → 0 < n
not_none n e = grind arith

at-end : (text bytes : List ℕ) (i : ℕ) → bytes ≡ text → length bytes ≤ i → take i bytes ≡ text
at-end text bytes i e le = take_all i bytes le ∙ e

pub unfinished_at : (text bytes items : List ℕ) (i n : ℕ) → bytes ≡ text → length bytes ≤ i → Leaves (reverse items) (take i bytes) → length items ≡ n → eqb n 0 ≡ false
    → IsVerdict text incomplete
unfinished_at text bytes items i n e le h len some =
    incomplete-end (reverse items) text (rw (at-end text bytes i e le) at h) (omega (arith, not_none n some, len, length-reverse items))
