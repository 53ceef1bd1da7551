-- What the measure promises of a line editor's screen, on at least one column.
use Rattle.std.proofs.Common.{◌≡◌, ℕ, zero, suc, drop, get_or, ◌+◌, ◌<◌, ◌≤◌, min, true, false, cond, ◌&&◌, ◌==◌, List, [], ◌∷◌, ◌++◌, length, take, refl, sym, ap, ap₂, ◌∙◌, arith, ⊎_elim}
use Rattle.std.specs.List.{fold, list_all, slice_range}
use Rattle.std.specs.Str.{chars}
use Rattle.std.proofs.lemmas.Bool.{and_parts, or_cases, cond_both}
use Rattle.std.proofs.lemmas.Bool.Decides.{nat_tests}
use Rattle.std.proofs.lemmas.List.Sums.{fold-append}
use Rattle.std.proofs.lemmas.Str.{chars-IsAscii}
use Rattle.std.proofs.lemmas.Str.Ascii.{IsAscii-nil, IsAscii-cons}
use Rattle.std.proofs.lemmas.List.{append-nil, append_assoc, map-append, take-append-drop, take_all}
use Rattle.std.proofs.lemmas.List.Folds.{fold-map, list_all-append}
use Rattle.unicode_segmentation.specs.Segments.{cut, segments}
use Rattle.unicode_segmentation.specs.Grapheme.{graphemes}
use Rattle.unicode_width.specs.Width.{str_width}
use Rattle.unicode_width.proofs.Rules.{str_width-printable}
use Rattle.line_buffer.specs.declared.layout.Position.{Position}
use Rattle.line_buffer.proofs.PlainClusterLemmas.{clusters-plain, singly}
use Rattle.line_buffer.specs.Cluster.{PartsClusters}
use Rattle.line_buffer.specs.Printable.{is_plain, is_printable}
use Rattle.line_keys.specs.Model.Display.{columns_back, next_column}
use Rattle.line_state.proofs.PlainTextLemmas.{all_both, all_parts, measured_back, plain_char, plain_text, taken_between}
use Rattle.line_screen.specs.Measure.{PlainTextEndsAt, ends_row, columns_of, start_below, advanced, after_cluster, wrapped, measured, columns_after}

-- ---- no position stands past the columns

advanced-within : (columns width : ℕ) (p : Position) → width ≤ columns → (advanced columns width p).col ≤ columns
advanced-within columns width p h = grind (arith, nat_tests)

after_cluster-within : (columns : ℕ) (p : Position) (cluster : List ℕ) → (after_cluster columns p cluster).col ≤ columns
after_cluster-within columns p cluster =
    let fits : columns_of columns cluster ≤ columns = omega arith in
    let on = advanced-within columns (columns_of columns cluster) p fits in
    cond_both (ends_row cluster) (start_below p) (advanced columns (columns_of columns cluster) p) (λ q. q.col ≤ columns) (λ _. omega arith) (λ _. on)

fold-within : (columns : ℕ) (clusters : List (List ℕ)) (p : Position) → p.col ≤ columns → (fold (after_cluster columns) p clusters).col ≤ columns
fold-within columns [] p h = h
fold-within columns (c ∷ cs) p h = fold-within columns cs (after_cluster columns p c) (after_cluster-within columns p c)

wrapped-below : (columns : ℕ) (p : Position) → 0 < columns → p.col ≤ columns → (wrapped columns p).col < columns
wrapped-below columns p some h = grind (arith, nat_tests)

-- from an origin below the columns each measured column is below them
pub measured-below : (columns : ℕ) (text : List ℕ) (origin : Position) → origin.col < columns → (measured columns text origin).col < columns
unfolding measured
measured-below columns text origin h =
    wrapped-below columns (fold (after_cluster columns) origin (graphemes true text)) (omega arith)
    (fold-within columns (graphemes true text) origin (omega arith))

-- an empty text ends where it begins
pub measured-nil : (columns : ℕ) (origin : Position) → origin.col < columns → measured columns [] origin ≡ origin
unfolding measured segments cut chars
measured-nil columns origin h = grind (arith, nat_tests)

-- ---- printable ASCII and newlines are clusters of their own

-- one more printable character is one more cluster
pub graphemes-push : (text : List ℕ) (c : ℕ) → list_all is_plain text ≡ true → is_printable c ≡ true
    → graphemes true (text ++ c ∷ []) ≡ graphemes true text ++ (c ∷ []) ∷ []
graphemes-push text c h print =
    let plain : is_plain c ≡ true = grind (arith, nat_tests) in
    let all : list_all is_plain (text ++ c ∷ []) ≡ true =
    list_all-append is_plain text (c ∷ []) ∙ ap₂ ◌&&◌ h (ap (λ b. b && true) plain) in
    clusters-plain (text ++ c ∷ []) all ∙ map-append (λ x. x ∷ []) text (c ∷ []) ∙ ap (λ ps. ps ++ (c ∷ []) ∷ []) (sym (clusters-plain text h))

-- ---- a plain text is put down character by character

-- the place after a character
abbrev pub after_char : ℕ → Position → ℕ → Position
after_char columns p c = after_cluster columns p (c ∷ [])

-- the clusters of a plain text take a place where its characters do
pub after-plain : (columns : ℕ) (place : Position) (text : List ℕ) → list_all is_plain text ≡ true
    → fold (after_cluster columns) place (graphemes true text) ≡ fold (after_char columns) place text
after-plain columns place text all =
    ap (fold (after_cluster columns) place) (clusters-plain text all) ∙ fold-map (after_cluster columns) (λ c. c ∷ []) place text

-- an empty text has no clusters
pub after-none : (columns : ℕ) (place : Position) → fold (after_cluster columns) place (graphemes true []) ≡ place
unfolding segments cut chars
after-none columns place = refl

-- a plain text has its clusters in two parts at each place
pub parts-plain : (text : List ℕ) (place : ℕ) → list_all is_plain text ≡ true → PartsClusters text place
parts-plain text place all =
    let parts = all_parts is_plain (take place text) (drop place text) (ap (list_all is_plain) (take-append-drop place text) ∙ all) in
    clusters-plain text all ∙ ap singly (sym (take-append-drop place text))
    ∙ map-append (λ c. c ∷ []) (take place text) (drop place text)
    ∙ sym (ap₂ ◌++◌ (clusters-plain (take place text) parts.0) (clusters-plain (drop place text) parts.1))

-- where its clusters part, a text takes a place where its parts do
pub after-parts : (columns parting : ℕ) (place : Position) (text : List ℕ) → PartsClusters text parting
    → fold (after_cluster columns) (fold (after_cluster columns) place (graphemes true (take parting text))) (graphemes true (drop parting text))
    ≡ fold (after_cluster columns) place (graphemes true text)
after-parts columns parting place text parts =
    sym (ap (fold (after_cluster columns) place) parts
    ∙ fold-append (after_cluster columns) place (graphemes true (take parting text)) (graphemes true (drop parting text)))

-- so a text is measured in the parts before and from there
pub measured-parts : (columns parting : ℕ) (origin place last end : Position) (text front back : List ℕ) → PartsClusters text parting
    → front ≡ take parting text → back ≡ drop parting text → place ≡ fold (after_cluster columns) origin (graphemes true front)
    → last ≡ fold (after_cluster columns) place (graphemes true back) → end ≡ wrapped columns last → end ≡ measured columns text origin
unfolding measured
measured-parts columns parting origin place last end text front back parts first rest at goes ends =
    ends ∙ ap (wrapped columns)
    (goes
    ∙ ap₂ (λ p t. fold (after_cluster columns) p (graphemes true t))
    (at ∙ ap (λ t. fold (after_cluster columns) origin (graphemes true t)) first) rest
    ∙ after-parts columns parting origin text parts)

-- a printable character takes one column, where there is one
pub after_char-printable : (columns : ℕ) (p : Position) (c : ℕ) → is_printable c ≡ true
    → after_char columns p c ≡ advanced columns (min 1 columns) p
after_char-printable columns p c print =
    let shown : ends_row (c ∷ []) ≡ false = grind (arith, nat_tests) in
    let below : c < 128 = grind (arith, nat_tests) in
    let alone : chars (c ∷ []) ≡ c ∷ [] = chars-IsAscii (c ∷ []) (IsAscii-cons c [] below IsAscii-nil) in
    let width : str_width false (c ∷ []) ≡ 1 = str_width-printable false (c ∷ []) (ap (λ b. b && true) print) in
    let one : columns_of columns (c ∷ []) ≡ min 1 columns = ap (λ n. min n columns) (ap (str_width false) alone ∙ width) in
    ap₂ (λ b n. cond b (start_below p) (advanced columns n p)) shown one

-- a plain character that is no newline is printable
printable-plain : (c : ℕ) → is_plain c ≡ true → ((c == 10) ≡ true → ⊥) → is_printable c ≡ true
printable-plain c h other = ⊎_elim (λ feed. absurd (other feed)) (λ print. print) (or_cases (c == 10) (is_printable c) h)

-- up to its first newline a plain text is printable, and the newline begins the row below
pub after-row : (columns n : ℕ) (p : Position) (text : List ℕ) → list_all is_plain text ≡ true → n < length text → (get_or text n 0 == 10) ≡ true
    → ((k : ℕ) → k < n → (get_or text k 0 == 10) ≡ true → ⊥)
    → fold (after_char columns) p text ≡ fold (after_char columns) (start_below (columns_after columns n p)) (drop 1 (drop n text))
after-row columns n p [] all within feed none = absurd (omega arith)
after-row columns zero p (c ∷ cs) all within feed none =
    let below : after_char columns p c ≡ start_below p = ap (λ b. cond b (start_below p) (advanced columns (columns_of columns (c ∷ [])) p)) (ends c feed) in
    ap (λ q. fold (after_char columns) q cs) below
  where
    ends : (c : ℕ) → (c == 10) ≡ true → ends_row (c ∷ []) ≡ true
    ends c h = grind (arith, nat_tests)
after-row columns (suc n) p (c ∷ cs) all within feed none =
    let parts = and_parts (is_plain c) (list_all is_plain cs) all in
    let print = printable-plain c parts.0 (none 0 (omega arith)) in
    ap (λ q. fold (after_char columns) q cs) (after_char-printable columns p c print)
    ∙ after-row columns n (advanced columns (min 1 columns) p) cs parts.1 (omega arith) feed (λ k below. none (suc k) (omega arith))

-- with no newline in it all of it is
pub after-last : (columns : ℕ) (p : Position) (text : List ℕ) → list_all is_plain text ≡ true
    → ((k : ℕ) → k < length text → (get_or text k 0 == 10) ≡ true → ⊥)
    → fold (after_char columns) p text ≡ columns_after columns (length text) p
after-last columns p [] all none = refl
after-last columns p (c ∷ cs) all none =
    let parts = and_parts (is_plain c) (list_all is_plain cs) all in
    let print = printable-plain c parts.0 (none 0 (omega arith)) in
    ap (λ q. fold (after_char columns) q cs) (after_char-printable columns p c print)
    ∙ after-last columns (advanced columns (min 1 columns) p) cs parts.1 (λ k below. none (suc k) (omega arith))

-- a printable text takes a place as many columns on as it has characters
pub fold-printable : (columns : ℕ) (place : Position) (text : List ℕ) → list_all is_printable text ≡ true
    → fold (after_char columns) place text ≡ columns_after columns (length text) place
fold-printable columns place [] print = refl
fold-printable columns place (c ∷ cs) print =
    let parts = and_parts (is_printable c) (list_all is_printable cs) print in
    ap (λ q. fold (after_char columns) q cs) (after_char-printable columns place c parts.0)
    ∙ fold-printable columns (advanced columns (min 1 columns) place) cs parts.1

pub measured-printable : (columns : ℕ) (place : Position) (text : List ℕ) → list_all is_printable text ≡ true
    → wrapped columns (columns_after columns (length text) place) ≡ measured columns text place
unfolding measured
measured-printable columns place text print =
    sym (ap (wrapped columns) (after-plain columns place text (plain_text text print) ∙ fold-printable columns place text print))

-- a text is measured by the place after all its clusters
pub measured-whole : (columns : ℕ) (origin last end : Position) (text : List ℕ) → last ≡ fold (after_cluster columns) origin (graphemes true text)
    → end ≡ wrapped columns last → end ≡ measured columns text origin
unfolding measured
measured-whole columns origin last end text goes ends = ends ∙ ap (wrapped columns) goes

-- where they fit on the row, the place goes as many columns on
pub columns_after-fitting : (columns fitting more : ℕ) (p : Position) → p.col + fitting ≤ columns
    → columns_after columns (fitting + more) p ≡ columns_after columns more (record p { col = p.col + fitting })
columns_after-fitting columns zero more p h =
    let same : 0 + more ≡ more = omega arith in
    let stays : p.col ≡ p.col + 0 = omega arith in
    ap (λ n. columns_after columns n p) same ∙ ap (λ n. columns_after columns more (record p { col = n })) stays
columns_after-fitting columns (suc n) more p h =
    let split : suc n + more ≡ suc (n + more) = omega arith in
    let on : advanced columns (min 1 columns) p ≡ record p { col = p.col + 1 } = grind (arith, nat_tests) in
    let sums : p.col + 1 + n ≡ p.col + suc n = omega arith in
    ap (λ m. columns_after columns m p) split
    ∙ ap (columns_after columns (n + more)) on
    ∙ columns_after-fitting columns n more (record p { col = p.col + 1 }) (omega arith)
    ∙ ap (λ m. columns_after columns more (record p { col = m })) sums

-- ---- one more printable character goes one column on

-- one column on, and on the next row where the row is full then, is the next column
wrapped-advanced : (columns : ℕ) (p : Position) → 0 < columns → p.col ≤ columns
    → wrapped columns (advanced columns (min 1 columns) p) ≡ next_column columns (wrapped columns p)
wrapped-advanced columns p some h = grind (arith, nat_tests)

-- from an origin below the columns, a printable ASCII character after printable ASCII and newlines goes one column on
pub measured-push : (columns : ℕ) (text : List ℕ) (c : ℕ) (origin : Position) → origin.col < columns
    → list_all is_plain text ≡ true → is_printable c ≡ true
    → measured columns (text ++ c ∷ []) origin ≡ next_column columns (measured columns text origin)
unfolding measured
measured-push columns text c origin h all print =
    let some : 0 < columns = omega arith in
    let p = fold (after_cluster columns) origin (graphemes true text) in
    ap (λ ps. wrapped columns (fold (after_cluster columns) origin ps)) (graphemes-push text c all print)
    ∙ ap (wrapped columns) (fold-append (after_cluster columns) origin (graphemes true text) ((c ∷ []) ∷ [])
    ∙ after_char-printable columns p c print)
    ∙ wrapped-advanced columns p some (fold-within columns (graphemes true text) origin (omega arith))

-- so a printable text after it ends where it would from there alone
measured-more : (columns : ℕ) (text more : List ℕ) (origin : Position) → origin.col < columns
    → list_all is_plain text ≡ true → list_all is_printable more ≡ true
    → measured columns (text ++ more) origin ≡ measured columns more (measured columns text origin)
measured-more columns text [] origin h all print =
    ap (λ s. measured columns s origin) (append-nil text)
    ∙ sym (measured-nil columns (measured columns text origin) (measured-below columns text origin h))
measured-more columns text (c ∷ cs) origin h all print =
    let end = measured columns text origin in
    let below = measured-below columns text origin h in
    let parts = and_parts (is_printable c) (list_all is_printable cs) print in
    let alone : list_all is_plain (c ∷ []) ≡ true = ap (λ b. b && true) (plain_char c parts.0) in
    let next : measured columns (text ++ c ∷ []) origin ≡ measured columns (c ∷ []) end =
    measured-push columns text c origin h all parts.0
    ∙ ap (next_column columns) (sym (measured-nil columns end below)) ∙ sym (measured-push columns [] c end below refl parts.0) in
    ap (λ s. measured columns s origin) (sym (append_assoc text (c ∷ []) cs))
    ∙ measured-more columns (text ++ c ∷ []) cs origin h (all_both is_plain text (c ∷ []) all alone) parts.1
    ∙ ap (measured columns cs) next
    ∙ sym (measured-more columns (c ∷ []) cs end below alone parts.1)

-- from a place with room on the row, a printable ASCII character goes one column on
pub measured-one : (columns c : ℕ) (place : Position) → place.col + 1 < columns → is_printable c ≡ true
    → measured columns (c ∷ []) place ≡ record { row = place.row; col = place.col + 1 }
measured-one columns c place room print =
    let below : place.col < columns = omega arith in
    measured-push columns [] c place below refl print
    ∙ ap (next_column columns) (measured-nil columns place below) ∙ grind (arith, nat_tests)

-- ---- where a plain text is known to end

-- an empty text ends where it begins
pub EndsPlain-nil : (columns : ℕ) (text : List ℕ) (origin end : Position) → text ≡ [] → origin.col < columns → end ≡ origin
    → PlainTextEndsAt columns text origin end
EndsPlain-nil columns text origin end empty h is =
    rw (empty, is) (refl, h, sym (measured-nil columns origin h))

-- a printable text after it goes on from its end
pub EndsPlain-append : (columns : ℕ) (text more : List ℕ) (origin end : Position) → PlainTextEndsAt columns text origin end
    → list_all is_printable more ≡ true → PlainTextEndsAt columns (text ++ more) origin (measured columns more end)
EndsPlain-append columns text more origin end known print = (
  all_both is_plain text more known.0 (plain_text more print),
  known.1,
  ap (measured columns more) known.2 ∙ sym (measured-more columns text more origin known.1 known.0 print),
)

-- without the printable text at its end it ends as many columns back
pub EndsPlain-take : (columns kept count : ℕ) (text gone : List ℕ) (origin end : Position) → PlainTextEndsAt columns text origin end
    → gone ≡ slice_range text kept (length text) → kept ≤ length text → length gone ≡ count → list_all is_printable gone ≡ true
    → count ≤ end.col → PlainTextEndsAt columns (take kept text) origin (columns_back count end)
EndsPlain-take columns kept count text gone origin end known is within counts print fits =
    let parts : take kept text ++ gone ≡ text =
    ap (λ (s : List ℕ). take kept text ++ s) is ∙ taken_between kept (length text) text within ∙ take_all (length text) text (omega arith) in
    let plain = all_parts is_plain (take kept text) gone (ap (list_all is_plain) parts ∙ known.0) in
    let ends : end ≡ measured columns (take kept text ++ gone) origin = known.2 ∙ ap (λ s. measured columns s origin) (sym parts) in
    let back = measured_back columns (λ s. measured columns s origin) (λ s c all shown. measured-push columns s c origin known.1 all shown)
    gone (take kept text) plain.0 print (omega (arith, fits, counts, ap (λ (p : Position). p.col) ends)) in
    (plain.0, known.1, ap₂ columns_back (sym counts) ends ∙ sym back)
