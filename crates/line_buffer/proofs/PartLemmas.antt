-- Where the columns of a text are those of its parts, in each way to count them.
use Rattle.std.proofs.Common.{◌≡◌, ◌⊎◌, inl, inr, ℕ, ◌+◌, ◌-◌, ◌≤◌, Bool, true, false, List, [], ◌∷◌, ◌++◌, length, take, drop, refl, sym, ap, ap₂, ◌∙◌, subst, arith, append-nil, append_assoc, add-zero, length-append}
use Rattle.std.proofs.Math.Seq.{take-append_seam, drop-append_seam}
use Rattle.std.proofs.lemmas.List.Sums.{sum_by-append, sum_by-cons}
use Rattle.std.proofs.lemmas.List.Splits.{slice_split-cons_yes, slice_split-cons_no}
use Rattle.std.proofs.lemmas.Str.{chars-append, encodes-append, encodes-chars, chars_from_encodes, chars_past_char, IsUtf8-append, IsUtf8-drop, IsCharBoundary-start, IsCharBoundary-at_seam, IsCharBoundary-from_take}
use Rattle.std.proofs.lemmas.List.{drop-take, length-take, take-append-drop}
use Rattle.std.proofs.lemmas.List.Folds.{drop_split}
use Rattle.line_buffer.proofs.ListLemmas.{take_within_take}
use Rattle.std.specs.Prelude.{slice_range}
use Rattle.std.specs.List.{slice_split, onto_first, sum_by}
use Rattle.std.specs.Str.{chars, IsUtf8}
use Rattle.std.specs.Char.{encode_utf8}
use Rattle.unicode_width.specs.Width.{str_width}
use Rattle.line_buffer.specs.Width.{columns_as_one, columns_of_char, is_joiner, text_width, AddUp, BeginsAnew, IsSeam, PartsAt}
use Rattle.line_buffer.specs.declared.layout.GraphemeClusterMode.{GraphemeClusterMode}
use Rattle.line_buffer.specs.declared.layout.GraphemeClusterMode.TheVariants.{Unicode, WcWidth, NoZwj}

-- the columns of the parts, the first of them with a text before it
abbrev pub led : List ℕ → List (List ℕ) → ℕ
led front [] = columns_as_one front
led front (p ∷ ps) = columns_as_one (front ++ p) + sum_by columns_as_one ps

no_columns : columns_as_one [] ≡ 0
unfolding str_width
no_columns = refl

pub led-none : (ps : List (List ℕ)) → led [] ps ≡ sum_by columns_as_one ps
led-none [] = no_columns
led-none (p ∷ ps) = sym (sum_by-cons columns_as_one p ps)

pub led-onto : (front : List ℕ) (x : ℕ) (ps : List (List ℕ)) → led front (onto_first x ps) ≡ led (front ++ x ∷ []) ps
led-onto front x [] = add-zero (columns_as_one (front ++ x ∷ []))
led-onto front x (p ∷ ps) = ap (λ t. columns_as_one t + sum_by columns_as_one ps) (sym (append_assoc front (x ∷ []) p))

-- a joiner begins another piece
pub led-joiner : (front : List ℕ) (ps : List (List ℕ)) → led front ([] ∷ ps) ≡ columns_as_one front + led [] ps
led-joiner front ps = ap₂ (λ t n. columns_as_one t + n) (append-nil front) (sym (led-none ps))

true_or_false : (b : Bool) → (b ≡ true) ⊎ (b ≡ false)
true_or_false true = inl refl
true_or_false false = inr refl

pub joiner_or_not : (c : ℕ) → (is_joiner c ≡ true) ⊎ (is_joiner c ≡ false)
joiner_or_not c = true_or_false (is_joiner c)

led-seam-onto : (front : List ℕ) (a c : ℕ) (ps : List (List ℕ)) → is_joiner a ≡ false → BeginsAnew c
    → led (front ++ a ∷ []) (onto_first c ps) ≡ columns_as_one (front ++ a ∷ []) + led [] (onto_first c ps)
led-seam-onto front a c [] h anew = ap (λ n. n + 0) (anew front [] a h) ∙ omega arith
led-seam-onto front a c (p ∷ ps) h anew = ap (λ n. n + sum_by columns_as_one ps) (anew front p a h) ∙ omega arith

led-seam : (front ds : List ℕ) (a c : ℕ) → is_joiner a ≡ false → BeginsAnew c
    → led (front ++ a ∷ []) (slice_split is_joiner (c ∷ ds)) ≡ columns_as_one (front ++ a ∷ []) + led [] (slice_split is_joiner (c ∷ ds))
led-seam front ds a c h anew =
    elim (joiner_or_not c) [
      | inl joins ↦
          rw (slice_split-cons_yes is_joiner c ds joins)
          (let one = led-joiner (front ++ a ∷ []) (slice_split is_joiner ds) in
          let two = led-joiner [] (slice_split is_joiner ds) in
          omega (arith, one, two, no_columns))
      | inr apart ↦ rw (slice_split-cons_no is_joiner c ds apart) (led-seam-onto front a c (slice_split is_joiner ds) h anew)
    ]

led-meet : (us front ds : List ℕ) (a c : ℕ) → is_joiner a ≡ false → BeginsAnew c
    → led front (slice_split is_joiner (us ++ a ∷ c ∷ ds)) ≡ led front (slice_split is_joiner (us ++ a ∷ [])) + led [] (slice_split is_joiner (c ∷ ds))
led-meet [] front ds a c h anew =
    rw (slice_split-cons_no is_joiner a (c ∷ ds) h, slice_split-cons_no is_joiner a [] h)
    (led-onto front a (slice_split is_joiner (c ∷ ds)) ∙ led-seam front ds a c h anew
    ∙ ap (λ t. t + led [] (slice_split is_joiner (c ∷ ds))) (sym (add-zero (columns_as_one (front ++ a ∷ [])))))
led-meet (x ∷ us) front ds a c h anew =
    elim (joiner_or_not x) [
      | inl joins ↦
          rw (slice_split-cons_yes is_joiner x (us ++ a ∷ c ∷ ds) joins, slice_split-cons_yes is_joiner x (us ++ a ∷ []) joins)
          (let ih = led-meet us [] ds a c h anew in
          let one = led-joiner front (slice_split is_joiner (us ++ a ∷ c ∷ ds)) in
          let two = led-joiner front (slice_split is_joiner (us ++ a ∷ [])) in
          omega (arith, ih, one, two))
      | inr apart ↦
          rw (slice_split-cons_no is_joiner x (us ++ a ∷ c ∷ ds) apart, slice_split-cons_no is_joiner x (us ++ a ∷ []) apart)
          (led-onto front x (slice_split is_joiner (us ++ a ∷ c ∷ ds)) ∙ led-meet us (front ++ x ∷ []) ds a c h anew
          ∙ ap (λ n. n + led [] (slice_split is_joiner (c ∷ ds))) (sym (led-onto front x (slice_split is_joiner (us ++ a ∷ [])))))
    ]

assoc_one : (us ds : List ℕ) (a c : ℕ) → (us ++ a ∷ []) ++ c ∷ ds ≡ us ++ a ∷ c ∷ ds
assoc_one us ds a c = append_assoc us (a ∷ []) (c ∷ ds)

pieces-meet : (us ds : List ℕ) (a c : ℕ) → is_joiner a ≡ false → BeginsAnew c
    → sum_by columns_as_one (slice_split is_joiner ((us ++ a ∷ []) ++ c ∷ ds))
    ≡ sum_by columns_as_one (slice_split is_joiner (us ++ a ∷ [])) + sum_by columns_as_one (slice_split is_joiner (c ∷ ds))
pieces-meet us ds a c h anew =
    ap (λ cs. sum_by columns_as_one (slice_split is_joiner cs)) (assoc_one us ds a c)
    ∙ sym (led-none (slice_split is_joiner (us ++ a ∷ c ∷ ds))) ∙ led-meet us [] ds a c h anew
    ∙ ap₂ (λ m n. m + n) (led-none (slice_split is_joiner (us ++ a ∷ []))) (led-none (slice_split is_joiner (c ∷ ds)))

-- the columns of characters
abbrev pub chars_width : GraphemeClusterMode → List ℕ → ℕ
chars_width Unicode cs = columns_as_one cs
chars_width WcWidth cs = sum_by columns_of_char cs
chars_width NoZwj cs = sum_by columns_as_one (slice_split is_joiner cs)

pub width_of_chars : (mode : GraphemeClusterMode) (text : List ℕ) → text_width mode text ≡ chars_width mode (chars text)
width_of_chars Unicode text = refl
width_of_chars WcWidth text = refl
width_of_chars NoZwj text = refl

chars-meet : (mode : GraphemeClusterMode) (us ds : List ℕ) (a c : ℕ) → is_joiner a ≡ false → BeginsAnew c
    → chars_width mode ((us ++ a ∷ []) ++ c ∷ ds) ≡ chars_width mode (us ++ a ∷ []) + chars_width mode (c ∷ ds)
chars-meet Unicode us ds a c h anew = anew us ds a h
chars-meet WcWidth us ds a c h anew = sum_by-append columns_of_char (us ++ a ∷ []) (c ∷ ds)
chars-meet NoZwj us ds a c h anew = pieces-meet us ds a c h anew

pub IsSeam-between : (a c : ℕ) → is_joiner a ≡ false → BeginsAnew c → IsSeam a c
IsSeam-between a c h anew = λ front behind before after whole ends begins mode.
    width_of_chars mode (front ++ behind)
    ∙ ap (chars_width mode) (whole ∙ ap₂ (λ xs ys. xs ++ ys) ends begins)
    ∙ chars-meet mode before after a c h anew
    ∙ ap₂ (λ xs ys. chars_width mode xs + chars_width mode ys) (sym ends) (sym begins)
    ∙ sym (ap₂ (λ m n. m + n) (width_of_chars mode front) (width_of_chars mode behind))

-- ---- the last seam of a text

pub chars-pushed : (text front : List ℕ) (c : ℕ) → IsUtf8 text → IsUtf8 front → text ≡ front ++ encode_utf8 c → chars text ≡ chars front ++ c ∷ []
chars-pushed text front c u v e =
    sym (chars_from_encodes (chars front ++ c ∷ []) text u
    (encodes-append (chars front) (c ∷ []) ∙ ap₂ (λ xs ys. xs ++ ys) (encodes-chars front v) (append-nil (encode_utf8 c)) ∙ sym e))

no_width : (mode : GraphemeClusterMode) → text_width mode [] ≡ 0
unfolding str_width chars
no_width Unicode = refl
no_width WcWidth = refl
no_width NoZwj = refl

pub AddUp-start : (text : List ℕ) → AddUp [] text
AddUp-start text = λ mode. let none = no_width mode in omega arith

pub AddUp-end : (text : List ℕ) → AddUp text []
AddUp-end text = λ mode. ap (text_width mode) (append-nil text) ∙ sym (add-zero (text_width mode text)) ∙ ap (λ n. text_width mode text + n) (sym (no_width mode))

-- the text begins with the character
abbrev pub Begins : ℕ → List ℕ → Type 0
Begins c text = chars text ≡ c ∷ drop 1 (chars text)

-- the front was searched back to `rest`, and what was passed begins with a character
pub record Searched (front behind rest : List ℕ) (first : ℕ) : Type 0 where
  pub passed : List ℕ
  pub cut : rest ++ passed ≡ front
  pub own : (passed ≡ []) ⊎ Begins first passed
  pub whole : Begins first (passed ++ behind)

pub searched-start : (front behind : List ℕ) (first : ℕ) → Begins first behind → Searched front behind front first
searched-start front behind first h = record { passed = []; cut = append-nil front; own = inl refl; whole = h }

begins-past : (text rest : List ℕ) (c : ℕ) → IsUtf8 text → text ≡ encode_utf8 c ++ rest → Begins c text
begins-past text rest c u e =
    let read = chars_past_char text rest c u e in
    read ∙ ap (λ cs. c ∷ drop 1 cs) (sym read)

utf8-behind : (text front behind : List ℕ) → IsUtf8 text → IsUtf8 front → front ++ behind ≡ text → IsUtf8 behind
utf8-behind text front behind u v e =
    let within : length front ≤ length text = omega (arith, ap length e, length-append front behind) in
    let first : take (length front) text ≡ front = ap (take (length front)) (sym e) ∙ take-append_seam front behind in
    let others : drop (length front) text ≡ behind = ap (drop (length front)) (sym e) ∙ drop-append_seam front behind in
    subst IsUtf8 others (IsUtf8-drop text (length front) u (IsCharBoundary-from_take text (length front) u within (subst IsUtf8 (sym first) v)))

pub searched-next : (front behind rest shorter : List ℕ) (first before : ℕ) → IsUtf8 front → IsUtf8 behind → IsUtf8 shorter
    → Searched front behind rest first → rest ≡ shorter ++ encode_utf8 before → Searched front behind shorter before
searched-next front behind rest shorter first before u v w s e =
    let cut : shorter ++ (encode_utf8 before ++ s.passed) ≡ front = sym (append_assoc shorter (encode_utf8 before) s.passed) ∙ ap (λ r. r ++ s.passed) (sym e) ∙ s.cut in
    let text = utf8-behind front shorter (encode_utf8 before ++ s.passed) u w cut in
    record {
      passed = encode_utf8 before ++ s.passed;
      cut = cut;
      own = inr (begins-past (encode_utf8 before ++ s.passed) s.passed before text refl);
      whole =
          begins-past ((encode_utf8 before ++ s.passed) ++ behind) (s.passed ++ behind) before (IsUtf8-append (encode_utf8 before ++ s.passed) behind text v)
          (append_assoc (encode_utf8 before) s.passed behind);
    }

pub parts_at : (front behind rest passed : List ℕ) → IsUtf8 front → IsUtf8 rest → rest ++ passed ≡ front → AddUp rest (passed ++ behind) → AddUp rest passed → PartsAt front behind (length rest)
parts_at front behind rest passed u v e whole own =
    let first : take (length rest) front ≡ rest = ap (take (length rest)) (sym e) ∙ take-append_seam rest passed in
    let others : drop (length rest) front ≡ passed = ap (drop (length rest)) (sym e) ∙ drop-append_seam rest passed in
    record {
      boundary = IsCharBoundary-at_seam front rest passed (sym e) (utf8-behind front rest passed u v e);
      whole = rw (first, others) whole;
      alone = rw (first, others) own;
    }

pub searched-found : (front behind rest shorter : List ℕ) (first before : ℕ) → IsUtf8 front → IsUtf8 rest → Searched front behind rest first
    → chars rest ≡ chars shorter ++ before ∷ [] → IsSeam before first → PartsAt front behind (length rest)
searched-found front behind rest shorter first before u v s ends seam =
    let own : AddUp rest s.passed =
    elim s.own [
      | inl none ↦ subst (AddUp rest) (sym none) (AddUp-end rest)
      | inr begins ↦ seam rest s.passed (chars shorter) (drop 1 (chars s.passed)) (chars-append rest s.passed v) ends begins
    ] in
    parts_at front behind rest s.passed u v s.cut
    (seam rest (s.passed ++ behind) (chars shorter) (drop 1 (chars (s.passed ++ behind))) (chars-append rest (s.passed ++ behind) v) ends s.whole)
    own

pub parts-start : (front behind : List ℕ) → IsUtf8 front → PartsAt front behind 0
parts-start front behind u = record { boundary = IsCharBoundary-start front u; whole = AddUp-start (front ++ behind); alone = AddUp-start front }

-- ---- the columns of a text up to a place

pub parted : (mode : GraphemeClusterMode) (text : List ℕ) (end place : ℕ) → end ≤ length text → PartsAt (take end text) (drop end text) place
    → (text_width mode text ≡ text_width mode (take place text) + text_width mode (drop place text))
    × (text_width mode (take end text) ≡ text_width mode (take place text) + text_width mode (slice_range text place end))
parted mode text end place within parts =
    let on : place ≤ end = omega (arith, parts.boundary.0, length-take end text) in
    let front : take place (take end text) ≡ take place text = take_within_take end place text on in
    let whole_end : place + (end - place) ≡ end = omega arith in
    let middle : drop place (take end text) ≡ slice_range text place end = ap (λ n. drop place (take n text)) (sym whole_end) ∙ drop-take place (end - place) text in
    let behind : drop place (take end text) ++ drop end text ≡ drop place text = ap (λ xs. xs ++ drop end text) middle ∙ sym (drop_split text place end on) in (
      ap (text_width mode) (sym (take-append-drop place text) ∙ ap₂ (λ xs ys. xs ++ ys) (sym front) (sym behind)) ∙ parts.whole mode
          ∙ ap₂ (λ xs ys. text_width mode xs + text_width mode ys) front behind,
      ap (text_width mode) (sym (take-append-drop place (take end text))) ∙ parts.alone mode
          ∙ ap₂ (λ xs ys. text_width mode xs + text_width mode ys) front middle,
    )

-- the same of texts that were cut out
pub parted_as : (mode : GraphemeClusterMode) (text front behind : List ℕ) (end place : ℕ) → end ≤ length text → front ≡ slice_range text 0 end → behind ≡ drop end text
    → PartsAt front behind place
    → (text_width mode text ≡ text_width mode (take place text) + text_width mode (drop place text))
    × (text_width mode (take end text) ≡ text_width mode (take place text) + text_width mode (slice_range text place end))
parted_as mode text front behind end place within e f parts =
    let none : end - 0 ≡ end = omega arith in
    let first : front ≡ take end text = e ∙ ap (λ n. take n text) none in
    parted mode text end place within (subst (λ xs. PartsAt xs (drop end text) place) first (subst (λ ys. PartsAt front ys place) f parts))
