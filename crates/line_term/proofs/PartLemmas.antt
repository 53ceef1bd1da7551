-- What is drawn in part of a screen that is known: a character at its end, and a clearing of the rest of a row.
use Rattle.std.proofs.Common.{◌≡◌, ◌<◌, ◌≤◌, ℕ, ◌+◌, ◌-◌, ◌==◌, ◌&&◌, ◌||◌, nat_lt, Bool, true, false, cond, not, List, [], ◌∷◌, ◌++◌, length, drop, Option, Some, None, is_some, Result, Ok, Err, OnOk, refl, subst, sym, ap, ap₂, ◌∙◌, arith}
use Rattle.std.specs.Option.{IfSome}
use Rattle.std.specs.List.{list_all}
use Rattle.std.specs.Io.KnownBytes.{Appends}
use Rattle.std.proofs.Math.Seq.{drop-append_seam}
use Rattle.std.proofs.lemmas.Bool.{and_parts}
use Rattle.std.proofs.lemmas.Bool.Decides.{nat_tests}
use Rattle.std.proofs.lemmas.List.{length-append, map-append}
use Rattle.std.proofs.lemmas.List.Folds.{list_all-append}
use Rattle.std.proofs.lemmas.Str.{IsUtf8-from_ascii}
use Rattle.unicode_segmentation.specs.Grapheme.{graphemes}
use Rattle.line_buffer.specs.Printable.{is_plain, is_printable}
use Rattle.line_buffer.specs.declared.layout.Position.{Position}
use Rattle.line_buffer.proofs.PlainClusterLemmas.{IsAscii-plain, clusters-plain}
use Rattle.line_keys.specs.Model.Display.{Screen, Surface, columns_back, corner, next_column, shown_end}
use Rattle.line_screen.specs.Measure.{columns_after, measured, start_below, wrapped}
use Rattle.line_screen.specs.MeasureLaws.{EndsPlain-append, columns_after-fitting, graphemes-push, measured-below, measured-nil, measured-one, measured-printable, measured-push}
use Rattle.line_screen.specs.Cleared.{LosesEnd}
use Rattle.line_state.proofs.PlainTextLemmas.{all_parts, measured_back}
use Rattle.line_state.specs.ScreenState.{EndsBehind, HasRoom, with_shown}
use Rattle.line_term.specs.Drawn.{cleaned}
use Rattle.line_term.specs.Escape.{clear_row}
use Rattle.line_term.specs.Painted.{wrap}
use Rattle.line_term.specs.Parts.{RestsInRow, follows}
use Rattle.line_term.specs.Shown.{EndsInRows, IsShown, TellsKnown, is_known, is_same_place, known_screen}
use Rattle.line_term.specs.Terminal.{sent}
use Rattle.line_term.proofs.KnownLemmas.{Measures, Takes, goes-on, known-measures, measures-known, place-same, same-place}
use Rattle.line_term.proofs.PlainLemmas.{cleaned_printable}
use Rattle.line_term.proofs.RedrawLemmas.{measured-row}
use Rattle.line_term.proofs.ShownLemmas.{parts-show}

none-behind : (o : Option (List ℕ)) → not (is_some o) ≡ true → o ≡ None
none-behind None is = refl
none-behind (Some x) is = cc

-- the step on to the next column begins at one place
next-same : (columns : ℕ) (p q : Position) → p.col < columns → q.col < columns → next_column columns p ≡ next_column columns q
    → (next_column columns p).row < 65535 → p ≡ q
next-same columns p q in_p in_q same rows = by_cases (nat_lt (p.col + 1) columns) (nat_lt (q.col + 1) columns) refl refl where
  row-same : (next_column columns p).row ≡ (next_column columns q).row
  row-same = ap (λ (r : Position). r.row) same

  col-same : (next_column columns p).col ≡ (next_column columns q).col
  col-same = ap (λ (r : Position). r.col) same

  by_cases : (a b : Bool) → nat_lt (p.col + 1) columns ≡ a → nat_lt (q.col + 1) columns ≡ b → p ≡ q
  by_cases a b ea eb =
      let row : p.row ≡ q.row = grind (arith, nat_tests, row-same, col-same, rows, in_p, in_q) in
      let col : p.col ≡ q.col = grind (arith, nat_tests, row-same, col-same, rows, in_p, in_q) in
      ap₂ (λ (r : ℕ) (c : ℕ). record { row = r; col = c }) row col

-- ---- a character that is written

-- what was found of it
pub record Follows (columns : ℕ) (s : Screen) (end : Position) (buf : List ℕ) : Type 0 where
  pub bare : s.behind ≡ None
  pub at : s.position ≡ end
  pub room : end.col < columns
  pub char : ℕ
  pub one : buf ≡ char ∷ []
  pub print : is_printable char ≡ true

one-char : (buf : List ℕ) → (length buf == 1) ≡ true → list_all is_printable buf ≡ true → (c : ℕ) × (buf ≡ c ∷ []) × (is_printable c ≡ true)
one-char [] long print = cc
one-char (c ∷ []) long print = (c, refl, (and_parts (is_printable c) true print).0)
one-char (c ∷ d ∷ cs) long print = absurd (let is : length (c ∷ d ∷ cs) ≡ 1 = grind (arith, nat_tests, long) in omega (arith, is))

pub follows-is : (columns : ℕ) (s : Screen) (end : Position) (buf : List ℕ) → follows columns s end buf ≡ true → Follows columns s end buf
follows-is columns s end buf is =
    let first = and_parts (not (is_some s.behind)) _ is in
    let second = and_parts (is_same_place s.position end) _ first.1 in
    let third = and_parts (nat_lt end.col columns) _ second.1 in
    let fourth = and_parts (length buf == 1) (list_all is_printable buf) third.1 in
    let one = one-char buf fourth.0 fourth.1 in
    record {
      bare = none-behind s.behind first.0;
      at = same-place s.position end second.0;
      room = grind (arith, nat_tests, third.0);
      char = one.0;
      one = one.1;
      print = one.2;
    }

-- the screen with a text written behind its line
abbrev pub written_on : ℕ → Screen → List ℕ → Screen
written_on columns s buf = record s { position = measured columns buf s.position; text = s.text ++ buf }

-- where all is as it is measured with the character, it was before
unwritten : (columns c : ℕ) (s : Screen) → 0 < columns → s.behind ≡ None → s.position.col < columns → is_printable c ≡ true → list_all is_plain s.text ≡ true
    → Measures columns (measured columns (c ∷ []) s.position) (written_on columns s (c ∷ [])) → (measured columns (c ∷ []) s.position).row < 65535
    → Measures columns s.position s
unwritten columns c s some bare room print plain measures rows =
    let begins : s.origin ≡ measured columns s.prompt corner = measures.begins in
    let in_row : s.origin.col < columns = omega (arith, measured-below columns s.prompt corner some, ap (λ (q : Position). q.col) begins) in
    let q = measured columns s.text s.origin in
    let next : measured columns (c ∷ []) s.position ≡ next_column columns s.position =
    measured-push columns [] c s.position room refl print ∙ ap (next_column columns) (measured-nil columns s.position room) in
    let ends : measured columns (c ∷ []) s.position ≡ next_column columns q =
    measures.ends ∙ ap (shown_end (measured columns) s.origin (s.text ++ c ∷ [])) bare ∙ measured-push columns s.text c s.origin in_row plain print in
    let same : s.position ≡ q = next-same columns s.position q room (measured-below columns s.text s.origin in_row) (sym next ∙ ends)
    (omega (arith, rows, ap (λ (r : Position). r.row) next)) in
    record { ends = same ∙ sym (ap (shown_end (measured columns) s.origin s.text) bare); begins = begins }

-- the character is shown
write-takes : (columns c : ℕ) (s : Screen) → 0 < columns → s.behind ≡ None → s.position.col < columns → is_printable c ≡ true → list_all is_plain s.text ≡ true
    → Measures columns s.position s → (measured columns (c ∷ []) s.position).row < 65535
    → Takes columns s (written_on columns s (c ∷ [])) (cleaned (c ∷ []) ++ wrap (measured columns) (c ∷ []) s.position)
write-takes columns c s some bare room print plain measures rows = λ base t shown.
    let utf8 = IsUtf8-from_ascii s.text (IsAscii-plain s.text plain) in
    let ends : s.position ≡ measured columns s.text (measured columns s.prompt corner) =
    measures.ends ∙ ap (shown_end (measured columns) s.origin s.text) bare ∙ ap (measured columns s.text) measures.begins in
    subst (λ b. IsShown columns base s.prompt (s.text ++ c ∷ []) b (measured columns (c ∷ []) s.position) (sent columns t (cleaned (c ∷ []) ++ wrap (measured columns) (c ∷ []) s.position)))
    (sym bare)
    (parts-show.writes columns base c s.prompt s.text s.position t utf8 print (graphemes-push s.text c plain print) ends room rows
    (subst (λ b. IsShown columns base s.prompt s.text b s.position t) bare shown))

-- what is known stays, where it goes on with what is shown
pub wrote : {O : Type 0} (contents : O → Option (List ℕ)) (columns columns' : ℕ) (whole plain goes whole' : Bool) (end : Position) (out out' : O) (s s' : Screen) (buf bytes : List ℕ)
    → 0 < columns → columns' ≡ columns → plain ≡ list_all is_plain s.text → goes ≡ follows columns s end buf → whole' ≡ (whole && (plain && goes))
    → s' ≡ written_on columns s buf → Appends (contents out) (contents out') bytes → bytes ≡ cleaned buf ++ wrap (measured columns) buf s.position
    → TellsKnown contents columns whole end out s → TellsKnown contents columns' whole' (measured columns buf s.position) out' s'
wrote {O} contents columns columns' whole plain goes whole' end out out' s s' buf bytes some same_columns plain_is goes_is whole_is is grows bytes_are told =
    let end' = measured columns buf s.position in
    subst (λ k. TellsKnown contents k whole' end' out' s') (sym same_columns)
    (subst (λ z. TellsKnown contents columns whole' end' out' z) (sym is)
    (subst (λ b. TellsKnown contents columns b end' out' (written_on columns s buf)) (sym whole_is)
    (goes-on contents columns whole (whole && (plain && goes)) end end' out out' s (written_on columns s buf) bytes grows step told)))
  where
    step : is_known columns (whole && (plain && goes)) (measured columns buf s.position) (written_on columns s buf) ≡ true
        → EndsInRows (measured columns) (written_on columns s buf)
        → (is_known columns whole end s ≡ true) × EndsInRows (measured columns) s × Takes columns s (written_on columns s buf) bytes
    step known rows =
        let after = known-measures columns (whole && (plain && goes)) (measured columns buf s.position) (written_on columns s buf) known in
        let all = and_parts whole (plain && goes) after.0 in
        let both = and_parts plain goes all.1 in
        let found = follows-is columns s end buf (sym goes_is ∙ both.1) in
        let c = found.char in
        let all_plain : list_all is_plain s.text ≡ true = sym plain_is ∙ both.0 in
        let room : s.position.col < columns = omega (arith, found.room, ap (λ (q : Position). q.col) found.at) in
        let measures : Measures columns (measured columns (c ∷ []) s.position) (written_on columns s (c ∷ [])) =
        subst (λ b. Measures columns (measured columns b s.position) (written_on columns s b)) found.one after.1 in
        let last : (measured columns (c ∷ []) s.position).row < 65535 =
        omega (arith, rows, ap (λ (q : Position). q.row) after.1.ends, ap (λ (b : List ℕ). (measured columns b s.position).row) found.one) in
        let before = unwritten columns c s some found.bare room found.print all_plain measures last in
        let known_before : is_known columns true s.position s ≡ true = measures-known columns s.position s before in (
          ap₂ (λ b p. is_known columns b p s) all.0 (sym found.at) ∙ known_before,
          omega (arith, measured-row columns s.position (c ∷ []) last, ap (λ (q : Position). q.row) before.ends),
          subst (λ b. Takes columns s (written_on columns s buf) b) (sym bytes_are)
              (subst (λ b. Takes columns s (written_on columns s b) (cleaned b ++ wrap (measured columns) b s.position)) (sym found.one)
              (write-takes columns c s some found.bare room found.print all_plain before last)),
        )

-- with a column left behind it, it is written as it is
pub typed-bytes : (columns : ℕ) (s : Screen) (end : Position) (buf : List ℕ) → follows columns s end buf ≡ true → end.col + 1 < columns
    → cleaned buf ++ wrap (measured columns) buf s.position ≡ buf
typed-bytes columns s end buf goes room =
    let found = follows-is columns s end buf goes in
    let c = found.char in
    let free : s.position.col + 1 < columns = omega (arith, room, ap (λ (q : Position). q.col) found.at) in
    let at = measured-one columns c s.position free found.print in
    let on : ((measured columns (c ∷ []) s.position).col == 0) ≡ false = grind (arith, nat_tests, ap (λ (q : Position). q.col) at) in
    subst (λ b. cleaned b ++ wrap (measured columns) b s.position ≡ b) (sym found.one)
    (rw (cleaned_printable (c ∷ []) (rw found.print refl), on) refl)

-- and the text stays printable ASCII and newlines
pub typed-plain : (columns : ℕ) (s : Screen) (end : Position) (buf : List ℕ) → follows columns s end buf ≡ true → list_all is_plain s.text ≡ true
    → list_all is_plain (s.text ++ buf) ≡ true
typed-plain columns s end buf goes plain =
    let found = follows-is columns s end buf goes in
    let c = found.char in
    let one : list_all is_plain (c ∷ []) ≡ true = by_print (c == 10) (is_printable c) found.print in
    subst (λ b. list_all is_plain (s.text ++ b) ≡ true) (sym found.one)
    (list_all-append is_plain s.text (c ∷ []) ∙ ap₂ (λ x y. x && y) plain one)
  where
    by_print : (newline print : Bool) → print ≡ true → ((newline || print) && true) ≡ true
    by_print true print is = refl
    by_print false print is = rw is refl

-- what follows from a success
pub when-ok : {T E A : Type 0} (result : Result T E) (B : Type 0) → OnOk result A → (A → B) → OnOk result B
when-ok (Ok _) B holds then_so = then_so holds
when-ok (Err _) B holds then_so = tt

-- what is known of it stays
pub typed-whole : (whole plain whole' : Bool) → plain ≡ true → whole' ≡ whole → whole' ≡ (whole && (plain && true))
typed-whole whole plain whole' is same = same ∙ by_whole whole ∙ ap (λ b. whole && (b && true)) (sym is) where
  by_whole : (b : Bool) → b ≡ (b && (true && true))
  by_whole true = refl
  by_whole false = refl

-- a test that holds where another one does, and the other way round, is that one
both-ways : (a b : Bool) → (a ≡ true → b ≡ true) → (b ≡ true → a ≡ true) → a ≡ b
both-ways true b to from = sym (to refl)
both-ways false true to from = from refl
both-ways false false to from = refl

-- with room for it, a character keeps what is known as it is
pub room-same : (columns c : ℕ) (whole plain goes whole' : Bool) (end : Position) (surface : Surface) (s : Screen) → surface.measure ≡ measured columns
    → surface.columns ≡ columns → 0 < columns → is_printable c ≡ true → HasRoom surface s → plain ≡ list_all is_plain s.text → goes ≡ follows columns s end (c ∷ [])
    → whole' ≡ (whole && (plain && goes))
    → is_known columns whole' (measured columns (c ∷ []) s.position) (written_on columns s (c ∷ [])) ≡ is_known columns whole end s
room-same columns c whole plain goes whole' end surface s measure_is columns_is some print room plain_is goes_is whole_is =
    ap (λ b. is_known columns b (measured columns (c ∷ []) s.position) (written_on columns s (c ∷ []))) whole_is
    ∙ both-ways _ _ to from
  where
    at_end : s.position ≡ measured columns s.text s.origin
    at_end = room.at_end ∙ ap (λ m. m s.text s.origin) measure_is

    free : s.position.col < columns
    free = omega (arith, room.free, columns_is)

    as_bare : (text : List ℕ) → shown_end (measured columns) s.origin text s.behind ≡ measured columns text s.origin
    as_bare text = ap (shown_end (measured columns) s.origin text) room.bare

    to : is_known columns (whole && (plain && goes)) (measured columns (c ∷ []) s.position) (written_on columns s (c ∷ [])) ≡ true → is_known columns whole end s ≡ true
    to known =
        let after = known-measures columns (whole && (plain && goes)) (measured columns (c ∷ []) s.position) (written_on columns s (c ∷ [])) known in
        let all = and_parts whole (plain && goes) after.0 in
        let found = follows-is columns s end (c ∷ []) (sym goes_is ∙ (and_parts plain goes all.1).1) in
        ap (λ b. is_known columns b end s) all.0
        ∙ measures-known columns end s (record { ends = sym found.at ∙ at_end ∙ sym (as_bare s.text); begins = after.1.begins })

    from : is_known columns whole end s ≡ true → is_known columns (whole && (plain && goes)) (measured columns (c ∷ []) s.position) (written_on columns s (c ∷ [])) ≡ true
    from known =
        let before = known-measures columns whole end s known in
        let begins : s.origin ≡ measured columns s.prompt corner = before.1.begins in
        let in_row : s.origin.col < columns = omega (arith, measured-below columns s.prompt corner some, ap (λ (q : Position). q.col) begins) in
        let same : s.position ≡ end = at_end ∙ sym (as_bare s.text) ∙ sym before.1.ends in
        let in_end : nat_lt end.col columns ≡ true = grind (arith, nat_tests, free, ap (λ (q : Position). q.col) same) in
        let goes_on : goes ≡ true = goes_is
        ∙ ap₂ (λ a b. a && b) (ap (λ o. not (is_some o)) room.bare)
        (ap₂ (λ a b. a && b) (place-same s.position end same) (ap₂ (λ a b. a && b) in_end (ap (λ b. b && true) print))) in
        let ends : measured columns (c ∷ []) s.position ≡ measured columns (s.text ++ c ∷ []) s.origin =
        (EndsPlain-append columns s.text (c ∷ []) s.origin s.position (room.plain, in_row, at_end) (ap (λ b. b && true) print)).2 in
        ap₂ (λ a b. is_known columns (a && b) (measured columns (c ∷ []) s.position) (written_on columns s (c ∷ []))) before.0
        (ap₂ (λ a b. a && b) (plain_is ∙ room.plain) goes_on)
        ∙ measures-known columns (measured columns (c ∷ []) s.position) (written_on columns s (c ∷ []))
        (record { ends = ends ∙ sym (as_bare (s.text ++ c ∷ [])); begins = begins })

-- so it is the character that is shown
pub room-shown : (columns columns' c : ℕ) (whole plain goes whole' : Bool) (end end' : Position) (surface : Surface) (s s' : Screen) (buf : List ℕ)
    → surface.measure ≡ measured columns → surface.columns ≡ columns → 0 < columns → columns' ≡ columns → buf ≡ c ∷ [] → is_printable c ≡ true
    → HasRoom surface (known_screen columns whole end s) → plain ≡ list_all is_plain s.text → goes ≡ follows columns s end buf
    → whole' ≡ (whole && (plain && goes)) → end' ≡ measured columns buf s.position → s' ≡ written_on columns s buf
    → known_screen columns' whole' end' s' ≡ with_shown (known_screen columns whole end s) c
room-shown columns columns' c whole plain goes whole' end end' surface s s' buf measure_is columns_is some same_columns buf_is print room plain_is goes_is whole_is end_is is =
    let has_room : HasRoom surface s = record { plain = room.plain; bare = room.bare; at_end = room.at_end; free = room.free } in
    let free : s.position.col + 1 < columns = omega (arith, room.free, columns_is) in
    ap₂ (λ k e. known_screen k whole' e s') same_columns (end_is ∙ ap (λ b. measured columns b s.position) buf_is)
    ∙ ap (known_screen columns whole' (measured columns (c ∷ []) s.position)) (is ∙ ap (written_on columns s) buf_is)
    ∙ ap₂ (λ (p : Position) k. record s { position = p; text = s.text ++ c ∷ []; known = k })
    (measured-one columns c s.position free print)
    (room-same columns c whole plain goes whole' end surface s measure_is columns_is some print has_room plain_is (goes_is ∙ ap (follows columns s end) buf_is) whole_is)

-- ---- the rest of a row that is cleared

-- the screen without an end of its text
abbrev pub cleared_to : Screen → List ℕ → Screen
cleared_to s kept = record s { text = kept }

-- what stands in the row from the cursor on is the end of the text
gone-printable : (columns : ℕ) (s : Screen) (end : Position) (kept gone : List ℕ) → s.text ≡ kept ++ gone → RestsInRow columns s end (length gone)
    → list_all is_printable gone ≡ true
gone-printable columns s end kept gone parts rests =
    let count : length s.text - length gone ≡ length kept = omega (arith, ap length parts, length-append kept gone) in
    ap (list_all is_printable) (sym (ap₂ (λ n (t : List ℕ). drop n t) count parts ∙ drop-append_seam kept gone)) ∙ rests.printable

-- where all is as it is measured without it, it was before
uncleared : (columns : ℕ) (s : Screen) (end : Position) (kept gone : List ℕ) → 0 < columns → list_all is_plain s.text ≡ true → s.text ≡ kept ++ gone
    → RestsInRow columns s end (length gone) → Measures columns s.position (cleared_to s kept) → Measures columns end s
uncleared columns s end kept gone some plain parts rests measures =
    let begins : s.origin ≡ measured columns s.prompt corner = measures.begins in
    let in_row : s.origin.col < columns = omega (arith, measured-below columns s.prompt corner some, ap (λ (q : Position). q.col) begins) in
    let print = gone-printable columns s end kept gone parts rests in
    let kept_plain = (all_parts is_plain kept gone (ap (list_all is_plain) (sym parts) ∙ plain)).0 in
    let at : s.position ≡ measured columns kept s.origin = measures.ends ∙ ap (shown_end (measured columns) s.origin kept) rests.bare in
    let fits : s.position.col + length gone ≤ columns = omega (arith, rests.column, rests.in_row) in
    let none : length gone + 0 ≡ length gone = omega arith in
    let place : Position = record { row = s.position.row; col = s.position.col + length gone } in
    let end_is : end ≡ place = ap₂ (λ (r : ℕ) (c : ℕ). record { row = r; col = c }) rests.row (sym rests.column) in
    let in_place : (place.col == columns) ≡ false = grind (arith, nat_tests, rests.column, rests.in_row) in
    let reaches : measured columns gone s.position ≡ place =
    sym (measured-printable columns s.position gone print)
    ∙ ap (wrapped columns) (ap (λ n. columns_after columns n s.position) (sym none) ∙ columns_after-fitting columns (length gone) 0 s.position fits)
    ∙ ap (λ b. cond b (start_below place) place) in_place in
    let whole : measured columns gone s.position ≡ measured columns (kept ++ gone) s.origin =
    (EndsPlain-append columns kept gone s.origin s.position (kept_plain, in_row, at) print).2 in
    record {
      ends = end_is ∙ sym reaches ∙ whole ∙ ap (λ t. measured columns t s.origin) (sym parts) ∙ sym (ap (shown_end (measured columns) s.origin s.text) rests.bare);
      begins = begins;
    }

-- the text is shown without it
clear-takes : (columns : ℕ) (s : Screen) (end : Position) (kept gone : List ℕ) → 0 < columns → list_all is_plain s.text ≡ true → s.text ≡ kept ++ gone
    → RestsInRow columns s end (length gone) → Measures columns s.position (cleared_to s kept) → s.position.row < 65535
    → Takes columns s (cleared_to s kept) clear_row
clear-takes columns s end kept gone some plain parts rests measures last = λ base t shown.
    let all_plain = ap (list_all is_plain) (sym parts) ∙ plain in
    let plains = all_parts is_plain kept gone all_plain in
    let print = gone-printable columns s end kept gone parts rests in
    let pieces : graphemes true (kept ++ gone) ≡ graphemes true kept ++ graphemes true gone =
    clusters-plain (kept ++ gone) all_plain ∙ map-append (λ x. x ∷ []) kept gone
    ∙ ap₂ (λ a b. a ++ b) (sym (clusters-plain kept plains.0)) (sym (clusters-plain gone plains.1)) in
    let at : s.position ≡ measured columns kept (measured columns s.prompt corner) =
    measures.ends ∙ ap (shown_end (measured columns) s.origin kept) rests.bare ∙ ap (measured columns kept) measures.begins in
    let before = uncleared columns s end kept gone some plain parts rests measures in
    let ends : end ≡ measured columns (kept ++ gone) (measured columns s.prompt corner) =
    before.ends ∙ ap (shown_end (measured columns) s.origin s.text) rests.bare ∙ ap₂ (λ t o. measured columns t o) parts before.begins in
    let row : (measured columns (kept ++ gone) (measured columns s.prompt corner)).row ≡ s.position.row = ap (λ (q : Position). q.row) (sym ends) ∙ rests.row in
    let room : s.position.col < columns = omega (arith, rests.column, rests.in_row) in
    subst (λ b. IsShown columns base s.prompt kept b s.position (sent columns t clear_row)) (sym rests.bare)
    (parts-show.clears columns base s.prompt kept gone s.position t print pieces at row last room
    (subst (λ b. IsShown columns base s.prompt (kept ++ gone) b s.position t) rests.bare
    (subst (λ x. IsShown columns base s.prompt x s.behind s.position t) parts shown)))

-- what is known stays, where what is cleared is the end of the text
pub cleared : {O : Type 0} (contents : O → Option (List ℕ)) (columns columns' : ℕ) (whole plain taken whole' : Bool) (rest : Option ℕ) (end : Position) (out out' : O)
    (s s' : Screen) (loses : LosesEnd s s') → 0 < columns → columns' ≡ columns → plain ≡ list_all is_plain s.text → IfSome rest (RestsInRow columns s end)
    → (taken ≡ true → rest ≡ Some (length loses.gone)) → whole' ≡ (whole && (plain && taken)) → Appends (contents out) (contents out') clear_row
    → TellsKnown contents columns whole end out s → TellsKnown contents columns' whole' s'.position out' s'
cleared {O} contents columns columns' whole plain taken whole' rest end out out' s s' loses some same_columns plain_is rests taken_is whole_is grows told =
    let kept = s'.text in
    let gone = loses.gone in
    subst (λ k. TellsKnown contents k whole' s'.position out' s') (sym same_columns)
    (subst (λ z. TellsKnown contents columns whole' z.position out' z) (sym loses.rest)
    (subst (λ b. TellsKnown contents columns b s.position out' (cleared_to s kept)) (sym whole_is)
    (goes-on contents columns whole (whole && (plain && taken)) end s.position out out' s (cleared_to s kept) clear_row grows step told)))
  where
    step : is_known columns (whole && (plain && taken)) s.position (cleared_to s s'.text) ≡ true → EndsInRows (measured columns) (cleared_to s s'.text)
        → (is_known columns whole end s ≡ true) × EndsInRows (measured columns) s × Takes columns s (cleared_to s s'.text) clear_row
    step known rows =
        let kept = s'.text in
        let gone = loses.gone in
        let after = known-measures columns (whole && (plain && taken)) s.position (cleared_to s kept) known in
        let all = and_parts whole (plain && taken) after.0 in
        let both = and_parts plain taken all.1 in
        let all_plain : list_all is_plain s.text ≡ true = sym plain_is ∙ both.0 in
        let stands : RestsInRow columns s end (length gone) = subst (λ o. IfSome o (RestsInRow columns s end)) (taken_is both.1) rests in
        let last : s.position.row < 65535 = omega (arith, rows, ap (λ (q : Position). q.row) after.1.ends) in
        let before = uncleared columns s end kept gone some all_plain loses.parts stands after.1 in (
          ap (λ b. is_known columns b end s) all.0 ∙ measures-known columns end s before,
          omega (arith, last, stands.row, ap (λ (q : Position). q.row) before.ends),
          clear-takes columns s end kept gone some all_plain loses.parts stands after.1 last,
        )

-- where the text ends behind the cursor, a clearing keeps what is known as it is
pub clear-same : (columns : ℕ) (whole plain taken whole' : Bool) (rest : Option ℕ) (end : Position) (surface : Surface) (s : Screen) (kept gone : List ℕ)
    → surface.measure ≡ measured columns → 0 < columns → s.text ≡ kept ++ gone → list_all is_printable gone ≡ true → EndsBehind surface s (length gone)
    → plain ≡ list_all is_plain s.text → IfSome rest (RestsInRow columns s end) → ((count : ℕ) → RestsInRow columns s end count → rest ≡ Some count)
    → (taken ≡ true → rest ≡ Some (length gone)) → (rest ≡ Some (length gone) → taken ≡ true) → whole' ≡ (whole && (plain && taken))
    → is_known columns whole' s.position (cleared_to s kept) ≡ is_known columns whole end s
clear-same columns whole plain taken whole' rest end surface s kept gone measure_is some parts print behind plain_is rests found taken_is is_taken whole_is =
    ap (λ b. is_known columns b s.position (cleared_to s kept)) whole_is ∙ both-ways _ _ to from
  where
    whole_end : Position
    whole_end = measured columns s.text s.origin

    measure_at : surface.measure s.text s.origin ≡ whole_end
    measure_at = ap (λ m. m s.text s.origin) measure_is

    row : whole_end.row ≡ s.position.row
    row = ap (λ (q : Position). q.row) (sym measure_at) ∙ behind.row

    column : s.position.col + length gone ≡ whole_end.col
    column = behind.column ∙ ap (λ (q : Position). q.col) measure_at

    as_bare : (text : List ℕ) → shown_end (measured columns) s.origin text s.behind ≡ measured columns text s.origin
    as_bare text = ap (shown_end (measured columns) s.origin text) behind.bare

    to : is_known columns (whole && (plain && taken)) s.position (cleared_to s kept) ≡ true → is_known columns whole end s ≡ true
    to known =
        let after = known-measures columns (whole && (plain && taken)) s.position (cleared_to s kept) known in
        let all = and_parts whole (plain && taken) after.0 in
        let both = and_parts plain taken all.1 in
        let stands : RestsInRow columns s end (length gone) = subst (λ o. IfSome o (RestsInRow columns s end)) (taken_is both.1) rests in
        let same : end ≡ whole_end = ap₂ (λ (r : ℕ) (c : ℕ). record { row = r; col = c }) (stands.row ∙ sym row) (sym stands.column ∙ column) in
        ap (λ b. is_known columns b end s) all.0
        ∙ measures-known columns end s (record { ends = same ∙ sym (as_bare s.text); begins = after.1.begins })

    from : is_known columns whole end s ≡ true → is_known columns (whole && (plain && taken)) s.position (cleared_to s kept) ≡ true
    from known =
        let before = known-measures columns whole end s known in
        let begins : s.origin ≡ measured columns s.prompt corner = before.1.begins in
        let in_row : s.origin.col < columns = omega (arith, measured-below columns s.prompt corner some, ap (λ (q : Position). q.col) begins) in
        let same : end ≡ whole_end = before.1.ends ∙ as_bare s.text in
        let below : whole_end.col < columns = measured-below columns s.text s.origin in_row in
        let count : length s.text - length gone ≡ length kept = omega (arith, ap length parts, length-append kept gone) in
        let stands : RestsInRow columns s end (length gone) = record {
          bare = behind.bare;
          row = ap (λ (q : Position). q.row) same ∙ row;
          column = column ∙ ap (λ (q : Position). q.col) (sym same);
          in_row = omega (arith, below, ap (λ (q : Position). q.col) same);
          within = omega (arith, ap length parts, length-append kept gone);
          printable = ap (list_all is_printable) (ap₂ (λ n (t : List ℕ). drop n t) count parts ∙ drop-append_seam kept gone) ∙ print;
        } in
        let all_plain = ap (list_all is_plain) (sym parts) ∙ behind.plain in
        let kept_plain = (all_parts is_plain kept gone all_plain).0 in
        let fits : length gone ≤ (measured columns (kept ++ gone) s.origin).col = omega (arith, column, ap (λ (t : List ℕ). (measured columns t s.origin).col) parts) in
        let back : measured columns kept s.origin ≡ columns_back (length gone) (measured columns (kept ++ gone) s.origin) =
        measured_back columns (λ t. measured columns t s.origin) (λ t c plain shown. measured-push columns t c s.origin in_row plain shown) gone kept kept_plain print fits in
        let place : s.position ≡ columns_back (length gone) whole_end =
        ap₂ (λ (r : ℕ) (c : ℕ). record { row = r; col = c }) (sym row) (let col : s.position.col ≡ whole_end.col - length gone = omega (arith, column) in col) in
        let ends : s.position ≡ measured columns kept s.origin = place ∙ ap (λ t. columns_back (length gone) (measured columns t s.origin)) parts ∙ sym back in
        ap₂ (λ a b. is_known columns (a && b) s.position (cleared_to s kept)) before.0
        (ap₂ (λ a b. a && b) (plain_is ∙ behind.plain) (is_taken (found (length gone) stands)))
        ∙ measures-known columns s.position (cleared_to s kept) (record { ends = ends ∙ sym (as_bare kept); begins = begins })

-- so it is shown without what was cleared
pub clear-shown : (columns columns' : ℕ) (whole plain taken whole' : Bool) (rest : Option ℕ) (end end' : Position) (surface : Surface) (s s' : Screen) (kept gone : List ℕ)
    → surface.measure ≡ measured columns → 0 < columns → columns' ≡ columns → s.text ≡ kept ++ gone → list_all is_printable gone ≡ true
    → EndsBehind surface (known_screen columns whole end s) (length gone)
    → plain ≡ list_all is_plain s.text → IfSome rest (RestsInRow columns s end) → ((count : ℕ) → RestsInRow columns s end count → rest ≡ Some count)
    → (taken ≡ true → rest ≡ Some (length gone)) → (rest ≡ Some (length gone) → taken ≡ true) → whole' ≡ (whole && (plain && taken)) → end' ≡ s.position
    → s' ≡ cleared_to s kept → known_screen columns' whole' end' s' ≡ record (known_screen columns whole end s) { text = kept }
clear-shown columns columns' whole plain taken whole' rest end end' surface s s' kept gone measure_is some same_columns parts print behind plain_is rests found taken_is is_taken whole_is end_is is =
    let ends_behind : EndsBehind surface s (length gone) = record { plain = behind.plain; bare = behind.bare; row = behind.row; column = behind.column } in
    ap₂ (λ k e. known_screen k whole' e s') same_columns end_is
    ∙ ap (known_screen columns whole' s.position) is
    ∙ ap (λ k. record s { text = kept; known = k })
    (clear-same columns whole plain taken whole' rest end surface s kept gone measure_is some parts print ends_behind plain_is rests found taken_is is_taken whole_is)
