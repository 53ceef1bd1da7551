-- Where it is known what a screen shows, the bytes that were written show it: call by call.
use Rattle.std.proofs.Common.{◌≡◌, ◌<◌, ℕ, ◌==◌, ◌&&◌, Bool, true, false, List, [], ◌∷◌, ◌++◌, length, Option, Some, None, get_or, unwrap_or, is_some, cond, refl, subst, sym, ap, ap₂, ◌∙◌, arith, append_assoc}
use Rattle.std.specs.Prelude.{Result, Ok, Err, OnOk, OnErr}
use Rattle.std.specs.Option.{IfSome}
use Rattle.std.specs.Io.KnownBytes.{Appends}
use Rattle.std.proofs.Math.Logic.{∥∥₁_map}
use Rattle.std.proofs.lemmas.Bool.{and_parts}
use Rattle.std.proofs.lemmas.Bool.Decides.{nat_tests}
use Rattle.std.proofs.lemmas.List.Sums.{fold-append}
use Rattle.std.specs.declared.io.traits.Write as writers
use Rattle.line_buffer.specs.declared.layout.Layout.{Layout}
use Rattle.line_buffer.specs.declared.layout.Position.{Position}
use Rattle.line_config.specs.declared.error.ReadlineError.{ReadlineError}
use Rattle.line_config.specs.declared.prompt.Prompt as prompts
use Rattle.line_keys.specs.Model.Display.{Screen, corner, shown_end}
use Rattle.line_parts.specs.declared.highlight.Highlighter as highlighters
use Rattle.line_screen.specs.Measure.{measured}
use Rattle.line_state.specs.ScreenState.{shown_by}
use Rattle.line_term.specs.Escape.{bell, move_bytes}
use Rattle.line_term.specs.Output.{Sends}
use Rattle.line_term.specs.Painted.{Handed, RedrawsInFull}
use Rattle.line_term.specs.Shown.{AreShown, AreTexts, EndsInRows, IsPlace, IsShown, TellsKnown, first_row, is_known, is_same_place}
use Rattle.line_term.specs.Terminal.{IsReady, Terminal, TurnsPage, put, seen, sent}
use Rattle.line_term.proofs.MoveLemmas.{bell-turns}
use Rattle.line_term.proofs.RedrawLemmas.{redraws-show}
use Rattle.line_term.proofs.ShownLemmas.{parts-show}

-- ---- whether it is known

pub same-place : (p q : Position) → is_same_place p q ≡ true → p ≡ q
same-place p q is =
    let both = and_parts (p.row == q.row) (p.col == q.col) is in
    let row : p.row ≡ q.row = grind (arith, nat_tests, both.0) in
    let col : p.col ≡ q.col = grind (arith, nat_tests, both.1) in
    ap₂ (λ (r : ℕ) (c : ℕ). record { row = r; col = c }) row col

pub place-same : (p q : Position) → p ≡ q → is_same_place p q ≡ true
place-same p q same =
    let row = ap (λ (r : Position). r.row) same in
    let col = ap (λ (r : Position). r.col) same in
    grind (arith, nat_tests, row, col)

-- what is shown begins and ends where it is measured to
pub record Measures (columns : ℕ) (end : Position) (s : Screen) : Type 0 where
  pub ends : end ≡ shown_end (measured columns) s.origin s.text s.behind
  pub begins : s.origin ≡ measured columns s.prompt corner

pub known-measures : (columns : ℕ) (whole : Bool) (end : Position) (s : Screen) → is_known columns whole end s ≡ true
    → (whole ≡ true) × Measures columns end s
known-measures columns whole end s is =
    let first = and_parts whole _ is in
    let both = and_parts _ _ first.1 in
    (first.0, record { ends = same-place end _ both.0; begins = same-place s.origin _ both.1 })

pub measures-known : (columns : ℕ) (end : Position) (s : Screen) → Measures columns end s → is_known columns true end s ≡ true
measures-known columns end s measures =
    ap₂ (λ a b. a && b) (place-same end _ measures.ends) (place-same s.origin _ measures.begins)

-- ---- bytes that are written

-- a screen is shown on a terminal, on rows from a base on
abbrev pub On : ℕ → ℕ → Screen → Terminal → Type 0
On columns base s t = IsShown columns base s.prompt s.text s.behind s.position t

-- bytes take what is shown from one screen to another
abbrev pub Takes : ℕ → Screen → Screen → List ℕ → Type 0
Takes columns s s' bytes = (base : ℕ) (t : Terminal) → On columns base s t → On columns base s' (sent columns t bytes)

-- bytes show a screen on each terminal that is ready for them
abbrev pub Begin : ℕ → Screen → List ℕ → Type 0
Begin columns s bytes = (t : Terminal) → IsReady t → (base : ℕ) × On columns base s (sent columns t bytes)

grown : (old new : Option (List ℕ)) (bytes written : List ℕ) → Appends old new bytes → is_some old ≡ true → new ≡ Some written
    → (was : List ℕ) × (old ≡ Some was) × (written ≡ was ++ bytes)
grown None new bytes written grows known is = cc
grown (Some xs) None bytes written grows known is = absurd grows
grown (Some xs) (Some ys) bytes written grows known is = (xs, refl, sym (ap (λ o. unwrap_or o []) is) ∙ grows)

extended : (columns : ℕ) (was bytes : List ℕ) (s s' : Screen) → Takes columns s s' bytes → AreShown columns was s → AreShown columns (was ++ bytes) s'
extended columns was bytes s s' takes shown = record {
  front = shown.front;
  bytes = shown.bytes ++ bytes;
  parts = ap (λ (w : List ℕ). w ++ bytes) shown.parts ∙ append_assoc shown.front shown.bytes bytes;
  shows = λ t ready.
      let from = shown.shows t ready in (
        from.0,
        subst (On columns from.0 s') (sym (fold-append (put columns) t shown.bytes bytes)) (takes from.0 (sent columns t shown.bytes) from.1),
      );
}

-- bytes that are known to follow
pub goes-on : {O : Type 0} (contents : O → Option (List ℕ)) (columns : ℕ) (whole whole' : Bool) (end end' : Position) (out out' : O) (s s' : Screen) (bytes : List ℕ)
    → Appends (contents out) (contents out') bytes
    → (is_known columns whole' end' s' ≡ true → EndsInRows (measured columns) s' → (is_known columns whole end s ≡ true) × EndsInRows (measured columns) s × Takes columns s s' bytes)
    → TellsKnown contents columns whole end out s → TellsKnown contents columns whole' end' out' s'
goes-on contents columns whole whole' end end' out out' s s' bytes grows step told = λ known rows all written is.
    let from = step known rows in
    let was = grown (contents out) (contents out') bytes written grows (all out) is in
    ∥∥₁_map (told from.0 from.1 all was.0 was.1)
    (λ shown. subst (λ w. AreShown columns w s') (sym was.2) (extended columns was.0 bytes s s' from.2 shown))

-- bytes that begin anew
pub begins-anew : {O : Type 0} (contents : O → Option (List ℕ)) (columns : ℕ) (whole : Bool) (end : Position) (out out' : O) (s : Screen) (bytes : List ℕ)
    → Appends (contents out) (contents out') bytes
    → (is_known columns whole end s ≡ true → EndsInRows (measured columns) s → Begin columns s bytes)
    → TellsKnown contents columns whole end out' s
begins-anew contents columns whole end out out' s bytes grows begin = λ known rows all written is.
    let was = grown (contents out) (contents out') bytes written grows (all out) is in
    ∣ record { front = was.0; bytes = bytes; parts = was.2; shows = begin known rows } ∣₁

-- nothing is known where not all was written
pub not-whole : {O : Type 0} (contents : O → Option (List ℕ)) (columns : ℕ) (whole : Bool) (end : Position) (out : O) (s : Screen) → whole ≡ false
    → TellsKnown contents columns whole end out s
not-whole contents columns whole end out s part = λ known. absurd (let first = (and_parts whole _ known).0 in cc)

-- and nothing is said where no bytes are known
pub none-known : {O : Type 0} (contents : O → Option (List ℕ)) (columns : ℕ) (whole : Bool) (end : Position) (out : O) (s : Screen)
    → ((any : O) → contents any ≡ None) → TellsKnown contents columns whole end out s
none-known contents columns whole end out s none = λ known rows all. absurd (let one = all out in let other = none out in cc)

-- bytes that change nothing
pub stays : (columns : ℕ) (s : Screen) (bytes : List ℕ) → TurnsPage (λ page. page) bytes → Takes columns s s bytes
stays columns s bytes turns = λ base t shown. record {
  page = shown.page;
  shows = turns columns t shown.page shown.shows;
  at = shown.at;
  cells = shown.cells;
}

pub stays-known : {O : Type 0} (contents : O → Option (List ℕ)) (columns : ℕ) (whole : Bool) (end : Position) (out out' : O) (s : Screen) (bytes : List ℕ)
    → TurnsPage (λ page. page) bytes → Appends (contents out) (contents out') bytes
    → TellsKnown contents columns whole end out s → TellsKnown contents columns whole end out' s
stays-known contents columns whole end out out' s bytes turns grows =
    goes-on contents columns whole whole end end out out' s s bytes grows (λ known rows. (known, rows, stays columns s bytes turns))

-- ---- bytes that are sent

-- where they were not sent whole, nothing is known
pub when-sent : {O : Type 0} (w : writers.Ghosts O) (columns : ℕ) (whole whole' : Bool) (end : Position) (out out' : O) (s : Screen) (bytes : List ℕ)
    (result : Result (Unit {0}) ReadlineError) (count more : ℕ) → Sends w result out out' count more bytes
    → OnOk result (whole' ≡ whole) → OnErr result (whole' ≡ false)
    → (whole' ≡ whole → Appends (w.contents out) (w.contents out') bytes → TellsKnown w.contents columns whole' end out' s)
    → TellsKnown w.contents columns whole' end out' s
when-sent w columns whole whole' end out out' s bytes (Ok _) count more sends same part goes = goes same sends.written
when-sent w columns whole whole' end out out' s bytes (Err e) count more sends same part goes = not-whole w.contents columns whole' end out' s part

-- what changes nothing, and what is known stays where it was sent
pub sent-aside : {O : Type 0} (w : writers.Ghosts O) (columns : ℕ) (whole whole' : Bool) (end : Position) (out out' : O) (s : Screen) (bytes : List ℕ)
    (result : Result (Unit {0}) ReadlineError) (count more : ℕ) → TurnsPage (λ page. page) bytes → Sends w result out out' count more bytes
    → OnOk result (whole' ≡ whole) → OnErr result (whole' ≡ false)
    → TellsKnown w.contents columns whole end out s → TellsKnown w.contents columns whole' end out' s
sent-aside w columns whole whole' end out out' s bytes result count more turns sends same part told =
    when-sent w columns whole whole' end out out' s bytes result count more sends same part
    (λ is grows. subst (λ b. TellsKnown w.contents columns b end out' s) (sym is) (stays-known w.contents columns whole end out out' s bytes turns grows told))

-- each beginning of a bell changes nothing
bell-first : (first left : List ℕ) → bell ≡ first ++ left → TurnsPage (λ page. page) first
bell-first [] left is = λ columns t page shows. shows
bell-first (c ∷ []) left is = subst (λ (x : ℕ). TurnsPage (λ page. page) (x ∷ [])) (ap (λ (xs : List ℕ). get_or xs 0 0) is) bell-turns
bell-first (c ∷ d ∷ cs) left is = let long : 1 ≡ length (c ∷ d ∷ cs ++ left) = ap length is in absurd (omega (arith, long))

-- so what is known stays, whether or not it was sent
pub sent-bell : {O : Type 0} (w : writers.Ghosts O) (columns : ℕ) (whole : Bool) (end : Position) (out out' : O) (s : Screen)
    (result : Result (Unit {0}) ReadlineError) (count more : ℕ) → Sends w result out out' count more bell
    → TellsKnown w.contents columns whole end out s → TellsKnown w.contents columns whole end out' s
sent-bell w columns whole end out out' s (Ok _) count more sends told = stays-known w.contents columns whole end out out' s bell bell-turns sends.written told
sent-bell w columns whole end out out' s (Err e) count more sends told =
    let part = sends.failed.1 in
    stays-known w.contents columns whole end out out' s part.first (bell-first part.first sends.failed.0 part.parts) part.appended told

-- what is asked of a terminal where this is wanted
pub turns-if : (wanted : Bool) (bytes : List ℕ) → TurnsPage (λ page. page) bytes → TurnsPage (λ page. page) (cond wanted bytes [])
turns-if true bytes turns = turns
turns-if false bytes turns = λ columns t page shows. shows

-- ---- a move

-- where it begins at the cursor, what is known stays
pub moved : {O : Type 0} (contents : O → Option (List ℕ)) (columns columns' : ℕ) (whole stands whole' : Bool) (end old new : Position) (out out' : O) (s s' : Screen)
    → 0 < columns → IsPlace old → IsPlace new → columns' ≡ columns → s' ≡ record s { position = new } → whole' ≡ (whole && stands)
    → (stands ≡ true → s.position ≡ old) → Appends (contents out) (contents out') (move_bytes old new)
    → TellsKnown contents columns whole end out s → TellsKnown contents columns' whole' end out' s'
moved {O} contents columns columns' whole stands whole' end old new out out' s s' some from to same_columns is whole_is stands_at grows told =
    subst (λ k. TellsKnown contents k whole' end out' s') (sym same_columns)
    (subst (λ z. TellsKnown contents columns whole' end out' z) (sym is)
    (subst (λ b. TellsKnown contents columns b end out' (record s { position = new })) (sym whole_is)
    (goes-on contents columns whole (whole && stands) end end out out' s (record s { position = new }) (move_bytes old new) grows step told)))
  where
    step : is_known columns (whole && stands) end (record s { position = new }) ≡ true → EndsInRows (measured columns) (record s { position = new })
        → (is_known columns whole end s ≡ true) × EndsInRows (measured columns) s × Takes columns s (record s { position = new }) (move_bytes old new)
    step known rows =
        let both = and_parts (whole && stands) _ known in
        let all = and_parts whole stands both.0 in (
          ap₂ (λ a b. a && b) all.0 both.1,
          rows,
          λ base t shown. parts-show.moves columns base s.prompt s.text s.behind old new t some from to
              (subst (λ p. IsShown columns base s.prompt s.text s.behind p t) (stands_at all.1) shown),
        )

-- ---- a full redraw

module _ {P H : Type 0} (p : prompts.Ghosts P) (h : highlighters.Ghosts H) where
  -- where it ends and begins as it is measured, it shows what it was handed
  redraw-begins : (columns : ℕ) (wanted : Bool) (old : Option Layout) (handed : Handed P H) (bytes : List ℕ) → 0 < columns
      → RedrawsInFull p h (measured columns) wanted old handed bytes → AreTexts (p.raw_text handed.prompt) handed.line.text handed.behind
      → IsPlace handed.layout.cursor → IfSome old (λ l. IsPlace l.cursor)
      → (let s = shown_by handed.layout (p.raw_text handed.prompt) handed.line handed.behind in
      is_known columns true handed.layout.end s ≡ true → EndsInRows (measured columns) s → Begin columns s bytes)
  redraw-begins columns wanted old handed bytes some redraws texts cursor from known rows t ready =
      let s = shown_by handed.layout (p.raw_text handed.prompt) handed.line handed.behind in
      let measures = (known-measures columns true handed.layout.end s known).1 in
      let page = seen columns t in
      let shown = redraws-show p h columns wanted old handed bytes t page redraws
      (record {
        some = some;
        texts = texts;
        prompt_end = measures.begins;
        ends = measures.ends;
        last_row = omega (arith, rows, ap (λ (q : Position). q.row) measures.ends);
        cursor = cursor;
      }) from (record { shown = refl; ready = ready }) in
      (first_row old page, shown.0)

  pub redrawn : {O : Type 0} (contents : O → Option (List ℕ)) (columns columns' : ℕ) (wanted : Bool) (old : Option Layout) (handed : Handed P H) (bytes : List ℕ)
      (out out' : O) (s : Screen) → 0 < columns → columns' ≡ columns → s ≡ shown_by handed.layout (p.raw_text handed.prompt) handed.line handed.behind
      → RedrawsInFull p h (measured columns) wanted old handed bytes → AreTexts (p.raw_text handed.prompt) handed.line.text handed.behind
      → IsPlace handed.layout.cursor → IfSome old (λ l. IsPlace l.cursor) → Appends (contents out) (contents out') bytes
      → TellsKnown contents columns' true handed.layout.end out' s
  redrawn contents columns columns' wanted old handed bytes out out' s some same is redraws texts cursor from grows =
      subst (λ k. TellsKnown contents k true handed.layout.end out' s) (sym same)
      (subst (λ z. TellsKnown contents columns true handed.layout.end out' z) (sym is)
      (begins-anew contents columns true handed.layout.end out out' (shown_by handed.layout (p.raw_text handed.prompt) handed.line handed.behind) bytes grows
      (redraw-begins columns wanted old handed bytes some redraws texts cursor from)))
