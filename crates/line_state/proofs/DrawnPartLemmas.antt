-- Facts on a character that is written at the end of what is shown, and on characters that are cleared there.
use Rattle.std.proofs.Common.{◌≡◌, ℕ, ◌+◌, ◌-◌, ◌<◌, ◌≤◌, Bool, true, false, List, [], ◌∷◌, ◌++◌, length, take, drop, Option, Some, None, is_some, refl, sym, ap, ap₂, ◌∙◌, subst, arith}
use Rattle.std.specs.List.{list_all, slice_range}
use Rattle.std.proofs.lemmas.Bool.Decides.{nat_tests}
use Rattle.std.proofs.lemmas.List.{append-nil, drop-append-le, drop_all, length-append, length-drop, length-take-le, take-append-drop}
use Rattle.std.proofs.Math.Seq.{take-length}
use Rattle.line_buffer.specs.Line.{Line, inserted_at_cursor, is_at_end}
use Rattle.line_buffer.specs.Printable.{is_plain, is_printable}
use Rattle.line_buffer.specs.declared.layout.Layout.{Layout}
use Rattle.line_buffer.specs.declared.layout.Position.{Position}
use Rattle.line_keys.specs.Model.Display.{Display, IsRight, Measure, Screen, ShowsText, Surface, columns_back, columns_on, ending_at, next_column}
use Rattle.line_state.specs.ScreenState.{EndsBehind, HasRoom, with_shown}
use Rattle.line_state.specs.Shown.{IsShownPlain, KnowsEnd, StandsAtEnd}
use Rattle.line_state.proofs.PlainTextLemmas.{all_before, all_both, all_one, all_parts, fewer_at_end, measured_back, measured_on, one_on, plain_char, plain_text, taken_between}

-- behind printable ASCII and newlines, a printable character takes one column
abbrev pub TakesOneColumn : Surface → Type 0
TakesOneColumn surface = (s : List ℕ) (c : ℕ) (o : Position) → o.col < surface.columns → list_all is_plain s ≡ true → is_printable c ≡ true
    → surface.measure (s ++ c ∷ []) o ≡ next_column surface.columns (surface.measure s o)

-- what is none is nothing
nothing_behind : (behind : Option (List ℕ)) → is_some behind ≡ false → behind ≡ None
nothing_behind None none = refl
nothing_behind (Some text) none = absurd (cc)

-- a display with these parts
abbrev display_of : Surface → List ℕ → Position → Layout → Screen → Bool → Display
display_of surface prompt prompt_end layout screen lit =
    record { surface = surface; prompt = prompt; prompt_end = prompt_end; layout = layout; screen = screen; lit = lit }

same_display : (d : Display) (surface : Surface) (prompt_end : Position) (layout : Layout) (screen : Screen)
    → d.surface ≡ surface → d.prompt_end ≡ prompt_end → d.layout ≡ layout → d.screen ≡ screen → d ≡ display_of surface d.prompt prompt_end layout screen d.lit
same_display d surface prompt_end layout screen s p l c =
    ap (λ (x : Surface). display_of x d.prompt d.prompt_end d.layout d.screen d.lit) s ∙ ap (λ (x : Position). display_of surface d.prompt x d.layout d.screen d.lit) p
    ∙ ap (λ (x : Layout). display_of surface d.prompt prompt_end x d.screen d.lit) l ∙ ap (λ (x : Screen). display_of surface d.prompt prompt_end layout x d.lit) c

-- a character written at the end of what is known to be shown is known to be shown
module _ (surface : Surface) (screen screen' : Screen) (layout : Layout) (printable printable' c : ℕ) (one : TakesOneColumn surface) (stands : StandsAtEnd surface screen layout printable)
    (some : 0 < surface.columns) (print : is_printable c ≡ true) (free : layout.cursor.col + 1 < surface.columns) (written : HasRoom surface screen → screen' ≡ with_shown screen c)
    (more : printable' ≤ printable + 1) where
  shown : IsShownPlain surface screen layout printable
  shown = stands.knows.shown

  ends : layout.cursor ≡ surface.measure screen.text layout.prompt_size
  ends = stands.at_end ∙ shown.3 stands.knows.bare

  place : screen.position ≡ surface.measure screen.text screen.origin
  place = stands.knows.placed ∙ ends ∙ ap (surface.measure screen.text) (sym shown.1)

  is_written : screen' ≡ with_shown screen c
  is_written = written (record {
    plain = shown.0;
    bare = nothing_behind screen.behind (sym shown.6 ∙ stands.knows.bare);
    at_end = place;
    free = omega (arith, ap (λ (p : Position). p.col) stands.knows.placed, free);
  })

  pub written_place : screen'.position ≡ columns_on 1 layout.cursor
  written_place = ap (λ (s : Screen). s.position) is_written ∙ ap (columns_on 1) stands.knows.placed

  next : columns_on 1 layout.cursor ≡ surface.measure (screen.text ++ c ∷ []) layout.prompt_size
  next = sym (one screen.text c layout.prompt_size (shown.2 some) shown.0 print ∙ ap (next_column surface.columns) (sym ends) ∙ one_on surface.columns layout.cursor free)

  longer : length (screen.text ++ c ∷ []) ≡ length screen.text + 1
  longer = length-append screen.text (c ∷ [])

  at_end : list_all is_printable (drop (length (screen.text ++ c ∷ []) - (printable + 1)) (screen.text ++ c ∷ [])) ≡ true
  at_end =
      ap (λ (n : ℕ). list_all is_printable (drop n (screen.text ++ c ∷ []))) (omega (arith, longer))
      ∙ ap (list_all is_printable) (drop-append-le (length screen.text - printable) screen.text (c ∷ []) (omega arith))
      ∙ all_both is_printable (drop (length screen.text - printable) screen.text) (c ∷ []) shown.5 (all_one is_printable c print)

  pub written_shown : IsShownPlain surface screen' (ending_at (columns_on 1 layout.cursor) layout) printable'
  written_shown = subst (λ (s : Screen). IsShownPlain surface s (ending_at (columns_on 1 layout.cursor) layout) printable') (sym is_written) (
    all_both is_plain screen.text (c ∷ []) shown.0 (all_one is_plain c (plain_char c print)),
    shown.1,
    shown.2,
    (λ bare. next),
    omega (arith, more, longer, shown.4),
    fewer_at_end is_printable printable' (printable + 1) (screen.text ++ c ∷ []) more (omega (arith, longer, shown.4)) at_end,
    shown.6,
  )

abbrev line_of : List ℕ → ℕ → Line
line_of text cursor = record { text = text; cursor = cursor }

-- a text that comes in at the end of a line
inserted_at_end : (line : Line) (t : List ℕ) → is_at_end line ≡ true → inserted_at_cursor line t ≡ record { text = line.text ++ t; cursor = length (line.text ++ t) }
inserted_at_end line t end =
    let at : line.cursor ≡ length line.text = grind (arith, nat_tests, end) in
    let text : take line.cursor line.text ++ t ++ drop line.cursor line.text ≡ line.text ++ t =
    ap₂ (λ (front behind : List ℕ). front ++ t ++ behind) (ap (λ (n : ℕ). take n line.text) at ∙ take-length line.text) (drop_all line.cursor line.text (omega (arith, at)))
    ∙ append-nil (line.text ++ t) in
    let cursor : line.cursor + length t ≡ length (line.text ++ t) = omega (arith, at, length-append line.text t) in
    ap₂ (λ (text : List ℕ) (cursor : ℕ). line_of text cursor) text cursor

-- a character written at the end of a plain line for which the layout is right leaves it right
pub written_right : (line : Line) (display display' : Display) (c : ℕ) → TakesOneColumn display.surface → is_at_end line ≡ true → list_all is_plain line.text ≡ true
    → is_printable c ≡ true → display.layout.cursor.col + 1 < display.surface.columns → display.prompt_end.col < display.surface.columns → display.layout.has_info ≡ false
    → (HasRoom display.surface display.screen → display'.screen ≡ with_shown display.screen c)
    → display'.layout ≡ ending_at (columns_on 1 display.layout.cursor) display.layout → display'.surface ≡ display.surface → display'.prompt ≡ display.prompt → display'.prompt_end ≡ display.prompt_end
    → IsRight display line → IsRight display' (inserted_at_cursor line (c ∷ []))
written_right line display display' c one end plain print free below bare written layout surface prompt prompt_end right =
    subst (λ (l : Line). IsRight display' l) (sym (inserted_at_end line (c ∷ []) end))
    (subst (λ (d : Display). IsRight d left) (sym display_is) (record {
      drawn = record {
        prompt = right.drawn.prompt;
        ends = λ bare. next;
        mode = right.drawn.mode;
        position = ap (columns_on 1) right.drawn.position;
        prompt_text = right.drawn.prompt_text ∙ sym prompt;
        shows = ap (λ (s : List ℕ). s ++ c ∷ []) right.drawn.shows;
        origin = right.drawn.origin;
        behind = right.drawn.behind;
        known = right.drawn.known;
      };
      cursor = next ∙ ap (λ (s : List ℕ). measure s display.prompt_end) (sym (take-length (line.text ++ c ∷ [])));
    }))
  where
    measure : Measure
    measure = display.surface.measure

    left : Line
    left = record { text = line.text ++ c ∷ []; cursor = length (line.text ++ c ∷ []) }

    at : take line.cursor line.text ≡ line.text
    at = let n : line.cursor ≡ length line.text = grind (arith, nat_tests, end) in ap (λ (n : ℕ). take n line.text) n ∙ take-length line.text

    ends : display.layout.cursor ≡ measure line.text display.prompt_end
    ends = right.cursor ∙ ap (λ (s : List ℕ). measure s display.prompt_end) at

    place : display.screen.position ≡ measure display.screen.text display.screen.origin
    place = right.drawn.position ∙ ends ∙ ap₂ measure (sym right.drawn.shows) (sym right.drawn.origin)

    is_written : display'.screen ≡ with_shown display.screen c
    is_written = written (record {
      plain = ap (list_all is_plain) right.drawn.shows ∙ plain;
      bare = nothing_behind display.screen.behind (sym right.drawn.behind ∙ bare);
      at_end = place;
      free = omega (arith, ap (λ (p : Position). p.col) right.drawn.position, free);
    })

    next : columns_on 1 display.layout.cursor ≡ measure (line.text ++ c ∷ []) display.prompt_end
    next = sym (one line.text c display.prompt_end below plain print ∙ ap (next_column display.surface.columns) (sym ends) ∙ one_on display.surface.columns display.layout.cursor free)

    display_is : display' ≡ display_of display.surface display'.prompt display.prompt_end (ending_at (columns_on 1 display.layout.cursor) display.layout) (with_shown display.screen c) display'.lit
    display_is = same_display display' _ _ _ _ surface prompt_end layout is_written

-- printable characters that are cleared at the end of what is known to be shown
module _ (surface : Surface) (screen screen' : Screen) (layout : Layout) (printable count : ℕ) (one : TakesOneColumn surface) (some : 0 < surface.columns)
    (knows : KnowsEnd surface screen layout printable count) (fits : count ≤ layout.end.col) (placed : layout.cursor ≡ columns_back count layout.end)
    (cleared : (kept gone : List ℕ) → screen.text ≡ kept ++ gone → list_all is_printable gone ≡ true → EndsBehind surface screen (length gone) → screen' ≡ record screen { text = kept }) where
  known : IsShownPlain surface screen layout printable
  known = knows.shown

  abbrev kept : List ℕ
  kept = take (length screen.text - count) screen.text

  abbrev gone : List ℕ
  gone = drop (length screen.text - count) screen.text

  both : kept ++ gone ≡ screen.text
  both = take-append-drop (length screen.text - count) screen.text

  gone_length : length gone ≡ count
  gone_length = omega (arith, length-drop (length screen.text - count) screen.text, known.4, knows.enough)

  kept_length : length kept ≡ length screen.text - count
  kept_length = length-take-le (length screen.text - count) screen.text (omega arith)

  gone_printable : list_all is_printable gone ≡ true
  gone_printable = fewer_at_end is_printable count printable screen.text knows.enough known.4 known.5

  kept_plain : list_all is_plain kept ≡ true
  kept_plain = all_before is_plain (length screen.text - count) screen.text known.0

  end_is : layout.end ≡ surface.measure (kept ++ gone) layout.prompt_size
  end_is = known.3 knows.bare ∙ ap (λ (s : List ℕ). surface.measure s layout.prompt_size) (sym both)

  back : surface.measure kept layout.prompt_size ≡ layout.cursor
  back =
      measured_back surface.columns (λ (s : List ℕ). surface.measure s layout.prompt_size) (λ s c plain print. one s c layout.prompt_size (known.2 some) plain print) gone kept kept_plain gone_printable
      (omega (arith, gone_length, fits, ap (λ (p : Position). p.col) end_is))
      ∙ ap₂ columns_back gone_length (sym end_is) ∙ sym placed

  there : surface.measure screen.text screen.origin ≡ layout.end
  there = ap₂ surface.measure (sym both) known.1 ∙ sym end_is

  behind : EndsBehind surface screen (length gone)
  behind = record {
    plain = known.0;
    bare = nothing_behind screen.behind (sym known.6 ∙ knows.bare);
    row = ap (λ (p : Position). p.row) there ∙ ap (λ (p : Position). p.row) (sym placed) ∙ ap (λ (p : Position). p.row) (sym knows.placed);
    column = omega (arith, gone_length, fits, ap (λ (p : Position). p.col) there, ap (λ (p : Position). p.col) placed, ap (λ (p : Position). p.col) knows.placed);
  }

  is_cleared : screen' ≡ record screen { text = kept }
  is_cleared = cleared kept gone (sym both) gone_printable behind

  left_printable : list_all is_printable (drop (length kept - (printable - count)) kept) ≡ true
  left_printable =
      (all_parts is_printable (drop (length kept - (printable - count)) kept) gone
      (ap (list_all is_printable) (sym (drop-append-le (length kept - (printable - count)) kept gone (omega arith)))
      ∙ ap₂ (λ (n : ℕ) (s : List ℕ). list_all is_printable (drop n s)) (omega (arith, kept_length, known.4, knows.enough)) both ∙ known.5)).0

  pub cleared_shown : IsShownPlain surface screen' (record layout { end = layout.cursor }) (printable - count)
  cleared_shown = subst (λ (s : Screen). IsShownPlain surface s (record layout { end = layout.cursor }) (printable - count)) (sym is_cleared) (
    kept_plain,
    known.1,
    known.2,
    (λ bare. sym back),
    omega (arith, kept_length, known.4, knows.enough),
    left_printable,
    known.6,
  )

-- printable characters that are cleared at the end of a text that is shown leave the layout right for what is left of it
pub cleared_right : (display display' : Display) (front behind : List ℕ) (count : ℕ) → TakesOneColumn display.surface → display.prompt_end.col < display.surface.columns
    → count ≤ display.layout.end.col → display.layout.cursor ≡ columns_back count display.layout.end
    → ((front behind : List ℕ) → display.screen.text ≡ front ++ behind → list_all is_printable behind ≡ true → EndsBehind display.surface display.screen (length behind)
    → display'.screen ≡ record display.screen { text = front })
    → display'.layout ≡ record display.layout { end = display.layout.cursor } → display'.surface ≡ display.surface → display'.prompt ≡ display.prompt → display'.prompt_end ≡ display.prompt_end
    → list_all is_plain front ≡ true → list_all is_printable behind ≡ true → length behind ≡ count → display.layout.has_info ≡ false
    → ShowsText display (front ++ behind) → IsRight display' (record { text = front; cursor = length front })
cleared_right display display' front behind count one below fits placed cleared layout surface prompt prompt_end plain print is bare shows =
    subst (λ (d : Display). IsRight d (record { text = front; cursor = length front })) (sym display_is) (record {
      drawn = record {
        prompt = shows.prompt;
        ends = λ none. sym back;
        mode = shows.mode;
        position = shows.position;
        prompt_text = shows.prompt_text ∙ sym prompt;
        shows = refl;
        origin = shows.origin;
        behind = shows.behind;
        known = shows.known;
      };
      cursor = sym back ∙ ap (λ (s : List ℕ). display.surface.measure s display.prompt_end) (sym (take-length front));
    })
  where
    ends : display.layout.end ≡ display.surface.measure (front ++ behind) display.prompt_end
    ends = shows.ends bare

    back : display.surface.measure front display.prompt_end ≡ display.layout.cursor
    back =
        measured_back display.surface.columns (λ (s : List ℕ). display.surface.measure s display.prompt_end) (λ s c p q. one s c display.prompt_end below p q) behind front plain print
        (omega (arith, is, fits, ap (λ (p : Position). p.col) ends))
        ∙ ap₂ columns_back is (sym ends) ∙ sym placed

    there : display.surface.measure display.screen.text display.screen.origin ≡ display.layout.end
    there = ap₂ display.surface.measure shows.shows shows.origin ∙ sym ends

    ends_behind : EndsBehind display.surface display.screen (length behind)
    ends_behind = record {
      plain = ap (list_all is_plain) shows.shows ∙ all_both is_plain front behind plain (plain_text behind print);
      bare = nothing_behind display.screen.behind (sym shows.behind ∙ bare);
      row = ap (λ (p : Position). p.row) there ∙ ap (λ (p : Position). p.row) (sym placed) ∙ ap (λ (p : Position). p.row) (sym shows.position);
      column = omega (arith, is, fits, ap (λ (p : Position). p.col) there, ap (λ (p : Position). p.col) placed, ap (λ (p : Position). p.col) shows.position);
    }

    is_cleared : display'.screen ≡ record display.screen { text = front }
    is_cleared = cleared front behind shows.shows print ends_behind

    display_is : display' ≡ display_of display.surface display'.prompt display.prompt_end (record display.layout { end = display.layout.cursor }) (record display.screen { text = front }) display'.lit
    display_is = same_display display' _ _ _ _ surface prompt_end layout is_cleared

-- where the cursor of a plain line is that stands before a place, printable characters between the two, and on the row of the kept cursor
module _ (surface : Surface) (prompt_end : Position) (text between : List ℕ) (before behind : ℕ) (one : TakesOneColumn surface) (below : prompt_end.col < surface.columns)
    (ordered : before ≤ behind) (is : between ≡ slice_range text before behind) (long : length between + before ≡ behind)
    (plain : list_all is_plain text ≡ true) (print : list_all is_printable between ≡ true) where
  parts : take before text ++ between ≡ take behind text
  parts = ap (λ (s : List ℕ). take before text ++ s) is ∙ taken_between before behind text ordered

  pub back_between : (place : Position) → place ≡ surface.measure (take behind text) prompt_end → length between ≤ place.col
      → columns_back (length between) place ≡ surface.measure (take before text) prompt_end
  back_between place there fits =
      let whole : place ≡ surface.measure (take before text ++ between) prompt_end = there ∙ ap (λ (s : List ℕ). surface.measure s prompt_end) (sym parts) in
      ap (columns_back (length between)) whole
      ∙ sym (measured_back surface.columns (λ (s : List ℕ). surface.measure s prompt_end) (λ s c p q. one s c prompt_end below p q) between (take before text)
      (all_before is_plain before text plain) print (omega (arith, fits, ap (λ (p : Position). p.col) whole)))

  pub on_between : (place : Position) → place ≡ surface.measure (take before text) prompt_end → place.col + length between < surface.columns
      → columns_on (length between) place ≡ surface.measure (take behind text) prompt_end
  on_between place there fits =
      ap (columns_on (length between)) there
      ∙ sym (measured_on surface.columns (λ (s : List ℕ). surface.measure s prompt_end) (λ s c p q. one s c prompt_end below p q) (take before text) between
      (all_before is_plain before text plain) print (omega (arith, fits, ap (λ (p : Position). p.col) there)))
      ∙ ap (λ (s : List ℕ). surface.measure s prompt_end) parts
