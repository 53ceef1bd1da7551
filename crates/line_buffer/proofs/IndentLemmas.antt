-- Lines of a text that are shifted one after another.
use Rattle.std.proofs.Common.{◌≡◌, ℕ, ◌+◌, ◌-◌, ◌<◌, ◌≤◌, suc, Bool, true, false, List, [], ◌∷◌, ◌++◌, length, take, drop, map, refl, sym, ap, ap₂, ◌∙◌, arith, inl, inr, append_assoc, length-append, length-drop}
use Rattle.std.proofs.lemmas.Bool.{cases_lt}
use Rattle.std.proofs.lemmas.Bool.Decides.{eqb_tells, leb_tells}
use Rattle.std.proofs.lemmas.List.{take_at, drop_at, drop-drop, length-map, length-replicate, length-take-le}
use Rattle.std.proofs.lemmas.List.Edits.{split_between}
use Rattle.std.proofs.lemmas.List.Splits.{slice_split-cons_yes, slice_split-cons_no, length-slice_split}
use Rattle.std.specs.Char.{is_newline}
use Rattle.std.specs.List.{join_with_byte, onto_first, prefix_len, slice_range}
use Rattle.std.specs.Prelude.{nat_lt, ◌⊎◌, replicate, if◌then◌else◌}
use Rattle.std.specs.Str.{NonePass}
use Rattle.line_buffer.specs.Changes.{Entry}
use Rattle.line_buffer.specs.Indent.{blank_front, indented, lines, moved_among, moved_in, shifted, with_indents, with_line_shifted, with_shift, with_shifts}
use Rattle.line_buffer.specs.Line.{Line, is_no_newline}
use Rattle.line_buffer.specs.Lines.{line_from}

-- ---- the lines of a text

lines_at : (line rest : List ℕ) → NonePass is_newline line → lines (line ++ 10 ∷ rest) ≡ line ∷ lines rest
lines_at [] rest h = slice_split-cons_yes is_newline 10 rest refl
lines_at (b ∷ line) rest h = slice_split-cons_no is_newline b (line ++ 10 ∷ rest) h.0 ∙ ap (onto_first b) (lines_at line rest h.1)

lines_none : (line : List ℕ) → NonePass is_newline line → lines line ≡ line ∷ []
lines_none [] h = refl
lines_none (b ∷ line) h = slice_split-cons_no is_newline b line h.0 ∙ ap (onto_first b) (lines_none line h.1)

-- a text is one line, or has a first line and more behind its newline
cut : (text : List ℕ) → NonePass is_newline text ⊎ ((line : List ℕ) × (more : List ℕ) × (text ≡ line ++ 10 ∷ more) × NonePass is_newline line)
cut [] = inl tt
cut (b ∷ text) =
    elim (eqb_tells b 10) [
      | inl is ↦ inr ([], text, ap (λ c. c ∷ text) is.1, tt)
      | inr other ↦ elim (cut text) [
        | inl none ↦ inl (other.0, none)
        | inr first ↦ inr (b ∷ first.0, first.1, ap (λ bs. b ∷ bs) first.2, (other.0, first.3))
      ]
    ]

pub prefix_at : (line rest : List ℕ) → NonePass is_newline line → prefix_len is_no_newline rest ≡ 0 → prefix_len is_no_newline (line ++ rest) ≡ length line
prefix_at [] rest h e = e
prefix_at (b ∷ line) rest h e = rw h.0 (omega (arith, prefix_at line rest h.1 e))

first_is : (line rest : List ℕ) → NonePass is_newline line → prefix_len is_no_newline rest ≡ 0 → take (prefix_len is_no_newline (line ++ rest)) (line ++ rest) ≡ line
first_is line rest h e = take_at line rest (prefix_len is_no_newline (line ++ rest)) (sym (prefix_at line rest h e))

joined_more : (x : List ℕ) (rest : List (List ℕ)) → 0 < length rest → join_with_byte 10 (x ∷ rest) ≡ x ++ (10 ∷ join_with_byte 10 rest)
joined_more x [] h = absurd (omega arith)
joined_more x (y ∷ rest) h = refl

-- ---- the cursor

-- where the cursor goes when lines from a place on are shifted
abbrev pub moved_from : Bool → ℕ → ℕ → List (List ℕ) → ℕ → ℕ
moved_from dedent amount place held cursor = if nat_lt cursor place then cursor else place + moved_among dedent amount held (cursor - place)

moved_in-fits : (dedent : Bool) (amount : ℕ) (line : List ℕ) (offset : ℕ) → offset ≤ length line → moved_in dedent amount line offset ≤ length (shifted dedent amount line)
moved_in-fits true amount line offset h = omega (arith, length-drop (length (blank_front amount line)) line)
moved_in-fits false amount line offset h = omega (arith, length-append (replicate amount 32) line, length-replicate {A = ℕ} amount 32)

module _ (dedent : Bool) (amount : ℕ) where
  pub moved_before : (place : ℕ) (held : List (List ℕ)) (cursor : ℕ) → cursor < place → moved_from dedent amount place held cursor ≡ cursor
  moved_before place held cursor h = elim (leb_tells (suc cursor) place) [ inl w ↦ rw w.0 | inr w ↦ absurd (omega arith) ]

  pub moved_behind : (place : ℕ) (held : List (List ℕ)) (cursor : ℕ) → place ≤ cursor → moved_from dedent amount place held cursor ≡ place + moved_among dedent amount held (cursor - place)
  moved_behind place held cursor h = elim (leb_tells (suc cursor) place) [ inl w ↦ absurd (omega arith) | inr w ↦ rw w.0 ]

  pub among_within : (line : List ℕ) (more : List (List ℕ)) (offset : ℕ) → offset ≤ length line → moved_among dedent amount (line ∷ more) offset ≡ moved_in dedent amount line offset
  among_within line more offset h = elim (leb_tells offset (length line)) [ inl w ↦ rw w.0 | inr w ↦ absurd (omega arith) ]

  pub among_past : (line : List ℕ) (more : List (List ℕ)) (offset : ℕ) → length line < offset
      → moved_among dedent amount (line ∷ more) offset ≡ length (shifted dedent amount line) + 1 + moved_among dedent amount more (offset - (length line + 1))
  among_past line more offset h = elim (leb_tells offset (length line)) [ inl w ↦ absurd (omega arith) | inr w ↦ rw w.0 ]

  moved_more : (place next : ℕ) (line : List ℕ) (more : List (List ℕ)) (cursor : ℕ) → next ≡ place + length (shifted dedent amount line) + 1
      → moved_from dedent amount place (line ∷ more) cursor ≡ moved_from dedent amount next more (moved_from dedent amount place (line ∷ []) cursor)
  moved_more place next line more cursor e =
      elim (cases_lt cursor place) [
        | inl before ↦
            moved_before place (line ∷ more) cursor before
            ∙ sym (ap (moved_from dedent amount next more) (moved_before place (line ∷ []) cursor before) ∙ moved_before next more cursor (omega arith))
        | inr behind ↦ elim (cases_lt (length line) (cursor - place)) [
          | inl past ↦
              let k = cursor - place - (length line + 1) in
              let s = length (shifted dedent amount line) in
              let inner : moved_from dedent amount place (line ∷ []) cursor ≡ next + k =
              moved_behind place (line ∷ []) cursor behind ∙ ap (λ m. place + m) (among_past line [] (cursor - place) past) ∙ omega arith in
              let left : next + k - next ≡ k = omega arith in
              moved_behind place (line ∷ more) cursor behind ∙ ap (λ m. place + m) (among_past line more (cursor - place) past)
              ∙ (let all : place + (s + 1 + moved_among dedent amount more k) ≡ next + moved_among dedent amount more k = omega arith in all)
              ∙ sym (ap (moved_from dedent amount next more) inner ∙ moved_behind next more (next + k) (omega arith) ∙ ap (λ i. next + moved_among dedent amount more i) left)
          | inr within ↦
              let o = cursor - place in
              let inner : moved_from dedent amount place (line ∷ []) cursor ≡ place + moved_in dedent amount line o =
              moved_behind place (line ∷ []) cursor behind ∙ ap (λ m. place + m) (among_within line [] o within) in
              moved_behind place (line ∷ more) cursor behind ∙ ap (λ m. place + m) (among_within line more o within)
              ∙ sym (ap (moved_from dedent amount next more) inner ∙ moved_before next more (place + moved_in dedent amount line o) (omega (arith, moved_in-fits dedent amount line o within)))
        ]
      ]

-- ---- one line after another

-- the lines from a place up to the text behind them are still to be shifted
pub record Shifting (dedent : Bool) (amount : ℕ) (back : List ℕ) (final : Line) (finals : List Entry) (l : Line) (entries : List Entry) (place : ℕ) : Type 0 where
  pub front : List ℕ
  pub rest : List ℕ
  pub text_is : l.text ≡ front ++ (rest ++ back)
  pub place_is : place ≡ length front
  pub text_to : final.text ≡ front ++ (join_with_byte 10 (map (shifted dedent amount) (lines rest)) ++ back)
  pub cursor_to : final.cursor ≡ moved_from dedent amount place (lines rest) l.cursor
  pub entries_to : finals ≡ with_shifts dedent amount place (lines rest) entries

pub shifting_start : (dedent : Bool) (amount : ℕ) (l : Line) (entries : List Entry) (start end : ℕ) → start ≤ end → end ≤ length l.text → start ≤ l.cursor
    → Shifting dedent amount (drop end l.text) (indented dedent amount l (start, end)) (with_indents dedent amount l.text (start, end) entries) l entries start
shifting_start dedent amount l entries start end low within before =
    record {
      front = take start l.text;
      rest = slice_range l.text start end;
      text_is = split_between l.text start end low;
      place_is = sym (length-take-le start l.text (omega arith));
      text_to = refl;
      cursor_to = sym (moved_behind dedent amount start (lines (slice_range l.text start end)) l.cursor before);
      entries_to = refl;
    }

module _ (dedent : Bool) (amount : ℕ) (back : List ℕ) (final : Line) (finals : List Entry) (l l' : Line) (entries entries' : List Entry) (place stop : ℕ)
    (now : Shifting dedent amount back final finals l entries place) (ends : prefix_len is_no_newline back ≡ 0)
    (line : l' ≡ with_line_shifted dedent amount l place (line_from l.text place))
    (told : entries' ≡ with_shift dedent amount place (line_from l.text place) entries)
    (at : stop ≡ place + length (shifted dedent amount (line_from l.text place))) where
  at_rest : drop place l.text ≡ now.rest ++ back
  at_rest = ap (drop place) now.text_is ∙ drop_at now.front (now.rest ++ back) place (sym now.place_is)

  line_is : (t r : List ℕ) → now.rest ++ back ≡ t ++ r → NonePass is_newline t → prefix_len is_no_newline r ≡ 0 → line_from l.text place ≡ t
  line_is t r e h z = ap (λ x. take (prefix_len is_no_newline x) x) (at_rest ∙ e) ∙ first_is t r h z

  text_now : (t r : List ℕ) → now.rest ++ back ≡ t ++ r → line_from l.text place ≡ t → l'.text ≡ now.front ++ (shifted dedent amount t ++ r)
  text_now t r e is =
      let fore : take place l.text ≡ now.front = ap (take place) now.text_is ∙ take_at now.front (now.rest ++ back) place (sym now.place_is) in
      let aft : drop (place + length t) l.text ≡ r = sym (drop-drop (length t) place l.text) ∙ ap (drop (length t)) (at_rest ∙ e) ∙ drop_at t r (length t) refl in
      ap (λ (x : Line). x.text) line ∙ ap (λ x. take place l.text ++ (shifted dedent amount x ++ drop (place + length x) l.text)) is
      ∙ ap₂ (λ a b. a ++ (shifted dedent amount t ++ b)) fore aft

  cursor_now : (t : List ℕ) → line_from l.text place ≡ t → l'.cursor ≡ moved_from dedent amount place (t ∷ []) l.cursor
  cursor_now t is = ap (λ (x : Line). x.cursor) line ∙ ap (λ x. moved_from dedent amount place (x ∷ []) l.cursor) is

  entries_now : (t : List ℕ) → line_from l.text place ≡ t → entries' ≡ with_shift dedent amount place t entries
  entries_now t is = told ∙ ap (λ x. with_shift dedent amount place x entries) is

  stop_now : (t : List ℕ) → line_from l.text place ≡ t → stop ≡ place + length (shifted dedent amount t)
  stop_now t is = at ∙ ap (λ x. place + length (shifted dedent amount x)) is

  only_length : NonePass is_newline now.rest → length l'.text - stop ≡ length back
  only_length none =
      let is = line_is now.rest back refl none ends in
      let s = shifted dedent amount now.rest in
      omega (arith, stop_now now.rest is, ap length (text_now now.rest back refl is), length-append now.front (s ++ back), length-append s back, now.place_is)

  module _ (t more : List ℕ) (e : now.rest ≡ t ++ 10 ∷ more) (h : NonePass is_newline t) where
    parts : now.rest ++ back ≡ t ++ 10 ∷ (more ++ back)
    parts = ap (λ x. x ++ back) e ∙ append_assoc t (10 ∷ more) back

    is : line_from l.text place ≡ t
    is = line_is t (10 ∷ (more ++ back)) parts h refl

    next_is : place + length (shifted dedent amount t) + 1 ≡ stop + 1
    next_is = omega (arith, stop_now t is)

    more_length : length l'.text ≡ stop + 1 + length more + length back
    more_length =
        let s = shifted dedent amount t in
        omega (arith, stop_now t is, ap length (text_now t (10 ∷ (more ++ back)) parts is), length-append now.front (s ++ 10 ∷ (more ++ back)), length-append s (10 ∷ (more ++ back)), length-append more back, now.place_is)

    behind_is : drop stop l'.text ≡ 10 ∷ (more ++ back)
    behind_is =
        let s = shifted dedent amount t in
        let end : length (now.front ++ s) ≡ stop = omega (arith, stop_now t is, length-append now.front s, now.place_is) in
        ap (drop stop) (text_now t (10 ∷ (more ++ back)) parts is ∙ sym (append_assoc now.front s (10 ∷ (more ++ back)))) ∙ drop_at (now.front ++ s) (10 ∷ (more ++ back)) stop end

    less_left : length l'.text - (stop + 1) < length l.text - place
    less_left = omega (arith, more_length, ap length now.text_is, length-append now.front (now.rest ++ back), ap length parts, length-append t (10 ∷ (more ++ back)), length-append more back, now.place_is)

    goes_on : Shifting dedent amount back final finals l' entries' (stop + 1)
    goes_on =
        let s = shifted dedent amount t in
        let those : lines now.rest ≡ t ∷ lines more = ap lines e ∙ lines_at t more h in
        let j = join_with_byte 10 (map (shifted dedent amount) (lines more)) in
        let some : 0 < length (map (shifted dedent amount) (lines more)) = omega (arith, length-map (lines more) (shifted dedent amount), length-slice_split is_newline more) in
        record {
          front = now.front ++ (s ++ 10 ∷ []);
          rest = more;
          text_is = text_now t (10 ∷ (more ++ back)) parts is
              ∙ sym (append_assoc now.front (s ++ 10 ∷ []) (more ++ back) ∙ ap (λ r. now.front ++ r) (append_assoc s (10 ∷ []) (more ++ back)));
          place_is = omega (arith, stop_now t is, now.place_is, length-append now.front (s ++ 10 ∷ []), length-append s (10 ∷ []));
          text_to = now.text_to ∙ ap (λ ls. now.front ++ (join_with_byte 10 (map (shifted dedent amount) ls) ++ back)) those
              ∙ ap (λ x. now.front ++ (x ++ back)) (joined_more s (map (shifted dedent amount) (lines more)) some)
              ∙ ap (λ r. now.front ++ r) (append_assoc s (10 ∷ j) back)
              ∙ sym (append_assoc now.front (s ++ 10 ∷ []) (j ++ back) ∙ ap (λ r. now.front ++ r) (append_assoc s (10 ∷ []) (j ++ back)));
          cursor_to = now.cursor_to ∙ ap (λ ls. moved_from dedent amount place ls l.cursor) those ∙ moved_more dedent amount place (stop + 1) t (lines more) l.cursor (sym next_is)
              ∙ ap (moved_from dedent amount (stop + 1) (lines more)) (sym (cursor_now t is));
          entries_to = now.entries_to ∙ ap (λ ls. with_shifts dedent amount place ls entries) those
              ∙ ap₂ (λ p es. with_shifts dedent amount p (lines more) es) next_is (sym (entries_now t is));
        }

  -- where nothing but the text behind the lines is left, all is done
  pub shifted_last : length l'.text - stop ≡ length back → (l' ≡ final) × (entries' ≡ finals)
  shifted_last done =
      elim (cut now.rest) [
        | inl none ↦
            let is = line_is now.rest back refl none ends in
            let those = lines_none now.rest none in
            let text : l'.text ≡ final.text =
            text_now now.rest back refl is ∙ sym (now.text_to ∙ ap (λ ls. now.front ++ (join_with_byte 10 (map (shifted dedent amount) ls) ++ back)) those) in
            let cursor : l'.cursor ≡ final.cursor = cursor_now now.rest is ∙ sym (now.cursor_to ∙ ap (λ ls. moved_from dedent amount place ls l.cursor) those) in (
              ap₂ (λ a c. record { text = a; cursor = c }) text cursor,
              entries_now now.rest is ∙ sym (now.entries_to ∙ ap (λ ls. with_shifts dedent amount place ls entries) those),
            )
        | inr first ↦ absurd (omega (arith, more_length first.0 first.1 first.2 first.3))
      ]

  -- otherwise the lines behind the next newline are left
  pub shifted_more : (length l'.text - stop ≡ length back → ⊥)
      → Shifting dedent amount back final finals l' entries' (stop + 1) × ((more : List ℕ) × (drop stop l'.text ≡ 10 ∷ more)) × (length l'.text - (stop + 1) < length l.text - place)
  shifted_more going =
      elim (cut now.rest) [
        | inl none ↦ absurd (going (only_length none))
        | inr first ↦ (
          goes_on first.0 first.1 first.2 first.3,
          (first.1 ++ back, behind_is first.0 first.1 first.2 first.3),
          less_left first.0 first.1 first.2 first.3,
        )
      ]
